use Rattle.std.proofs.lemmas.Result.{on_ok_weaker}
use Rattle.hs_instance.proofs.instance.Instance.take_back.Goals as goal

pub returns : goal.returns
returns c = λ db seated is.
    on_ok_weaker c.back.result
    (λ rows. record { things = is.things; keys = is.keys; rows = rows; count = is.count; level = is.level; control = is.control })
    (c.back.ensures db.rows seated is.rows)
