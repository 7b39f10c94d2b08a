use Rattle.std.proofs.lemmas.Result.{on_ok_weaker}
use Rattle.hs_engine.proofs.Standing.{with_rows}
use Rattle.hs_engine.proofs.seating.back.Goals as goal

pub returns : goal.returns
returns c = λ db seated is. on_ok_weaker c.back.result (λ rows. with_rows db seated _ c.args.instance.now c.back.new.self is rows) (c.back.ensures db.rows seated is.rows)
