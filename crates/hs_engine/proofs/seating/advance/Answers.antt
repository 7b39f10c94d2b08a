use Rattle.std.proofs.Common.{◌++◌, List, OnOk, subst}
use Rattle.std.proofs.lemmas.Result.{on_ok_weaker}
use Rattle.hs_plan.specs.declared.change.Change.{Change}
use Rattle.hs_seated.specs.Seated.{IsSeated}
use Rattle.hs_engine.proofs.Standing.{with_rows}
use Rattle.hs_engine.proofs.seating.advance.Goals as goal

pub returns : goal.returns
returns c = λ db seated is.
    on_ok_weaker c.advance.result (λ rows. with_rows db seated _ c.args.instance.now c.advance.new.self is rows)
    (subst (λ (l : List Change). OnOk c.advance.result (IsSeated db.rows (seated ++ l) c.advance.new.self)) c.as_slice.ensures (c.advance.ensures.seated db.rows seated is.rows))
