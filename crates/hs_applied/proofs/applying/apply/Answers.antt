use Rattle.std.proofs.lemmas.Result.{on_ok_weaker}
use Rattle.hs_applied.proofs.applying.apply.Goals as goal

pub returns-clause-after : goal.returns-clause-after
returns-clause-after c = on_ok_weaker c.apply_all.result (λ set table i. set.after i table) c.apply_all.ensures.set

pub returns-clause-touched : goal.returns-clause-touched
returns-clause-touched c = on_ok_weaker c.apply_all.result (λ set. set.touched) c.apply_all.ensures.set

pub returns-clause-before : goal.returns-clause-before
returns-clause-before c = λ table i. c.apply_all.ensures.keeps.before i table

pub returns-clause-back : goal.returns-clause-back
returns-clause-back c = λ table i. c.apply_all.ensures.keeps.back i table
