use Rattle.std.proofs.Common.{sym, subst}
use Rattle.hs_plan.specs.declared.plan.Plan.{Plan}
use Rattle.hs_closure.specs.Alone.{WritesAlone}
use Rattle.hs_closure.proofs.Inserts.{put_alone}
use Rattle.hs_closure.proofs.alone.put_into.Goals as goal

pub returns-in-Insert : goal.returns-in-Insert
returns-in-Insert c = λ things. subst (λ (plan : Plan). WritesAlone things plan c.in-Insert.insert.table) (sym c.in-Insert.is) (put_alone things c.in-Insert.insert)
