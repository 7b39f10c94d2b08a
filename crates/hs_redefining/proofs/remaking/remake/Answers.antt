use Rattle.std.proofs.Common.{OnOk, sym, subst}
use Rattle.hs_seated.specs.Rows.{AreRows}
use Rattle.hs_redefining.specs.Effects.{rows_by}
use Rattle.hs_redefining.specs.declared.effect.Effect.{Effect}
use Rattle.hs_redefining.proofs.remaking.remake.Goals as goal

pub returns-in-Lengthens : goal.returns-in-Lengthens
returns-in-Lengthens c = λ maps are. subst (λ (e : Effect). OnOk c.lengthen.result (AreRows (rows_by e maps) c.lengthen.new.rows)) (sym c.in-Lengthens.is) (c.lengthen.ensures maps are)
