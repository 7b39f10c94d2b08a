use Rattle.std.proofs.Common.{sym, subst}
use Rattle.std.proofs.lemmas.Option.{IfSome_then}
use Rattle.hs_plan.specs.declared.expression.Expr.{Expr}
use Rattle.hs_values.specs.declared.value.Value.TheVariants as v
use Rattle.hs_lookups.specs.Conjuncts.{Gives, negated}
use Rattle.hs_lookups.proofs.NoFault.{negative_gives}
use Rattle.hs_lookups.proofs.negative.negative_of.Goals as goal

pub returns-in-Literal : goal.returns-in-Literal
returns-in-Literal c =
    IfSome_then c.minus.result c.minus.ensures
    (λ n is. subst (λ (a : Expr). Gives (negated a) (v.Int n)) (sym c.in-Literal.is) (negative_gives c.in-Literal.value n is))
