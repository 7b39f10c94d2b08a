use Rattle.std.proofs.Common.{◌≡◌, ℤ, IfSome, Option, Some, None, true, is_some, ◌∙◌, sym}
use Rattle.hs_plan.specs.declared.expression.Expr.{Expr}
use Rattle.hs_values.specs.declared.value.Value.TheVariants as v
use Rattle.hs_lookups.specs.Conjuncts.{Gives, negated}
use Rattle.hs_lookups.specs.Sure.{IsSure}
use Rattle.hs_lookups.proofs.NoFault.{given_sure}
use Rattle.hs_lookups.proofs.negative.is_sure_with_minus.Goals as goal

some_given : (a : Expr) (found : Option ℤ) → IfSome found (λ n. Gives a (v.Int n)) → is_some found ≡ true → IsSure a
some_given a None gives is = absurd (cc)
some_given a (Some n) gives is = given_sure a (v.Int n) gives

pub returns : goal.returns
returns c = λ is. some_given (negated c.args.a.now) c.negative_of.result c.negative_of.ensures (sym c.is_some.ensures ∙ is)
