use Rattle.std.proofs.Common.{ℕ, IfSome, Option, subst}
use Rattle.std.proofs.lemmas.Option.{IfSome_then}
use Rattle.std.proofs.lemmas.Result.{IfOk-weaker}
use Rattle.hs_values.specs.declared.value.Value.{Value}
use Rattle.hs_lookups.specs.Conjuncts.{IsEquality}
use Rattle.hs_lookups.proofs.Needed.{needs_value, needs_value_turned}
use Rattle.hs_lookups.proofs.conjuncts.asked.Goals as goal

pub returns-in-Some : goal.returns-in-Some
returns-in-Some c =
    let one : ℕ × Value = c.in-Some.one in
    needs_value c.args.a.now c.args.b.now one.0 one.1
    (subst (λ (found : Option (ℕ × Value)). IfSome found (λ one. IsEquality c.args.a.now c.args.b.now one.0 one.1)) c.in-Some.is c.in_ok-one.ensures)

pub returns-in-None : goal.returns-in-None
returns-in-None c =
    IfOk-weaker c.column_with-in-None.result _ _ (λ found is. IfSome_then found is (λ one. needs_value_turned c.args.a.now c.args.b.now one.0 one.1)) c.column_with-in-None.ensures
