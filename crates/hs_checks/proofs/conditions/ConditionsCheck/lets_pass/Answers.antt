use Rattle.std.proofs.Common.{◌≡◌, List, subst}
use Rattle.std.specs.Prelude.{IfOk}
use Rattle.hs_values.specs.declared.value.Value.{Value}
use Rattle.hs_language.specs.Validity.{lets_pass}
use Rattle.hs_checks.proofs.conditions.ConditionsCheck.lets_pass.Goals as goal

pub returns : goal.returns
returns c = subst (λ (row : List Value). IfOk c.passes.result (λ is. is ≡ lets_pass c.args.condition.now row)) c.in_ok-held.ensures c.passes.ensures
