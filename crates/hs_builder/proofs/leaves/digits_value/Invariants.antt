use Rattle.std.proofs.Common.{◌≡◌, drop}
use Rattle.std.specs.Prelude.{fold}
use Rattle.hs_builder.specs.Leaves.{with_digit, units_of}
use Rattle.hs_builder.proofs.leaves.digits_value.Given as goal

abbrev pub invariant-loop-b : goal.invariant-loop-b
invariant-loop-b l = fold with_digit l.value (drop l.b-index l.digits) ≡ units_of l.digits
