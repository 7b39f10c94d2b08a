use Rattle.std.proofs.Common.{◌≡◌, ◌≤◌, drop}
use Rattle.hs_syntax.specs.Classes.{value_after}
use Rattle.hs_syntax.proofs.class.whole_class.Given as goal

abbrev pub invariant-loop-digit : goal.invariant-loop-digit
invariant-loop-digit l = record {
  means : value_after l.value (drop l.digit-index l.digits) ≡ value_after 0 l.digits;
  small : l.value ≤ 4000;
}
