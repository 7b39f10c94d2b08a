use Rattle.std.proofs.Common.{◌≡◌, ◌+◌, take}
use Rattle.hs_turns.specs.Numbers.{numbers_from}
use Rattle.hs_seated.proofs.numbering.numbers.Given as goal

abbrev pub invariant-loop-change : goal.invariant-loop-change
invariant-loop-change l = record {
  number : l.number ≡ l.count + l.change-index;
  numbers : l.numbers.items ≡ numbers_from (l.count + 1) (take l.change-index l.changes);
}
