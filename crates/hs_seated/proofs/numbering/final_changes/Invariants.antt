use Rattle.std.proofs.Common.{◌≡◌, map, take}
use Rattle.hs_turns.specs.Numbers.{final_change}
use Rattle.hs_seated.proofs.numbering.final_changes.Given as goal

abbrev pub invariant-loop-change : goal.invariant-loop-change
invariant-loop-change l = l.made.items ≡ map (final_change l.numbers) (take l.change-index l.changes)
