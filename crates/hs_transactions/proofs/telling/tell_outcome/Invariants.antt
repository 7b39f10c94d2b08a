use Rattle.std.proofs.Common.{◌≡◌, ◌++◌, map}
use Rattle.hs_lines.specs.declared.words.Words.TheVariants as said
use Rattle.hs_transactions.proofs.telling.tell_outcome.Given as goal

abbrev pub invariant-loop-row : goal.invariant-loop-row
invariant-loop-row l = l.told.items ≡ l.fn.told.items ++ map said.Row l.yielded
