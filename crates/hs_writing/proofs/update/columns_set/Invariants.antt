use Rattle.std.proofs.Common.{◌≡◌, take}
use Rattle.hs_writing.specs.Statements.{columns_set}
use Rattle.hs_writing.proofs.update.columns_set.Given as goal

abbrev pub invariant-loop-assignment : goal.invariant-loop-assignment
invariant-loop-assignment l = l.columns.items ≡ columns_set (take l.assignment-index l.assignments)
