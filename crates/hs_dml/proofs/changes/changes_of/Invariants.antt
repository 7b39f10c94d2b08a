use Rattle.std.proofs.Common.{◌≡◌, ◌++◌, length, map}
use Rattle.hs_actions.specs.Work.{change_of}
use Rattle.hs_dml.proofs.changes.changes_of.Given as goal

abbrev pub invariant-loop-name : goal.invariant-loop-name
invariant-loop-name l = l.changes ++ map change_of l.left.entries ≡ map change_of l.fn.edits.entries

abbrev pub decreases-loop-name : goal.decreases-loop-name
decreases-loop-name l = length l.left.entries
