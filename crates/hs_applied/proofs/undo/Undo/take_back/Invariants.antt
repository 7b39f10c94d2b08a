use Rattle.std.proofs.Common.{length}
use Rattle.hs_applied.specs.Applied.{Keeps}
use Rattle.hs_applied.specs.Undone.{olds_of}
use Rattle.hs_applied.proofs.undo.Undo.take_back.Given as goal

abbrev pub invariant-loop-self : goal.invariant-loop-self
invariant-loop-self l = Keeps l.fn.draft l.draft (olds_of l.fn.self) (olds_of l.self)

abbrev pub decreases-loop-self : goal.decreases-loop-self
decreases-loop-self l = length l.self.olds.items
