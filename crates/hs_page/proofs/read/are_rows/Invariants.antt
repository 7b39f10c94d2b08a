use Rattle.hs_page.specs.Marks.{AreMarked}
use Rattle.hs_page.proofs.read.are_rows.Given as goal

abbrev pub invariant-loop-i : goal.invariant-loop-i
invariant-loop-i l = AreMarked l.bytes l.marks l.i
