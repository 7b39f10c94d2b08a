use Rattle.hs_page.specs.Writes.{IsPackedTo}
use Rattle.hs_page.proofs.pack.packed.Given as goal

abbrev pub invariant-loop-i : goal.invariant-loop-i
invariant-loop-i l = IsPackedTo l.bytes l.all l.i
