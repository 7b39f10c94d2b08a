use Rattle.std.proofs.Common.{ℕ, ◌<◌}
use Rattle.hs_page.specs.Pages.{length_of}
use Rattle.hs_page.proofs.put.first_free.Given as goal

abbrev pub invariant-loop-i : goal.invariant-loop-i
invariant-loop-i l = (k : ℕ) → k < l.i → 0 < length_of l.bytes k
