use Rattle.std.proofs.Common.{◌≡◌, ◌⊎◌, ℕ, ◌<◌, ◌≤◌}
use Rattle.hs_page.specs.declared.TheConstants.{PAGE_BYTES}
use Rattle.hs_page.specs.Pages.{offset_of, length_of, SomeRowAt}
use Rattle.hs_page.proofs.least.least_offset.Given as goal

abbrev pub invariant-loop-i : goal.invariant-loop-i
invariant-loop-i l = record {
  lower : (k : ℕ) → k < l.i → 0 < length_of l.bytes k → l.least ≤ offset_of l.bytes k;
  least : (l.least ≡ PAGE_BYTES) ⊎ SomeRowAt l.bytes l.least;
  within : l.least ≤ PAGE_BYTES;
}
