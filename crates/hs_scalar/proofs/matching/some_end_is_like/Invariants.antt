use Rattle.std.proofs.Common.{◌≡◌, ◌+◌, length}
use denote.Text.{Utf8}
use denote.Shadow.{shadow}
use Rattle.std.specs.Str.{chars}
use Rattle.hs_scalar.specs.Like.{items_of, matches, some_end_passes}
use Rattle.hs_scalar.proofs.matching.some_end_is_like.Given as goal

abbrev pub invariant-loop-start : goal.invariant-loop-start
invariant-loop-start l = shadow (Utf8 l.start) × shadow (Utf8 l.items)
    × (some_end_passes (matches (items_of l.escape (chars l.items))) (chars l.start) ≡ some_end_passes (matches (items_of l.escape (chars l.fn.pattern))) (chars l.fn.text))

abbrev pub decreases-loop-start : goal.decreases-loop-start
decreases-loop-start l = length l.start + length l.items
