use Rattle.std.proofs.Common.{◌≡◌, ◌≤◌, length}
use denote.Text.{Utf8}
use denote.Shadow.{shadow}
use Rattle.std.specs.Str.{chars}
use Rattle.hs_scalar.specs.Like.{items_of, matches, some_end_passes}
use Rattle.hs_scalar.proofs.matching.from_first_fit.Given as goal

abbrev pub invariant-loop-c : goal.invariant-loop-c
invariant-loop-c l = shadow (Utf8 l.rest)
    × (some_end_passes (matches (items_of l.fn.escape (chars l.fn.pattern))) (chars l.rest) ≡ some_end_passes (matches (items_of l.fn.escape (chars l.fn.pattern))) (chars l.fn.text))
    × (length l.rest ≤ length l.fn.text)

abbrev pub decreases-loop-c : goal.decreases-loop-c
decreases-loop-c l = length l.rest
