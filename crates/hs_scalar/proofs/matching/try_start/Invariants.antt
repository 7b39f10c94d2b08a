use Rattle.std.proofs.Common.{◌≤◌, length}
use denote.Text.{Utf8}
use denote.Shadow.{shadow}
use Rattle.std.specs.Str.{chars}
use Rattle.hs_scalar.specs.Like.{items_of}
use Rattle.hs_scalar.proofs.LikeLemmas.{Continues}
use Rattle.hs_scalar.proofs.matching.try_start.Given as goal

abbrev pub invariant-loop-item : goal.invariant-loop-item
invariant-loop-item l = shadow (Utf8 l.rest) × shadow (Utf8 l.items)
    × Continues (items_of l.escape (chars l.fn.pattern)) (chars l.fn.text) (items_of l.escape (chars l.items)) (chars l.rest)
    × (length l.rest ≤ length l.fn.text) × (length l.items ≤ length l.fn.pattern)

abbrev pub decreases-loop-item : goal.decreases-loop-item
decreases-loop-item l = length l.items
