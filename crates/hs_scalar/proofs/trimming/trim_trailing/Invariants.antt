use Rattle.std.proofs.Common.{◌≡◌, length}
use denote.Text.{Utf8}
use denote.Shadow.{shadow}
use Rattle.std.specs.Str.{chars}
use Rattle.hs_scalar.specs.Trimming.{without_trailing}
use Rattle.hs_scalar.proofs.trimming.trim_trailing.Given as goal

abbrev pub invariant-loop-before : goal.invariant-loop-before
invariant-loop-before l = shadow (Utf8 l.rest) × (without_trailing l.fn.c (chars l.rest) ≡ without_trailing l.fn.c (chars l.fn.text))

abbrev pub decreases-loop-before : goal.decreases-loop-before
decreases-loop-before l = length l.rest
