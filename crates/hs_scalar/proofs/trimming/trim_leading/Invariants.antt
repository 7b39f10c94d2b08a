use Rattle.std.proofs.Common.{◌≡◌, length}
use denote.Text.{Utf8}
use denote.Shadow.{shadow}
use Rattle.std.specs.Str.{chars}
use Rattle.hs_scalar.specs.Trimming.{without_leading}
use Rattle.hs_scalar.proofs.trimming.trim_leading.Given as goal

abbrev pub invariant-loop-first : goal.invariant-loop-first
invariant-loop-first l = shadow (Utf8 l.rest) × (without_leading l.fn.c (chars l.rest) ≡ without_leading l.fn.c (chars l.fn.text))

abbrev pub decreases-loop-first : goal.decreases-loop-first
decreases-loop-first l = length l.rest
