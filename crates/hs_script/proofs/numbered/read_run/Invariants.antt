-- The lines that were read, and what is left.
use Rattle.std.proofs.Common.{length}
use denote.Text.{Utf8}
use denote.Shadow.{shadow}
use Rattle.hs_script.proofs.NumberedLemmas.{RunSoFar}
use Rattle.hs_script.proofs.numbered.read_run.Given as goal

abbrev pub invariant-loop-more : goal.invariant-loop-more
invariant-loop-more l = shadow (Utf8 l.rest) × RunSoFar l.text l.number l.said l.rest

abbrev pub decreases-loop-more : goal.decreases-loop-more
decreases-loop-more l = length l.rest
