-- What is read, and what is left.
use Rattle.std.proofs.Common.{length}
use Rattle.hs_valuetext.proofs.EscapeLemmas.{HasUnescaped}
use Rattle.hs_valuetext.proofs.escapes.unescape.Given as goal

abbrev pub invariant-loop-rest : goal.invariant-loop-rest
invariant-loop-rest l = HasUnescaped l.fn.text l.bytes.items l.rest

abbrev pub decreases-loop-rest : goal.decreases-loop-rest
decreases-loop-rest l = length l.rest
