use Rattle.std.proofs.Common.{◌≡◌, ◌≤◌, ◌+◌, length}
use Rattle.hs_lexer.specs.Lengths as spec
use Rattle.hs_lexer.proofs.lengths.block_end.Given as goal

abbrev pub invariant-loop-first : goal.invariant-loop-first
invariant-loop-first l = record {
  means : spec.block_end l.place l.rest ≡ spec.block_end l.at l.bytes;
  place : l.place + length l.rest ≡ l.at + length l.bytes;
  forward : l.at ≤ l.place;
}

abbrev pub decreases-loop-first : goal.decreases-loop-first
decreases-loop-first l = length l.rest
