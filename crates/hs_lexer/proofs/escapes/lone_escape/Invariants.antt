use Rattle.std.proofs.Common.{◌≡◌, ◌≤◌, ◌+◌, length}
use Rattle.hs_lexer.specs.Content as spec
use Rattle.hs_lexer.proofs.escapes.lone_escape.Given as goal

abbrev pub invariant-loop-first : goal.invariant-loop-first
invariant-loop-first l = record {
  means : spec.lone_escape l.place 0 l.rest ≡ spec.lone_escape l.at 0 l.bytes;
  place : l.place + length l.rest ≡ l.at + length l.bytes;
  forward : l.at ≤ l.place;
}

abbrev pub decreases-loop-first : goal.decreases-loop-first
decreases-loop-first l = length l.rest
