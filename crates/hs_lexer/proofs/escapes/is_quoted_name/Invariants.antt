use Rattle.std.proofs.Common.{◌≡◌, ◌≤◌, ◌+◌, length}
use Rattle.hs_lexer.specs.Content.{undoubled, lacks_control}
use Rattle.hs_lexer.proofs.escapes.is_quoted_name.Given as goal

abbrev pub invariant-loop-first : goal.invariant-loop-first
invariant-loop-first l = record {
  short : l.len + length l.rest ≤ length l.inside;
  count : l.len + length (undoubled 34 l.rest) ≡ length (undoubled 34 l.inside);
  controls : lacks_control (undoubled 34 l.rest) ≡ lacks_control (undoubled 34 l.inside);
}

abbrev pub decreases-loop-first : goal.decreases-loop-first
decreases-loop-first l = length l.rest
