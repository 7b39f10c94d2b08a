use Rattle.std.proofs.Common.{◌≡◌, ◌+◌, drop}
use Rattle.std.specs.List.{prefix_len}
use Rattle.hs_lexer.specs.Bytes.{is_in_line}
use Rattle.hs_lexer.proofs.bytes.line_len.Given as goal

abbrev pub invariant-loop-at : goal.invariant-loop-at
invariant-loop-at l = l.at + prefix_len is_in_line (drop l.at l.bytes) ≡ prefix_len is_in_line l.bytes
