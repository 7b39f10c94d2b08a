use Rattle.std.proofs.Common.{◌≡◌, ◌+◌, drop}
use Rattle.std.specs.List.{prefix_len}
use Rattle.hs_lexer.specs.Bytes.{is_digit}
use Rattle.hs_rowtext.proofs.numbers.digits_len.Given as goal

abbrev pub invariant-loop-at : goal.invariant-loop-at
invariant-loop-at l = l.at + prefix_len is_digit (drop l.at l.bytes) ≡ prefix_len is_digit l.bytes
