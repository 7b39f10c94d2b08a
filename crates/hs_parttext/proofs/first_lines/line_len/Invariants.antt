use Rattle.std.proofs.Common.{◌≡◌, false, take}
use Rattle.hs_parttext.specs.Lines.{has_feed}
use Rattle.hs_parttext.proofs.first_lines.line_len.Given as goal

abbrev pub invariant-loop-at : goal.invariant-loop-at
invariant-loop-at l = has_feed (take l.at l.text) ≡ false
