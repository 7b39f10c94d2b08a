use Rattle.std.proofs.Common.{◌≡◌, ◌+◌, drop}
use Rattle.std.specs.List.{prefix_len}
use Rattle.hs_nametext.specs.Names.{is_in_word}
use Rattle.hs_nametext.proofs.bytes.word_len.Given as goal

abbrev pub invariant-loop-at : goal.invariant-loop-at
invariant-loop-at l = l.at + prefix_len is_in_word (drop l.at l.bytes) ≡ prefix_len is_in_word l.bytes
