-- What is written is that of the characters so far.
use Rattle.std.proofs.Common.{◌≡◌}
use Rattle.std.specs.Prelude.{encode_utf8_all}
use Rattle.hs_valuetext.specs.Texts.{escaped}
use Rattle.hs_valuetext.proofs.escapes.escape.Given as goal

abbrev pub invariant-loop-c : goal.invariant-loop-c
invariant-loop-c l = l.out ≡ escaped (encode_utf8_all l.yielded)
