use Rattle.std.proofs.Common.{◌≡◌, false, take}
use Rattle.std.specs.List.{list_any}
use Rattle.hs_valuetext.specs.Values.{is_end}
use Rattle.hs_valuetext.proofs.tokens.token_len.Given as goal

abbrev pub invariant-loop-i : goal.invariant-loop-i
invariant-loop-i l = list_any is_end (take l.i l.text) ≡ false
