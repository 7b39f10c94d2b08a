use Rattle.std.proofs.Common.{◌≡◌, ◌+◌, ◌++◌, ◌-◌, length, replicate}
use Rattle.arrayvec.specs.ArrayString.{array_string_len}
use Rattle.hs_decimal.proofs.printing.push_padded.Given as goal

abbrev pub invariant-loop : goal.invariant-loop
invariant-loop l = record {
  zeros : l.text.bytes ≡ l.initial.text.bytes ++ replicate (l.counter - length l.digits) 48;
  len : array_string_len l.text + length l.digits ≡ array_string_len l.initial.text + l.counter;
}
