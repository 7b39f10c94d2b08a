use Rattle.std.proofs.Common.{◌≡◌, ◌<◌, ◌^◌, take}
use Rattle.hs_temporal.specs.Texts.{digits}
use Rattle.hs_temporal.proofs.reading.number_in.Given as goal

abbrev pub invariant-loop-byte : goal.invariant-loop-byte
invariant-loop-byte l = record {
  small : l.number < 10 ^ l.byte-index;
  read : digits l.byte-index l.number ≡ take l.byte-index l.text;
}
