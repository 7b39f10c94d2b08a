use Rattle.std.proofs.Common.{◌≡◌, ◌++◌, string_bytes}
use Rattle.std.specs.Str.Iter.{chars_rest}
use Rattle.std.specs.Str.{IsUtf8, chars}
use Rattle.hs_elements.specs.Names.{within, cut}
use Rattle.hs_elements.proofs.names.push_front.Given as goal

abbrev pub invariant-loop-c : goal.invariant-loop-c
invariant-loop-c l = IsUtf8 (chars_rest l.c-iterator) × (string_bytes l.out ++ within l.room (chars (chars_rest l.c-iterator)) ≡ string_bytes l.fn.out ++ cut l.fn.room l.fn.text)
