use Rattle.std.proofs.Common.{rules, ◌≡◌, ◌<◌, ◌^◌, length, w64, arith}
use Rattle.std.specs.Str.{chars}
use Rattle.std.proofs.lemmas.Int.{to_z_pos}
use Rattle.std.proofs.lemmas.Str.{chars_from_encodes}
use Rattle.hs_scalar.proofs.positions.char_length.Goals as goal

pub returns : goal.returns
returns c =
    let counted : c.count.result ≡ length (chars c.args.text.now) = search (rules, chars_from_encodes) in
    let small : c.count.result < 2 ^ 63 = omega arith in
    rw (to_z_pos w64 c.count.result small, counted)
