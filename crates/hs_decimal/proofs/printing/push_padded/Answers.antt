use Rattle.std.proofs.Common.{arith}
use Rattle.hs_decimal.proofs.PrintedText.{filled, padded_from}
use Rattle.hs_decimal.proofs.printing.push_padded.Goals as goal

pub push_str-requires : goal.push_str-requires
push_str-requires c =
    let ends = filled c.format-digits.result.now c.args.places c.args.number c.loop.counter c.format-digits.ensures.text c.requires.some c.requires.fits (omega arith) c.loop.auto.counter-end c.loop-test.false in
    omega (arith, ends, c.loop.invariant.len, c.requires.room)

pub returns : goal.returns
returns c =
    padded_from c.args.text.now.bytes c.loop.text.bytes c.format-digits.result.now _ c.args.places c.args.number c.loop.counter c.format-digits.ensures.text
    (filled c.format-digits.result.now c.args.places c.args.number c.loop.counter c.format-digits.ensures.text c.requires.some c.requires.fits (omega arith) c.loop.auto.counter-end c.loop-test.false)
    c.loop.invariant.zeros c.push_str.ensures.bytes
