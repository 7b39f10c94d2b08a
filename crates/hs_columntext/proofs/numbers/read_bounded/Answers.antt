use Rattle.std.proofs.Common.{arith}
use Rattle.hs_columntext.proofs.TypeLemmas.{cut, uncut, bounded_found, bounded_no_number, bounded_out, bounded_unclosed}
use Rattle.hs_columntext.proofs.numbers.read_bounded.Goals as goal

pub returns-then-number-from : goal.returns-then-number-from
returns-then-number-from c =
    bounded_out c.args.least c.args.most c.args.close c.args.text.now c.in-Some.digits.now c.in-Some.rest.now c.in-Some-read_unsigned.number c.requires c.ranges.most.fits
    (cut c.args.close c.args.text.now c.in-Some.digits.now c.in-Some.rest.now c.requires c.in-Some.ensures.cases)
    c.in-Some-read_unsigned.ensures
    (λ low high. omega (arith, c.if-number-from.true, c.from.ensures, low))

pub returns-then-number-from-2 : goal.returns-then-number-from-2
returns-then-number-from-2 c =
    bounded_out c.args.least c.args.most c.args.close c.args.text.now c.in-Some.digits.now c.in-Some.rest.now c.in-Some-read_unsigned.number c.requires c.ranges.most.fits
    (cut c.args.close c.args.text.now c.in-Some.digits.now c.in-Some.rest.now c.requires c.in-Some.ensures.cases)
    c.in-Some-read_unsigned.ensures
    (λ low high. omega (arith, c.if-number-from-2.true, c.from-else-number-from.ensures, high))

pub returns-else-number-from-2 : goal.returns-else-number-from-2
returns-else-number-from-2 c =
    bounded_found c.args.least c.args.most c.args.close c.args.text.now c.in-Some.digits.now c.in-Some.rest.now c.in-Some-read_unsigned.number c.requires c.ranges.most.fits
    (cut c.args.close c.args.text.now c.in-Some.digits.now c.in-Some.rest.now c.requires c.in-Some.ensures.cases)
    c.in-Some-read_unsigned.ensures
    (omega (arith, c.if-number-from.false, c.from.ensures))
    (omega (arith, c.if-number-from-2.false, c.from-else-number-from.ensures))

pub returns-in-None-read_unsigned : goal.returns-in-None-read_unsigned
returns-in-None-read_unsigned c =
    bounded_no_number c.args.least c.args.most c.args.close c.args.text.now c.in-Some.digits.now c.in-Some.rest.now c.requires c.ranges.most.fits
    (cut c.args.close c.args.text.now c.in-Some.digits.now c.in-Some.rest.now c.requires c.in-Some.ensures.cases)
    c.in-None-read_unsigned.ensures

pub returns-in-None : goal.returns-in-None
returns-in-None c = bounded_unclosed c.args.least c.args.most c.args.close c.args.text.now (uncut c.args.close c.args.text.now c.requires c.in-None.ensures.cases)
