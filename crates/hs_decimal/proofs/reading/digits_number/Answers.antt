use Rattle.std.proofs.Common.{arith, take_all}
use Rattle.hs_decimal.proofs.Numerals.{all_more, value_more, still_few, not_all, tested}
use Rattle.hs_decimal.proofs.reading.digits_number.Goals as goal

pub returns-then-not-is_ascii_digit : goal.returns-then-not-is_ascii_digit
returns-then-not-is_ascii_digit c =
    not_all c.args.digits.now c.loop-byte.byte-index c.loop-byte-test.true (cc)

pub overflow_mul-number : goal.overflow_mul-number
overflow_mul-number c =
    let l = c.loop-byte in
    omega (arith, still_few c.args.digits.now l.byte-index l.number c.requires c.loop-byte-test.true l.invariant.all l.invariant.so_far (cc))

pub overflow_add-number : goal.overflow_add-number
overflow_add-number c =
    let l = c.loop-byte in
    omega (arith, still_few c.args.digits.now l.byte-index l.number c.requires c.loop-byte-test.true l.invariant.all l.invariant.so_far (cc))

pub loop-byte-preserved : goal.loop-byte-preserved
loop-byte-preserved c =
    let l = c.loop-byte in
    record {
      all = all_more c.args.digits.now l.byte-index c.loop-byte-test.true l.invariant.all (cc);
      so_far = omega (arith, value_more c.args.digits.now l.byte-index l.number c.loop-byte-test.true l.invariant.so_far (cc));
    }

pub returns : goal.returns
returns c =
    let l = c.loop-byte in
    let whole = take_all l.byte-index c.args.digits.now c.loop-byte-test.false in
    (tested.from c.args.digits.now (rw whole at l.invariant.all), rw whole at l.invariant.so_far)
