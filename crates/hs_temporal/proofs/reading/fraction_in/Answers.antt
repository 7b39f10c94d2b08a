use Rattle.std.proofs.Common.{◌<◌, length, sym, ◌∙◌, arith}
use Rattle.std.proofs.lemmas.Bool.{eqb-true}
use Rattle.std.proofs.lemmas.List.{take_rest}
use Rattle.hs_temporal.proofs.FractionLemmas.{no_fraction, fraction_value, fraction_only}
use Rattle.hs_temporal.proofs.TextLemmas.{as_long}
use Rattle.hs_temporal.proofs.reading.fraction_in.Goals as goal
use Rattle.hs_temporal.proofs.reading.fraction_in.Goals.{then-text-ne46-via-then-text-ne46, then-text-ne46-via-else-text-ne46+then-text-lt2, then-text-ne46-via-else-text-ne46+else-text-lt2+then-text-gt7}

pub returns-then-is_empty : goal.returns-then-is_empty
returns-then-is_empty c = (omega arith, no_fraction c.args.text.now (eqb-true _ _ (sym c.if-is_empty.ensures)))

pub returns-then-text-ne46 : goal.returns-then-text-ne46
returns-then-text-ne46 c = λ n small e.
    let within : 0 < length c.args.text.now = grind (arith, c.if-is_empty.ensures) in
    let is = fraction_only c.args.text.now n within e in
    elim c.then-text-ne46.branch [
      | then-text-ne46-via-then-text-ne46 w ↦ w.if-text-ne46.true is.point
      | then-text-ne46-via-else-text-ne46+then-text-lt2 w ↦ omega (arith, is.low)
      | then-text-ne46-via-else-text-ne46+else-text-lt2+then-text-gt7 w ↦ omega (arith, is.high)
    ]

pub returns-in_err-digits : goal.returns-in_err-digits
returns-in_err-digits c =
    rw c.from_residual.ensures (λ n small e.
    let within : 0 < length c.args.text.now = grind (arith, c.if-is_empty.ensures) in
    let is = fraction_only c.args.text.now n within e in
    c.in_err-digits.ensures is.number (as_long _ is.number _ (is.read ∙ sym (take_rest c.args.text.now 1))))

pub overflow_mul-result : goal.overflow_mul-result
overflow_mul-result c =
    let value = fraction_value c.args.text.now c.in_ok-digits.digits c.pow.result (omega arith) (omega arith) c.if-text-ne46.false c.pow.ensures c.in_ok-digits.ensures in
    omega (arith, value.0)

pub returns : goal.returns
returns c = fraction_value c.args.text.now c.in_ok-digits.digits c.pow.result (omega arith) (omega arith) c.if-text-ne46.false c.pow.ensures c.in_ok-digits.ensures
