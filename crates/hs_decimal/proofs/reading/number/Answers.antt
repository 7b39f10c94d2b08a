use Rattle.std.proofs.Common.{◌+◌, ◌*◌, ◌^◌, ◌<◌, ◌∙◌, ap, subst, sym, pos, arith}
use Rattle.std.specs.Prelude.{unsigned_abs}
use Rattle.std.proofs.Math.Facts.{to_z_pos}
use Rattle.std.specs.Int.{w128}
use Rattle.hs_values.proofs.DecimalWidths.{narrow}
use Rattle.hs_decimal.proofs.Numerals.{joined, joined_few}
use Rattle.hs_decimal.proofs.Spelling.{number_of_digits}
use Rattle.hs_decimal.proofs.reading.number.Goals as goal

few : (c : goal.After-unsigned_abs) → c.in_ok-before.before * c.unsigned_abs.result + c.in_ok-behind.behind < 10 ^ 38
few c =
    joined_few c.args.digits.now c.args.fraction.now c.in_ok-before.before c.in_ok-behind.behind c.unsigned_abs.result
    (omega arith) (grind arith) (grind arith) (grind arith) (grind arith) (grind arith)

pub overflow_mul-units : goal.overflow_mul-units
overflow_mul-units c = omega (arith, few c)

pub overflow_add-units : goal.overflow_add-units
overflow_add-units c = omega (arith, few c)

pub overflow_cast-result : goal.overflow_cast-result
overflow_cast-result c = narrow (pos (c.in_ok-before.before * c.unsigned_abs.result + c.in_ok-behind.behind)) (few c)

pub returns-clause-value : goal.returns-clause-value
returns-clause-value c =
    number_of_digits c.args.digits.now c.args.fraction.now _ (grind arith) (omega arith) (grind arith) (grind arith)
    (to_z_pos w128 (omega (arith, few c)) ∙ ap pos
    (joined c.args.digits.now c.args.fraction.now c.in_ok-before.before c.in_ok-behind.behind c.unsigned_abs.result
    (grind arith) (grind arith) (grind arith) (grind arith) (grind arith)))

pub returns-clause-lawful : goal.returns-clause-lawful
returns-clause-lawful c =
    let size : c.in_ok-before.before * c.unsigned_abs.result + c.in_ok-behind.behind < 10 ^ 38 = few c in
    record { digits = subst (λ z. unsigned_abs z < 10 ^ 38) (sym (to_z_pos w128 (omega (arith, size)))) size; places = omega arith }
