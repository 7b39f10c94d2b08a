use Rattle.std.proofs.Common.{◌≡◌, ◌^◌, ◌<◌, ◌∙◌, pos, sym, ap, subst, Some, length, arith}
use Rattle.std.specs.Prelude.{unsigned_abs}
use Rattle.std.specs.Int.{w128}
use Rattle.std.proofs.Math.Facts.{to_z_pos}
use Rattle.std.specs.Str.Parse.{digits_value}
use mir.Val.{to_z}
use Rattle.hs_values.proofs.DecimalWidths.{narrow}
use Rattle.hs_decimal.proofs.PrintedLines.{below_few}
use Rattle.hs_decimal.proofs.printed.below_one.Goals as goal

pub overflow_cast-result : goal.overflow_cast-result
overflow_cast-result c = narrow (pos c.in_ok-size.size) (below_few c.args.fraction.now c.in_ok-size.size (omega arith) (grind arith) (grind arith))

pub returns-clause-lawful : goal.returns-clause-lawful
returns-clause-lawful c =
    let few = below_few c.args.fraction.now c.in_ok-size.size (omega arith) (grind arith) (grind arith) in
    record { digits = subst (λ z. unsigned_abs z < 10 ^ 38) (sym (to_z_pos w128 (omega (arith, few)))) few; places = omega arith }

pub returns-clause-found : goal.returns-clause-found
returns-clause-found c =
    let few = below_few c.args.fraction.now c.in_ok-size.size (omega arith) (grind arith) (grind arith) in
    let plain : to_z w128 c.in_ok-size.size ≡ pos c.in_ok-size.size = to_z_pos w128 (omega (arith, few)) in
    let size : c.in_ok-size.size ≡ digits_value 10 c.args.fraction.now = grind arith in
    λ short all i. Some (record { units = (plain ∙ ap pos size) i; scale = length c.args.fraction.now })
