use Rattle.std.proofs.Common.{◌≡◌, suc, ◌-◌, ◌<◌, not, length, slice_get, sym, ap, ◌∙◌, arith}
use Rattle.std.specs.List.{remove}
use Rattle.std.specs.Str.{bytes_eq}
use Rattle.hs_plan.specs.declared.definition.Constraint.{Constraint}
use Rattle.hs_schema.proofs.Removed.{left, gone, kept, there}
use Rattle.hs_schema.proofs.table.drop_named.Goals as goal

pub loop-at-preserved-then-eq : goal.loop-at-preserved-then-eq
loop-at-preserved-then-eq c =
    let keep = λ (k : Constraint). not (bytes_eq c.args.name.now k.name) in
    let xs = c.args.constraints.now in
    let n = c.loop-at.at - 1 in
    let e : c.loop-at.at ≡ suc n = omega arith in
    let within : n < length xs = omega (arith, c.len-at.ensures) in
    let so_far = c.loop-at.invariant ∙ ap (left keep xs) e in
    let here = ap (λ ys. slice_get ys n) (sym so_far) ∙ sym c.in-Some.ensures.value in
    let named = ap (bytes_eq c.args.name.now) (sym c.as_str.ensures) ∙ sym c.eq.ensures ∙ c.if-eq.true in
    c.take_out.ensures ∙ ap (λ ys. remove ys n) so_far ∙ gone keep xs n c.in-Some.constraint.now within here (ap not named)

pub loop-at-preserved-else-eq : goal.loop-at-preserved-else-eq
loop-at-preserved-else-eq c =
    let keep = λ (k : Constraint). not (bytes_eq c.args.name.now k.name) in
    let xs = c.args.constraints.now in
    let n = c.loop-at.at - 1 in
    let e : c.loop-at.at ≡ suc n = omega arith in
    let within : n < length xs = omega (arith, c.len-at.ensures) in
    let so_far = c.loop-at.invariant ∙ ap (left keep xs) e in
    let here = ap (λ ys. slice_get ys n) (sym so_far) ∙ sym c.in-Some.ensures.value in
    let named = ap (bytes_eq c.args.name.now) (sym c.as_str.ensures) ∙ sym c.eq.ensures ∙ c.if-eq.false in
    so_far ∙ kept keep xs n c.in-Some.constraint.now within here (ap not named)

pub loop-at-preserved : goal.loop-at-preserved
loop-at-preserved c =
    let keep = λ (k : Constraint). not (bytes_eq c.args.name.now k.name) in
    let xs = c.args.constraints.now in
    let n = c.loop-at.at - 1 in
    let e : c.loop-at.at ≡ suc n = omega arith in
    let within : n < length xs = omega (arith, c.len-at.ensures) in
    let so_far = c.loop-at.invariant ∙ ap (left keep xs) e in
    absurd (there keep xs n within (ap (λ ys. slice_get ys n) (sym so_far) ∙ sym c.in_default.ensures.value))
