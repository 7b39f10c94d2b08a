use Rattle.std.proofs.Common.{◌≡◌, ℤ, sym, ap, subst, ◌∙◌, FitsSigned, to_z, of_z, to_z-of_z}
use Rattle.std.specs.Fmt.{signed_decimal}
use Rattle.std.specs.Int.{w64}
use Rattle.hs_valuetext.specs.Values.{IsSigned}
use Rattle.hs_valuetext.proofs.NumberLemmas.{signed_parsed, signed_found}
use Rattle.hs_valuetext.proofs.Splits.{same_texts, other_texts}
use Rattle.hs_valuetext.proofs.numbers.read_signed.Goals as goal

pub returns-in-Err : goal.returns-in-Err
returns-in-Err c = λ x h.
    let e = signed_parsed c.args.text.now c.parse.result c.parse.ensures.value.0 x h in
    cc (e, c.in-Err.is)

pub returns-then-eq : goal.returns-then-eq
returns-then-eq c =
    let fits : FitsSigned w64 c.in-Ok.number = subst (FitsSigned w64) (sym c.in-Ok.ensures.value.0.1) c.in-Ok.ensures.value.0.0.1 in
    let back : to_z w64 (of_z w64 c.in-Ok.number) ≡ c.in-Ok.number = to_z-of_z fits in
    let written : signed_decimal c.in-Ok.number ≡ c.args.text.now = sym (ap signed_decimal back) ∙ sym c.format.ensures.text ∙ same_texts c.format.result.now c.args.text.now c.eq.result c.eq.ensures c.if-eq.true in
    subst (λ (z : ℤ). IsSigned c.args.text.now z × ((m : ℤ) → IsSigned c.args.text.now m → m ≡ z)) (sym back) (signed_found c.args.text.now c.in-Ok.number fits written)

pub returns-else-eq : goal.returns-else-eq
returns-else-eq c = λ x h.
    let fits : FitsSigned w64 c.in-Ok.number = subst (FitsSigned w64) (sym c.in-Ok.ensures.value.0.1) c.in-Ok.ensures.value.0.0.1 in
    let back : to_z w64 (of_z w64 c.in-Ok.number) ≡ c.in-Ok.number = to_z-of_z fits in
    let e = signed_parsed c.args.text.now c.parse.result c.parse.ensures.value.0 x h in
    let same : c.in-Ok.number ≡ x = cc (e, c.in-Ok.is) in
    other_texts c.format.result.now c.args.text.now c.eq.result c.eq.ensures c.if-eq.false (c.format.ensures.text ∙ ap signed_decimal (back ∙ same) ∙ h.written)
