use Rattle.std.proofs.Common.{◌≡◌, ℕ, ◌<◌, ◌^◌, sym, ap, subst, ◌∙◌}
use Rattle.std.specs.Fmt.{decimal}
use Rattle.hs_valuetext.proofs.NumberLemmas.{unsigned_parsed, unsigned_found}
use Rattle.hs_valuetext.proofs.Splits.{same_texts, other_texts}
use Rattle.hs_valuetext.proofs.numbers.read_unsigned.Goals as goal

pub returns-in-Err : goal.returns-in-Err
returns-in-Err c = λ x h.
    let e = unsigned_parsed c.args.text.now c.parse.result c.parse.ensures.value.0 x h in
    cc (e, c.in-Err.is)

pub returns-then-eq : goal.returns-then-eq
returns-then-eq c =
    let fits : c.in-Ok.number < 2 ^ 64 = subst (λ (n : ℕ). n < 2 ^ 64) (sym c.in-Ok.ensures.value.0.1) c.in-Ok.ensures.value.0.0.1 in
    unsigned_found c.args.text.now c.in-Ok.number fits (sym c.format.ensures.text ∙ same_texts c.format.result.now c.args.text.now c.eq.result c.eq.ensures c.if-eq.true)

pub returns-else-eq : goal.returns-else-eq
returns-else-eq c = λ x h.
    let e = unsigned_parsed c.args.text.now c.parse.result c.parse.ensures.value.0 x h in
    let same : c.in-Ok.number ≡ x = cc (e, c.in-Ok.is) in
    other_texts c.format.result.now c.args.text.now c.eq.result c.eq.ensures c.if-eq.false (c.format.ensures.text ∙ ap decimal same ∙ h.written)
