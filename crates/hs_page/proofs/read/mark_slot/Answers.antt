use Rattle.std.proofs.Common.{◌≡◌, ◌⊎◌, ℕ, ◌+◌, ◌<◌, ◌≤◌, Bool, true, false, List, get_or, sym, subst, ◌∙◌, ap, arith, inl, inr}
use Rattle.std.proofs.lemmas.Bool.{eqb-true}
use Rattle.hs_page.specs.Pages.{offset_of, length_of}
use Rattle.hs_page.specs.Marks.{HasMark, IsMarked}
use Rattle.hs_page.proofs.Marking.{mark_free, mark_meets, mark_row}
use Rattle.hs_page.proofs.read.mark_slot.Goals as goal

pub returns-then-len-eq0-clause-yes : goal.returns-then-len-eq0-clause-yes
returns-then-len-eq0-clause-yes c = λ zero. mark_free _ _ _ c.requires.marks (sym c.number-at.ensures.value ∙ eqb-true _ 0 zero) (sym c.number-len.ensures.value ∙ c.if-len-eq0.true)

pub returns-then-has_mark-clause-no : goal.returns-then-has_mark-clause-no
returns-then-has_mark-clause-no c = λ _ _ apart.
    let has : HasMark c.args.marks.now c.number-at.result (c.number-at.result + c.number-len.result) = c.has_mark.ensures.yes c.if-has_mark.true in
    let end : c.number-at.result + c.number-len.result ≡ offset_of c.args.bytes.now c.args.i + length_of c.args.bytes.now c.args.i = omega (arith, c.number-at.ensures.value, c.number-len.ensures.value) in
    mark_meets _ _ _ c.requires.marks (record { place = has.place; from = omega (arith, has.from, c.number-at.ensures.value); below = omega (arith, has.below, end); is = has.is }) apart

pub returns-clause-yes : goal.returns-clause-yes
returns-clause-yes c = λ _.
    let at : c.number-at.result ≡ offset_of c.args.bytes.now c.args.i = c.number-at.ensures.value in
    let len : c.number-len.result ≡ length_of c.args.bytes.now c.args.i = c.number-len.ensures.value in
    mark_row _ _ _ c.requires.marks c.set_marks.new.marks (omega (arith, len, c.if-len-eq0.false)) (omega (arith, at, len, c.if-end-gt-PAGE_BYTES.false))
    (λ p from below. c.has_mark.ensures.no c.if-has_mark.false p (omega (arith, at, from)) (omega (arith, at, len, below)))
    (λ p from below. c.set_marks.ensures.marked p (omega (arith, at, from)) (omega (arith, at, len, below)))
    (λ p out. c.set_marks.ensures.others p (elim out [ inl before ↦ inl (omega (arith, at, before)) | inr behind ↦ inr (omega (arith, at, len, behind)) ]))
