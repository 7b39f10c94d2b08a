use Rattle.std.proofs.Common.{◌≡◌, List, ℕ, ap, sym, subst, ◌∙◌, IsUtf8}
use Rattle.std.specs.Prelude.{string_bytes}
use Rattle.std.proofs.lemmas.Str.{IsUtf8-string_bytes}
use Rattle.hs_valuetext.specs.Texts.{escaped, has_control, IsEscapedForm}
use Rattle.hs_valuetext.proofs.TextLemmas.{form_found}
use Rattle.hs_valuetext.proofs.texts.unescaped.Goals as goal

pub returns-in-Ok : goal.returns-in-Ok
returns-in-Ok c =
    let is : string_bytes c.in-Ok.content ≡ c.in-Some.bytes.items = ap (λ v. v.items) c.in-Ok.ensures.ok in
    let read = rw c.in-Some.is at c.in_ok-bytes.ensures in
    let found = subst (λ (t : List ℕ). (escaped c.in-Some.bytes.items ≡ t) × ((x : List ℕ) → escaped x ≡ t → x ≡ c.in-Some.bytes.items)) c.as_bytes.ensures.value read in
    subst (λ (xs : List ℕ). IsEscapedForm c.args.text.now xs × ((x : List ℕ) → IsEscapedForm c.args.text.now x → x ≡ xs)) (sym is)
    (form_found c.args.text.now c.in-Some.bytes.items found (ap has_control (sym c.deref.ensures.value) ∙ sym c.has_control.ensures ∙ c.if-not-has_control.false) (subst IsUtf8 is (IsUtf8-string_bytes c.in-Ok.content)))
