-- Texts as they are written.
use Rattle.std.proofs.Common.{◌≡◌, ◌≢◌, ℕ, true, false, List, [], ◌∷◌, ◌++◌, inl, inr, refl, sym, ap, subst, ◌∙◌, IsUtf8}
use Rattle.std.specs.Prelude.{codes}
use Rattle.std.proofs.lemmas.Bool.{eqb-false, cases_Bool}
use Rattle.hs_valuetext.specs.Quotes.{doubled, quoted, IsQuoted}
use Rattle.hs_valuetext.specs.Texts.{has_control, escaped, chars_text, IsPlainText, IsEscapedForm, IsEscapedText, IsWrittenText}
use Rattle.hs_valuetext.proofs.Bits.{not_both}

-- this is the one thing of its kind with its rest
abbrev pub Alone : {V : Type 0} → (V → List ℕ → Type 0) → V → List ℕ → Type 0
Alone {V} Is x rest = Is x rest × ((y : V) (others : List ℕ) → Is y others → (y ≡ x) × (others ≡ rest))

pub chars-control : (c : List ℕ) → has_control c ≡ true → chars_text c ≡ codes "U&" ++ quoted 39 (escaped c)
chars-control c e = rw e refl

pub chars-plain : (c : List ℕ) → has_control c ≡ false → chars_text c ≡ quoted 39 c
chars-plain c e = rw e refl

-- ---- without escapes

pub plain_found : (text u rest : List ℕ) → Alone (IsQuoted 39 text) u rest → has_control u ≡ false → IsUtf8 u → Alone (IsPlainText text) u rest
plain_found text u rest q fails valid = (record { between = q.0; plain = fails; utf8 = valid }, λ c r p. q.1 c r p.between)

pub plain_missing : (text u rest : List ℕ) → Alone (IsQuoted 39 text) u rest → has_control u ≡ true → (c r : List ℕ) → ¬ (IsPlainText text c r)
plain_missing text u rest q holds c r p = not_both (has_control u) holds (sym (ap has_control (q.1 c r p.between).0) ∙ p.plain)

pub plain_unquoted : (text : List ℕ) → ((c r : List ℕ) → ¬ (IsQuoted 39 text c r)) → (c r : List ℕ) → ¬ (IsPlainText text c r)
plain_unquoted text none c r p = none c r p.between

-- ---- with escapes

pub escaped_found : (text u rest content : List ℕ) → Alone (IsQuoted 39 text) u rest → IsEscapedForm u content × ((c : List ℕ) → IsEscapedForm u c → c ≡ content) → Alone (IsEscapedText text) content rest
escaped_found text u rest content q form = (
  record { between = subst (λ (x : List ℕ). IsQuoted 39 text x rest) (sym form.0.written) q.0; control = form.0.control; utf8 = form.0.utf8 },
  λ c r e. let same = q.1 (escaped c) r e.between in (form.1 c (record { written = same.0; control = e.control; utf8 = e.utf8 }), same.1),
)

pub escaped_missing : (text u rest : List ℕ) → Alone (IsQuoted 39 text) u rest → ((c : List ℕ) → ¬ (IsEscapedForm u c)) → (c r : List ℕ) → ¬ (IsEscapedText text c r)
escaped_missing text u rest q none c r e = none c (record { written = (q.1 (escaped c) r e.between).0; control = e.control; utf8 = e.utf8 })

pub escaped_unquoted : (text : List ℕ) → ((c r : List ℕ) → ¬ (IsQuoted 39 text c r)) → (c r : List ℕ) → ¬ (IsEscapedText text c r)
escaped_unquoted text none c r e = none (escaped c) r e.between

-- the bytes that were unescaped, as a text
pub form_found : (text bytes : List ℕ) → (escaped bytes ≡ text) × ((c : List ℕ) → escaped c ≡ text → c ≡ bytes) → has_control bytes ≡ true → IsUtf8 bytes → IsEscapedForm text bytes × ((c : List ℕ) → IsEscapedForm text c → c ≡ bytes)
form_found text bytes read holds valid = (record { written = read.0; control = holds; utf8 = valid }, λ c f. read.1 c f.written)

pub form_without : (text bytes : List ℕ) → (escaped bytes ≡ text) × ((c : List ℕ) → escaped c ≡ text → c ≡ bytes) → has_control bytes ≡ false → (c : List ℕ) → ¬ (IsEscapedForm text c)
form_without text bytes read fails c f = not_both (has_control c) f.control (ap has_control (read.1 c f.written) ∙ fails)

pub form_invalid : (text bytes : List ℕ) → (escaped bytes ≡ text) × ((c : List ℕ) → escaped c ≡ text → c ≡ bytes) → ¬ (IsUtf8 bytes) → (c : List ℕ) → ¬ (IsEscapedForm text c)
form_invalid text bytes read bad c f = bad (subst IsUtf8 (read.1 c f.written) f.utf8)

-- ---- either

pub escaped_written : (text inner : List ℕ) → text ≡ codes "U&" ++ inner → (c r : List ℕ) → IsEscapedText inner c r → IsWrittenText text c r
escaped_written text inner front c r e = record {
  written = front ∙ ap (λ (xs : List ℕ). codes "U&" ++ xs) e.between.written ∙ ap (λ (xs : List ℕ). xs ++ r) (sym (chars-control c e.control));
  closed = e.between.closed;
  utf8 = e.utf8;
}

pub written_escaped : (text inner : List ℕ) → text ≡ codes "U&" ++ inner → (c r : List ℕ) → IsWrittenText text c r → IsEscapedText inner c r
written_escaped text inner front c r w = elim (cases_Bool (has_control c)) [
  | inl holds ↦
      let both : 85 ∷ 38 ∷ inner ≡ 85 ∷ 38 ∷ (quoted 39 (escaped c) ++ r) = sym front ∙ w.written ∙ ap (λ (xs : List ℕ). xs ++ r) (chars-control c holds) in
      record { between = record { written = cc; closed = w.closed }; control = holds; utf8 = w.utf8 }
  | inr fails ↦
      let both : 85 ∷ 38 ∷ inner ≡ 39 ∷ ((doubled 39 c ++ 39 ∷ []) ++ r) = sym front ∙ w.written ∙ ap (λ (xs : List ℕ). xs ++ r) (chars-plain c fails) in
      absurd (eqb-false 85 39 refl cc)
]

pub plain_written : (text : List ℕ) → (c r : List ℕ) → IsPlainText text c r → IsWrittenText text c r
plain_written text c r p = record {
  written = p.between.written ∙ ap (λ (xs : List ℕ). xs ++ r) (sym (chars-plain c p.plain));
  closed = p.between.closed;
  utf8 = p.utf8;
}

pub written_plain : (text : List ℕ) → ((rest : List ℕ) → text ≢ codes "U&" ++ rest) → (c r : List ℕ) → IsWrittenText text c r → IsPlainText text c r
written_plain text other c r w = elim (cases_Bool (has_control c)) [
  | inl holds ↦ absurd (other (quoted 39 (escaped c) ++ r) (w.written ∙ ap (λ (xs : List ℕ). xs ++ r) (chars-control c holds)))
  | inr fails ↦ record { between = record { written = w.written ∙ ap (λ (xs : List ℕ). xs ++ r) (chars-plain c fails); closed = w.closed }; plain = fails; utf8 = w.utf8 }
]
