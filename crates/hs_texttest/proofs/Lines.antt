-- A name has one text, whatever stands behind it after a space.
use Rattle.std.proofs.Common.{◌≡◌, ◌≢◌, ℕ, true, false, eqb, List, [], ◌∷◌, ◌++◌, inl, inr, refl, sym, ap, ◌∙◌, append_assoc}
use Rattle.std.specs.List.{list_all}
use Rattle.std.proofs.lemmas.Bool.{cases_Bool}
use Rattle.std.proofs.lemmas.List.{append_cancel_left}
use Rattle.hs_valuetext.specs.Quotes.{begins_with, doubled, doubled_byte, quoted}
use Rattle.hs_valuetext.proofs.Bits.{and_true, not_both, same_or_not}
use Rattle.hs_valuetext.proofs.QuoteLemmas.{Lacks, split_lacks}
use Rattle.hs_nametext.specs.Names.{is_capital, is_in_word, is_plain, is_word, name_text}
use Rattle.hs_nametext.proofs.NameLemmas.{plain_text, plain_word, quoted_text}

-- ---- words

in_word_no_space : (b : ℕ) → is_in_word b ≡ true → b ≢ 32
in_word_no_space b h e = not_both (is_in_word b) h (ap is_in_word e)

all_lack : (name : List ℕ) → list_all is_in_word name ≡ true → Lacks 32 name
all_lack [] h = tt
all_lack (b ∷ name) h =
    let parts = and_true (is_in_word b) (list_all is_in_word name) h in
    (in_word_no_space b parts.0, all_lack name parts.1)

capital_in_word : (b : ℕ) → is_capital b ≡ true → is_in_word b ≡ true
capital_in_word b h = rw h refl

word_lacks : (name : List ℕ) → is_word name ≡ true → Lacks 32 name
word_lacks [] h = absurd (cc)
word_lacks (b ∷ name) h =
    let parts = and_true (is_capital b) (list_all is_in_word name) h in
    (in_word_no_space b (capital_in_word b parts.0), all_lack name parts.1)

word_no_quote : (name rest : List ℕ) → is_word name ≡ true → begins_with 34 (name ++ rest) ≡ true → ⊥
word_no_quote [] rest h q = absurd (cc)
word_no_quote (b ∷ name) rest h q =
    let parts = and_true (is_capital b) (list_all is_in_word name) h in
    elim (same_or_not b 34) [
      | inl same ↦ not_both (is_capital b) parts.0 (ap is_capital same.0)
      | inr other ↦ not_both (begins_with 34 (b ∷ (name ++ rest))) q other.1
    ]

-- ---- contents between quotes

front_same : (x y : ℕ) (xs ys : List ℕ) → x ∷ xs ≡ y ∷ ys → (x ≡ y) × (xs ≡ ys)
front_same x y xs ys e = (cc, cc)

doubled_quote : (x : ℕ) (text : List ℕ) → x ≡ 34 → doubled 34 (x ∷ text) ≡ 34 ∷ 34 ∷ doubled 34 text
doubled_quote x text e = ap (λ (b : ℕ). doubled_byte 34 b ++ doubled 34 text) e

once : (x : ℕ) → eqb x 34 ≡ false → doubled_byte 34 x ≡ x ∷ []
once x e = rw e refl

doubled_other : (x : ℕ) (text : List ℕ) → eqb x 34 ≡ false → doubled 34 (x ∷ text) ≡ x ∷ doubled 34 text
doubled_other x text e = ap (λ (xs : List ℕ). xs ++ doubled 34 text) (once x e)

-- a quote behind a content isn't followed by another one
closing : (a rest more : List ℕ) → begins_with 34 rest ≡ false → 34 ∷ rest ≡ 34 ∷ 34 ∷ more → ⊥
closing a rest more h e =
    let tails = (front_same 34 34 rest (34 ∷ more) e).1 in
    not_both (begins_with 34 (34 ∷ more)) refl (ap (begins_with 34) (sym tails) ∙ h)

-- of one content that is empty the other is
ended : (b : List ℕ) (r s : List ℕ) → begins_with 34 r ≡ false → 34 ∷ r ≡ doubled 34 b ++ 34 ∷ s → ([] ≡ b) × (r ≡ s)
ended [] r s h e = (refl, (front_same 34 34 r s e).1)
ended (y ∷ b) r s h e = elim (same_or_not y 34) [
  | inl same ↦ absurd (closing [] r (doubled 34 b ++ 34 ∷ s) h (e ∙ ap (λ (xs : List ℕ). xs ++ 34 ∷ s) (doubled_quote y b same.0)))
  | inr other ↦ absurd (other.0 (sym (front_same 34 y r (doubled 34 b ++ 34 ∷ s) (e ∙ ap (λ (xs : List ℕ). xs ++ 34 ∷ s) (doubled_other y b other.1))).0))
]

content_once : (a b r s : List ℕ) → begins_with 34 r ≡ false → begins_with 34 s ≡ false → doubled 34 a ++ 34 ∷ r ≡ doubled 34 b ++ 34 ∷ s → (a ≡ b) × (r ≡ s)
content_once [] b r s h k e = ended b r s h e
content_once (x ∷ a) [] r s h k e = let both = ended (x ∷ a) s r k (sym e) in (sym both.0, sym both.1)
content_once (x ∷ a) (y ∷ b) r s h k e = elim (same_or_not x 34) [
  | inl x_same ↦ elim (same_or_not y 34) [
    | inl y_same ↦
        let both : 34 ∷ 34 ∷ (doubled 34 a ++ 34 ∷ r) ≡ 34 ∷ 34 ∷ (doubled 34 b ++ 34 ∷ s) = sym (ap (λ (xs : List ℕ). xs ++ 34 ∷ r) (doubled_quote x a x_same.0)) ∙ e ∙ ap (λ (xs : List ℕ). xs ++ 34 ∷ s) (doubled_quote y b y_same.0) in
        let inner : doubled 34 a ++ 34 ∷ r ≡ doubled 34 b ++ 34 ∷ s = cc in
        let more = content_once a b r s h k inner in
        let first : x ≡ y = x_same.0 ∙ sym y_same.0 in
        ((λ i. first i ∷ more.0 i), more.1)
    | inr y_other ↦
        let both : 34 ∷ (34 ∷ (doubled 34 a ++ 34 ∷ r)) ≡ y ∷ (doubled 34 b ++ 34 ∷ s) = sym (ap (λ (xs : List ℕ). xs ++ 34 ∷ r) (doubled_quote x a x_same.0)) ∙ e ∙ ap (λ (xs : List ℕ). xs ++ 34 ∷ s) (doubled_other y b y_other.1) in
        absurd (y_other.0 (sym (front_same 34 y (34 ∷ (doubled 34 a ++ 34 ∷ r)) (doubled 34 b ++ 34 ∷ s) both).0))
  ]
  | inr x_other ↦ elim (same_or_not y 34) [
    | inl y_same ↦
        let both : x ∷ (doubled 34 a ++ 34 ∷ r) ≡ 34 ∷ (34 ∷ (doubled 34 b ++ 34 ∷ s)) = sym (ap (λ (xs : List ℕ). xs ++ 34 ∷ r) (doubled_other x a x_other.1)) ∙ e ∙ ap (λ (xs : List ℕ). xs ++ 34 ∷ s) (doubled_quote y b y_same.0) in
        absurd (x_other.0 (front_same x 34 (doubled 34 a ++ 34 ∷ r) (34 ∷ (doubled 34 b ++ 34 ∷ s)) both).0)
    | inr y_other ↦
        let both : x ∷ (doubled 34 a ++ 34 ∷ r) ≡ y ∷ (doubled 34 b ++ 34 ∷ s) = sym (ap (λ (xs : List ℕ). xs ++ 34 ∷ r) (doubled_other x a x_other.1)) ∙ e ∙ ap (λ (xs : List ℕ). xs ++ 34 ∷ s) (doubled_other y b y_other.1) in
        let parts = front_same x y (doubled 34 a ++ 34 ∷ r) (doubled 34 b ++ 34 ∷ s) both in
        let more = content_once a b r s h k parts.1 in
        ((λ i. parts.0 i ∷ more.0 i), more.1)
  ]
]

-- ---- names

quoted_at : (name rest : List ℕ) → quoted 34 name ++ rest ≡ 34 ∷ (doubled 34 name ++ 34 ∷ rest)
quoted_at name rest = ap (λ (xs : List ℕ). 34 ∷ xs) (append_assoc (doubled 34 name) (34 ∷ []) rest)

plain_at : (name rest : List ℕ) → is_plain name ≡ true → name_text name ++ rest ≡ name ++ rest
plain_at name rest h = ap (λ (xs : List ℕ). xs ++ rest) (plain_text name h)

other_at : (name rest : List ℕ) → is_plain name ≡ false → name_text name ++ rest ≡ 34 ∷ (doubled 34 name ++ 34 ∷ rest)
other_at name rest h = ap (λ (xs : List ℕ). xs ++ rest) (quoted_text name h) ∙ quoted_at name rest

-- one name stands as it is, and the other between quotes
differ : (a b r s : List ℕ) → is_plain a ≡ true → is_plain b ≡ false → name_text a ++ r ≡ name_text b ++ s → ⊥
differ a b r s p q e = word_no_quote a r (plain_word a p) (ap (begins_with 34) (sym (plain_at a r p) ∙ e ∙ other_at b s q))

name_once : (a b r s : List ℕ) → name_text a ++ 32 ∷ r ≡ name_text b ++ 32 ∷ s → (a ≡ b) × (r ≡ s)
name_once a b r s e = elim (cases_Bool (is_plain a)) [
  | inl p ↦ elim (cases_Bool (is_plain b)) [
    | inl q ↦ split_lacks 32 a r b s (word_lacks a (plain_word a p)) (word_lacks b (plain_word b q)) (sym (plain_at a (32 ∷ r) p) ∙ e ∙ plain_at b (32 ∷ s) q)
    | inr q ↦ absurd (differ a b (32 ∷ r) (32 ∷ s) p q e)
  ]
  | inr p ↦ elim (cases_Bool (is_plain b)) [
    | inl q ↦ absurd (differ b a (32 ∷ s) (32 ∷ r) q p (sym e))
    | inr q ↦
        let both = front_same 34 34 (doubled 34 a ++ 34 ∷ (32 ∷ r)) (doubled 34 b ++ 34 ∷ (32 ∷ s)) (sym (other_at a (32 ∷ r) p) ∙ e ∙ other_at b (32 ∷ s) q) in
        let parts = content_once a b (32 ∷ r) (32 ∷ s) refl refl both.1 in
        (parts.0, (front_same 32 32 r s parts.1).1)
  ]
]

-- ---- lines

line_at : (front name part rest : List ℕ) → (front ++ (name_text name ++ 32 ∷ part)) ++ 10 ∷ rest ≡ front ++ (name_text name ++ 32 ∷ (part ++ 10 ∷ rest))
line_at front name part rest =
    append_assoc front (name_text name ++ 32 ∷ part) (10 ∷ rest) ∙ ap (λ (xs : List ℕ). front ++ xs) (append_assoc (name_text name) (32 ∷ part) (10 ∷ rest))

-- lines that are alike but for their names have the same name, and the same behind them
pub line_once : (front a b part rest more : List ℕ) → (front ++ (name_text a ++ 32 ∷ part)) ++ 10 ∷ rest ≡ (front ++ (name_text b ++ 32 ∷ part)) ++ 10 ∷ more → (a ≡ b) × (rest ≡ more)
line_once front a b part rest more e =
    let inner = append_cancel_left front (name_text a ++ 32 ∷ (part ++ 10 ∷ rest)) (name_text b ++ 32 ∷ (part ++ 10 ∷ more)) (sym (line_at front a part rest) ∙ e ∙ line_at front b part more) in
    let parts = name_once a b (part ++ 10 ∷ rest) (part ++ 10 ∷ more) inner in
    (parts.0, (front_same 10 10 rest more (append_cancel_left part (10 ∷ rest) (10 ∷ more) parts.1)).1)
