-- Numbers and texts of digits.
use Rattle.std.proofs.Common.{◌≡◌, ℕ, zero, suc, ◌+◌, ◌-◌, ◌*◌, ◌<◌, ◌≤◌, Bool, true, false, ◌&&◌, List, [], ◌∷◌, length, get_or, drop, refl, sym, ◌∙◌, ap, arith, inl, inr}
use Rattle.std.specs.List.{list_all}
use Rattle.std.proofs.lemmas.Bool.Decides.{eqb_tells, nat_tests}
use Rattle.hs_lexer.specs.Bytes.{is_digit}
use Rattle.hs_lexer.specs.Content.{undoubled}
use Rattle.hs_syntax.specs.Classes.{value_after, whole_class, text_class}
use Rattle.hs_syntax.specs.Names.{above}

value_grows : (value : ℕ) (digits : List ℕ) → value ≤ value_after value digits
value_grows value [] = omega arith
value_grows value (digit ∷ digits) = omega (arith, value_grows (value * 10 + (digit - 48)) digits)

value_behind : (value i : ℕ) (digits : List ℕ) → i < length digits → value_after value (drop i digits) ≡ value_after (value * 10 + (get_or digits i 0 - 48)) (drop (i + 1) digits)
value_behind value i [] within = absurd (omega arith)
value_behind value zero (digit ∷ digits) within = refl
value_behind value (suc i) (digit ∷ digits) within = let e : suc i + 1 ≡ suc (i + 1) = omega arith in rw e (value_behind value i digits (omega arith))

wide_class : (n : ℕ) → 4000 < n → above ≡ whole_class n
wide_class n wide = grind (arith, nat_tests)

-- a number is above 4,000 as soon as its first digits are
pub too_wide : (value i next : ℕ) (digits : List ℕ) → i < length digits → value_after value (drop i digits) ≡ value_after 0 digits
    → next ≡ value * 10 + (get_or digits i 0 - 48) → 4000 < next → above ≡ whole_class (value_after 0 digits)
too_wide value i next digits within means is wide =
    let all : value_after 0 digits ≡ value_after next (drop (i + 1) digits) = sym means ∙ value_behind value i digits within ∙ ap (λ z. value_after z (drop (i + 1) digits)) (sym is) in
    wide_class (value_after 0 digits) (omega (arith, all, value_grows next (drop (i + 1) digits)))

-- ---- texts of digits

no_quote : list_all is_digit (39 ∷ []) ≡ false
no_quote = refl

-- digits have no quotes, and two quotes as one are no digits
digits_undoubled : (text : List ℕ) → list_all is_digit text ≡ true → undoubled 39 text ≡ text
digits_undoubled [] all = refl
digits_undoubled (b ∷ []) all = refl
digits_undoubled (b ∷ c ∷ text) all = elim (eqb_tells b 39) [
  | inl here ↦ let none : false ≡ true = rw here.1 at all in cc
  | inr other ↦ rw other.0 (ap (λ z. b ∷ z) (digits_undoubled (c ∷ text) (and_right (is_digit b) (list_all is_digit (c ∷ text)) all)))
] where
  and_right : (s t : Bool) → (s && t) ≡ true → t ≡ true
  and_right true t h = h
  and_right false t h = cc

others_undoubled : (text : List ℕ) → list_all is_digit text ≡ false → list_all is_digit (undoubled 39 text) ≡ false
others_undoubled [] all = all
others_undoubled (b ∷ []) all = all
others_undoubled (b ∷ c ∷ text) all = elim (eqb_tells b 39) [
  | inl here ↦ elim (eqb_tells c 39) [
    | inl again ↦ rw (here.0, again.0) refl
    | inr other ↦ rw (here.0, other.0, here.1) refl
  ]
  | inr other ↦ rw other.0 (rest (is_digit b) (list_all is_digit (c ∷ text)) (list_all is_digit (undoubled 39 (c ∷ text))) all (others_undoubled (c ∷ text)))
] where
  rest : (s t u : Bool) → (s && t) ≡ false → (t ≡ false → u ≡ false) → (s && u) ≡ false
  rest true t u h f = f h
  rest false t u h f = refl

pub quoted_class : (text : List ℕ) → text_class text ≡ text_class (undoubled 39 text)
quoted_class text = go (list_all is_digit text) refl where
  and_false : (s : Bool) → (s && false) ≡ false
  and_false true = refl
  and_false false = refl

  go : (t : Bool) → list_all is_digit text ≡ t → text_class text ≡ text_class (undoubled 39 text)
  go true all = rw (digits_undoubled text all) refl
  go false all = rw (all, others_undoubled text all, and_false, and_false) refl
