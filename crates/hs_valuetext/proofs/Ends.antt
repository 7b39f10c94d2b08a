-- Values that are no texts: the byte that they begin with, and that no comma and no closing parenthesis is in them.
use Rattle.std.proofs.Common.{◌≡◌, ℕ, zero, suc, ◌+◌, ◌-◌, ◌/◌, ◌%◌, ◌^◌, ◌<◌, ◌≤◌, ℤ, pos, negsuc, true, false, eqb, List, [], ◌∷◌, ◌++◌, length, replicate, inl, inr, refl, sym, subst, ◌∙◌, append_assoc, append-nil, arith}
use Rattle.std.specs.Prelude.{codes, unsigned_abs}
use Rattle.std.specs.Fmt.{decimal, signed_decimal}
use Rattle.std.specs.List.{list_any}
use Rattle.std.specs.Str.Parse.{AllDigits}
use Rattle.std.proofs.lemmas.Bool.{cases_Bool, ltb-true, ne_eqb, eqb-false}
use Rattle.std.proofs.lemmas.Fmt.{decimal_is_IsNumeral_wide}
use Rattle.std.proofs.lemmas.Str.Parse.{digit_from_value}
use Rattle.std.proofs.Math.Nat.{div-le_self, mod-le}
use Rattle.hs_decimal.specs.Text.{text_of, whole_of, fraction_of, padded, sign_of}
use Rattle.hs_temporal.specs.Days.{day_of, time_of}
use Rattle.hs_temporal.specs.Texts.{digits, fields, date_text, clock_text, time_text, stamp_text}
use Rattle.hs_values.specs.Decimal.{IsDecimal}
use Rattle.hs_values.specs.Lawful.{IsLawful}
use Rattle.hs_values.specs.SqlType.{is_signed}
use Rattle.hs_values.specs.declared.value.Dec.{Dec}
use Rattle.hs_values.specs.declared.value.Value.{Value}
use Rattle.hs_values.specs.declared.value.Value.TheVariants as v
use Rattle.hs_valuetext.specs.Texts.{has_control, chars_text}
use Rattle.hs_valuetext.specs.Values.{value_text, is_text, is_end, begins_end, begins_text}
use Rattle.hs_valuetext.proofs.Bits.{or_false, not_both, any-append}

-- ---- no comma and no closing parenthesis

abbrev pub Endless : List ℕ → Type 0
Endless xs = list_any is_end xs ≡ false

not_end : (b : ℕ) → 44 < b → is_end b ≡ false
not_end b h = rw (ne_eqb b 44 (λ e. absurd (omega arith)), ne_eqb b 41 (λ e. absurd (omega arith))) refl

endless_cons : (b : ℕ) (xs : List ℕ) → 44 < b → Endless xs → Endless (b ∷ xs)
endless_cons b xs h rest = rw (not_end b h) rest

endless++ : (xs ys : List ℕ) → Endless xs → Endless ys → Endless (xs ++ ys)
endless++ xs ys a b = any-append is_end xs ys a b

endless_numeral : (ds : List ℕ) → AllDigits 10 ds → Endless ds
endless_numeral [] all = refl
endless_numeral (d ∷ ds) all =
    let digit = digit_from_value d all.0 in
    endless_cons d ds (omega (arith, digit)) (endless_numeral ds all.1)

endless_decimal : (n : ℕ) → n < 10 ^ 64 → Endless (decimal n)
endless_decimal n small = endless_numeral (decimal n) (decimal_is_IsNumeral_wide n small).0.1

endless_zeros : (k : ℕ) → Endless (replicate k 48)
endless_zeros zero = refl
endless_zeros (suc k) = endless_cons 48 (replicate k 48) (omega arith) (endless_zeros k)

endless_padded : (places n : ℕ) → n < 10 ^ 64 → Endless (padded places n)
unfolding padded
endless_padded places n small = endless++ (replicate (places - length (decimal n)) 48) (decimal n) (endless_zeros (places - length (decimal n))) (endless_decimal n small)

endless_signed : (n : ℤ) → is_signed 63 n ≡ true → Endless (signed_decimal n)
endless_signed (pos n) h = endless_decimal n (omega (arith, ltb-true n (2 ^ 63) h))
endless_signed (negsuc n) h = endless_cons 45 (decimal (suc n)) (omega arith) (endless_decimal (suc n) (omega (arith, ltb-true n (2 ^ 63) h)))

endless_sign : (n : ℤ) → Endless (sign_of n)
endless_sign (pos n) = refl
endless_sign (negsuc n) = endless_cons 45 [] (omega arith) refl

endless_fraction : (scale n : ℕ) → n < 10 ^ 64 → Endless (fraction_of scale n)
endless_fraction scale n small = elim (cases_Bool (eqb scale 0)) [
  | inl holds ↦ rw holds refl
  | inr fails ↦ rw fails (endless_cons 46 (padded scale n) (omega arith) (endless_padded scale n small))
]

front_small : (d : Dec) → IsDecimal d → unsigned_abs d.units / 10 ^ d.scale < 10 ^ 64
front_small d lawful = omega (arith, div-le_self (unsigned_abs d.units) (10 ^ d.scale), lawful.digits)

back_small : (d : Dec) → IsDecimal d → unsigned_abs d.units % 10 ^ d.scale < 10 ^ 64
back_small d lawful = omega (arith, mod-le (unsigned_abs d.units) (10 ^ d.scale), lawful.digits)

endless_dec : (d : Dec) → IsDecimal d → Endless (text_of d)
unfolding text_of
endless_dec d lawful =
    endless++ (sign_of d.units ++ whole_of d) (fraction_of d.scale (unsigned_abs d.units % 10 ^ d.scale))
    (endless++ (sign_of d.units) (whole_of d) (endless_sign d.units) (endless_decimal _ (front_small d lawful)))
    (endless_fraction d.scale _ (back_small d lawful))

endless_digits : (places n : ℕ) → Endless (digits places n)
unfolding digits
endless_digits zero n = refl
endless_digits (suc places) n = endless++ (digits places (n / 10)) ((48 + n % 10) ∷ []) (endless_digits places (n / 10)) (endless_cons (48 + n % 10) [] (omega arith) refl)

endless_fields : (places : ℕ) (between : List ℕ) (a b c : ℕ) → Endless between → Endless (fields places between a b c)
endless_fields places between a b c h =
    endless++ (digits places a ++ between ++ digits 2 b ++ between) (digits 2 c)
    (endless++ (digits places a ++ between ++ digits 2 b) between (endless++ (digits places a ++ between) (digits 2 b) (endless++ (digits places a) between (endless_digits places a) h) (endless_digits 2 b)) h)
    (endless_digits 2 c)

endless_date : (day : ℤ) → Endless (date_text day)
unfolding date_text
endless_date day = endless_fields 4 (codes "-") _ _ _ refl

endless_clock : (second : ℕ) → Endless (clock_text second)
unfolding clock_text
endless_clock second = endless_fields 2 (codes ":") _ _ _ refl

endless_time : (time : ℕ) → Endless (time_text time)
unfolding time_text
endless_time time = endless++ (clock_text (time / 1_000_000) ++ codes ".") (digits 6 (time % 1_000_000)) (endless++ (clock_text (time / 1_000_000)) (codes ".") (endless_clock (time / 1_000_000)) refl) (endless_digits 6 (time % 1_000_000))

endless_stamp : (micros : ℤ) → Endless (stamp_text micros)
unfolding stamp_text
endless_stamp micros = endless++ (date_text (day_of micros) ++ codes " ") (time_text (time_of micros)) (endless++ (date_text (day_of micros)) (codes " ") (endless_date (day_of micros)) refl) (endless_time (time_of micros))

pub endless : (x : Value) → is_text x ≡ false → IsLawful x → Endless (value_text x)
endless v.Null plain lawful = refl
endless (v.Bool true) plain lawful = refl
endless (v.Bool false) plain lawful = refl
endless (v.Int n) plain lawful = endless_signed n lawful
endless (v.Dec d) plain lawful = endless_dec d lawful
endless (v.Text t) plain lawful = absurd cc
endless (v.Day day) plain lawful = endless++ (codes "DATE '" ++ date_text day) (codes "'") (endless++ (codes "DATE '") (date_text day) refl (endless_date day)) refl
endless (v.Micros micros) plain lawful = endless++ (codes "TIMESTAMP '" ++ stamp_text micros) (codes "'") (endless++ (codes "TIMESTAMP '") (stamp_text micros) refl (endless_stamp micros)) refl

-- two texts without such bytes, with such a byte behind them
pub same_token : (a b c d : List ℕ) → Endless a → Endless c → begins_end b ≡ true → begins_end d ≡ true → a ++ b ≡ c ++ d → (a ≡ c) × (b ≡ d)
same_token [] b [] d ha hc hb hd e = (refl, e)
same_token [] b (y ∷ c) d ha hc hb hd e = absurd (not_both (is_end y) (subst (λ (xs : List ℕ). begins_end xs ≡ true) e hb) (or_false (is_end y) (list_any is_end c) hc).0)
same_token (x ∷ a) b [] d ha hc hb hd e = absurd (not_both (is_end x) (subst (λ (xs : List ℕ). begins_end xs ≡ true) (sym e) hd) (or_false (is_end x) (list_any is_end a) ha).0)
same_token (x ∷ a) b (y ∷ c) d ha hc hb hd e =
    let first : x ≡ y = cc in
    let behind : a ++ b ≡ c ++ d = cc in
    let more = same_token a b c d (or_false (is_end x) (list_any is_end a) ha).1 (or_false (is_end y) (list_any is_end c) hc).1 hb hd behind in
    ((λ i. first i ∷ more.0 i), more.1)

pub no_token : (a c d : List ℕ) → Endless a → begins_end d ≡ true → a ≡ c ++ d → ⊥
no_token [] [] [] ha hd e = absurd cc
no_token [] [] (y ∷ d) ha hd e = cc
no_token [] (y ∷ c) d ha hd e = cc
no_token (x ∷ a) [] d ha hd e = not_both (is_end x) (subst (λ (xs : List ℕ). begins_end xs ≡ true) (sym e) hd) (or_false (is_end x) (list_any is_end a) ha).0
no_token (x ∷ a) (y ∷ c) d ha hd e =
    let behind : a ≡ c ++ d = cc in
    no_token a c d (or_false (is_end x) (list_any is_end a) ha).1 hd behind

-- ---- the first byte

-- a `-` or a digit is the first byte
pub record BeginsNumber (xs : List ℕ) : Type 0 where
  pub first : ℕ
  pub others : List ℕ
  pub is : xs ≡ first ∷ others
  pub low : 45 ≤ first
  pub high : first ≤ 57

number_numeral : (ds more : List ℕ) → AllDigits 10 ds → 0 < length ds → BeginsNumber (ds ++ more)
number_numeral [] more all some = absurd (omega arith)
number_numeral (d ∷ ds) more all some =
    let digit = digit_from_value d all.0 in
    record { first = d; others = ds ++ more; is = refl; low = omega (arith, digit); high = omega (arith, digit) }

number_decimal : (n : ℕ) (more : List ℕ) → n < 10 ^ 64 → BeginsNumber (decimal n ++ more)
number_decimal n more small = let is = (decimal_is_IsNumeral_wide n small).0 in number_numeral (decimal n) more is.1 is.0

number_signed : (n : ℤ) (more : List ℕ) → is_signed 63 n ≡ true → BeginsNumber (signed_decimal n ++ more)
number_signed (pos n) more h = number_decimal n more (omega (arith, ltb-true n (2 ^ 63) h))
number_signed (negsuc n) more h = record { first = 45; others = decimal (suc n) ++ more; is = refl; low = omega arith; high = omega arith }

number_by : (units : ℤ) (n : ℕ) (fraction more : List ℕ) → n < 10 ^ 64 → BeginsNumber (((sign_of units ++ decimal n) ++ fraction) ++ more)
number_by (pos u) n fraction more small = subst BeginsNumber (sym (append_assoc (decimal n) fraction more)) (number_decimal n (fraction ++ more) small)
number_by (negsuc u) n fraction more small = record { first = 45; others = (decimal n ++ fraction) ++ more; is = refl; low = omega arith; high = omega arith }

number_dec : (d : Dec) (more : List ℕ) → IsDecimal d → BeginsNumber (text_of d ++ more)
unfolding text_of
number_dec d more lawful = number_by d.units (unsigned_abs d.units / 10 ^ d.scale) (fraction_of d.scale (unsigned_abs d.units % 10 ^ d.scale)) more (front_small d lawful)

no_text : (xs : List ℕ) → BeginsNumber xs → begins_text xs ≡ false
no_text xs h = subst (λ (ys : List ℕ). begins_text ys ≡ false) (sym h.is) (rw (ne_eqb h.first 39 (λ e. absurd (omega (arith, h.low))), ne_eqb h.first 85 (λ e. absurd (omega (arith, h.high)))) refl)

pub plain_begins : (x : Value) (more : List ℕ) → is_text x ≡ false → IsLawful x → begins_text (value_text x ++ more) ≡ false
plain_begins v.Null more plain lawful = refl
plain_begins (v.Bool true) more plain lawful = refl
plain_begins (v.Bool false) more plain lawful = refl
plain_begins (v.Int n) more plain lawful = no_text _ (number_signed n more lawful)
plain_begins (v.Dec d) more plain lawful = no_text _ (number_dec d more lawful)
plain_begins (v.Text t) more plain lawful = absurd cc
plain_begins (v.Day day) more plain lawful = refl
plain_begins (v.Micros micros) more plain lawful = refl

pub text_begins : (t more : List ℕ) → begins_text (chars_text t ++ more) ≡ true
text_begins t more = elim (cases_Bool (has_control t)) [
  | inl holds ↦ rw holds refl
  | inr fails ↦ rw fails refl
]

no_word : (xs more : List ℕ) → BeginsNumber xs → xs ≡ 78 ∷ more → ⊥
no_word xs more h e =
    let first : h.first ≡ 78 = cc (h.is, e) in
    omega (arith, h.high)

-- NULL is written of NULL alone
pub null_only : (x : Value) → is_text x ≡ false → IsLawful x → value_text x ≡ codes "NULL" → x ≡ v.Null
null_only v.Null plain lawful e = refl
null_only (v.Bool true) plain lawful e = absurd (eqb-false 84 78 refl cc)
null_only (v.Bool false) plain lawful e = absurd (eqb-false 70 78 refl cc)
null_only (v.Int n) plain lawful e = absurd (no_word (signed_decimal n ++ []) _ (number_signed n [] lawful) (append-nil (signed_decimal n) ∙ e))
null_only (v.Dec d) plain lawful e = absurd (no_word (text_of d ++ []) _ (number_dec d [] lawful) (append-nil (text_of d) ∙ e))
null_only (v.Text t) plain lawful e = absurd cc
null_only (v.Day day) plain lawful e = absurd (eqb-false 68 78 refl cc)
null_only (v.Micros micros) plain lawful e = absurd (eqb-false 84 78 refl cc)
