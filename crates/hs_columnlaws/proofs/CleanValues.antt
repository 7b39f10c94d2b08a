-- No control character is in a value's text.
use Rattle.std.proofs.Common.{◌≡◌, ℕ, zero, suc, ◌+◌, ◌-◌, ◌/◌, ◌%◌, ◌^◌, ◌<◌, ◌≤◌, ℤ, pos, negsuc, true, false, ◌||◌, eqb, ltb, cond, List, [], ◌∷◌, ◌++◌, length, replicate, inl, inr, refl, sym, ap, ◌∙◌, arith}
use Rattle.std.specs.Prelude.{codes, unsigned_abs}
use Rattle.std.specs.Char.{digit_char}
use Rattle.std.specs.Fmt.{decimal, signed_decimal}
use Rattle.std.specs.List.{flat_map}
use Rattle.std.specs.Str.Parse.{AllDigits}
use Rattle.std.proofs.lemmas.Bool.{cases_Bool, ltb-true, ltb-false, ne_eqb, eqb-true}
use Rattle.std.proofs.lemmas.Fmt.{decimal_is_IsNumeral_wide}
use Rattle.std.proofs.lemmas.Str.Parse.{digit_from_value}
use Rattle.std.proofs.Math.Nat.{div-le_self, mod-le}
use Rattle.hs_decimal.specs.Text.{text_of, whole_of, fraction_of, padded, sign_of}
use Rattle.hs_temporal.specs.Days.{day_of, time_of}
use Rattle.hs_temporal.specs.Texts.{digits, fields, date_text, clock_text, time_text, stamp_text}
use Rattle.hs_values.specs.Decimal.{IsDecimal}
use Rattle.hs_values.specs.declared.value.Dec.{Dec}
use Rattle.hs_values.specs.declared.sql_type.SqlType.{SqlType}
use Rattle.hs_values.specs.declared.value.Value.{Value}
use Rattle.hs_values.specs.declared.value.Value.TheVariants as v
use Rattle.hs_values.specs.Lawful.{IsLawful}
use Rattle.hs_values.specs.SqlType.{is_signed, fits_of}
use Rattle.hs_valuetext.specs.Quotes.{doubled_byte, doubled, quoted}
use Rattle.hs_valuetext.specs.Texts.{is_control, has_control, escaped_byte, escaped, chars_text}
use Rattle.hs_valuetext.specs.Values.{value_text}
use Rattle.hs_valuetext.proofs.Bits.{or_false, not_both, any-append}
use Rattle.hs_valuetext.proofs.TextLemmas.{chars-control, chars-plain}

abbrev pub Clean : List ℕ → Type 0
Clean xs = has_control xs ≡ false

plain_byte : (b : ℕ) → 32 ≤ b → b < 127 → is_control b ≡ false
plain_byte b low high = elim (cases_Bool (ltb b 32)) [
  | inl holds ↦ absurd (omega (arith, low, ltb-true b 32 holds))
  | inr fails ↦ rw (fails, ne_eqb b 127 (λ e. absurd (omega (arith, e, high)))) refl
]

clean_cons : (b : ℕ) (xs : List ℕ) → 32 ≤ b → b < 127 → Clean xs → Clean (b ∷ xs)
clean_cons b xs low high rest = rw (plain_byte b low high) rest

pub clean++ : (xs ys : List ℕ) → Clean xs → Clean ys → Clean (xs ++ ys)
clean++ xs ys a b = any-append is_control xs ys a b

-- ---- numbers

clean_numeral : (ds : List ℕ) → AllDigits 10 ds → Clean ds
clean_numeral [] all = refl
clean_numeral (d ∷ ds) all =
    let digit = digit_from_value d all.0 in
    clean_cons d ds (omega (arith, digit)) (omega (arith, digit)) (clean_numeral ds all.1)

pub clean_decimal : (n : ℕ) → n < 10 ^ 64 → Clean (decimal n)
clean_decimal n small = clean_numeral (decimal n) (decimal_is_IsNumeral_wide n small).0.1

clean_zeros : (k : ℕ) → Clean (replicate k 48)
clean_zeros zero = refl
clean_zeros (suc k) = clean_cons 48 (replicate k 48) (omega arith) (omega arith) (clean_zeros k)

clean_padded : (places n : ℕ) → n < 10 ^ 64 → Clean (padded places n)
unfolding padded
clean_padded places n small = clean++ (replicate (places - length (decimal n)) 48) (decimal n) (clean_zeros (places - length (decimal n))) (clean_decimal n small)

clean_signed : (n : ℤ) → is_signed 63 n ≡ true → Clean (signed_decimal n)
clean_signed (pos n) h = clean_decimal n (omega (arith, ltb-true n (2 ^ 63) h))
clean_signed (negsuc n) h = clean_cons 45 (decimal (suc n)) (omega arith) (omega arith) (clean_decimal (suc n) (omega (arith, ltb-true n (2 ^ 63) h)))

clean_sign : (n : ℤ) → Clean (sign_of n)
clean_sign (pos n) = refl
clean_sign (negsuc n) = refl

clean_fraction : (scale n : ℕ) → n < 10 ^ 64 → Clean (fraction_of scale n)
clean_fraction scale n small = elim (cases_Bool (eqb scale 0)) [
  | inl holds ↦ rw holds refl
  | inr fails ↦ rw fails (clean_cons 46 (padded scale n) (omega arith) (omega arith) (clean_padded scale n small))
]

front_small : (d : Dec) → IsDecimal d → unsigned_abs d.units / 10 ^ d.scale < 10 ^ 64
front_small d lawful = omega (arith, div-le_self (unsigned_abs d.units) (10 ^ d.scale), lawful.digits)

back_small : (d : Dec) → IsDecimal d → unsigned_abs d.units % 10 ^ d.scale < 10 ^ 64
back_small d lawful = omega (arith, mod-le (unsigned_abs d.units) (10 ^ d.scale), lawful.digits)

clean_dec : (d : Dec) → IsDecimal d → Clean (text_of d)
unfolding text_of
clean_dec d lawful =
    clean++ (sign_of d.units ++ whole_of d) (fraction_of d.scale (unsigned_abs d.units % 10 ^ d.scale))
    (clean++ (sign_of d.units) (whole_of d) (clean_sign d.units) (clean_decimal _ (front_small d lawful)))
    (clean_fraction d.scale _ (back_small d lawful))

-- ---- days and moments

clean_digits : (places n : ℕ) → Clean (digits places n)
unfolding digits
clean_digits zero n = refl
clean_digits (suc places) n = clean++ (digits places (n / 10)) ((48 + n % 10) ∷ []) (clean_digits places (n / 10)) (clean_cons (48 + n % 10) [] (omega arith) (omega arith) refl)

clean_fields : (places : ℕ) (between : List ℕ) (a b c : ℕ) → Clean between → Clean (fields places between a b c)
clean_fields places between a b c h =
    clean++ (digits places a ++ between ++ digits 2 b ++ between) (digits 2 c)
    (clean++ (digits places a ++ between ++ digits 2 b) between (clean++ (digits places a ++ between) (digits 2 b) (clean++ (digits places a) between (clean_digits places a) h) (clean_digits 2 b)) h)
    (clean_digits 2 c)

clean_date : (day : ℤ) → Clean (date_text day)
unfolding date_text
clean_date day = clean_fields 4 (codes "-") _ _ _ refl

clean_clock : (second : ℕ) → Clean (clock_text second)
unfolding clock_text
clean_clock second = clean_fields 2 (codes ":") _ _ _ refl

clean_time : (time : ℕ) → Clean (time_text time)
unfolding time_text
clean_time time = clean++ (clock_text (time / 1_000_000) ++ codes ".") (digits 6 (time % 1_000_000)) (clean++ (clock_text (time / 1_000_000)) (codes ".") (clean_clock (time / 1_000_000)) refl) (clean_digits 6 (time % 1_000_000))

clean_stamp : (micros : ℤ) → Clean (stamp_text micros)
unfolding stamp_text
clean_stamp micros = clean++ (date_text (day_of micros) ++ codes " ") (time_text (time_of micros)) (clean++ (date_text (day_of micros)) (codes " ") (clean_date (day_of micros)) refl) (clean_time (time_of micros))

-- ---- texts

clean_doubled : (q : ℕ) (xs : List ℕ) → is_control q ≡ false → Clean xs → Clean (doubled q xs)
clean_doubled q [] plain h = refl
clean_doubled q (b ∷ xs) plain h =
    let parts = or_false (is_control b) (has_control xs) h in
    clean++ (doubled_byte q b) (doubled q xs) (one parts.0) (clean_doubled q xs plain parts.1)
  where
    one : is_control b ≡ false → Clean (doubled_byte q b)
    one clean = elim (cases_Bool (eqb b q)) [
      | inl holds ↦ rw holds (rw plain refl)
      | inr fails ↦ rw fails (rw clean refl)
    ]

pub clean_quoted : (q : ℕ) (xs : List ℕ) → is_control q ≡ false → Clean xs → Clean (quoted q xs)
clean_quoted q xs plain h = rw plain (clean++ (doubled q xs) (q ∷ []) (clean_doubled q xs plain h) (rw plain refl))

clean_hexadecimal : (d : ℕ) → d < 16 → Clean (digit_char d ∷ [])
clean_hexadecimal d small = elim (cases_Bool (ltb d 10)) [
  | inl holds ↦ rw holds (clean_cons (48 + d) [] (omega arith) (omega (arith, small)) refl)
  | inr fails ↦ rw fails (clean_cons (87 + d) [] (omega arith) (omega (arith, small)) refl)
]

control_small : (b : ℕ) → is_control b ≡ true → b < 128
control_small b h = elim (cases_Bool (ltb b 32)) [
  | inl holds ↦ let less : b < 32 = ltb-true b 32 holds in omega (arith, less)
  | inr fails ↦ let last : b ≡ 127 = eqb-true b 127 (rw fails at h) in omega (arith, last)
]

clean_escaped_byte : (b : ℕ) → Clean (escaped_byte b)
clean_escaped_byte b = elim (cases_Bool (is_control b)) [
  | inl holds ↦
      let small : b < 128 = control_small b holds in
      rw holds (clean++ (codes "\\00") (digit_char (b / 16) ∷ digit_char (b % 16) ∷ []) refl (clean++ (digit_char (b / 16) ∷ []) (digit_char (b % 16) ∷ []) (clean_hexadecimal (b / 16) (omega (arith, small))) (clean_hexadecimal (b % 16) (omega arith))))
  | inr fails ↦ rw fails (elim (cases_Bool (eqb b 92)) [
    | inl holds ↦ rw holds refl
    | inr other ↦ rw other (rw fails refl)
  ])
]

clean_escaped : (xs : List ℕ) → Clean (escaped xs)
clean_escaped [] = refl
clean_escaped (b ∷ xs) = clean++ (escaped_byte b) (escaped xs) (clean_escaped_byte b) (clean_escaped xs)

clean_chars : (xs : List ℕ) → Clean (chars_text xs)
clean_chars xs = elim (cases_Bool (has_control xs)) [
  | inl holds ↦ ap has_control (chars-control xs holds) ∙ clean++ (codes "U&") (quoted 39 (escaped xs)) refl (clean_quoted 39 (escaped xs) refl (clean_escaped xs))
  | inr fails ↦ ap has_control (chars-plain xs fails) ∙ clean_quoted 39 xs refl fails
]

-- ---- all of them

pub clean_value : (x : Value) → IsLawful x → Clean (value_text x)
clean_value v.Null lawful = refl
clean_value (v.Bool true) lawful = refl
clean_value (v.Bool false) lawful = refl
clean_value (v.Int n) lawful = clean_signed n lawful
clean_value (v.Dec d) lawful = clean_dec d lawful
clean_value (v.Text t) lawful = clean_chars t
clean_value (v.Day day) lawful = clean++ (codes "DATE '" ++ date_text day) (codes "'") (clean++ (codes "DATE '") (date_text day) refl (clean_date day)) refl
clean_value (v.Micros micros) lawful = clean++ (codes "TIMESTAMP '" ++ stamp_text micros) (codes "'") (clean++ (codes "TIMESTAMP '") (stamp_text micros) refl (clean_stamp micros)) refl
