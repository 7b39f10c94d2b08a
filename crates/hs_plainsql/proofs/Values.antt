-- The text of a value has no line feed; it has no space either, or it ends in a quote.
use Rattle.std.proofs.Common.{◌≡◌, ◌⊎◌, inl, inr, ℕ, zero, suc, ◌+◌, ◌-◌, ◌/◌, ◌%◌, ◌^◌, ◌<◌, ◌≤◌, ℤ, pos, negsuc, Bool, true, false, ◌||◌, ltb, cond, [], ◌∷◌, ◌++◌, length, replicate, codes, refl, arith}
use Rattle.std.specs.Prelude.{◌==◌, not, unsigned_abs}
use Rattle.std.specs.Char.{digit_char}
use Rattle.std.specs.Fmt.{decimal, signed_decimal}
use Rattle.std.proofs.lemmas.Bool.{and_from, and_parts, cond_both, not_from_false}
use Rattle.hs_decimal.specs.Text.{fraction_of, padded, sign_of, text_of, whole_of}
use Rattle.hs_temporal.specs.Days.{day_of, time_of}
use Rattle.hs_temporal.specs.Texts.{clock_text, date_text, digits, fields, stamp_text, time_text}
use Rattle.hs_entries.specs.Parts.{lacks}
use Rattle.hs_machine.specs.Acknowledged.{is_digit}
use Rattle.hs_machine.proofs.Acknowledged.{decimal_lacks, lacks-append, passing}
use Rattle.hs_schema.specs.Catalogue.{Text}
use Rattle.hs_values.specs.declared.value.Dec.{Dec}
use Rattle.hs_values.specs.declared.value.Value.{Value}
use Rattle.hs_values.specs.declared.value.Value.TheVariants as v
use Rattle.hs_valuetext.specs.Quotes.{doubled, doubled_byte, quoted}
use Rattle.hs_valuetext.specs.Texts.{escaped, escaped_byte, has_control, is_control}
use Rattle.hs_valuetext.specs.Values.{value_text}

-- ---- numbers, where the byte is no digit, no minus and no point

module _ (a : ℕ) (digit : is_digit a ≡ false) (minus : (45 == a) ≡ false) (point : (46 == a) ≡ false) where
  one : (b : ℕ) → (b == a) ≡ false → (xs : Text) → lacks a xs ≡ true → lacks a (b ∷ xs) ≡ true
  one b other xs rest = and_from _ _ (not_from_false (b == a) other) rest

  digit_other : (b : ℕ) → is_digit b ≡ true → (xs : Text) → lacks a xs ≡ true → lacks a (b ∷ xs) ≡ true
  digit_other b is xs rest = and_from _ _ (passing is_digit a b digit is) rest

  signed_lacks : (n : ℤ) → lacks a (signed_decimal n) ≡ true
  signed_lacks (pos n) = decimal_lacks a digit n
  signed_lacks (negsuc n) = one 45 minus (decimal (suc n)) (decimal_lacks a digit (suc n))

  sign_lacks : (n : ℤ) → lacks a (sign_of n) ≡ true
  sign_lacks (pos n) = refl
  sign_lacks (negsuc n) = one 45 minus [] refl

  zeros_lack : (k : ℕ) → lacks a (replicate k 48) ≡ true
  zeros_lack zero = refl
  zeros_lack (suc k) = digit_other 48 refl (replicate k 48) (zeros_lack k)

  padded_lacks : (places n : ℕ) → lacks a (padded places n) ≡ true
  unfolding padded
  padded_lacks places n = lacks-append a (replicate (places - length (decimal n)) 48) (decimal n) (zeros_lack (places - length (decimal n))) (decimal_lacks a digit n)

  fraction_lacks : (scale n : ℕ) → lacks a (fraction_of scale n) ≡ true
  fraction_lacks scale n = cond_both (scale == 0) [] (46 ∷ padded scale n) (λ (l : Text). lacks a l ≡ true) (λ _. refl) (λ _. one 46 point (padded scale n) (padded_lacks scale n))

  pub decimal_text_lacks : (d : Dec) → lacks a (text_of d) ≡ true
  unfolding text_of
  decimal_text_lacks d =
      lacks-append a (sign_of d.units ++ whole_of d) (fraction_of d.scale (unsigned_abs d.units % 10 ^ d.scale))
      (lacks-append a (sign_of d.units) (whole_of d) (sign_lacks d.units) (decimal_lacks a digit (unsigned_abs d.units / 10 ^ d.scale))) (fraction_lacks d.scale (unsigned_abs d.units % 10 ^ d.scale))

  pub number_lacks : (n : ℤ) → lacks a (signed_decimal n) ≡ true
  number_lacks n = signed_lacks n

-- ---- days and moments

some_digit : (n : ℕ) → is_digit (48 + n % 10) ≡ true
some_digit n = digits_ten (n % 10) (omega arith)
  where
    digits_ten : (k : ℕ) → k < 10 → is_digit (48 + k) ≡ true
    digits_ten k small = grind arith

digits_lack : (places n : ℕ) → lacks 10 (digits places n) ≡ true
unfolding digits
digits_lack zero n = refl
digits_lack (suc places) n = lacks-append 10 (digits places (n / 10)) ((48 + n % 10) ∷ []) (digits_lack places (n / 10)) (and_from _ _ (passing is_digit 10 (48 + n % 10) refl (some_digit n)) refl)

fields_lack : (places : ℕ) (between : Text) (a b c : ℕ) → lacks 10 between ≡ true → lacks 10 (fields places between a b c) ≡ true
fields_lack places between a b c h =
    lacks-append 10 (digits places a ++ between ++ digits 2 b ++ between) (digits 2 c)
    (lacks-append 10 (digits places a ++ between ++ digits 2 b) between
    (lacks-append 10 (digits places a ++ between) (digits 2 b) (lacks-append 10 (digits places a) between (digits_lack places a) h) (digits_lack 2 b)) h)
    (digits_lack 2 c)

date_lacks : (day : ℤ) → lacks 10 (date_text day) ≡ true
unfolding date_text
date_lacks day = fields_lack 4 (codes "-") _ _ _ refl

clock_lacks : (second : ℕ) → lacks 10 (clock_text second) ≡ true
unfolding clock_text
clock_lacks second = fields_lack 2 (codes ":") _ _ _ refl

time_lacks : (time : ℕ) → lacks 10 (time_text time) ≡ true
unfolding time_text
time_lacks time =
    lacks-append 10 (clock_text (time / 1_000_000) ++ codes ".") (digits 6 (time % 1_000_000)) (lacks-append 10 (clock_text (time / 1_000_000)) (codes ".") (clock_lacks (time / 1_000_000)) refl) (digits_lack 6 (time % 1_000_000))

stamp_lacks : (micros : ℤ) → lacks 10 (stamp_text micros) ≡ true
unfolding stamp_text
stamp_lacks micros = lacks-append 10 (date_text (day_of micros) ++ codes " ") (time_text (time_of micros)) (lacks-append 10 (date_text (day_of micros)) (codes " ") (date_lacks (day_of micros)) refl) (time_lacks (time_of micros))

-- ---- texts

doubled_one : (quote b : ℕ) (e : Bool) → lacks 10 (quote ∷ []) ≡ true → lacks 10 (b ∷ []) ≡ true → lacks 10 (cond e (quote ∷ quote ∷ []) (b ∷ [])) ≡ true
doubled_one quote b true q h = and_from _ _ (and_parts _ _ q).0 q
doubled_one quote b false q h = h

doubled_lacks : (quote : ℕ) (text : Text) → lacks 10 (quote ∷ []) ≡ true → lacks 10 text ≡ true → lacks 10 (doubled quote text) ≡ true
doubled_lacks quote [] q h = refl
doubled_lacks quote (b ∷ text) q h =
    let parts = and_parts (not (b == 10)) (lacks 10 text) h in
    lacks-append 10 (doubled_byte quote b) (doubled quote text) (doubled_one quote b (b == quote) q (and_from _ _ parts.0 refl)) (doubled_lacks quote text q parts.1)

pub quoted_lacks : (quote : ℕ) (text : Text) → lacks 10 (quote ∷ []) ≡ true → lacks 10 text ≡ true → lacks 10 (quoted quote text) ≡ true
quoted_lacks quote text q h = and_from _ _ (and_parts _ _ q).0 (lacks-append 10 (doubled quote text) (quote ∷ []) (doubled_lacks quote text q h) q)

hexadecimal : (d : ℕ) → (digit_char d == 10) ≡ false
hexadecimal d = cond_both (ltb d 10) (48 + d) (87 + d) (λ (b : ℕ). (b == 10) ≡ false) (λ _. other (48 + d) (omega arith)) (λ _. other (87 + d) (omega arith))
  where
    other : (b : ℕ) → 48 ≤ b → (b == 10) ≡ false
    other b large = grind (arith, large)

uncontrolled : (b : ℕ) → is_control b ≡ false → lacks 10 (b ∷ []) ≡ true
uncontrolled b is = and_from _ _ (not_from_false (b == 10) (plain b is)) refl
  where
    plain : (b : ℕ) → is_control b ≡ false → (b == 10) ≡ false
    plain b is = grind (arith, is)

escaped_one : (b : ℕ) → lacks 10 (escaped_byte b) ≡ true
escaped_one b = by (is_control b) refl
  where
    last_two : lacks 10 (digit_char (b / 16) ∷ digit_char (b % 16) ∷ []) ≡ true
    last_two = and_from _ _ (not_from_false _ (hexadecimal (b / 16))) (and_from _ _ (not_from_false _ (hexadecimal (b % 16))) refl)

    by : (t : Bool) → is_control b ≡ t → lacks 10 (cond t (codes "\\00" ++ digit_char (b / 16) ∷ digit_char (b % 16) ∷ []) (cond (b == 92) (codes "\\\\") (b ∷ []))) ≡ true
    by true is = lacks-append 10 (codes "\\00") (digit_char (b / 16) ∷ digit_char (b % 16) ∷ []) refl last_two
    by false is = cond_both (b == 92) (codes "\\\\") (b ∷ []) (λ (l : Text). lacks 10 l ≡ true) (λ _. refl) (λ _. uncontrolled b is)

escaped_lacks : (text : Text) → lacks 10 (escaped text) ≡ true
escaped_lacks [] = refl
escaped_lacks (b ∷ text) = lacks-append 10 (escaped_byte b) (escaped text) (escaped_one b) (escaped_lacks text)

or_parts : (a b : Bool) → (a || b) ≡ false → (a ≡ false) × (b ≡ false)
or_parts true b h = absurd cc
or_parts false b h = (refl, h)

plain_lacks : (text : Text) → has_control text ≡ false → lacks 10 text ≡ true
plain_lacks [] h = refl
plain_lacks (b ∷ text) h = let parts = or_parts (is_control b) (has_control text) h in and_from _ _ (and_parts _ _ (uncontrolled b parts.0)).0 (plain_lacks text parts.1)

-- ---- all of them

-- a text that ends in a quote
pub record IsClosed (text : Text) : Type 0 where
  pub front : Text
  pub is : text ≡ front ++ 39 ∷ []
  pub single : lacks 10 text ≡ true

pub record IsWord (text : Text) : Type 0 where
  pub single : lacks 10 text ≡ true
  pub space : lacks 32 text ≡ true

abbrev pub IsShown : Text → Type 0
IsShown text = IsWord text ⊎ IsClosed text

chars_shown : (text : Text) (control : Bool) → has_control text ≡ control → IsClosed (cond control (codes "U&" ++ quoted 39 (escaped text)) (quoted 39 text))
chars_shown text true is = record { front = codes "U&'" ++ doubled 39 (escaped text); is = refl; single = lacks-append 10 (codes "U&") (quoted 39 (escaped text)) refl (quoted_lacks 39 (escaped text) refl (escaped_lacks text)) }
chars_shown text false is = record { front = 39 ∷ doubled 39 text; is = refl; single = quoted_lacks 39 text refl (plain_lacks text is) }

pub shown : (x : Value) → IsShown (value_text x)
shown v.Null = inl (record { single = refl; space = refl })
shown (v.Bool true) = inl (record { single = refl; space = refl })
shown (v.Bool false) = inl (record { single = refl; space = refl })
shown (v.Int n) = inl (record { single = number_lacks 10 refl refl refl n; space = number_lacks 32 refl refl refl n })
shown (v.Dec d) = inl (record { single = decimal_text_lacks 10 refl refl refl d; space = decimal_text_lacks 32 refl refl refl d })
shown (v.Text text) = inr (chars_shown text (has_control text) refl)
shown (v.Day day) = inr (record { front = codes "DATE '" ++ date_text day; is = refl; single = lacks-append 10 (codes "DATE '" ++ date_text day) (codes "'") (lacks-append 10 (codes "DATE '") (date_text day) refl (date_lacks day)) refl })
shown (v.Micros micros) = inr (record {
  front = codes "TIMESTAMP '" ++ stamp_text micros;
  is = refl;
  single = lacks-append 10 (codes "TIMESTAMP '" ++ stamp_text micros) (codes "'") (lacks-append 10 (codes "TIMESTAMP '") (stamp_text micros) refl (stamp_lacks micros)) refl;
})
