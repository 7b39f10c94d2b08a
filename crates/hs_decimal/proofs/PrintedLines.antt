-- The one decimal that a printed text may stand for.
use Rattle.std.proofs.Common.{◌≡◌, ◌≢◌, ℕ, zero, suc, ◌+◌, ◌-◌, ◌*◌, ◌/◌, ◌%◌, ◌^◌, ◌<◌, ◌≤◌, List, [], ◌∷◌, ◌++◌, Option, Some, true, length, pos, negsuc, ℤ, refl, sym, ap, subst, ◌∙◌, ◌⊎◌, inl, inr, arith, pow-add, append-nil, zero-add, ◌==◌, Bor}
use Rattle.std.specs.Fmt.{decimal}
use Rattle.std.specs.Int.{IsInRange}
use Rattle.std.specs.Str.{all_ascii_digits}
use Rattle.std.specs.Str.Parse.{AllDigits, IsNumeral, digits_value}
use Rattle.std.proofs.lemmas.Bool.{cases_Bool, eqb-true, eqb-false}
use Rattle.std.proofs.lemmas.Str.Parse.{digit_from_value}
use Rattle.std.proofs.lemmas.Int.{ints}
use Rattle.std.proofs.lemmas.Fmt.{decimal_digit, decimal_is_IsNumeral_wide, length-decimal-le_wide}
use Rattle.std.proofs.Math.Nat.{mod-lt, one-le-pow, div-add-mod, div-le_self, div-lt_iff_lt-mul, pow-le-pow_right, div-one}
use Rattle.std.specs.Prelude.{MatchOption, unsigned_abs, None, ◌-ℤ◌}
use Rattle.hs_decimal.proofs.Numerals.{tested, few_digits}
use Rattle.hs_decimal.proofs.ReadBack.{Fills, fills, text_of-whole, text_of-pointed, spelled_back}
use Rattle.hs_decimal.proofs.Spelling.{is_read}
use Rattle.hs_decimal.specs.Text.{Spells, read_of, text_of, whole_of, padded, unsigned, IsReadable}
use Rattle.hs_values.specs.Decimal.{IsDecimal}
use Rattle.hs_values.specs.declared.value.Dec.{Dec}

pub text_of-negative : (n scale : ℕ) → text_of (record { units = negsuc n; scale = scale }) ≡ 45 ∷ text_of (unsigned (suc n) scale)
unfolding text_of
text_of-negative n scale = refl

-- ---- without a sign a text begins with a digit

begins_with_digit : (ds more : List ℕ) (c : ℕ) (rest : List ℕ) → AllDigits 10 ds → 0 < length ds → ds ++ more ≡ c ∷ rest → 48 ≤ c
begins_with_digit [] more c rest all some e = absurd (omega arith)
begins_with_digit (d ∷ ds) more c rest all some e =
    let same : d ≡ c = cc in let digit : IsInRange 48 57 d = digit_from_value d all.0 in omega (arith, digit)

numeral : (n : ℕ) → n < 10 ^ 38 → IsNumeral 10 (decimal n)
numeral n fits = (decimal_is_IsNumeral_wide n (omega arith)).0

value : (n : ℕ) → n < 10 ^ 38 → digits_value 10 (decimal n) ≡ n
value n fits = (decimal_is_IsNumeral_wide n (omega arith)).1

front_fits : (size scale : ℕ) → size < 10 ^ 38 → size / 10 ^ scale < 10 ^ 38
front_fits size scale fits = omega (arith, div-le_self size (10 ^ scale))

pub no_sign : (size scale : ℕ) (rest : List ℕ) → IsDecimal (unsigned size scale) → text_of (unsigned size scale) ≢ 45 ∷ rest
no_sign size zero rest lawful e =
    let n = numeral size lawful.digits in
    let first : 48 ≤ 45 = begins_with_digit (decimal size) [] 45 rest n.1 n.0 (append-nil (decimal size) ∙ sym (text_of-whole size) ∙ e) in
    omega (arith, first)
no_sign size (suc k) rest lawful e =
    let scale : ℕ = suc k in
    let n = numeral (size / 10 ^ scale) (front_fits size scale lawful.digits) in
    let first : 48 ≤ 45 = begins_with_digit (decimal (size / 10 ^ scale)) (46 ∷ padded scale (size % 10 ^ scale)) 45 rest n.1 n.0 (sym (text_of-pointed size scale (omega arith)) ∙ e) in
    omega (arith, first)

-- ---- digits behind a 0 and a point

-- a numeral, a point and more digits begin with a 0 and a point where the numeral is 0
zero_front : (ds more rest : List ℕ) → AllDigits 10 ds → 0 < length ds → ds ++ 46 ∷ more ≡ 48 ∷ 46 ∷ rest → (digits_value 10 ds ≡ 0) × (more ≡ rest)
zero_front [] more rest all some e = absurd (omega arith)
zero_front (d ∷ []) more rest all some e = let first : d ≡ 48 = cc in let behind : more ≡ rest = cc in (ap (λ c. digits_value 10 (c ∷ [])) first, behind)
zero_front (d ∷ c ∷ ds) more rest all some e =
    let second : c ≡ 46 = cc in let digit : IsInRange 48 57 c = digit_from_value c all.1.0 in absurd (omega (arith, digit))

-- a numeral alone does not
no_point : (ds rest : List ℕ) → AllDigits 10 ds → ds ≢ 48 ∷ 46 ∷ rest
no_point [] rest all e = cc
no_point (d ∷ []) rest all e = cc
no_point (d ∷ c ∷ ds) rest all e = let second : c ≡ 46 = cc in let digit : IsInRange 48 57 c = digit_from_value c all.1.0 in absurd (omega (arith, digit))

pub below_one_found : (size scale : ℕ) (fraction : List ℕ) (answer : Option Dec) → (length fraction ≤ 38 → all_ascii_digits fraction ≡ true → answer ≡ Some (unsigned (digits_value 10 fraction) (length fraction))) → IsDecimal (unsigned size scale) → text_of (unsigned size scale) ≡ 48 ∷ 46 ∷ fraction → answer ≡ Some (unsigned size scale)
below_one_found size zero fraction answer found lawful e =
    absurd (no_point (decimal size) fraction (numeral size lawful.digits).1 (sym (text_of-whole size) ∙ e))
below_one_found size (suc k) fraction answer found lawful e =
    let scale : ℕ = suc k in
    let one : 0 < 10 ^ scale = one-le-pow scale 10 (omega arith) in
    let front = size / 10 ^ scale in
    let back = size % 10 ^ scale in
    let n = numeral front (front_fits size scale lawful.digits) in
    let parts = zero_front (decimal front) (padded scale back) fraction n.1 n.0 (sym (text_of-pointed size scale (omega arith)) ∙ e) in
    let none : front ≡ 0 = sym (value front (front_fits size scale lawful.digits)) ∙ parts.0 in
    let all : front * 10 ^ scale + back ≡ size = omega (arith, div-add-mod size (10 ^ scale)) in
    let same : back ≡ size = sym (ap (λ m. m * 10 ^ scale + back) none ∙ zero-mul-add (10 ^ scale) back) ∙ all in
    let wide : back < 10 ^ 64 = omega (arith, same, lawful.digits) in
    let f = fills scale back (omega arith) (mod-lt size one) wide in
    let long : length fraction ≡ scale = ap length (sym parts.1) ∙ f.size in
    let is : digits_value 10 fraction ≡ size = ap (digits_value 10) (sym parts.1) ∙ f.value ∙ same in
    let digits : AllDigits 10 fraction = subst (AllDigits 10) parts.1 f.all in
    found (omega (arith, long, lawful.places)) (tested.from fraction digits) ∙ (λ i. Some (unsigned (is i) (long i)))
  where
    zero-mul-add : (m n : ℕ) → 0 * m + n ≡ n
    zero-mul-add m n = omega arith

-- ---- others

few_front : (size scale : ℕ) → size < 10 ^ 38 → scale ≤ 38 → 0 < size / 10 ^ scale → length (decimal (size / 10 ^ scale)) + scale ≤ 38
few_front size scale few places some =
    let one : 0 < 10 ^ scale = one-le-pow scale 10 (omega arith) in
    let room : 10 ^ (38 - scale) * 10 ^ scale ≡ 10 ^ 38 = sym (pow-add 10 (38 - scale) scale) ∙ ap (λ k. 10 ^ k) {y = 38} (omega arith) in
    let below : size / 10 ^ scale < 10 ^ (38 - scale) = (div-lt_iff_lt-mul one).1 (rw room (omega arith)) in
    let wide : size / 10 ^ scale < 10 ^ 64 = omega (arith, front_fits size scale few) in
    elim (cases_Bool (38 - scale == 0)) [
      | inl h ↦
          let none : 38 - scale ≡ 0 = eqb-true (38 - scale) 0 h in
          let least : size / 10 ^ scale < 10 ^ 0 = subst (λ k. size / 10 ^ scale < 10 ^ k) none below in
          absurd (omega arith)
      | inr h ↦
          let more : 38 - scale ≢ 0 = eqb-false (38 - scale) 0 h in
          let short : length (decimal (size / 10 ^ scale)) ≤ 38 - scale = length-decimal-le_wide (38 - scale) (size / 10 ^ scale) (omega arith) below wide in
          omega (arith, short)
    ]

not_zero_front : (size scale : ℕ) → 0 < scale → ((rest : List ℕ) → text_of (unsigned size scale) ≢ 48 ∷ 46 ∷ rest) → size / 10 ^ scale ≢ 0
not_zero_front size scale some others none =
    others (padded scale (size % 10 ^ scale)) (text_of-pointed size scale some ∙ ap (λ n. decimal n ++ 46 ∷ padded scale (size % 10 ^ scale)) none ∙ ap (λ ds. ds ++ 46 ∷ padded scale (size % 10 ^ scale)) (decimal_digit 0 (omega arith)))

readable : (size scale : ℕ) → IsDecimal (unsigned size scale) → ((rest : List ℕ) → text_of (unsigned size scale) ≢ 48 ∷ 46 ∷ rest) → IsReadable (unsigned size scale)
readable size zero lawful others =
    let few : length (decimal size) ≤ 38 = length-decimal-le_wide 38 size (omega arith) lawful.digits (omega (arith, lawful.digits)) in
    record { unsigned = omega (arith, ints); few = rw (div-one size) (omega arith) }
readable size (suc k) lawful others =
    let front : size / 10 ^ suc k ≢ 0 = not_zero_front size (suc k) (omega arith) others in
    record { unsigned = omega (arith, ints); few = few_front size (suc k) lawful.digits lawful.places (omega arith) }

pub other_read : (size scale : ℕ) (line : List ℕ) → ((rest : List ℕ) → line ≢ 48 ∷ 46 ∷ rest) → IsDecimal (unsigned size scale) → text_of (unsigned size scale) ≡ line → read_of line ≡ Some (unsigned size scale)
other_read size scale line others lawful e =
    let not_below : (rest : List ℕ) → text_of (unsigned size scale) ≢ 48 ∷ 46 ∷ rest = λ rest is. others rest (sym e ∙ is) in
    is_read line (unsigned size scale) (subst (λ text. Spells text (unsigned size scale)) e (spelled_back (pos size) scale lawful (readable size scale lawful not_below)))

-- ---- signs

-- a 0 in front, and then a point
pub behind_both : (line rest : List ℕ) (answer : Option (Bor (List ℕ))) → line ≡ 48 ∷ rest → MatchOption answer ((more : List ℕ) → rest ≢ 46 ∷ more) (λ more. rest ≡ 46 ∷ more.now) → MatchOption answer ((more : List ℕ) → line ≢ 48 ∷ 46 ∷ more) (λ more. line ≡ 48 ∷ 46 ∷ more.now)
behind_both line rest None first others = λ more is. others more (let tails : rest ≡ 46 ∷ more = cc in tails)
behind_both line rest (Some more) first second = first ∙ ap (λ l. 48 ∷ l) second

-- digits that are few make a small number
pub below_few : (ds : List ℕ) (n : ℕ) → length ds ≤ 38 → all_ascii_digits ds ≡ true → n ≡ digits_value 10 ds → n < 10 ^ 38
below_few ds n few all is = omega (arith, is, few_digits 38 ds (tested.to ds all) few)

-- a text without a sign is of no number below zero
pub unsigned_found : (line : List ℕ) (answer : Option Dec) → ((rest : List ℕ) → line ≢ 45 ∷ rest) → ((size scale : ℕ) → IsDecimal (unsigned size scale) → text_of (unsigned size scale) ≡ line → answer ≡ Some (unsigned size scale)) → (a : Dec) → IsDecimal a → text_of a ≡ line → answer ≡ Some a
unsigned_found line answer others found a lawful e = by a.units a.scale lawful e
  where
    by : (units : ℤ) (scale : ℕ) → IsDecimal (record { units = units; scale = scale }) → text_of (record { units = units; scale = scale }) ≡ line → answer ≡ Some (record { units = units; scale = scale })
    by (pos size) scale legal is = found size scale legal is
    by (negsuc n) scale legal is = absurd (others (text_of (unsigned (suc n) scale)) (sym is ∙ text_of-negative n scale))

-- one with a sign is of the number that is as far below zero
pub signed_found : (line rest : List ℕ) (answer : Option Dec) → line ≡ 45 ∷ rest → ((size scale : ℕ) → IsDecimal (unsigned size scale) → text_of (unsigned size scale) ≡ rest → answer ≡ Some (unsigned size scale)) → (a : Dec) → IsDecimal a → text_of a ≡ line → answer ≡ Some (record { units = pos 0 -ℤ a.units; scale = a.scale })
signed_found line rest answer sign found a lawful e = by a.units a.scale lawful e
  where
    by : (units : ℤ) (scale : ℕ) → IsDecimal (record { units = units; scale = scale }) → text_of (record { units = units; scale = scale }) ≡ line → answer ≡ Some (record { units = pos 0 -ℤ units; scale = scale })
    by (pos size) scale legal is = absurd (no_sign size scale rest legal (is ∙ sign))
    by (negsuc n) scale legal is =
        let whole : 45 ∷ text_of (unsigned (suc n) scale) ≡ 45 ∷ rest = sym (text_of-negative n scale) ∙ is ∙ sign in
        let same : text_of (unsigned (suc n) scale) ≡ rest = cc in
        found (suc n) scale (record { digits = legal.digits; places = legal.places }) same ∙ (λ i. Some (record { units = pos (sym (zero-add (suc n)) i); scale = scale }))

size_turned : (z : ℤ) → unsigned_abs (pos 0 -ℤ z) ≡ unsigned_abs z
size_turned z = omega (arith, ints)

turned_twice : (z : ℤ) → pos 0 -ℤ (pos 0 -ℤ z) ≡ z
turned_twice z = omega (arith, ints)

pub turned_few : (z : ℤ) → unsigned_abs z < 10 ^ 38 → unsigned_abs (pos 0 -ℤ z) < 10 ^ 38
turned_few z few = subst (λ n. n < 10 ^ 38) (sym (size_turned z)) few

pub turned_back : (a d : Dec) → Some d ≡ Some (record { units = pos 0 -ℤ a.units; scale = a.scale }) → Some (record { units = pos 0 -ℤ d.units; scale = d.scale }) ≡ Some a
turned_back a d h =
    let same : d ≡ record { units = pos 0 -ℤ a.units; scale = a.scale } = cc in
    ap (λ (x : Dec). let turned : Dec = record { units = pos 0 -ℤ x.units; scale = x.scale } in Some turned) same ∙ (λ i. Some (record { units = turned_twice a.units i; scale = a.scale }))
