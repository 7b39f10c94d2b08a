-- Digits, and the number that they write.
use Rattle.std.proofs.Common.{◌≡◌, ℕ, ◌+◌, ◌-◌, ◌*◌, ◌^◌, ◌<◌, ◌≤◌, true, false, List, [], ◌∷◌, ◌++◌, length, get_or, take, refl, sym, ◌∙◌, arith}
use Rattle.std.specs.Char.{digit_value, is_ascii_digit}
use Rattle.std.specs.Int.{IsInRange}
use Rattle.std.specs.Str.{all_ascii_digits}
use Rattle.std.specs.Str.Parse.{AllDigits, digits_value, digits_value_after}
use Rattle.std.proofs.lemmas.Bool.Decides.{nat_tests}
use Rattle.std.proofs.lemmas.Int.Digits.{digits_value-lt, digits_more, digits_value_more}
use Rattle.std.proofs.lemmas.List.{length-take, length-append}
use Rattle.std.proofs.lemmas.Str.Parse.{IsNumeralModel, numerals_by_value, tells_all_ascii_digits, digit_at}
use Rattle.std.proofs.Math.Nat.{pow-le-pow_right, pow-suc}

-- `all_ascii_digits` tests for the digits that `parse` reads
pub tested : IsNumeralModel (λ ds. all_ascii_digits ds ≡ true) (digits_value 10)
tested = numerals_by_value (λ ds. all_ascii_digits ds ≡ true) tells_all_ascii_digits

digit_byte : (c : ℕ) → is_ascii_digit c ≡ true → (digit_value c < 10) × (digit_value c ≡ c - 48)
digit_byte c is = grind (arith, nat_tests)

byte_digit : (c : ℕ) → is_ascii_digit c ≡ false → ¬ (IsInRange 48 57 c)
byte_digit c is = grind (arith, nat_tests)

pub few_digits : (k : ℕ) (ds : List ℕ) → AllDigits 10 ds → length ds ≤ k → digits_value 10 ds < 10 ^ k
few_digits k ds all few =
    let most : 10 ^ length ds ≤ 10 ^ k = pow-le-pow_right {n = 10} (omega arith) few in
    omega (arith, digits_value-lt 10 ds all)

-- ---- one digit more

pub all_more : (ds : List ℕ) (i : ℕ) → i < length ds → AllDigits 10 (take i ds) → is_ascii_digit (get_or ds i 0) ≡ true → AllDigits 10 (take (i + 1) ds)
all_more ds i lt all is = digits_more 10 ds i lt all (digit_byte (get_or ds i 0) is).0

pub value_more : (ds : List ℕ) (i n : ℕ) → i < length ds → n ≡ digits_value 10 (take i ds) → is_ascii_digit (get_or ds i 0) ≡ true → 10 * n + (get_or ds i 0 - 48) ≡ digits_value 10 (take (i + 1) ds)
value_more ds i n lt so_far is = omega (arith, digits_value_more 10 ds i lt, (digit_byte (get_or ds i 0) is).1)

pub still_few : (ds : List ℕ) (i n : ℕ) → length ds ≤ 38 → i < length ds → AllDigits 10 (take i ds) → n ≡ digits_value 10 (take i ds) → is_ascii_digit (get_or ds i 0) ≡ true → 10 * n + (get_or ds i 0 - 48) < 10 ^ 38
still_few ds i n few lt all so_far is =
    omega (arith, value_more ds i n lt so_far is, few_digits 38 (take (i + 1) ds) (all_more ds i lt all is) (omega (arith, length-take (i + 1) ds)))

pub not_all : (ds : List ℕ) (i : ℕ) → i < length ds → is_ascii_digit (get_or ds i 0) ≡ false → ¬ (all_ascii_digits ds ≡ true)
not_all ds i lt is all = byte_digit (get_or ds i 0) is (digit_at ds i (tested.to ds all) lt)

-- ---- digits behind digits

-- the digits behind a number
after_number : (n : ℕ) (ds : List ℕ) → digits_value_after 10 n ds ≡ n * 10 ^ length ds + digits_value 10 ds
after_number n [] = omega arith
after_number n (c ∷ ds) =
    let power : 10 ^ length (c ∷ ds) ≡ 10 ^ length ds * 10 = pow-suc 10 (length ds) in
    let here : digits_value_after 10 n (c ∷ ds) ≡ (n * 10 + digit_value c) * 10 ^ length ds + digits_value 10 ds = after_number (n * 10 + digit_value c) ds in
    let alone : digits_value 10 (c ∷ ds) ≡ (0 + digit_value c) * 10 ^ length ds + digits_value 10 ds = after_number (0 + digit_value c) ds in
    rw power (omega (arith, here, alone))

pub digits_value-append : (xs ys : List ℕ) → digits_value 10 (xs ++ ys) ≡ digits_value 10 xs * 10 ^ length ys + digits_value 10 ys
digits_value-append xs ys = joined 0 xs ∙ after_number (digits_value 10 xs) ys
  where
    joined : (n : ℕ) (zs : List ℕ) → digits_value_after 10 n (zs ++ ys) ≡ digits_value_after 10 (digits_value_after 10 n zs) ys
    joined n [] = refl
    joined n (z ∷ zs) = joined (n * 10 + digit_value z) zs

pub all-append : (xs ys : List ℕ) → AllDigits 10 xs → AllDigits 10 ys → AllDigits 10 (xs ++ ys)
all-append [] ys all more = more
all-append (x ∷ xs) ys (digit, all) more = (digit, all-append xs ys all more)

-- the digits in front of a point and those behind it, as one number
pub joined : (xs ys : List ℕ) (x y ten : ℕ) → all_ascii_digits xs ≡ true → all_ascii_digits ys ≡ true → x ≡ digits_value 10 xs → y ≡ digits_value 10 ys → ten ≡ 10 ^ length ys → x * ten + y ≡ digits_value 10 (xs ++ ys)
joined xs ys x y ten all more ex ey et = rw (ex, ey, et) (sym (digits_value-append xs ys))

pub joined_few : (xs ys : List ℕ) (x y ten : ℕ) → length xs + length ys ≤ 38 → all_ascii_digits xs ≡ true → all_ascii_digits ys ≡ true → x ≡ digits_value 10 xs → y ≡ digits_value 10 ys → ten ≡ 10 ^ length ys → x * ten + y < 10 ^ 38
joined_few xs ys x y ten few all more ex ey et =
    omega (
      arith,
      joined xs ys x y ten all more ex ey et,
      few_digits 38 (xs ++ ys) (all-append xs ys (tested.to xs all) (tested.to ys more)) (omega (arith, length-append xs ys)),
    )
