-- Texts of fixed numbers of digits, and of the dates and times that they make.
use Rattle.std.proofs.Common.{◌≡◌, ℕ, zero, suc, ◌+◌, ◌*◌, ◌/◌, ◌%◌, ◌^◌, ◌<◌, ◌≤◌, List, [], ◌∷◌, ◌++◌, length, get_or, take, drop, inl, inr, refl, sym, ap, ◌∙◌, arith, length-append, length-drop, append_assoc, drop-cons}
use Rattle.std.specs.Prelude.{slice_range}
use Rattle.std.proofs.Math.Seq.{get_or-append_seam}
use Rattle.std.proofs.Math.ListN.{get_or-append}
use Rattle.std.proofs.lemmas.Bool.{cases_lt}
use Rattle.std.proofs.lemmas.List.{take-append-drop, length-take}
use Rattle.std.proofs.lemmas.List.Folds.{drop_split}
use Rattle.std.specs.Str.{IsAscii}
use Rattle.std.proofs.lemmas.Str.{IsAscii-append}
use Rattle.std.proofs.lemmas.Str.Ascii.{IsAscii-nil}
use Rattle.hs_temporal.specs.Texts.{digits, fields}

pub length-digits : (places n : ℕ) → length (digits places n) ≡ places
unfolding digits
length-digits zero n = refl
length-digits (suc places) n = simp length-append (omega (arith, length-digits places (n / 10)))

-- digits are as many as the text has bytes
pub as_long : (places n : ℕ) (text : List ℕ) → digits places n ≡ text → digits (length text) n ≡ text
as_long places n text e =
    let long : length text ≡ places = sym (ap length e) ∙ length-digits places n in
    rw long e

pub one_ascii : (n : ℕ) → n < 128 → IsAscii (n ∷ [])
one_ascii n h zero = h
one_ascii n h (suc i) = omega arith

pub IsAscii-digits : (places n : ℕ) → IsAscii (digits places n)
unfolding digits
IsAscii-digits zero n = IsAscii-nil
IsAscii-digits (suc places) n = IsAscii-append _ _ (IsAscii-digits places (n / 10)) (one_ascii _ (omega arith))

-- one more digit
pub digits-suc : (places n digit : ℕ) → digit < 10 → digits (suc places) (n * 10 + digit) ≡ digits places n ++ (48 + digit) ∷ []
unfolding digits
digits-suc places n digit h =
    let front : (n * 10 + digit) / 10 ≡ n = omega arith in
    let back : (n * 10 + digit) % 10 ≡ digit = omega arith in
    rw (front, back) refl

-- two lists in two parts each, of which the first are as long
pub append_split : (a c b d : List ℕ) → length a ≡ length c → a ++ b ≡ c ++ d → (a ≡ c) × (b ≡ d)
append_split [] [] b d h e = (refl, e)
append_split [] (y ∷ c) b d h e = absurd (omega arith)
append_split (x ∷ a) [] b d h e = absurd (omega arith)
append_split (x ∷ a) (y ∷ c) b d h e =
    let first : x ≡ y = cc in
    let rest : a ++ b ≡ c ++ d = cc in
    let p = append_split a c b d (omega arith) rest in
    (cc (p.0), p.1)

pub digits-injective : (places m n : ℕ) → m < 10 ^ places → n < 10 ^ places → digits places m ≡ digits places n → m ≡ n
unfolding digits
digits-injective zero m n h k e = omega arith
digits-injective (suc places) m n h k e =
    let p = append_split (digits places (m / 10)) (digits places (n / 10)) _ _ (length-digits places (m / 10) ∙ sym (length-digits places (n / 10))) e in
    let last : 48 + m % 10 ≡ 48 + n % 10 = cc (p.1) in
    let front = digits-injective places (m / 10) (n / 10) (omega arith) (omega arith) p.0 in
    omega arith

-- each byte of them is a digit
pub digit_at : (places n i : ℕ) → i < places → (48 ≤ get_or (digits places n) i 0) × (get_or (digits places n) i 0 ≤ 57)
unfolding digits
digit_at zero n i h = absurd (omega arith)
digit_at (suc places) n i h =
    let long = length-digits places (n / 10) in
    elim (cases_lt i places) [
      | inl front ↦
          let within : i < length (digits places (n / 10)) = omega arith in
          rw get_or-append (digit_at places (n / 10) i front)
      | inr back ↦
          let last : i ≡ length (digits places (n / 10)) = omega arith in
          rw (last, get_or-append_seam (digits places (n / 10)) (48 + n % 10) [] 0) (omega arith, omega arith)
    ]

-- a text in the parts that two bytes separate
pieces : (text : List ℕ) (places : ℕ) → length text ≡ places + 6 → text ≡ take places text ++ (get_or text places 0 ∷ (slice_range text (places + 1) (places + 3) ++ (get_or text (places + 3) 0 ∷ drop (places + 4) text)))
pieces text places h =
    let within : places < length text = omega arith in
    let also : places + 3 < length text = omega arith in
    let next : suc places ≡ places + 1 = omega arith in
    let last : suc (places + 3) ≡ places + 4 = omega arith in
    let one = rw next at (drop-cons text places 0 within) in
    let two = drop_split text (places + 1) (places + 3) (omega arith) in
    let three = rw last at (drop-cons text (places + 3) 0 also) in
    sym (take-append-drop places text)
    ∙ ap (λ rest. take places text ++ rest) (one
    ∙ ap (λ rest. get_or text places 0 ∷ rest) (two
    ∙ ap (λ rest. slice_range text (places + 1) (places + 3) ++ rest) three))

-- what a text of three numbers holds at its places
pub record AreFields (text : List ℕ) (places between a b c : ℕ) : Type 0 where
  pub long : length text ≡ places + 6
  pub first_byte : get_or text places 0 ≡ between
  pub second_byte : get_or text (places + 3) 0 ≡ between
  pub first : digits places a ≡ take places text
  pub second : digits 2 b ≡ slice_range text (places + 1) (places + 3)
  pub third : digits 2 c ≡ drop (places + 4) text

-- the same text, grouped from the right
fields_right : (places between a b c : ℕ) → fields places (between ∷ []) a b c ≡ digits places a ++ (between ∷ (digits 2 b ++ (between ∷ digits 2 c)))
fields_right places between a b c = simp append_assoc refl

pub length-fields : (places between a b c : ℕ) → length (fields places (between ∷ []) a b c) ≡ places + 6
length-fields places between a b c =
    let first = length-digits places a in
    let second = length-digits 2 b in
    let third = length-digits 2 c in
    simp length-append (omega arith)

pub fields_are : (text : List ℕ) (places between a b c : ℕ) → fields places (between ∷ []) a b c ≡ text → AreFields text places between a b c
fields_are text places between a b c e =
    let long : length text ≡ places + 6 = sym (ap length e) ∙ length-fields places between a b c in
    let same = sym (fields_right places between a b c) ∙ e ∙ pieces text places long in
    let front : length (digits places a) ≡ length (take places text) = rw (length-digits places a, length-take places text) (omega arith) in
    let p = append_split (digits places a) (take places text) _ _ front same in
    let byte : between ≡ get_or text places 0 = cc (p.1) in
    let rest : digits 2 b ++ (between ∷ digits 2 c) ≡ slice_range text (places + 1) (places + 3) ++ (get_or text (places + 3) 0 ∷ drop (places + 4) text) = cc (p.1) in
    let middle : length (digits 2 b) ≡ length (slice_range text (places + 1) (places + 3)) = rw (length-digits 2 b, length-take, length-drop) (omega arith) in
    let q = append_split (digits 2 b) (slice_range text (places + 1) (places + 3)) _ _ middle rest in
    record {
      long = long;
      first_byte = sym byte;
      second_byte = cc (q.1);
      first = p.0;
      second = q.0;
      third = cc (q.1);
    }

-- a text is that of one triple of numbers
pub same_fields : (text : List ℕ) (places between a b c x y z : ℕ) → AreFields text places between a b c → AreFields text places between x y z → (a < 10 ^ places) × (b < 100) × (c < 100) → (x < 10 ^ places) × (y < 100) × (z < 100) → (a ≡ x) × (b ≡ y) × (c ≡ z)
same_fields text places between a b c x y z h k small also = (
  digits-injective places a x small.0 also.0 (h.first ∙ sym k.first),
  digits-injective 2 b y (omega arith) (omega arith) (h.second ∙ sym k.second),
  digits-injective 2 c z (omega arith) (omega arith) (h.third ∙ sym k.third),
)

pub IsAscii-fields : (places between a b c : ℕ) → between < 128 → IsAscii (fields places (between ∷ []) a b c)
IsAscii-fields places between a b c h =
    IsAscii-append _ _ (IsAscii-append _ _ (IsAscii-append _ _ (IsAscii-append _ _ (IsAscii-digits places a) (one_ascii between h)) (IsAscii-digits 2 b)) (one_ascii between h)) (IsAscii-digits 2 c)

-- the bytes of a date
pub date_bytes_are : (year month day a b c d e f g h : ℕ) → (a ≡ 48 + year / 1000 % 10) × (b ≡ 48 + year / 100 % 10) × (c ≡ 48 + year / 10 % 10) × (d ≡ 48 + year % 10) → (e ≡ 48 + month / 10 % 10) × (f ≡ 48 + month % 10) → (g ≡ 48 + day / 10 % 10) × (h ≡ 48 + day % 10) → a ∷ b ∷ c ∷ d ∷ 45 ∷ e ∷ f ∷ 45 ∷ g ∷ h ∷ [] ≡ fields 4 (45 ∷ []) year month day
unfolding digits
date_bytes_are year month day a b c d e f g h years months days =
    let hundred : year / 10 / 10 ≡ year / 100 = omega arith in
    let thousand : year / 10 / 10 / 10 ≡ year / 1000 = omega arith in
    rw (years.0, years.1, years.2, years.3, months.0, months.1, days.0, days.1, thousand, hundred) refl

-- the bytes of a time of day
pub clock_bytes_are : (hour minute second a b c d e f : ℕ) → (a ≡ 48 + hour / 10 % 10) × (b ≡ 48 + hour % 10) → (c ≡ 48 + minute / 10 % 10) × (d ≡ 48 + minute % 10) → (e ≡ 48 + second / 10 % 10) × (f ≡ 48 + second % 10) → a ∷ b ∷ 58 ∷ c ∷ d ∷ 58 ∷ e ∷ f ∷ [] ≡ fields 2 (58 ∷ []) hour minute second
unfolding digits
clock_bytes_are hour minute second a b c d e f hours minutes seconds =
    rw (hours.0, hours.1, minutes.0, minutes.1, seconds.0, seconds.1) refl

pub part_bytes_are : (n a b c d e f : ℕ) → (a ≡ 48 + n / 100_000 % 10) × (b ≡ 48 + n / 10_000 % 10) × (c ≡ 48 + n / 1000 % 10) × (d ≡ 48 + n / 100 % 10) × (e ≡ 48 + n / 10 % 10) × (f ≡ 48 + n % 10) → a ∷ b ∷ c ∷ d ∷ e ∷ f ∷ [] ≡ digits 6 (n % 1_000_000)
unfolding digits
part_bytes_are n a b c d e f h =
    let one : f ≡ 48 + n % 1_000_000 % 10 = omega (arith, h) in
    let two : e ≡ 48 + n % 1_000_000 / 10 % 10 = omega (arith, h) in
    let three : d ≡ 48 + n % 1_000_000 / 10 / 10 % 10 = omega (arith, h) in
    let four : c ≡ 48 + n % 1_000_000 / 10 / 10 / 10 % 10 = omega (arith, h) in
    let five : b ≡ 48 + n % 1_000_000 / 10 / 10 / 10 / 10 % 10 = omega (arith, h) in
    let six : a ≡ 48 + n % 1_000_000 / 10 / 10 / 10 / 10 / 10 % 10 = omega (arith, h) in
    rw (one, two, three, four, five, six) refl
