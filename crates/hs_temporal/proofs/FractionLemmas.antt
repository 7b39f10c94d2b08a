-- Fractions of one to six digits, and none, filled up to six.
use Rattle.std.proofs.Common.{◌≡◌, ℕ, zero, suc, ◌+◌, ◌-◌, ◌*◌, ◌/◌, ◌%◌, ◌^◌, ◌<◌, ◌≤◌, List, [], ◌∷◌, ◌++◌, length, get_or, take, drop, codes, refl, sym, ap, ◌∙◌, arith, length-append, length-drop, append_assoc, drop-cons, pow-suc}
use Rattle.std.specs.Prelude.{replicate}
use Rattle.std.proofs.lemmas.List.{replicate-append-replicate, length-replicate, append-nil, take_rest}
use Rattle.std.proofs.lemmas.Nat.{pow-add}
use Rattle.std.proofs.Math.Nat.{pow-le-pow_right, mul-le-mul_right}
use Rattle.hs_temporal.specs.Texts.{digits, fraction}
use Rattle.hs_temporal.proofs.TextLemmas.{length-digits, append_split}

replicate-last : (more byte : ℕ) → replicate more byte ++ byte ∷ [] ≡ replicate (suc more) byte
replicate-last more byte =
    let one : more + 1 ≡ suc more = omega arith in
    replicate-append-replicate more 1 byte ∙ ap (λ k. replicate k byte) one

-- zeros behind a number's digits are those of its multiple by a power of ten
pub digits-zeros : (places more n : ℕ) → digits (places + more) (n * 10 ^ more) ≡ digits places n ++ replicate more 48
unfolding digits
digits-zeros places zero n =
    let same : places + 0 ≡ places = omega arith in
    let also : n * 10 ^ 0 ≡ n = omega arith in
    rw (same, also) (sym (append-nil (digits places n)))
digits-zeros places (suc more) n =
    let next : places + suc more ≡ suc (places + more) = omega arith in
    let tenfold : n * 10 ^ suc more ≡ n * 10 ^ more * 10 = rw (pow-suc 10 more) (grind arith) in
    let front : n * 10 ^ suc more / 10 ≡ n * 10 ^ more = omega arith in
    let last : n * 10 ^ suc more % 10 ≡ 0 = omega arith in
    rw (next, front, last) (ap (λ ds. ds ++ 48 ∷ []) (digits-zeros places more n)
    ∙ append_assoc (digits places n) (replicate more 48) (48 ∷ [])
    ∙ ap (λ ds. digits places n ++ ds) (replicate-last more 48))

-- the first of a number's digits are those of a smaller number
pub record Front (places more n : ℕ) : Type 0 where
  pub number : ℕ
  pub rest : List ℕ
  pub parts : digits (places + more) n ≡ digits places number ++ rest

pub digits_front : (places more n : ℕ) → Front places more n
unfolding digits
digits_front places zero n =
    let same : places + 0 ≡ places = omega arith in
    record { number = n; rest = []; parts = rw same (sym (append-nil (digits places n))) }
digits_front places (suc more) n =
    let next : places + suc more ≡ suc (places + more) = omega arith in
    let front = digits_front places more (n / 10) in
    record {
      number = front.number;
      rest = front.rest ++ (48 + n % 10) ∷ [];
      parts = rw (next, front.parts) (append_assoc (digits places front.number) front.rest ((48 + n % 10) ∷ []));
    }

-- behind a point and a digit or more zeros are added
pub fraction-long : (text : List ℕ) → 2 ≤ length text → fraction text ≡ text ++ replicate (7 - length text) 48
unfolding fraction
fraction-long [] h = absurd (omega arith)
fraction-long (point ∷ []) h = absurd (omega arith)
fraction-long (point ∷ digit ∷ more) h =
    let e : 5 - length more ≡ 7 - length (point ∷ digit ∷ more) = omega arith in
    ap (λ k. (point ∷ digit ∷ more) ++ replicate k 48) e

pub fraction-full : (text : List ℕ) → length text ≡ 7 → fraction text ≡ text
fraction-full text h =
    let none : 7 - length text ≡ 0 = omega arith in
    fraction-long text (omega arith) ∙ rw none (append-nil text)

pub no_fraction : (text : List ℕ) → length text ≡ 0 → codes "." ++ digits 6 0 ≡ fraction text
unfolding fraction digits
no_fraction [] h = refl
no_fraction (x ∷ xs) h = absurd (omega arith)

pub fraction_read : (text : List ℕ) (n : ℕ) → 2 ≤ length text → length text ≤ 7 → get_or text 0 0 ≡ 46 → digits (length text - 1) n ≡ drop 1 text → codes "." ++ digits 6 (n * 10 ^ (7 - length text)) ≡ fraction text
fraction_read text n low high point e =
    let more = 7 - length text in
    let within : 0 < length text = omega arith in
    let all : text ≡ 46 ∷ drop 1 text = rw point at (drop-cons text 0 0 within) in
    let places : length text - 1 + more ≡ 6 = omega arith in
    let six = rw (places, e) at (digits-zeros (length text - 1) more n) in
    ap (λ ds. 46 ∷ ds) six ∙ ap (λ front. front ++ replicate more 48) (sym all) ∙ sym (fraction-long text low)

-- what a text with six digits behind a point can be
pub record IsFraction (text : List ℕ) : Type 0 where
  pub point : get_or text 0 0 ≡ 46
  pub low : 2 ≤ length text
  pub high : length text ≤ 7
  pub number : ℕ
  pub read : digits (length text - 1) number ≡ drop 1 text

pub fraction_only : (text : List ℕ) (n : ℕ) → 0 < length text → codes "." ++ digits 6 n ≡ fraction text → IsFraction text
unfolding fraction
fraction_only [] n h e = absurd (omega arith)
fraction_only (point ∷ []) n h e =
    let long = ap length e in
    absurd (omega (arith, length-digits 6 n))
fraction_only (point ∷ digit ∷ more) n h e =
    let behind : digits 6 n ≡ (digit ∷ more) ++ replicate (5 - length more) 48 = cc (e) in
    let zeros = length-replicate {A = ℕ} (5 - length more) 48 in
    let long : 6 ≡ suc (length more) + (5 - length more) =
    sym (length-digits 6 n) ∙ ap length behind ∙ length-append (digit ∷ more) (replicate (5 - length more) 48) ∙ ap (λ k. suc (length more) + k) zeros in
    let few : length more ≤ 5 = omega arith in
    let places : suc (length more) + (5 - length more) ≡ 6 = omega arith in
    let front = digits_front (suc (length more)) (5 - length more) n in
    let p = append_split (digits (suc (length more)) front.number) (digit ∷ more) front.rest (replicate (5 - length more) 48) (length-digits (suc (length more)) front.number) (sym front.parts ∙ rw places behind) in
    let one : suc (suc (length more)) - 1 ≡ suc (length more) = omega arith in
    record {
      point = cc (e);
      low = omega arith;
      high = omega arith;
      number = front.number;
      read = rw one p.0;
    }

-- so many digits and then zeros are fewer than a million
pub six_digits : (long n : ℕ) → 2 ≤ long → long ≤ 7 → n < 10 ^ (long - 1) → n * 10 ^ (7 - long) < 1_000_000
six_digits long n low high h =
    let more : long - 1 + (7 - long) ≡ 6 = omega arith in
    let whole : 10 ^ (long - 1) * 10 ^ (7 - long) ≡ 1_000_000 = sym (pow-add 10 (long - 1) (7 - long)) ∙ ap (λ k. 10 ^ k) more in
    let least : 0 ≤ 7 - long = omega arith in
    let some = pow-le-pow_right {n = 10} (omega arith) least in
    let next : suc n * 10 ^ (7 - long) ≤ 10 ^ (long - 1) * 10 ^ (7 - long) = mul-le-mul_right (10 ^ (7 - long)) h in
    omega arith

-- the same, with the digits that were read
pub fraction_value : (text : List ℕ) (n power : ℕ) → 2 ≤ length text → length text ≤ 7 → get_or text 0 0 ≡ 46 → power ≡ 10 ^ (7 - length text) → (n < 10 ^ length (take (length text - 1) (drop 1 text))) × (digits (length (take (length text - 1) (drop 1 text))) n ≡ take (length text - 1) (drop 1 text)) → (n * power < 1_000_000) × (codes "." ++ digits 6 (n * power) ≡ fraction text)
fraction_value text n power low high point e h =
    let rest = take_rest text 1 in
    let long : length (drop 1 text) ≡ length text - 1 = length-drop 1 text in
    let told = rw (rest, long) at h in
    rw e (six_digits (length text) n low high told.0, fraction_read text n low high point told.1)
