-- Numbers, days and moments that are written so.
use Rattle.std.proofs.Common.{◌≡◌, ◌≢◌, ℕ, ℤ, pos, negsuc, ◌-◌, ◌<◌, ◌^◌, true, List, [], ◌∷◌, ◌++◌, length, take, drop, Result, Ok, FitsSigned, refl, sym, ap, ◌∙◌, length-drop}
use Rattle.std.specs.Prelude.{codes}
use Rattle.std.specs.Fmt.{decimal, signed_decimal}
use Rattle.std.specs.Int.{w64}
use Rattle.std.specs.Int.Signed.{mag}
use Rattle.std.specs.Str.Parse.{ParsesSigned, ParsesUnsigned}
use Rattle.std.proofs.lemmas.Bool.{ltb-true, lt-ltb}
use Rattle.std.proofs.lemmas.Fmt.{parse-signed_decimal, parse-decimal, signed_decimal_injective, decimal_injective}
use Rattle.std.proofs.lemmas.List.{take-append-drop}
use Rattle.hs_temporal.specs.Days.{IsDay, IsMicros}
use Rattle.hs_temporal.specs.Texts.{date_text, stamp_text, filled}
use Rattle.hs_temporal.proofs.FractionLemmas.{fraction-full}
use Rattle.hs_temporal.proofs.StampLemmas.{date_text-injective, stamp_text-injective, length-stamp_text}
use Rattle.hs_values.specs.SqlType.{is_signed}
use Rattle.hs_valuetext.specs.Values.{IsSigned, IsUnsigned, IsDayText, IsMomentText}

small : (n : ℤ) → is_signed 63 n ≡ true → mag n < 2 ^ 63
small (pos n) h = ltb-true n (2 ^ 63) h
small (negsuc n) h = ltb-true n (2 ^ 63) h

pub signed_of : (n : ℤ) → FitsSigned w64 n → is_signed 63 n ≡ true
signed_of (pos n) h = lt-ltb n (2 ^ 63) h.sfits
signed_of (negsuc n) h = lt-ltb n (2 ^ 63) h.sfits

pub signed_parsed : {E : Type 0} (text : List ℕ) (r : Result ℤ E) → ParsesSigned w64 10 text r → (n : ℤ) → IsSigned text n → r ≡ Ok n
signed_parsed text r parses n h = parse-signed_decimal w64 n text r (record { sfits = small n h.lawful }) (small n h.lawful) (sym h.written) parses

pub signed_found : (text : List ℕ) (n : ℤ) → FitsSigned w64 n → signed_decimal n ≡ text → IsSigned text n × ((m : ℤ) → IsSigned text m → m ≡ n)
signed_found text n fits e =
    let lawful = signed_of n fits in
    (record { lawful = lawful; written = e }, λ m h. signed_decimal_injective m n (small m h.lawful) (small n lawful) (h.written ∙ sym e))

pub unsigned_parsed : {E : Type 0} (text : List ℕ) (r : Result ℕ E) → ParsesUnsigned 64 10 text r → (n : ℕ) → IsUnsigned text n → r ≡ Ok n
unsigned_parsed text r parses n h = parse-decimal 64 n text r h.lawful h.lawful (sym h.written) parses

pub unsigned_found : (text : List ℕ) (n : ℕ) → n < 2 ^ 64 → decimal n ≡ text → IsUnsigned text n × ((m : ℕ) → IsUnsigned text m → m ≡ n)
unsigned_found text n fits e = (record { lawful = fits; written = e }, λ m h. decimal_injective m n h.lawful fits (h.written ∙ sym e))

-- ---- between a front and a quote

same_back : (xs ys : List ℕ) → xs ++ 39 ∷ [] ≡ ys ++ 39 ∷ [] → xs ≡ ys
same_back [] [] e = refl
same_back [] (y ∷ []) e = absurd cc
same_back [] (y ∷ z ∷ ys) e = absurd cc
same_back (x ∷ []) [] e = absurd cc
same_back (x ∷ z ∷ xs) [] e = absurd cc
same_back (x ∷ xs) (y ∷ ys) e =
    let first : x ≡ y = cc in
    let behind : xs ++ 39 ∷ [] ≡ ys ++ 39 ∷ [] = cc in
    λ i. first i ∷ same_back xs ys behind i

pub same_front : (p xs ys : List ℕ) → p ++ xs ≡ p ++ ys → xs ≡ ys
same_front [] xs ys e = e
same_front (b ∷ p) xs ys e = let behind : p ++ xs ≡ p ++ ys = cc in same_front p xs ys behind

-- what stands between is one
pub same_between : (p xs ys : List ℕ) → (p ++ xs) ++ 39 ∷ [] ≡ (p ++ ys) ++ 39 ∷ [] → xs ≡ ys
same_between p xs ys e = same_front p xs ys (same_back (p ++ xs) (p ++ ys) e)

-- ---- days

pub day_found : (text date : List ℕ) (day : ℤ) → text ≡ (codes "DATE '" ++ date) ++ codes "'" → IsDay day × (date_text day ≡ date) → IsDayText text day × ((d : ℤ) → IsDayText text d → d ≡ day)
day_found text date day e read = (
  record { lawful = read.0; written = ap (λ (xs : List ℕ). (codes "DATE '" ++ xs) ++ codes "'") read.1 ∙ sym e },
  λ d h. date_text-injective d day h.lawful read.0 (same_between (codes "DATE '") (date_text d) date (h.written ∙ e) ∙ sym read.1),
)

pub day_missing : (text date : List ℕ) → text ≡ (codes "DATE '" ++ date) ++ codes "'" → ((day : ℤ) → IsDay day → date_text day ≢ date) → (d : ℤ) → ¬ (IsDayText text d)
day_missing text date e none d h = none d h.lawful (same_between (codes "DATE '") (date_text d) date (h.written ∙ e))

pub day_unwritten : (text : List ℕ) → ((content : List ℕ) → text ≢ (codes "DATE '" ++ content) ++ codes "'") → (d : ℤ) → ¬ (IsDayText text d)
day_unwritten text other d h = other (date_text d) (sym h.written)

-- ---- moments

full : (text : List ℕ) → length text ≡ 26 → filled text ≡ text
unfolding filled
full text long =
    let seven : length (drop 19 text) ≡ 7 = length-drop 19 text ∙ ap (λ n. n - 19) long in
    ap (λ (xs : List ℕ). take 19 text ++ xs) (fraction-full (drop 19 text) seven) ∙ take-append-drop 19 text

pub moment_found : (text stamp : List ℕ) (micros : ℤ) → text ≡ (codes "TIMESTAMP '" ++ stamp) ++ codes "'" → length stamp ≡ 26 → IsMicros micros × (stamp_text micros ≡ filled stamp) → IsMomentText text micros × ((m : ℤ) → IsMomentText text m → m ≡ micros)
moment_found text stamp micros e long read =
    let is : stamp_text micros ≡ stamp = read.1 ∙ full stamp long in (
      record { lawful = read.0; written = ap (λ (xs : List ℕ). (codes "TIMESTAMP '" ++ xs) ++ codes "'") is ∙ sym e },
      λ m h. stamp_text-injective m micros h.lawful read.0 (same_between (codes "TIMESTAMP '") (stamp_text m) stamp (h.written ∙ e) ∙ sym is),
    )

pub moment_missing : (text stamp : List ℕ) → text ≡ (codes "TIMESTAMP '" ++ stamp) ++ codes "'" → length stamp ≡ 26 → ((micros : ℤ) → IsMicros micros → stamp_text micros ≢ filled stamp) → (m : ℤ) → ¬ (IsMomentText text m)
moment_missing text stamp e long none m h = none m h.lawful (same_between (codes "TIMESTAMP '") (stamp_text m) stamp (h.written ∙ e) ∙ sym (full stamp long))

pub moment_short : (text stamp : List ℕ) → text ≡ (codes "TIMESTAMP '" ++ stamp) ++ codes "'" → length stamp ≢ 26 → (m : ℤ) → ¬ (IsMomentText text m)
moment_short text stamp e other m h = other (sym (ap length (same_between (codes "TIMESTAMP '") (stamp_text m) stamp (h.written ∙ e))) ∙ length-stamp_text m)

pub moment_unwritten : (text : List ℕ) → ((content : List ℕ) → text ≢ (codes "TIMESTAMP '" ++ content) ++ codes "'") → (m : ℤ) → ¬ (IsMomentText text m)
moment_unwritten text other m h = other (stamp_text m) (sym h.written)
