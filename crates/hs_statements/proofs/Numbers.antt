-- The names that numbers write: below ten to the 64 no two of them are one, and from there on they come again.
use Rattle.std.proofs.Common.{◌≡◌, ℕ, zero, suc, ◌+◌, ◌-◌, ◌*◌, ◌/◌, ◌%◌, ◌^◌, ◌<◌, ◌≤◌, true, false, cond, List, [], ◌∷◌, ◌++◌, length, refl, sym, ap, ◌∙◌, append_assoc, arith}
use Rattle.std.specs.Prelude.{◌==◌, codes}
use Rattle.std.specs.Cmp.{unsigned_Decides}
use Rattle.std.specs.Fmt.{decimal, digit_glyph, digits, digits_onto}
use Rattle.std.specs.Str.Parse.{AllDigits, digits_value}
use Rattle.std.proofs.Math.Nat.{pow-suc}
use Rattle.std.proofs.lemmas.Fmt.{decimal_is_IsNumeral_wide}
use Rattle.std.proofs.lemmas.Str.Parse.{digit_from_value}
use Rattle.hs_elements.specs.Faults.{Text}
use Rattle.hs_elements.specs.Names.{cut, numbered, word_of}
use Rattle.hs_elements.specs.declared.names.ConstraintKind.{ConstraintKind}

-- ---- more than 64 digits

module _ (k m : ℕ) (behind : List ℕ) where
  abbrev shorter : List ℕ
  shorter = digits_onto k 10 false (m / 10) (digit_glyph false (m % 10) ∷ behind)

  one_digit : (m / 10 ≡ 0 → ⊥) → digits_onto (suc k) 10 false m behind ≡ shorter
  one_digit some =
      (elim (m / 10 == 0) as (λ b. (m / 10 == 0) ≡ b → cond b (digit_glyph false (m % 10) ∷ behind) shorter ≡ shorter) [
        | true ↦ λ e. absurd (some ((unsigned_Decides (m / 10) 0).0 e))
        | false ↦ λ e. refl
      ]) refl

again_by : (k p n m : ℕ) (behind : List ℕ) → ((q : ℕ) (b : List ℕ) → p ≤ q → digits_onto k 10 false (q + p) b ≡ digits_onto k 10 false q b) → 0 < p → p * 10 ≤ n → m ≡ n + p * 10
    → digits_onto (suc k) 10 false m behind ≡ digits_onto (suc k) 10 false n behind
again_by k p n m behind rest some large is =
    let quotient : m / 10 ≡ n / 10 + p = omega (arith, is) in
    let digit : m % 10 ≡ n % 10 = omega (arith, is) in
    one_digit k m behind (λ z. omega (arith, z, is, large, some))
    ∙ (λ i. digits_onto k 10 false (quotient i) (digit_glyph false (digit i) ∷ behind))
    ∙ rest (n / 10) (digit_glyph false (n % 10) ∷ behind) (omega (arith, large))
    ∙ sym (one_digit k n behind (λ z. omega (arith, z, large, some)))

some_power : (k : ℕ) → 0 < 10 ^ k
some_power zero = omega arith
some_power (suc k) = omega (arith, some_power k, pow-suc 10 k)

-- of a number with more digits the last so many are written
again : (k n : ℕ) (behind : List ℕ) → 10 ^ k ≤ n → digits_onto k 10 false (n + 10 ^ k) behind ≡ digits_onto k 10 false n behind
again zero n behind large = refl
again (suc k) n behind large = again_by k (10 ^ k) n (n + 10 ^ suc k) behind (again k) (some_power k) (omega (arith, large, pow-suc 10 k)) (omega (arith, pow-suc 10 k))

decimal_again : (n : ℕ) → 10 ^ 64 ≤ n → decimal (n + 10 ^ 64) ≡ decimal n
unfolding digits
decimal_again n large = again 64 n [] large

abbrev ended : Text → ConstraintKind → List ℕ → Text
ended table kind digits = let ending : Text = codes "_" ++ word_of kind ++ codes "_" ++ digits in cut (128 - length ending) table ++ ending

pub numbered_again : (table : Text) (kind : ConstraintKind) (n : ℕ) → 10 ^ 64 ≤ n → numbered table kind (n + 10 ^ 64) ≡ numbered table kind n
numbered_again table kind n large = ap (ended table kind) (decimal_again n large)

-- ---- one number

-- no line stands among digits
no_line : (a : List ℕ) (ds : List ℕ) (es : List ℕ) → AllDigits 10 ds → ds ≡ a ++ 95 ∷ es → ⊥
no_line [] [] es all is = cc
no_line [] (d ∷ ds) es all is = let same : d ≡ 95 = cc in omega (arith, digit_from_value d all.0, same)
no_line (x ∷ a) [] es all is = cc
no_line (x ∷ a) (d ∷ ds) es all is = no_line a ds es all.1 cc

behind_line : (a b ds es : List ℕ) → AllDigits 10 ds → AllDigits 10 es → a ++ 95 ∷ ds ≡ b ++ 95 ∷ es → ds ≡ es
behind_line [] [] ds es d e is = cc
behind_line [] (y ∷ b) ds es d e is = absurd (no_line b ds es d cc)
behind_line (x ∷ a) [] ds es d e is = absurd (no_line a es ds e cc)
behind_line (x ∷ a) (y ∷ b) ds es d e is = behind_line a b ds es d e cc

abbrev front : Text → ConstraintKind → ℕ → Text
front table kind n = cut (128 - length (codes "_" ++ word_of kind ++ codes "_" ++ decimal n)) table ++ (codes "_" ++ word_of kind)

split : (table : Text) (kind : ConstraintKind) (n : ℕ) → numbered table kind n ≡ front table kind n ++ 95 ∷ decimal n
split table kind n =
    let before : Text = cut (128 - length (codes "_" ++ word_of kind ++ codes "_" ++ decimal n)) table in
    ap (λ e. before ++ e) (append_assoc (codes "_" ++ word_of kind) (codes "_") (decimal n)) ∙ sym (append_assoc before (codes "_" ++ word_of kind) (codes "_" ++ decimal n))

pub one_number : (table : Text) (kind : ConstraintKind) (m n : ℕ) → m < 10 ^ 64 → n < 10 ^ 64 → numbered table kind m ≡ numbered table kind n → m ≡ n
one_number table kind m n low high is =
    let first = decimal_is_IsNumeral_wide m low in
    let second = decimal_is_IsNumeral_wide n high in
    let same : decimal m ≡ decimal n = behind_line (front table kind m) (front table kind n) (decimal m) (decimal n) first.0.1 second.0.1 (sym (split table kind m) ∙ is ∙ split table kind n) in
    sym first.1 ∙ ap (digits_value 10) same ∙ second.1
