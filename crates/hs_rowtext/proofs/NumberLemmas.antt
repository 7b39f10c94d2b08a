-- Numbers at the front of a text.
use Rattle.std.proofs.Common.{◌≡◌, ℕ, suc, ◌+◌, ◌<◌, ◌≤◌, ◌^◌, true, false, leb, List, [], ◌∷◌, ◌++◌, length, take, drop, get_or, inl, inr, refl, sym, ap, subst, ◌∙◌, IsUtf8, arith, take-append-drop}
use Rattle.std.specs.Fmt.{decimal}
use Rattle.std.specs.List.{list_all, prefix_len}
use Rattle.std.specs.Str.{IsCharBoundary}
use Rattle.std.specs.Str.Parse.{AllDigits}
use Rattle.std.proofs.Math.Seq.{take-append_seam, drop-append_seam}
use Rattle.std.proofs.lemmas.Bool.{cases_Bool, and_parts, leb-true, le-leb}
use Rattle.std.proofs.lemmas.Fmt.{decimal_is_IsNumeral_wide}
use Rattle.std.proofs.lemmas.List.Sums.{prefix_len_passes}
use Rattle.std.proofs.lemmas.Str.Parse.{digit_from_value}
use Rattle.hs_lexer.specs.Bytes.{is_digit}
use Rattle.hs_nametext.proofs.NameLemmas.{small_boundary}
use Rattle.hs_valuetext.specs.Values.{IsUnsigned}
use Rattle.hs_valuetext.proofs.TextLemmas.{Alone}
use Rattle.hs_rowtext.specs.Numbers.{begins_digit, IsNumberAt}

all_prefix : (xs ys : List ℕ) → list_all is_digit xs ≡ true → prefix_len is_digit (xs ++ ys) ≡ length xs + prefix_len is_digit ys
all_prefix [] ys h = omega arith
all_prefix (x ∷ xs) ys h =
    let parts = and_parts (is_digit x) (list_all is_digit xs) h in
    let more = all_prefix xs ys parts.1 in
    rw parts.0 (omega arith)

stops : (rest : List ℕ) → begins_digit rest ≡ false → prefix_len is_digit rest ≡ 0
stops [] h = refl
stops (b ∷ rest) h = rw h refl

-- no digit is behind the digits
ends_after : (text : List ℕ) → begins_digit (drop (prefix_len is_digit text) text) ≡ false
ends_after [] = refl
ends_after (b ∷ text) = elim (cases_Bool (is_digit b)) [
  | inl holds ↦
      let one : prefix_len is_digit (b ∷ text) ≡ suc (prefix_len is_digit text) = rw holds (omega arith) in
      ap (λ (n : ℕ). begins_digit (drop n (b ∷ text))) one ∙ ends_after text
  | inr fails ↦
      let none : prefix_len is_digit (b ∷ text) ≡ 0 = rw fails refl in
      ap (λ (n : ℕ). begins_digit (drop n (b ∷ text))) none ∙ fails
]

digit_from : (b : ℕ) → 48 ≤ b → b ≤ 57 → is_digit b ≡ true
digit_from b low high = rw (le-leb 48 b low, le-leb b 57 high) refl

all_digits : (ds : List ℕ) → AllDigits 10 ds → list_all is_digit ds ≡ true
all_digits [] all = refl
all_digits (d ∷ ds) all =
    let digit = digit_from_value d all.0 in
    rw (digit_from d (omega (arith, digit)) (omega (arith, digit))) (all_digits ds all.1)

decimal_digits : (n : ℕ) → n < 2 ^ 64 → list_all is_digit (decimal n) ≡ true
decimal_digits n small = all_digits (decimal n) (decimal_is_IsNumeral_wide n (omega (arith, small))).0.1

number_front : (text : List ℕ) (n : ℕ) (rest : List ℕ) → IsNumberAt text n rest → (take (prefix_len is_digit text) text ≡ decimal n) × (drop (prefix_len is_digit text) text ≡ rest)
number_front text n rest h =
    let stop = stops rest h.ends in
    let len : prefix_len is_digit text ≡ length (decimal n) = ap (prefix_len is_digit) h.written ∙ all_prefix (decimal n) rest (decimal_digits n h.lawful) ∙ (omega arith) in (
      (λ i. take (len i) (h.written i)) ∙ take-append_seam (decimal n) rest,
      (λ i. drop (len i) (h.written i)) ∙ drop-append_seam (decimal n) rest,
    )

pub number_found : (text digits rest : List ℕ) (n : ℕ) → digits ≡ take (prefix_len is_digit text) text → rest ≡ drop (prefix_len is_digit text) text → IsUnsigned digits n × ((m : ℕ) → IsUnsigned digits m → m ≡ n) → Alone (IsNumberAt text) n rest
number_found text digits rest n first second known = (
  record {
    lawful = known.0.lawful;
    written = sym (take-append-drop (prefix_len is_digit text) text) ∙ (λ i. sym first i ++ sym second i) ∙ ap (λ (xs : List ℕ). xs ++ rest) (sym known.0.written);
    ends = ap begins_digit second ∙ ends_after text;
  },
  λ y others h.
      let same = number_front text y others h in
      (known.1 y (record { lawful = h.lawful; written = sym same.0 ∙ sym first }), sym same.1 ∙ sym second),
)

pub number_missing : (text digits : List ℕ) → digits ≡ take (prefix_len is_digit text) text → ((m : ℕ) → ¬ (IsUnsigned digits m)) → (y : ℕ) (others : List ℕ) → ¬ (IsNumberAt text y others)
number_missing text digits first none y others h =
    let same = number_front text y others h in
    none y (record { lawful = h.lawful; written = sym same.0 ∙ sym first })

digit_small : (b : ℕ) → is_digit b ≡ true → b < 128
digit_small b h = let most : b ≤ 57 = leb-true b 57 (and_parts (leb 48 b) (leb b 57) h).1 in omega arith

pub digits_boundary : (text : List ℕ) (n : ℕ) → n ≡ prefix_len is_digit text → n ≤ length text → IsUtf8 text → IsCharBoundary text n
digits_boundary text n is within valid =
    small_boundary text n within (λ k lt. digit_small (get_or text k 0) (prefix_len_passes is_digit text k 0 (subst (λ (m : ℕ). k < m) is lt))) valid
