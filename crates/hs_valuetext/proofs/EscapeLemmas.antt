-- Escapes, one byte at a time.
use Rattle.std.proofs.Common.{◌≡◌, ◌≢◌, ℕ, suc, ◌/◌, ◌%◌, ◌<◌, ◌≤◌, true, false, ltb, eqb, List, [], ◌∷◌, ◌++◌, length, get_or, inl, inr, refl, sym, ap, ◌∙◌, append_assoc, append-nil, arith}
use Rattle.std.specs.Prelude.{encode_utf8}
use Rattle.std.specs.Char.{digit_char, digit_value}
use Rattle.std.specs.List.{flat_map}
use Rattle.std.proofs.lemmas.Bool.{eqb-false, cases_Bool, le-ltb, ne_eqb, ltb-true, eqb-true, cases_lt}
use Rattle.std.proofs.lemmas.Str.{digit_value-digit_char, encode_ascii, inside_one}
use Rattle.std.proofs.lemmas.List.Concat.{flat_map-append}
use Rattle.hs_valuetext.specs.Texts.{is_control, escaped_byte, escaped, IsControlOf}
use Rattle.hs_valuetext.proofs.Bits.{same_or_not, not_both}

-- the hexadecimal digits of a number below 256 are those of one number
pub same_digits : (b c : ℕ) → b < 256 → c < 256 → digit_char (b / 16) ≡ digit_char (c / 16) → digit_char (b % 16) ≡ digit_char (c % 16) → b ≡ c
same_digits b c low_b low_c high low =
    let first : b / 16 ≡ c / 16 = sym (digit_value-digit_char (b / 16) (omega arith)) ∙ ap digit_value high ∙ digit_value-digit_char (c / 16) (omega arith) in
    let second : b % 16 ≡ c % 16 = sym (digit_value-digit_char (b % 16) (omega arith)) ∙ ap digit_value low ∙ digit_value-digit_char (c % 16) (omega arith) in
    omega arith

pub control_low : (b : ℕ) → is_control b ≡ true → b < 128
control_low b e = elim (cases_Bool (ltb b 32)) [
  | inl holds ↦ omega (arith, ltb-true b 32 holds)
  | inr fails ↦ let other : eqb b 127 ≡ true = rw fails at e in omega (arith, eqb-true b 127 other)
]

-- a control character, `\`, or another byte, with what is written of it
pub data IsKind (b : ℕ) : Type 0 where
  control : is_control b ≡ true → escaped_byte b ≡ 92 ∷ 48 ∷ 48 ∷ digit_char (b / 16) ∷ digit_char (b % 16) ∷ [] → IsKind b
  backslash : b ≡ 92 → escaped_byte b ≡ 92 ∷ 92 ∷ [] → IsKind b
  plain : is_control b ≡ false → b ≢ 92 → escaped_byte b ≡ b ∷ [] → IsKind b

pub kind_of : (b : ℕ) → IsKind b
kind_of b = elim (cases_Bool (is_control b)) [
  | inl holds ↦ control holds (rw holds refl)
  | inr fails ↦ elim (same_or_not b 92) [
    | inl same ↦ backslash same.0 (rw (fails, same.1) refl)
    | inr not ↦ plain fails not.0 (rw (fails, not.1) refl)
  ]
]

heads : (x y : ℕ) (xs ys : List ℕ) → x ∷ xs ≡ y ∷ ys → (x ≡ y) × (xs ≡ ys)
heads x y xs ys e = (cc, cc)

once_by : (b c : ℕ) (r s : List ℕ) → IsKind b → IsKind c → escaped_byte b ++ r ≡ escaped_byte c ++ s → (b ≡ c) × (r ≡ s)
once_by b c r s (control is spelled) (control other written) e =
    let both : 92 ∷ 48 ∷ 48 ∷ digit_char (b / 16) ∷ digit_char (b % 16) ∷ r ≡ 92 ∷ 48 ∷ 48 ∷ digit_char (c / 16) ∷ digit_char (c % 16) ∷ s = sym (ap (λ (xs : List ℕ). xs ++ r) spelled) ∙ e ∙ ap (λ (xs : List ℕ). xs ++ s) written in
    let high : digit_char (b / 16) ≡ digit_char (c / 16) = cc in
    let low : digit_char (b % 16) ≡ digit_char (c % 16) = cc in
    (same_digits b c (omega (arith, control_low b is)) (omega (arith, control_low c other)) high low, cc)
once_by b c r s (control is spelled) (backslash other written) e =
    let both : 92 ∷ 48 ∷ 48 ∷ digit_char (b / 16) ∷ digit_char (b % 16) ∷ r ≡ 92 ∷ 92 ∷ s = sym (ap (λ (xs : List ℕ). xs ++ r) spelled) ∙ e ∙ ap (λ (xs : List ℕ). xs ++ s) written in
    absurd (eqb-false 48 92 refl cc)
once_by b c r s (control is spelled) (plain other not written) e =
    let both : 92 ∷ 48 ∷ 48 ∷ digit_char (b / 16) ∷ digit_char (b % 16) ∷ r ≡ c ∷ s = sym (ap (λ (xs : List ℕ). xs ++ r) spelled) ∙ e ∙ ap (λ (xs : List ℕ). xs ++ s) written in
    absurd (not cc)
once_by b c r s (backslash is spelled) (control other written) e =
    let both : 92 ∷ 92 ∷ r ≡ 92 ∷ 48 ∷ 48 ∷ digit_char (c / 16) ∷ digit_char (c % 16) ∷ s = sym (ap (λ (xs : List ℕ). xs ++ r) spelled) ∙ e ∙ ap (λ (xs : List ℕ). xs ++ s) written in
    absurd (eqb-false 92 48 refl cc)
once_by b c r s (backslash is spelled) (backslash other written) e =
    let both : 92 ∷ 92 ∷ r ≡ 92 ∷ 92 ∷ s = sym (ap (λ (xs : List ℕ). xs ++ r) spelled) ∙ e ∙ ap (λ (xs : List ℕ). xs ++ s) written in
    (is ∙ sym other, cc)
once_by b c r s (backslash is spelled) (plain other not written) e =
    let both : 92 ∷ 92 ∷ r ≡ c ∷ s = sym (ap (λ (xs : List ℕ). xs ++ r) spelled) ∙ e ∙ ap (λ (xs : List ℕ). xs ++ s) written in
    absurd (not cc)
once_by b c r s (plain is apart spelled) (control other written) e =
    let both : b ∷ r ≡ 92 ∷ 48 ∷ 48 ∷ digit_char (c / 16) ∷ digit_char (c % 16) ∷ s = sym (ap (λ (xs : List ℕ). xs ++ r) spelled) ∙ e ∙ ap (λ (xs : List ℕ). xs ++ s) written in
    absurd (apart cc)
once_by b c r s (plain is apart spelled) (backslash other written) e =
    let both : b ∷ r ≡ 92 ∷ 92 ∷ s = sym (ap (λ (xs : List ℕ). xs ++ r) spelled) ∙ e ∙ ap (λ (xs : List ℕ). xs ++ s) written in
    absurd (apart cc)
once_by b c r s (plain is apart spelled) (plain other not written) e =
    let both : b ∷ r ≡ c ∷ s = sym (ap (λ (xs : List ℕ). xs ++ r) spelled) ∙ e ∙ ap (λ (xs : List ℕ). xs ++ s) written in
    (cc, cc)

-- two written bytes with what is behind them are one
pub escaped_once : (b c : ℕ) (r s : List ℕ) → escaped_byte b ++ r ≡ escaped_byte c ++ s → (b ≡ c) × (r ≡ s)
escaped_once b c r s e = once_by b c r s (kind_of b) (kind_of c) e

-- ---- the first byte of an escaped text

nonempty : (b : ℕ) (r : List ℕ) → IsKind b → escaped_byte b ++ r ≢ []
nonempty b r (control is spelled) e = let both : 92 ∷ 48 ∷ 48 ∷ digit_char (b / 16) ∷ digit_char (b % 16) ∷ r ≡ [] = sym (ap (λ (xs : List ℕ). xs ++ r) spelled) ∙ e in cc
nonempty b r (backslash is spelled) e = let both : 92 ∷ 92 ∷ r ≡ [] = sym (ap (λ (xs : List ℕ). xs ++ r) spelled) ∙ e in cc
nonempty b r (plain is apart spelled) e = let both : b ∷ r ≡ [] = sym (ap (λ (xs : List ℕ). xs ++ r) spelled) ∙ e in cc

pub backslash_first : (text rest : List ℕ) → text ≡ 92 ∷ 92 ∷ rest → escaped_byte 92 ++ rest ≡ text
backslash_first text rest e = sym e

first_by : (b high low : ℕ) (text rest : List ℕ) → IsControlOf b high low → text ≡ 92 ∷ 48 ∷ 48 ∷ high ∷ low ∷ rest → IsKind b → escaped_byte b ++ rest ≡ text
first_by b high low text rest is e (control holds spelled) = ap (λ (xs : List ℕ). xs ++ rest) spelled ∙ (λ i. 92 ∷ 48 ∷ 48 ∷ is.first i ∷ is.second i ∷ rest) ∙ sym e
first_by b high low text rest is e (backslash same spelled) = absurd (not_both (is_control b) is.control (ap is_control same))
first_by b high low text rest is e (plain fails apart spelled) = absurd (not_both (is_control b) is.control fails)

pub control_first : (b high low : ℕ) (text rest : List ℕ) → IsControlOf b high low → text ≡ 92 ∷ 48 ∷ 48 ∷ high ∷ low ∷ rest → escaped_byte b ++ rest ≡ text
control_first b high low text rest is e = first_by b high low text rest is e (kind_of b)

-- a text with `\` in front has no first byte where neither another one nor two zeros and the digits of a control character are behind it
no_first_by : (b : ℕ) (rest behind : List ℕ) → IsKind b → ((more : List ℕ) → rest ≢ 92 ∷ more) → ((c high low : ℕ) (more : List ℕ) → IsControlOf c high low → rest ≢ 48 ∷ 48 ∷ high ∷ low ∷ more) → escaped_byte b ++ behind ≢ 92 ∷ rest
no_first_by b rest behind (control holds spelled) alone others e =
    let both : 92 ∷ 48 ∷ 48 ∷ digit_char (b / 16) ∷ digit_char (b % 16) ∷ behind ≡ 92 ∷ rest = sym (ap (λ (xs : List ℕ). xs ++ behind) spelled) ∙ e in
    others b (digit_char (b / 16)) (digit_char (b % 16)) behind (record { control = holds; first = refl; second = refl }) (sym (heads 92 92 _ rest both).1)
no_first_by b rest behind (backslash same spelled) alone others e =
    let both : 92 ∷ 92 ∷ behind ≡ 92 ∷ rest = sym (ap (λ (xs : List ℕ). xs ++ behind) spelled) ∙ e in
    alone behind (sym (heads 92 92 _ rest both).1)
no_first_by b rest behind (plain fails apart spelled) alone others e =
    let both : b ∷ behind ≡ 92 ∷ rest = sym (ap (λ (xs : List ℕ). xs ++ behind) spelled) ∙ e in
    apart (heads b 92 behind rest both).0

pub no_first : (rest : List ℕ) → ((more : List ℕ) → rest ≢ 92 ∷ more) → ((c high low : ℕ) (more : List ℕ) → IsControlOf c high low → rest ≢ 48 ∷ 48 ∷ high ∷ low ∷ more) → (b : ℕ) (behind : List ℕ) → escaped_byte b ++ behind ≢ 92 ∷ rest
no_first rest alone others b behind = no_first_by b rest behind (kind_of b) alone others

-- any other byte is itself, and a control character is none
plain_by : (b : ℕ) (rest : List ℕ) → b ≢ 92 → is_control b ≡ false → IsKind b → escaped_byte b ++ rest ≡ b ∷ rest
plain_by b rest apart fails (control holds spelled) = absurd (not_both (is_control b) holds fails)
plain_by b rest apart fails (backslash same spelled) = absurd (apart same)
plain_by b rest apart fails (plain is other spelled) = ap (λ (xs : List ℕ). xs ++ rest) spelled

pub plain_first : (b : ℕ) (rest : List ℕ) → b ≢ 92 → is_control b ≡ false → escaped_byte b ++ rest ≡ b ∷ rest
plain_first b rest apart fails = plain_by b rest apart fails (kind_of b)

no_control_by : (b c : ℕ) (rest behind : List ℕ) → IsKind b → is_control c ≡ true → c ≢ 92 → escaped_byte b ++ behind ≢ c ∷ rest
no_control_by b c rest behind (control holds spelled) is apart e =
    let both : 92 ∷ 48 ∷ 48 ∷ digit_char (b / 16) ∷ digit_char (b % 16) ∷ behind ≡ c ∷ rest = sym (ap (λ (xs : List ℕ). xs ++ behind) spelled) ∙ e in
    apart (sym (heads 92 c _ rest both).0)
no_control_by b c rest behind (backslash same spelled) is apart e =
    let both : 92 ∷ 92 ∷ behind ≡ c ∷ rest = sym (ap (λ (xs : List ℕ). xs ++ behind) spelled) ∙ e in
    apart (sym (heads 92 c _ rest both).0)
no_control_by b c rest behind (plain fails other spelled) is apart e =
    let both : b ∷ behind ≡ c ∷ rest = sym (ap (λ (xs : List ℕ). xs ++ behind) spelled) ∙ e in
    not_both (is_control c) is (sym (ap is_control (heads b c behind rest both).0) ∙ fails)

pub no_control : (c : ℕ) (rest : List ℕ) → is_control c ≡ true → c ≢ 92 → (b : ℕ) (behind : List ℕ) → escaped_byte b ++ behind ≢ c ∷ rest
no_control c rest is apart b behind = no_control_by b c rest behind (kind_of b) is apart

pub none_in_nothing : (b : ℕ) (behind : List ℕ) → escaped_byte b ++ behind ≢ []
none_in_nothing b behind = nonempty b behind (kind_of b)

-- ---- a loop that reads an escaped text

pub record HasUnescaped (text bytes rest : List ℕ) : Type 0 where
  pub so_far : escaped bytes ++ rest ≡ text
  pub only : (whole : List ℕ) → escaped whole ≡ text → (left : List ℕ) × (whole ≡ bytes ++ left) × (escaped left ≡ rest)

pub none_unescaped : (text : List ℕ) → HasUnescaped text [] text
none_unescaped text = record { so_far = refl; only = λ whole e. (whole, refl, e) }

one_left : (b : ℕ) (left rest behind : List ℕ) → escaped left ≡ rest → escaped_byte b ++ behind ≡ rest → (more : List ℕ) × (left ≡ b ∷ more) × (escaped more ≡ behind)
one_left b [] rest behind e f = absurd (nonempty b behind (kind_of b) (f ∙ sym e))
one_left b (x ∷ left) rest behind e f =
    let same = escaped_once x b (escaped left) behind (e ∙ sym f) in
    (left, ap (λ (y : ℕ). y ∷ left) same.0, same.1)

pub more_unescaped : (text bytes rest behind new : List ℕ) (b : ℕ) → HasUnescaped text bytes rest → escaped_byte b ++ behind ≡ rest → new ≡ bytes ++ b ∷ [] → HasUnescaped text new behind
more_unescaped text bytes rest behind new b read first made =
    let written : escaped new ≡ escaped bytes ++ escaped_byte b = ap escaped made ∙ flat_map-append escaped_byte bytes (b ∷ []) ∙ ap (λ (xs : List ℕ). escaped bytes ++ xs) (append-nil (escaped_byte b)) in
    record {
      so_far = ap (λ (xs : List ℕ). xs ++ behind) written ∙ append_assoc (escaped bytes) (escaped_byte b) behind ∙ ap (λ (xs : List ℕ). escaped bytes ++ xs) first ∙ read.so_far;
      only = λ whole e.
          let before = read.only whole e in
          let found = one_left b before.0 rest behind before.2 first in
          (found.0, before.1 ∙ ap (λ (xs : List ℕ). bytes ++ xs) found.1 ∙ sym (append_assoc bytes (b ∷ []) found.0) ∙ ap (λ (xs : List ℕ). xs ++ found.0) (sym made), found.2);
    }

nothing_left : (left : List ℕ) → escaped left ≡ [] → left ≡ []
nothing_left [] e = refl
nothing_left (b ∷ left) e = absurd (nonempty b (escaped left) (kind_of b) e)

stuck : (left rest : List ℕ) → escaped left ≡ rest → rest ≢ [] → ((b : ℕ) (behind : List ℕ) → escaped_byte b ++ behind ≢ rest) → ⊥
stuck [] rest e some none = some (sym e)
stuck (b ∷ left) rest e some none = none b (escaped left) e

pub not_unescaped : (text bytes rest : List ℕ) → HasUnescaped text bytes rest → rest ≢ [] → ((b : ℕ) (behind : List ℕ) → escaped_byte b ++ behind ≢ rest) → (whole : List ℕ) → escaped whole ≢ text
not_unescaped text bytes rest read some none whole e =
    let before = read.only whole e in
    stuck before.0 rest before.2 some none

pub all_unescaped : (text bytes rest : List ℕ) → HasUnescaped text bytes rest → rest ≡ [] → (escaped bytes ≡ text) × ((whole : List ℕ) → escaped whole ≡ text → whole ≡ bytes)
all_unescaped text bytes rest read end = (
  sym (append-nil (escaped bytes)) ∙ ap (λ (xs : List ℕ). escaped bytes ++ xs) (sym end) ∙ read.so_far,
  λ whole e.
      let before = read.only whole e in
      before.1 ∙ ap (λ (xs : List ℕ). bytes ++ xs) (nothing_left before.0 (before.2 ∙ end)) ∙ append-nil bytes,
)

-- ---- characters

wide_plain : (b : ℕ) → 128 ≤ b → is_control b ≡ false
wide_plain b wide = rw (le-ltb b 32 (omega arith), ne_eqb b 127 (λ e. absurd (omega arith))) refl

plain_bytes : (bs : List ℕ) → ((k : ℕ) → k < length bs → 128 ≤ get_or bs k 0) → escaped bs ≡ bs
plain_bytes [] wide = refl
plain_bytes (b ∷ bs) wide =
    let here : 128 ≤ b = wide 0 (omega arith) in
    ap (λ (xs : List ℕ). escaped_byte b ++ xs) (plain_bytes bs (λ k below. wide (suc k) (omega arith))) ∙ plain_first b bs (λ e. absurd (omega arith)) (wide_plain b here)

-- a character that is no control character and no `\` is written as it is
pub escaped_plain : (c : ℕ) → 32 ≤ c → c ≢ 127 → c ≢ 92 → flat_map escaped_byte (encode_utf8 c) ≡ encode_utf8 c
escaped_plain c low del apart = elim (cases_lt c 128) [
  | inl narrow ↦ rw (encode_ascii c narrow) (plain_first c [] apart (rw (le-ltb c 32 low, ne_eqb c 127 del) refl))
  | inr wide ↦ plain_bytes (encode_utf8 c) (λ k below. elim (cases_lt (get_or (encode_utf8 c) k 0) 128) [
    | inl narrow ↦ let same : c ≡ get_or (encode_utf8 c) k 0 = inside_one c [] (encode_utf8 c) k (sym (append-nil (encode_utf8 c))) below narrow in omega arith
    | inr here ↦ here
  ])
]
