-- Names at the front of a text.
use Rattle.std.proofs.Common.{◌≡◌, ℕ, zero, suc, ◌+◌, ◌<◌, ◌≤◌, ◌||◌, leb, add-one, true, false, not, ◌&&◌, eqb, List, [], ◌∷◌, ◌++◌, length, take, drop, get_or, inl, inr, refl, sym, ap, subst, ◌∙◌, IsUtf8, take-append-drop, arith}
use Rattle.std.specs.List.{list_all, prefix_len}
use Rattle.std.specs.Str.{IsCharBoundary}
use Rattle.std.proofs.Math.Seq.{take-append_seam, drop-append_seam}
use Rattle.std.proofs.lemmas.Bool.{cases_Bool, ne_eqb, or_cases, and_parts, and_left, and_right, leb-true, eqb-true}
use Rattle.std.proofs.lemmas.List.Sums.{prefix_len_passes}
use Rattle.std.proofs.lemmas.Str.{IsCharBoundary-start, IsCharBoundary-after_ascii, IsUtf8-from_ascii}
use Rattle.hs_valuetext.specs.Quotes.{quoted, begins_with, IsQuoted}
use Rattle.hs_valuetext.proofs.Bits.{and_true, or_false, not_both}
use Rattle.hs_valuetext.proofs.TextLemmas.{Alone}
use Rattle.hs_nametext.specs.Names.{is_capital, is_in_word, is_word, is_plain, name_text, is_name, goes_on, IsNameAt, IsPlainAt, IsQuotedAt}

pub plain_text : (name : List ℕ) → is_plain name ≡ true → name_text name ≡ name
plain_text name h = rw h refl

pub quoted_text : (name : List ℕ) → is_plain name ≡ false → name_text name ≡ quoted 34 name
quoted_text name h = rw h refl

-- ---- what words are made of

capital_in_word : (b : ℕ) → is_capital b ≡ true → is_in_word b ≡ true
capital_in_word b h = rw h refl

word_all : (name : List ℕ) → is_word name ≡ true → list_all is_in_word name ≡ true
word_all [] h = absurd cc
word_all (b ∷ name) h =
    let parts = and_true (is_capital b) (list_all is_in_word name) h in
    rw (capital_in_word b parts.0) parts.1

word_no_quote : (name rest : List ℕ) → is_word name ≡ true → begins_with 34 (name ++ rest) ≡ false
word_no_quote [] rest h = absurd cc
word_no_quote (b ∷ name) rest h =
    let parts = and_true (is_capital b) (list_all is_in_word name) h in
    ne_eqb b 34 (λ e. not_both (is_capital b) parts.0 (ap is_capital e))

all_prefix : (xs ys : List ℕ) → list_all is_in_word xs ≡ true → prefix_len is_in_word (xs ++ ys) ≡ length xs + prefix_len is_in_word ys
all_prefix [] ys h = omega arith
all_prefix (x ∷ xs) ys h =
    let parts = and_true (is_in_word x) (list_all is_in_word xs) h in
    let more = all_prefix xs ys parts.1 in
    rw parts.0 (omega arith)

stops : (rest : List ℕ) → goes_on rest ≡ false → prefix_len is_in_word rest ≡ 0
stops [] h = refl
stops (b ∷ rest) h =
    let other : is_in_word b ≡ false = (or_false (is_in_word b) (eqb b 34) h).0 in
    rw other refl

-- the word at the front is the one that ends where it does
word_from : (text name rest : List ℕ) → text ≡ name ++ rest → list_all is_in_word name ≡ true → goes_on rest ≡ false → (take (prefix_len is_in_word text) text ≡ name) × (drop (prefix_len is_in_word text) text ≡ rest)
word_from text name rest e all ends =
    let stop = stops rest ends in
    let len : prefix_len is_in_word text ≡ length name = ap (prefix_len is_in_word) e ∙ all_prefix name rest all ∙ (omega arith) in (
      (λ i. take (len i) (e i)) ∙ take-append_seam name rest,
      (λ i. drop (len i) (e i)) ∙ drop-append_seam name rest,
    )

-- ---- words in UTF-8

in_word_small : (b : ℕ) → is_in_word b ≡ true → b < 128
in_word_small b h = elim (or_cases (is_capital b || leb 48 b && leb b 57) (eqb b 95) h) [
  | inl first ↦ elim (or_cases (is_capital b) (leb 48 b && leb b 57) first) [
    | inl capital ↦ let most : b ≤ 90 = leb-true b 90 (and_parts (leb 65 b) (leb b 90) capital).1 in omega arith
    | inr digit ↦ let most : b ≤ 57 = leb-true b 57 (and_parts (leb 48 b) (leb b 57) digit).1 in omega arith
  ]
  | inr line ↦ let is : b ≡ 95 = eqb-true b 95 line in omega arith
]

word_ascii : (name : List ℕ) → list_all is_in_word name ≡ true → (i : ℕ) → get_or name i 0 < 128
word_ascii [] h i = omega arith
word_ascii (b ∷ name) h zero = in_word_small b (and_true (is_in_word b) (list_all is_in_word name) h).0
word_ascii (b ∷ name) h (suc i) = word_ascii name (and_true (is_in_word b) (list_all is_in_word name) h).1 i

word_valid : (name : List ℕ) → list_all is_in_word name ≡ true → IsUtf8 name
word_valid name h = IsUtf8-from_ascii name (word_ascii name h)

-- ---- names that stand as they are

pub plain_word : (name : List ℕ) → is_plain name ≡ true → is_word name ≡ true
plain_word name h = (and_true (is_word name) _ h).0

plain_front : (text name rest : List ℕ) → IsPlainAt text name rest → (take (prefix_len is_in_word text) text ≡ name) × (drop (prefix_len is_in_word text) text ≡ rest)
plain_front text name rest h =
    word_from text name rest (h.at.written ∙ ap (λ (xs : List ℕ). xs ++ rest) (plain_text name h.plain)) (word_all name (plain_word name h.plain)) h.at.ends

whole_name : (name rest : List ℕ) → (is_name name && not (goes_on rest)) ≡ true → (is_name name ≡ true) × (goes_on rest ≡ false)
whole_name name rest h =
    let parts = and_true (is_name name) (not (goes_on rest)) h in (
      parts.0,
      elim (cases_Bool (goes_on rest)) [
        | inl holds ↦ absurd (not_both (not (goes_on rest)) parts.1 (ap not holds))
        | inr fails ↦ fails
      ],
    )

name_whole : (name rest : List ℕ) → is_name name ≡ true → goes_on rest ≡ false → (is_name name && not (goes_on rest)) ≡ true
name_whole name rest a b = rw (a, b) refl

pub plain_found : (text name rest : List ℕ) → name ≡ take (prefix_len is_in_word text) text → rest ≡ drop (prefix_len is_in_word text) text → is_plain name ≡ true → (is_name name && not (goes_on rest)) ≡ true → Alone (IsPlainAt text) name rest
plain_found text name rest first second plain whole =
    let both = whole_name name rest whole in
    let parts : text ≡ name ++ rest = sym (take-append-drop (prefix_len is_in_word text) text) ∙ (λ i. sym first i ++ sym second i) in
    let valid : IsUtf8 name = word_valid name (word_all name (plain_word name plain)) in (
      record { at = record { lawful = both.0; utf8 = valid; written = parts ∙ ap (λ (xs : List ℕ). xs ++ rest) (sym (plain_text name plain)); ends = both.1 }; plain = plain },
      λ y others h. let same = plain_front text y others h in (sym same.0 ∙ sym first, sym same.1 ∙ sym second),
    )

plain_not : (text name rest : List ℕ) → name ≡ take (prefix_len is_in_word text) text → rest ≡ drop (prefix_len is_in_word text) text → (is_plain name && (is_name name && not (goes_on rest))) ≡ false → (y others : List ℕ) → ¬ (IsPlainAt text y others)
plain_not text name rest first second fails y others h =
    let same = plain_front text y others h in
    let is : name ≡ y = first ∙ same.0 in
    let ends : rest ≡ others = second ∙ same.1 in
    let all : (is_plain y && (is_name y && not (goes_on others))) ≡ true = rw (h.plain, name_whole y others h.at.lawful h.at.ends) refl in
    not_both (is_plain name && (is_name name && not (goes_on rest))) ((λ i. is_plain (is i) && (is_name (is i) && not (goes_on (ends i)))) ∙ all) fails

pub plain_not_whole : (text name rest : List ℕ) → name ≡ take (prefix_len is_in_word text) text → rest ≡ drop (prefix_len is_in_word text) text → (is_name name && not (goes_on rest)) ≡ false → (y others : List ℕ) → ¬ (IsPlainAt text y others)
plain_not_whole text name rest first second fails = plain_not text name rest first second (and_right (is_plain name) (is_name name && not (goes_on rest)) fails)

pub plain_not_plain : (text name rest : List ℕ) → name ≡ take (prefix_len is_in_word text) text → rest ≡ drop (prefix_len is_in_word text) text → is_plain name ≡ false → (y others : List ℕ) → ¬ (IsPlainAt text y others)
plain_not_plain text name rest first second fails = plain_not text name rest first second (and_left (is_plain name) (is_name name && not (goes_on rest)) fails)

-- ---- names in double quotes

no_quote : (rest : List ℕ) → goes_on rest ≡ false → begins_with 34 rest ≡ false
no_quote [] h = refl
no_quote (b ∷ rest) h = (or_false (is_in_word b) (eqb b 34) h).1

pub as_quoted : (text name rest : List ℕ) → IsQuotedAt text name rest → IsQuoted 34 text name rest
as_quoted text name rest h = record { written = h.at.written ∙ ap (λ (xs : List ℕ). xs ++ rest) (quoted_text name h.quoted); closed = no_quote rest h.at.ends }

pub quoted_found : (text name rest : List ℕ) → Alone (IsQuoted 34 text) name rest → is_plain name ≡ false → (is_name name && not (goes_on rest)) ≡ true → IsUtf8 name → Alone (IsQuotedAt text) name rest
quoted_found text name rest q other whole valid =
    let both = whole_name name rest whole in (
      record { at = record { lawful = both.0; utf8 = valid; written = q.0.written ∙ ap (λ (xs : List ℕ). xs ++ rest) (sym (quoted_text name other)); ends = both.1 }; quoted = other },
      λ y others h. q.1 y others (as_quoted text y others h),
    )

pub quoted_not : (text name rest : List ℕ) → Alone (IsQuoted 34 text) name rest → (not (is_plain name) && (is_name name && not (goes_on rest))) ≡ false → (y others : List ℕ) → ¬ (IsQuotedAt text y others)
quoted_not text name rest q fails y others h =
    let same = q.1 y others (as_quoted text y others h) in
    let all : (not (is_plain y) && (is_name y && not (goes_on others))) ≡ true = rw (h.quoted, name_whole y others h.at.lawful h.at.ends) refl in
    not_both (not (is_plain name) && (is_name name && not (goes_on rest))) ((λ i. not (is_plain (sym same.0 i)) && (is_name (sym same.0 i) && not (goes_on (sym same.1 i)))) ∙ all) fails

pub quoted_none : (text : List ℕ) → ((c r : List ℕ) → ¬ (IsQuoted 34 text c r)) → (y others : List ℕ) → ¬ (IsQuotedAt text y others)
quoted_none text none y others h = none y others (as_quoted text y others h)

-- ---- either

quote_first : (name rest : List ℕ) → begins_with 34 (quoted 34 name ++ rest) ≡ true
quote_first name rest = refl

pub name_quoted : (text : List ℕ) → begins_with 34 text ≡ true → (name rest : List ℕ) → IsNameAt text name rest → IsQuotedAt text name rest
name_quoted text begun name rest h = elim (cases_Bool (is_plain name)) [
  | inl holds ↦ absurd (not_both (begins_with 34 text) begun (ap (begins_with 34) (h.written ∙ ap (λ (xs : List ℕ). xs ++ rest) (plain_text name holds)) ∙ word_no_quote name rest (plain_word name holds)))
  | inr fails ↦ record { at = h; quoted = fails }
]

pub name_plain : (text : List ℕ) → begins_with 34 text ≡ false → (name rest : List ℕ) → IsNameAt text name rest → IsPlainAt text name rest
name_plain text other name rest h = elim (cases_Bool (is_plain name)) [
  | inl holds ↦ record { at = h; plain = holds }
  | inr fails ↦ absurd (not_both (begins_with 34 text) (ap (begins_with 34) (h.written ∙ ap (λ (xs : List ℕ). xs ++ rest) (quoted_text name fails)) ∙ quote_first name rest) other)
]

pub quoted_name : (text name rest : List ℕ) → IsQuotedAt text name rest → IsNameAt text name rest
quoted_name text name rest h = h.at

pub plain_name : (text name rest : List ℕ) → IsPlainAt text name rest → IsNameAt text name rest
plain_name text name rest h = h.at

-- ---- where a word ends

pub small_boundary : (text : List ℕ) (n : ℕ) → n ≤ length text → ((k : ℕ) → k < n → get_or text k 0 < 128) → IsUtf8 text → IsCharBoundary text n
small_boundary text zero within small valid = IsCharBoundary-start text valid
small_boundary text (suc n) within small valid = subst (λ (k : ℕ). IsCharBoundary text k) (add-one n) (IsCharBoundary-after_ascii text n valid (omega arith) (small n (omega arith)))

pub word_boundary : (text : List ℕ) (n : ℕ) → n ≡ prefix_len is_in_word text → n ≤ length text → IsUtf8 text → IsCharBoundary text n
word_boundary text n is within valid =
    small_boundary text n within (λ k lt. in_word_small (get_or text k 0) (prefix_len_passes is_in_word text k 0 (subst (λ (m : ℕ). k < m) is lt))) valid
