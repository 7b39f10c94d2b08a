-- Looking a word up among those with its first letter.
use Rattle.std.proofs.Common.{◌≡◌, ℕ, zero, suc, ◌+◌, ◌-◌, ◌%◌, ◌<◌, ◌≤◌, Bool, true, false, ◌==◌, cond, List, [], ◌∷◌, length, map, filter, take, drop, get_or, refl, sym, ◌∙◌, ap, arith}
use Rattle.std.specs.Str.{str_eq_ignore_ascii_case}
use Rattle.std.specs.Char.{to_ascii_lowercase}
use Rattle.std.proofs.lemmas.Bool.Decides.{nat_tests}
use Rattle.std.proofs.lemmas.Nat.{mod_below}
use Rattle.std.proofs.lemmas.Slice.Eq.{bytes_eq-Decides}
use Rattle.std.specs.Prelude.{nat_le, slice_index_or}
use Rattle.std.specs.List.{slice_range}
use Rattle.std.proofs.lemmas.List.{length-map, drop-map, take-map}
use Rattle.hs_syntax.specs.Classes.{lookup, word_class}
use Rattle.hs_syntax.specs.Letters.{letter_of, between, lookup_by_letter}
use Rattle.hs_syntax.specs.Words.{keywords}
use Rattle.hs_syntax.specs.declared.words.TheConstants.{KEYWORDS, STARTS, IDENTIFIER}

-- ---- words that are equal without regard to case have one letter

same_letter : (a b : ℕ) → to_ascii_lowercase a ≡ to_ascii_lowercase b → a % 32 ≡ b % 32
same_letter a b e = grind (arith, nat_tests, e)

same_letter_of : (a b : List ℕ) → map to_ascii_lowercase a ≡ map to_ascii_lowercase b → letter_of a ≡ letter_of b
same_letter_of [] [] e = refl
same_letter_of [] (y ∷ b) e = cc
same_letter_of (x ∷ a) [] e = cc
same_letter_of (x ∷ a) (y ∷ b) e = same_letter x y (ap (λ l. get_or l 0 0) e)

other_word : (a b : List ℕ) (n : ℕ) → (letter_of a == n) ≡ false → letter_of b ≡ n → str_eq_ignore_ascii_case a b ≡ false
other_word a b n apart here = go (str_eq_ignore_ascii_case a b) refl where
  go : (t : Bool) → str_eq_ignore_ascii_case a b ≡ t → t ≡ false
  go false e = refl
  go true e =
      let one : letter_of a ≡ letter_of b = same_letter_of a b ((bytes_eq-Decides (map to_ascii_lowercase a) (map to_ascii_lowercase b)).0 e) in
      absurd (grind (arith, nat_tests, one, apart, here))

-- ---- the words with a letter hold all that may be one

with_letter : ℕ → List (List ℕ × ℕ) → List (List ℕ × ℕ)
with_letter n = filter (λ e. letter_of e.0 == n)

among_them : (n : ℕ) (entries : List (List ℕ × ℕ)) (word : List ℕ) (other : ℕ) → letter_of word ≡ n → lookup (with_letter n entries) word other ≡ lookup entries word other
unfolding with_letter
among_them n [] word other here = refl
among_them n (e ∷ entries) word other here = go (letter_of e.0 == n) refl (among_them n entries word other here) where
  go : (s : Bool) → (letter_of e.0 == n) ≡ s → lookup (filter (λ e. letter_of e.0 == n) entries) word other ≡ lookup entries word other
      → lookup (filter (λ e. letter_of e.0 == n) (e ∷ entries)) word other ≡ lookup (e ∷ entries) word other
  go true s rest = rw s (ap (λ z. cond (str_eq_ignore_ascii_case e.0 word) e.1 z) rest)
  go false s rest = rw (s, other_word e.0 word n s here) rest

-- ---- a part of the entries

pub taken : {A B : Type 0} (f : A → B) (xs ys : List A) (first end : ℕ) → first ≤ end → end ≤ length xs → ys ≡ slice_range xs first end → between (map f xs) first end ≡ map f ys
taken f xs ys first end le within is =
    let in_order : nat_le first end ≡ true = grind (arith, nat_tests, le) in
    let inside : nat_le end (length (map f xs)) ≡ true = grind (arith, nat_tests, within, length-map xs f) in
    rw (in_order, inside, is) (ap (take (end - first)) (drop-map f first xs) ∙ take-map f (end - first) (drop first xs))

-- ---- the code's words are those of the grammar, and its starts are theirs

same_words : map (λ entry. (entry.0.now, entry.1)) KEYWORDS ≡ keywords
same_words = refl

part : ℕ → List (List ℕ × ℕ)
part n = between keywords (slice_index_or STARTS n 0) (slice_index_or STARTS (n + 1) 0)

parts_from : ℕ → ℕ → List (List (List ℕ × ℕ))
parts_from n zero = []
parts_from n (suc k) = part n ∷ parts_from (suc n) k

letters_from : ℕ → ℕ → List (List (List ℕ × ℕ))
letters_from n zero = []
letters_from n (suc k) = with_letter n keywords ∷ letters_from (suc n) k

all_parts : parts_from 0 32 ≡ letters_from 0 32
unfolding parts_from letters_from part with_letter
all_parts = refl

part_at : (n k i : ℕ) → i < k → get_or (parts_from n k) i [] ≡ part (n + i)
unfolding parts_from
part_at n zero i within = absurd (omega (arith, within))
part_at n (suc k) zero within = ap part (omega arith)
part_at n (suc k) (suc i) within = part_at (suc n) k i (omega (arith, within)) ∙ ap part (omega arith)

letter_at : (n k i : ℕ) → i < k → get_or (letters_from n k) i [] ≡ with_letter (n + i) keywords
unfolding letters_from
letter_at n zero i within = absurd (omega (arith, within))
letter_at n (suc k) zero within = ap (λ m. with_letter m keywords) (omega arith)
letter_at n (suc k) (suc i) within = letter_at (suc n) k i (omega (arith, within)) ∙ ap (λ m. with_letter m keywords) (omega arith)

part_is : (n : ℕ) → n < 32 → part n ≡ with_letter n keywords
part_is n within =
    let same : 0 + n ≡ n = omega arith in
    ap part (sym same) ∙ sym (part_at 0 32 n within) ∙ ap (λ l. get_or l n []) all_parts ∙ letter_at 0 32 n within ∙ ap (λ m. with_letter m keywords) same

letter_below : (word : List ℕ) → letter_of word < 32
letter_below [] = omega arith
letter_below (first ∷ rest) = mod_below first 32 (omega arith)

pub by_letter : (word : List ℕ) → lookup_by_letter (map (λ entry. (entry.0.now, entry.1)) KEYWORDS) STARTS word IDENTIFIER ≡ word_class word
unfolding word_class part
by_letter word =
    ap (λ l. lookup_by_letter l STARTS word IDENTIFIER) same_words
    ∙ ap (λ l. lookup l word IDENTIFIER) (part_is (letter_of word) (letter_below word))
    ∙ among_them (letter_of word) keywords word IDENTIFIER refl
