-- How a text ends, and where its first line feed is.
use Rattle.std.proofs.Common.{◌≡◌, ◌⊎◌, inl, inr, ℕ, zero, suc, ◌<◌, ◌/◌, ◌%◌, Bool, true, false, List, [], ◌∷◌, ◌++◌, length, codes, refl, sym, ap, subst, ◌∙◌, arith, append_assoc}
use Rattle.std.specs.Prelude.{◌==◌, not}
use Rattle.std.specs.Fmt.{decimal, digits, digits_onto, digit_glyph}
use Rattle.std.proofs.lemmas.Bool.{and_parts, both_ways, cond-false, cond_both}
use Rattle.hs_entries.specs.Parts.{lacks}
use Rattle.hs_machine.specs.Acknowledged.{is_digit, last_word}
use Rattle.hs_machine.specs.Lines.{committed_text}
use Rattle.hs_machine.proofs.Acknowledged.{lacks-append, lacks_not, last_alone, decimal_lacks}

-- ---- numbers

abbrev pub begins_digit : List ℕ → Bool
begins_digit [] = false
begins_digit (b ∷ bytes) = is_digit b

glyph : (d : ℕ) → d < 10 → is_digit (digit_glyph false d) ≡ true
glyph d small = grind arith

begins : (k n : ℕ) (behind : List ℕ) → begins_digit (digits_onto (suc k) 10 false n behind) ≡ true
begins zero n behind =
    cond_both (n / 10 == 0) (digit_glyph false (n % 10) ∷ behind) (digit_glyph false (n % 10) ∷ behind) (λ (l : List ℕ). begins_digit l ≡ true) (λ _. glyph (n % 10) (omega arith)) (λ _. glyph (n % 10) (omega arith))
begins (suc k) n behind =
    cond_both (n / 10 == 0) (digit_glyph false (n % 10) ∷ behind) (digits_onto (suc k) 10 false (n / 10) (digit_glyph false (n % 10) ∷ behind)) (λ (l : List ℕ). begins_digit l ≡ true)
    (λ _. glyph (n % 10) (omega arith)) (λ _. begins k (n / 10) (digit_glyph false (n % 10) ∷ behind))

decimal_begins : (n : ℕ) → begins_digit (decimal n) ≡ true
unfolding digits
decimal_begins n = begins 63 n []

-- ---- bytes that lack one

pub lacking : (a : ℕ) (xs ys : List ℕ) → lacks a (xs ++ a ∷ ys) ≡ true → ⊥
lacking a xs ys h = both_ways (lacks a (xs ++ a ∷ ys)) (lacks_not a xs ys) h

later : (a x : ℕ) (xs : List ℕ) → lacks a (x ∷ xs) ≡ true → lacks a xs ≡ true
later a x xs h = (and_parts (not (x == a)) (lacks a xs) h).1

-- ---- how a text ends

-- the last word stands behind any space
pub last_behind : (front text : List ℕ) → last_word (front ++ 32 ∷ text) ≡ last_word text
last_behind [] text = cond-false (lacks 32 (32 ∷ text)) (32 ∷ text) (last_word text) (lacks_not 32 [] text)
last_behind (x ∷ front) text = cond-false (lacks 32 (x ∷ (front ++ 32 ∷ text))) (x ∷ (front ++ 32 ∷ text)) (last_word (front ++ 32 ∷ text)) (lacks_not 32 (x ∷ front) text) ∙ last_behind front text

-- a text with no number behind its last space
pub no_number : (text before : List ℕ) (n : ℕ) → begins_digit (last_word text) ≡ false → text ≡ before ++ committed_text n → ⊥
no_number text before n other is =
    let last : last_word text ≡ decimal n =
    ap last_word (is ∙ sym (append_assoc before (codes " committed") (32 ∷ decimal n))) ∙ last_behind (before ++ codes " committed") (decimal n) ∙ last_alone (decimal n) (decimal_lacks 32 refl n) in
    both_ways (begins_digit (last_word text)) other (ap begins_digit last ∙ decimal_begins n)

-- the words on both sides of the last space
pub same_word : (a b w v : List ℕ) → lacks 32 w ≡ true → lacks 32 v ≡ true → a ++ 32 ∷ w ≡ b ++ 32 ∷ v → (a ≡ b) × (w ≡ v)
same_word [] [] w v hw hv e = (refl, cc)
same_word [] (y ∷ b) w v hw hv e = let s : w ≡ b ++ 32 ∷ v = cc in absurd (lacking 32 b v (subst (λ (l : List ℕ). lacks 32 l ≡ true) s hw))
same_word (x ∷ a) [] w v hw hv e = let s : v ≡ a ++ 32 ∷ w = cc in absurd (lacking 32 a w (subst (λ (l : List ℕ). lacks 32 l ≡ true) s hv))
same_word (x ∷ a) (y ∷ b) w v hw hv e =
    let behind : a ++ 32 ∷ w ≡ b ++ 32 ∷ v = cc in
    let same = same_word a b w v hw hv behind in
    let first : x ≡ y = cc in
    (ap (λ (l : List ℕ). x ∷ l) same.0 ∙ ap (λ (k : ℕ). k ∷ b) first, same.1)

last_is : (a w before : List ℕ) (n : ℕ) → lacks 32 w ≡ true → a ++ 32 ∷ w ≡ before ++ committed_text n → (a ≡ before ++ codes " committed") × (w ≡ decimal n)
last_is a w before n plain e = same_word a (before ++ codes " committed") w (decimal n) plain (decimal_lacks 32 refl n) (e ∙ sym (append_assoc before (codes " committed") (32 ∷ decimal n)))

-- a last word behind one of another length than `committed`
pub other_word : (front v w before : List ℕ) (n : ℕ) → lacks 32 v ≡ true → lacks 32 w ≡ true → (length v ≡ 9 → ⊥) → front ++ 32 ∷ (v ++ 32 ∷ w) ≡ before ++ committed_text n → ⊥
other_word front v w before n v_space w_space other is =
    let before_it = (last_is (front ++ 32 ∷ v) w before n w_space (append_assoc front (32 ∷ v) (32 ∷ w) ∙ is)).0 in
    other (ap length (same_word front before v (codes "committed") v_space refl before_it).1)

-- a number behind `committed` is the one that is told
pub told_number : (a before : List ℕ) (k n : ℕ) → a ++ committed_text k ≡ before ++ committed_text n → decimal k ≡ decimal n
told_number a before k n is = (last_is (a ++ codes " committed") (decimal k) before n (decimal_lacks 32 refl k) (append_assoc a (codes " committed") (32 ∷ decimal k) ∙ is)).1

-- two ends of one text, of which one is an end of the other
pub one_end : (front x before c : List ℕ) → front ++ x ≡ before ++ c → ((rest : List ℕ) × (x ≡ rest ++ c)) ⊎ ((rest : List ℕ) × (c ≡ rest ++ x))
one_end [] x before c is = inl (before, is)
one_end (f ∷ front) x [] c is = inr (f ∷ front, sym is)
one_end (f ∷ front) x (b ∷ before) c is = let behind : front ++ x ≡ before ++ c = cc in one_end front x before c behind

pub committed_lacks : (a : ℕ) → is_digit a ≡ false → lacks a (codes " committed ") ≡ true → (n : ℕ) → lacks a (committed_text n) ≡ true
committed_lacks a none words n = lacks-append a (codes " committed ") (decimal n) words (decimal_lacks a none n)

-- what stands behind a colon ends as the whole does
pub behind_colon : (front text before : List ℕ) (n : ℕ) → front ++ 58 ∷ text ≡ before ++ committed_text n → (rest : List ℕ) × (58 ∷ text ≡ rest ++ committed_text n)
behind_colon front text before n is = elim (one_end front (58 ∷ text) before (committed_text n) is) [
  | inl found ↦ found
  | inr around ↦ absurd (lacking 58 around.0 text (subst (λ (l : List ℕ). lacks 58 l ≡ true) around.1 (committed_lacks 58 refl refl n)))
]

-- ---- line feeds

-- the first line feeds of one text
same_feed : (c t y z : List ℕ) → lacks 10 c ≡ true → lacks 10 t ≡ true → c ++ 10 ∷ y ≡ t ++ 10 ∷ z → c ≡ t
same_feed [] [] y z hc ht e = refl
same_feed [] (b ∷ t) y z hc ht e = let first : 10 ≡ b = cc in absurd (lacking 10 [] t (subst (λ (k : ℕ). lacks 10 (k ∷ t) ≡ true) (sym first) ht))
same_feed (a ∷ c) [] y z hc ht e = let first : a ≡ 10 = cc in absurd (lacking 10 [] c (subst (λ (k : ℕ). lacks 10 (k ∷ c) ≡ true) first hc))
same_feed (a ∷ c) (b ∷ t) y z hc ht e =
    let behind : c ++ 10 ∷ y ≡ t ++ 10 ∷ z = cc in
    let first : a ≡ b = cc in
    ap (λ (k : ℕ). k ∷ c) first ∙ ap (λ (l : List ℕ). b ∷ l) (same_feed c t y z (later 10 a c hc) (later 10 b t ht) behind)

-- what tells of a commit stands at the end of the first line, or behind it
module _ (c behind : List ℕ) (c_lacks : lacks 10 c ≡ true) where
  pub in_line : (before t rest : List ℕ) → lacks 10 t ≡ true → before ++ (c ++ 10 ∷ behind) ≡ t ++ 10 ∷ rest → (t ≡ before ++ c) ⊎ ((b : List ℕ) × (rest ≡ b ++ (c ++ 10 ∷ behind)))
  in_line [] t rest ht e = inl (sym (same_feed c t behind rest c_lacks ht e))
  in_line (x ∷ before) [] rest ht e = let tail : before ++ (c ++ 10 ∷ behind) ≡ rest = cc in inr (before, sym tail)
  in_line (x ∷ before) (b ∷ t) rest ht e =
      let tail : before ++ (c ++ 10 ∷ behind) ≡ t ++ 10 ∷ rest = cc in
      let first : b ≡ x = cc in
      elim (in_line before t rest (later 10 b t ht) tail) [
        | inl here ↦ inl (ap (λ (k : ℕ). k ∷ t) first ∙ ap (λ (l : List ℕ). x ∷ l) here)
        | inr there ↦ inr there
      ]
