-- Things on lines of their own, as they are read.
use Rattle.std.proofs.Common.{◌≡◌, ◌≢◌, ◌⊎◌, ℕ, ◌+◌, ◌<◌, true, false, eqb, List, [], ◌∷◌, ◌++◌, length, inl, inr, refl, sym, ap, subst, ◌∙◌, append_assoc, append-nil, length-append, arith}
use Rattle.std.specs.List.{AllByRecursion}
use Rattle.hs_valuetext.specs.Quotes.{begins_with}
use Rattle.hs_valuetext.proofs.Bits.{or_false, not_both}
use Rattle.hs_valuetext.proofs.NumberLemmas.{same_front}
use Rattle.hs_parttext.specs.Lines.{is_feed, has_feed, IsFirstLine, IsLine, lines_text, AreLines}

-- ---- a text has one first line

first_same : (x y : ℕ) (xs ys : List ℕ) → x ∷ xs ≡ y ∷ ys → x ≡ y
first_same x y xs ys e = cc

others_same : (x y : ℕ) (xs ys : List ℕ) → x ∷ xs ≡ y ∷ ys → xs ≡ ys
others_same x y xs ys e = cc

abbrev pub Ends : List ℕ → Type 0
Ends rest = (rest ≡ []) ⊎ (begins_with 10 rest ≡ true)

-- a text that ends a line doesn't begin with a byte of a line
no_end : (b : ℕ) (xs : List ℕ) → is_feed b ≡ false → Ends (b ∷ xs) → ⊥
no_end b xs other (inl none) = absurd cc
no_end b xs other (inr begins) = not_both (is_feed b) begins other

pub one_line : (line rest another more : List ℕ) → line ++ rest ≡ another ++ more → has_feed line ≡ false → has_feed another ≡ false → Ends rest → Ends more → (another ≡ line) × (more ≡ rest)
one_line [] rest [] more e plain bare one two = (refl, sym e)
one_line [] rest (b ∷ another) more e plain bare one two = absurd (no_end b (another ++ more) (or_false (is_feed b) (has_feed another) bare).0 (subst Ends e one))
one_line (a ∷ line) rest [] more e plain bare one two = absurd (no_end a (line ++ rest) (or_false (is_feed a) (has_feed line) plain).0 (subst Ends (sym e) two))
one_line (a ∷ line) rest (b ∷ another) more e plain bare one two =
    let behind = one_line line rest another more (others_same a b (line ++ rest) (another ++ more) e) (or_false (is_feed a) (has_feed line) plain).1 (or_false (is_feed b) (has_feed another) bare).1 one two in
    let first : b ≡ a = sym (first_same a b (line ++ rest) (another ++ more) e) in
    ((λ i. first i ∷ behind.0 i), behind.1)

-- ---- fronts

front_some : (front inner : List ℕ) → begins_with 10 front ≡ true → front ++ inner ≡ [] → ⊥
front_some [] inner feed e = absurd cc
front_some (b ∷ front) inner feed e = absurd cc

-- what is read makes the rest shorter
pub shorter : (front rest inner line more : List ℕ) → begins_with 10 front ≡ true → rest ≡ front ++ inner → IsFirstLine inner line more → length more < length rest
shorter [] rest inner line more feed e cut = absurd cc
shorter (b ∷ front) rest inner line more feed e cut =
    let whole : length rest ≡ length ((b ∷ front) ++ inner) = ap length e in
    let parts : length ((b ∷ front) ++ inner) ≡ length (b ∷ front) + length inner = length-append (b ∷ front) inner in
    let lines : length inner ≡ length line + length more = ap length cut.parts ∙ length-append line more in
    omega (arith, whole, parts, lines)

pub lines_end : {X : Type 0} (front : List ℕ) (text_of : X → List ℕ) (xs : List X) → begins_with 10 front ≡ true → Ends (lines_text front text_of xs)
lines_end front text_of [] feed = inl refl
lines_end [] text_of (x ∷ xs) feed = absurd cc
lines_end (b ∷ front) text_of (x ∷ xs) feed = inr feed

-- ---- one thing more

-- the list is that of the things that were read before, and behind them those that are all of the rest
pub record Completes {X : Type 0} (Is : X → Type 0) (front : List ℕ) (text_of : X → List ℕ) (values : List X) (rest : List ℕ) (all : List X) : Type 0 where
  pub others : List X
  pub is : all ≡ values ++ others
  pub at : AreLines Is front text_of rest others

-- the lists that are meant are those that complete what was read
pub record SameLines {X : Type 0} (Is : X → Type 0) (front : List ℕ) (text_of : X → List ℕ) (text : List ℕ) (values : List X) (rest : List ℕ) : Type 0 where
  pub onward : (all : List X) → AreLines Is front text_of text all → Completes Is front text_of values rest all
  pub back : (all : List X) → Completes Is front text_of values rest all → AreLines Is front text_of text all

pub same_lines : {X : Type 0} (Is : X → Type 0) (front : List ℕ) (text_of : X → List ℕ) (text : List ℕ) (none : List X) → none ≡ [] → SameLines Is front text_of text none text
same_lines Is front text_of text none empty = record {
  onward = λ all h. record { others = all; is = ap (λ xs. xs ++ all) (sym empty); at = h };
  back = λ all h. subst (λ xs. AreLines Is front text_of text xs) (sym (h.is ∙ ap (λ xs. xs ++ h.others) empty)) h.at;
}

-- the first of the things that are all of a text, whose first line is known
record Cut {X : Type 0} (Is : X → Type 0) (front : List ℕ) (text_of : X → List ℕ) (line more : List ℕ) (others : List X) : Type 0 where
  first : X
  behind : List X
  is : others ≡ first ∷ behind
  at : IsLine Is text_of line first
  more_at : AreLines Is front text_of more behind

cut : {X : Type 0} (Is : X → Type 0) (front : List ℕ) (text_of : X → List ℕ) → begins_with 10 front ≡ true → ((x : X) → Is x → has_feed (text_of x) ≡ false) → (rest inner line more : List ℕ) → rest ≡ front ++ inner → IsFirstLine inner line more → (others : List X) → AreLines Is front text_of rest others → Cut Is front text_of line more others
cut Is front text_of feed plain rest inner line more e first [] h = absurd (front_some front inner feed (sym e ∙ h.written))
cut Is front text_of feed plain rest inner line more e first (y ∷ ys) h =
    let whole : front ++ inner ≡ front ++ (text_of y ++ lines_text front text_of ys) = sym e ∙ h.written ∙ append_assoc front (text_of y) (lines_text front text_of ys) in
    let inside : inner ≡ text_of y ++ lines_text front text_of ys = same_front front inner (text_of y ++ lines_text front text_of ys) whole in
    let same = one_line line more (text_of y) (lines_text front text_of ys) (sym first.parts ∙ inside) first.before (plain y h.lawful.0) first.ends (lines_end front text_of ys feed) in
    record { first = y; behind = ys; is = refl; at = record { lawful = h.lawful.0; written = sym same.0 }; more_at = record { lawful = h.lawful.1; written = sym same.1 } }

snoc : {X : Type 0} (values : List X) (x : X) (others : List X) → values ++ (x ∷ others) ≡ (values ++ x ∷ []) ++ others
snoc values x others = sym (append_assoc values (x ∷ []) others)

pub line_read : {X : Type 0} (Is : X → Type 0) (front : List ℕ) (text_of : X → List ℕ) → begins_with 10 front ≡ true → ((x : X) → Is x → has_feed (text_of x) ≡ false) → (text : List ℕ) (values new : List X) (rest inner line more : List ℕ) (x : X) → SameLines Is front text_of text values rest → rest ≡ front ++ inner → IsFirstLine inner line more → IsLine Is text_of line x × ((y : X) → IsLine Is text_of line y → y ≡ x) → new ≡ values ++ x ∷ [] → SameLines Is front text_of text new more
line_read Is front text_of feed plain text values new rest inner line more x so_far e first known made = record {
  onward = λ all h.
      let found = so_far.onward all h in
      let parts = cut Is front text_of feed plain rest inner line more e first found.others found.at in
      record {
        others = parts.behind;
        is = found.is ∙ ap (λ xs. values ++ xs) (parts.is ∙ ap (λ y. y ∷ parts.behind) (known.1 parts.first parts.at)) ∙ snoc values x parts.behind ∙ ap (λ xs. xs ++ parts.behind) (sym made);
        at = parts.more_at;
      };
  back = λ all h.
      so_far.back all (record {
        others = x ∷ h.others;
        is = h.is ∙ ap (λ xs. xs ++ h.others) made ∙ sym (snoc values x h.others);
        at = record {
          lawful = (known.0.lawful, h.at.lawful);
          written =
              e ∙ ap (λ (xs : List ℕ). front ++ xs) (first.parts ∙ (λ i. known.0.written i ++ h.at.written i))
              ∙ sym (append_assoc front (text_of x) (lines_text front text_of h.others));
        };
      });
}

pub line_missing : {X : Type 0} (Is : X → Type 0) (front : List ℕ) (text_of : X → List ℕ) → begins_with 10 front ≡ true → ((x : X) → Is x → has_feed (text_of x) ≡ false) → (text : List ℕ) (values : List X) (rest inner line more : List ℕ) → SameLines Is front text_of text values rest → rest ≡ front ++ inner → IsFirstLine inner line more → ((y : X) → ¬ (IsLine Is text_of line y)) → (all : List X) → ¬ (AreLines Is front text_of text all)
line_missing Is front text_of feed plain text values rest inner line more so_far e first none all h =
    let found = so_far.onward all h in
    let parts = cut Is front text_of feed plain rest inner line more e first found.others found.at in
    none parts.first parts.at

-- ---- nothing more

no_more : {X : Type 0} (front : List ℕ) (text_of : X → List ℕ) (rest : List ℕ) (others : List X) → ((r : List ℕ) → rest ≢ front ++ r) → rest ≡ lines_text front text_of others → (others ≡ []) × (rest ≡ [])
no_more front text_of rest [] other e = (refl, e)
no_more front text_of rest (y ∷ ys) other e = absurd (other (text_of y ++ lines_text front text_of ys) (e ∙ append_assoc front (text_of y) (lines_text front text_of ys)))

pub lines_read : {X : Type 0} (Is : X → Type 0) (front : List ℕ) (text_of : X → List ℕ) (text : List ℕ) (values : List X) (rest : List ℕ) → SameLines Is front text_of text values rest → ((r : List ℕ) → rest ≢ front ++ r) → rest ≡ [] → AreLines Is front text_of text values × ((all : List X) → AreLines Is front text_of text all → all ≡ values)
lines_read Is front text_of text values rest so_far other none = (
  so_far.back values (record { others = []; is = sym (append-nil values); at = record { lawful = tt; written = none } }),
  λ all h.
      let found = so_far.onward all h in
      let last = no_more front text_of rest found.others other found.at.written in
      found.is ∙ ap (λ xs. values ++ xs) last.0 ∙ append-nil values,
)

pub lines_more : {X : Type 0} (Is : X → Type 0) (front : List ℕ) (text_of : X → List ℕ) (text : List ℕ) (values : List X) (rest : List ℕ) → SameLines Is front text_of text values rest → ((r : List ℕ) → rest ≢ front ++ r) → rest ≢ [] → (all : List X) → ¬ (AreLines Is front text_of text all)
lines_more Is front text_of text values rest so_far other some all h =
    let found = so_far.onward all h in
    some (no_more front text_of rest found.others other found.at.written).1
