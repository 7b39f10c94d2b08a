-- Lines as they are read, one after another.
use Rattle.std.proofs.Common.{◌≡◌, ◌≢◌, ◌⊎◌, ℕ, ◌<◌, Bool, true, false, ◌||◌, List, [], ◌∷◌, ◌++◌, length, inl, inr, refl, sym, ap, subst, ◌∙◌, append_assoc, append-nil, length-append, arith}
use Rattle.hs_valuetext.specs.Quotes.{begins_with}
use Rattle.hs_valuetext.proofs.Bits.{any-append}
use Rattle.hs_parttext.specs.Lines.{is_feed, has_feed, IsFirstLine}
use Rattle.hs_parttext.proofs.FeedLemmas.{one_line}
use Rattle.hs_committext.specs.Lines.{AreLinesOf, IsFirstOf}

-- ---- the next line

begun : (rest : List ℕ) → begins_with 10 rest ≡ true → ((r : List ℕ) → rest ≢ 10 ∷ r) → ⊥
begun [] h other = absurd cc
begun (b ∷ rest) h other = grind (arith, h, other rest)

unended : (line rest : List ℕ) → has_feed line ≡ false → (rest ≡ []) ⊎ (begins_with 10 rest ≡ true) → ((r : List ℕ) → rest ≢ 10 ∷ r) → has_feed (line ++ rest) ≡ false
unended line rest plain (inl none) other = any-append is_feed line rest plain (ap has_feed none)
unended line rest plain (inr begins) other = absurd (begun rest begins other)

pub no_line : (text line rest : List ℕ) → IsFirstLine text line rest → ((r : List ℕ) → rest ≢ 10 ∷ r) → has_feed text ≡ false
no_line text line rest first other = ap has_feed first.parts ∙ unended line rest first.before first.ends other

-- ---- the line at the front

or_behind : (x y : Bool) → (x || y) ≡ false → y ≡ false
or_behind true y e = absurd cc
or_behind false y e = e

feed_within : (line rest : List ℕ) → has_feed (line ++ 10 ∷ rest) ≡ false → ⊥
feed_within [] rest h = absurd cc
feed_within (b ∷ line) rest h = feed_within line rest (or_behind (is_feed b) (has_feed (line ++ 10 ∷ rest)) h)

tails_same : (x y : ℕ) (xs ys : List ℕ) → x ∷ xs ≡ y ∷ ys → xs ≡ ys
tails_same x y xs ys e = cc

unwritten : (line more : List ℕ) → (let none : List ℕ = [] in none) ≡ line ++ 10 ∷ more → ⊥
unwritten [] more e = absurd cc
unwritten (b ∷ line) more e = absurd cc

snoc : {X : Type 0} (values : List X) (x : X) (others : List X) → values ++ (x ∷ others) ≡ (values ++ x ∷ []) ++ others
snoc values x others = sym (append_assoc values (x ∷ []) others)

module _ {X : Type 0} (Is : List ℕ → X → Type 0) where
  pub unended_line : (text : List ℕ) → has_feed text ≡ false → (x : X) (r : List ℕ) → ¬ (IsFirstOf Is text x r)
  unended_line text plain x r h = feed_within h.line r (sym (ap has_feed h.written) ∙ plain)

  pub shorter : (text : List ℕ) (x : X) (rest : List ℕ) → IsFirstOf Is text x rest → length rest < length text
  shorter text x rest h =
      let whole : length text ≡ length (h.line ++ 10 ∷ rest) = ap length h.written in
      omega (arith, whole, length-append h.line (10 ∷ rest))

  module _ (plain : (line : List ℕ) (x : X) → Is line x → has_feed line ≡ false) where
    -- the only line at the front of this text
    same_line : (text line rest : List ℕ) → has_feed line ≡ false → text ≡ line ++ 10 ∷ rest → (x : X) (r : List ℕ) → IsFirstOf Is text x r → Is line x × (r ≡ rest)
    same_line text line rest bare written x r h =
        let same = one_line line (10 ∷ rest) h.line (10 ∷ r) (sym written ∙ h.written) bare (plain h.line x h.is) (inr refl) (inr refl) in
        (subst (λ (l : List ℕ). Is l x) same.0 h.is, tails_same 10 10 r rest same.1)

    pub first_found : (text line rest : List ℕ) (x : X) → has_feed line ≡ false → text ≡ line ++ 10 ∷ rest → Is line x × ((y : X) → Is line y → y ≡ x) → IsFirstOf Is text x rest × ((y : X) (r : List ℕ) → IsFirstOf Is text y r → (y ≡ x) × (r ≡ rest))
    first_found text line rest x bare written known = (
      record { line = line; is = known.0; written = written },
      λ y r h. let same = same_line text line rest bare written y r h in (known.1 y same.0, same.1),
    )

    pub first_missing : (text line rest : List ℕ) → has_feed line ≡ false → text ≡ line ++ 10 ∷ rest → ((x : X) → ¬ (Is line x)) → (x : X) (r : List ℕ) → ¬ (IsFirstOf Is text x r)
    first_missing text line rest bare written none x r h = none x (same_line text line rest bare written x r h).0

  -- ---- line after line

  -- the list is that of the things that were read before, and behind them those that are all of the rest
  pub record Completes (values : List X) (rest : List ℕ) (all : List X) : Type 0 where
    pub others : List X
    pub is : all ≡ values ++ others
    pub at : AreLinesOf Is rest others

  -- the lists that are meant are those that complete what was read
  pub record SameLines (text : List ℕ) (values : List X) (rest : List ℕ) : Type 0 where
    pub onward : (all : List X) → AreLinesOf Is text all → Completes values rest all
    pub back : (all : List X) → Completes values rest all → AreLinesOf Is text all

  pub same_lines : (text : List ℕ) (none : List X) → none ≡ [] → SameLines text none text
  same_lines text none empty = record {
    onward = λ all h. record { others = all; is = ap (λ (xs : List X). xs ++ all) (sym empty); at = h };
    back = λ all h. subst (AreLinesOf Is text) (sym (h.is ∙ ap (λ (xs : List X). xs ++ h.others) empty)) h.at;
  }

  record Cut (more : List ℕ) (x : X) (others : List X) : Type 0 where
    behind : List X
    is : others ≡ x ∷ behind
    at : AreLinesOf Is more behind

  cut : (rest more : List ℕ) (x : X) → IsFirstOf Is rest x more → ((y : X) (r : List ℕ) → IsFirstOf Is rest y r → (y ≡ x) × (r ≡ more)) → (others : List X) → AreLinesOf Is rest others → Cut more x others
  cut rest more x is only [] h = absurd (unwritten is.line more (sym h ∙ is.written))
  cut rest more x is only (y ∷ ys) h =
      let same = only y h.rest (record { line = h.line; is = h.is; written = h.written }) in
      record { behind = ys; is = ap (λ (z : X). z ∷ ys) same.0; at = subst (λ (r : List ℕ). AreLinesOf Is r ys) same.1 h.others }

  pub line_read : (text : List ℕ) (values new : List X) (rest more : List ℕ) (x : X) → SameLines text values rest → IsFirstOf Is rest x more × ((y : X) (r : List ℕ) → IsFirstOf Is rest y r → (y ≡ x) × (r ≡ more)) → new ≡ values ++ x ∷ [] → SameLines text new more
  line_read text values new rest more x so_far found made = record {
    onward = λ all h.
        let before = so_far.onward all h in
        let parts = cut rest more x found.0 found.1 before.others before.at in
        record {
          others = parts.behind;
          is = before.is ∙ ap (λ (xs : List X). values ++ xs) parts.is ∙ snoc values x parts.behind ∙ ap (λ (xs : List X). xs ++ parts.behind) (sym made);
          at = parts.at;
        };
    back = λ all h.
        so_far.back all (record {
          others = x ∷ h.others;
          is = h.is ∙ ap (λ (xs : List X). xs ++ h.others) made ∙ sym (snoc values x h.others);
          at = record { line = found.0.line; rest = more; is = found.0.is; others = h.at; written = found.0.written };
        });
  }

  none_at : (rest : List ℕ) (others : List X) → rest ≢ [] → ((x : X) (r : List ℕ) → ¬ (IsFirstOf Is rest x r)) → AreLinesOf Is rest others → ⊥
  none_at rest [] some none h = some h
  none_at rest (x ∷ xs) some none h = none x h.rest (record { line = h.line; is = h.is; written = h.written })

  pub line_missing : (text : List ℕ) (values : List X) (rest : List ℕ) → SameLines text values rest → rest ≢ [] → ((x : X) (r : List ℕ) → ¬ (IsFirstOf Is rest x r)) → (all : List X) → ¬ (AreLinesOf Is text all)
  line_missing text values rest so_far some none all h = none_at rest (so_far.onward all h).others some none (so_far.onward all h).at

  nothing_left : (others : List X) → AreLinesOf Is [] others → others ≡ []
  nothing_left [] h = refl
  nothing_left (x ∷ xs) h = absurd (unwritten h.line h.rest h.written)

  pub lines_read : (text : List ℕ) (values : List X) (rest : List ℕ) → SameLines text values rest → rest ≡ [] → AreLinesOf Is text values × ((all : List X) → AreLinesOf Is text all → all ≡ values)
  lines_read text values rest so_far none = (
    so_far.back values (record { others = []; is = sym (append-nil values); at = none }),
    λ all h.
        let found = so_far.onward all h in
        found.is ∙ ap (λ (xs : List X). values ++ xs) (nothing_left found.others (subst (λ (r : List ℕ). AreLinesOf Is r found.others) none found.at)) ∙ append-nil values,
  )
