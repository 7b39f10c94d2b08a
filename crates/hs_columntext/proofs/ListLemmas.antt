-- Things with commas between, as they are read.
use Rattle.std.proofs.Common.{◌≡◌, ◌≢◌, ℕ, true, false, List, [], ◌∷◌, ◌++◌, refl, sym, ap, subst, ◌∙◌, append_assoc, append-nil}
use Rattle.std.specs.List.{AllByRecursion}
use Rattle.std.proofs.lemmas.Bool.{eqb-false}
use Rattle.hs_valuetext.specs.Quotes.{begins_with}
use Rattle.hs_valuetext.specs.Values.{begins_end}
use Rattle.hs_valuetext.proofs.Bits.{not_both}
use Rattle.hs_valuetext.proofs.TextLemmas.{Alone}
use Rattle.hs_columntext.specs.Lists.{others_text, IsItemAt, AreAt, AreSome, Completes}

-- a comma is no closing parenthesis
pub comma_or_close : (xs ys : List ℕ) → 44 ∷ xs ≡ 41 ∷ ys → ⊥
comma_or_close xs ys e = not_both (begins_with 44 (44 ∷ xs)) refl (ap (begins_with 44) e)

same_behind : (b : ℕ) (xs ys : List ℕ) → b ∷ xs ≡ b ∷ ys → xs ≡ ys
same_behind b xs ys e = cc

others_end : {X : Type 0} (text_of : X → List ℕ) (xs : List X) (rest : List ℕ) → begins_end (others_text text_of xs ++ (41 ∷ rest)) ≡ true
others_end text_of [] rest = refl
others_end text_of (x ∷ xs) rest = refl

-- ---- one thing more

-- the lists that complete some things are those that complete them with more
pub record SameLists {X : Type 0} (Is : X → Type 0) (text_of : X → List ℕ) (before : List X) (text : List ℕ) (values : List X) (rest : List ℕ) : Type 0 where
  pub onward : (all : List X) (r : List ℕ) → Completes Is text_of before text all r → Completes Is text_of values rest all r
  pub back : (all : List X) (r : List ℕ) → Completes Is text_of values rest all r → Completes Is text_of before text all r

pub same_lists : {X : Type 0} (Is : X → Type 0) (text_of : X → List ℕ) (before : List X) (text : List ℕ) → SameLists Is text_of before text before text
same_lists Is text_of before text = record { onward = λ all r h. h; back = λ all r h. h }

-- what is behind a comma begins with the first of the others
cut : {X : Type 0} (Is : X → Type 0) (text_of : X → List ℕ) (rest inner : List ℕ) (others : List X) (r : List ℕ) → rest ≡ 44 ∷ inner → AllByRecursion Is others → rest ≡ others_text text_of others ++ (41 ∷ r)
    → (y : X) × (ys : List X) × (others ≡ y ∷ ys) × AllByRecursion Is ys × IsItemAt Is text_of inner y (others_text text_of ys ++ (41 ∷ r))
cut Is text_of rest inner [] r e all h = absurd (comma_or_close inner r (sym e ∙ h))
cut Is text_of rest inner (y ∷ ys) r e all h =
    let whole : 44 ∷ inner ≡ 44 ∷ ((text_of y ++ others_text text_of ys) ++ (41 ∷ r)) = sym e ∙ h in (
      y,
      ys,
      refl,
      all.1,
      record {
        lawful = all.0;
        written = same_behind 44 inner ((text_of y ++ others_text text_of ys) ++ (41 ∷ r)) whole ∙ append_assoc (text_of y) (others_text text_of ys) (41 ∷ r);
        ends = others_end text_of ys r;
      },
    )

snoc : {X : Type 0} (values : List X) (x : X) (others : List X) → values ++ (x ∷ others) ≡ (values ++ x ∷ []) ++ others
snoc values x others = sym (append_assoc values (x ∷ []) others)

pub next_read : {X : Type 0} (Is : X → Type 0) (text_of : X → List ℕ) (before : List X) (text : List ℕ) (values new : List X) (rest inner more : List ℕ) (x : X) → SameLists Is text_of before text values rest → rest ≡ 44 ∷ inner → Alone (IsItemAt Is text_of inner) x more → new ≡ values ++ x ∷ [] → SameLists Is text_of before text new more
next_read Is text_of before text values new rest inner more x so_far comma found made = record {
  onward = λ all r h.
      let known = so_far.onward all r h in
      let parts = cut Is text_of rest inner known.others r comma known.lawful known.written in
      let same = found.1 parts.0 (others_text text_of parts.1 ++ (41 ∷ r)) parts.4 in
      record {
        others = parts.1;
        is = known.is ∙ ap (λ xs. values ++ xs) (parts.2 ∙ ap (λ y. y ∷ parts.1) same.0) ∙ snoc values x parts.1 ∙ ap (λ xs. xs ++ parts.1) (sym made);
        lawful = parts.3;
        written = sym same.1;
      };
  back = λ all r h.
      so_far.back all r (record {
        others = x ∷ h.others;
        is = h.is ∙ ap (λ xs. xs ++ h.others) made ∙ sym (snoc values x h.others);
        lawful = (found.0.lawful, h.lawful);
        written = comma ∙ ap (λ (xs : List ℕ). 44 ∷ xs) (found.0.written ∙ ap (λ (xs : List ℕ). text_of x ++ xs) h.written ∙ sym (append_assoc (text_of x) (others_text text_of h.others) (41 ∷ r)));
      });
}

pub next_missing : {X : Type 0} (Is : X → Type 0) (text_of : X → List ℕ) (before : List X) (text : List ℕ) (values : List X) (rest inner : List ℕ) → SameLists Is text_of before text values rest → rest ≡ 44 ∷ inner → ((x : X) (more : List ℕ) → ¬ (IsItemAt Is text_of inner x more)) → (all : List X) (r : List ℕ) → ¬ (Completes Is text_of before text all r)
next_missing Is text_of before text values rest inner so_far comma none all r h =
    let known = so_far.onward all r h in
    let parts = cut Is text_of rest inner known.others r comma known.lawful known.written in
    none parts.0 (others_text text_of parts.1 ++ (41 ∷ r)) parts.4

-- ---- nothing more

ended : {X : Type 0} (text_of : X → List ℕ) (rest behind : List ℕ) (others : List X) (r : List ℕ) → rest ≡ 41 ∷ behind → rest ≡ others_text text_of others ++ (41 ∷ r) → (others ≡ []) × (r ≡ behind)
ended text_of rest behind [] r e h = (refl, same_behind 41 r behind (sym h ∙ e))
ended text_of rest behind (y ∷ ys) r e h = absurd (comma_or_close ((text_of y ++ others_text text_of ys) ++ (41 ∷ r)) behind (sym h ∙ e))

pub closed : {X : Type 0} (Is : X → Type 0) (text_of : X → List ℕ) (before : List X) (text : List ℕ) (values : List X) (rest behind : List ℕ) → SameLists Is text_of before text values rest → rest ≡ 41 ∷ behind → Alone (Completes Is text_of before text) values behind
closed Is text_of before text values rest behind so_far close = (
  so_far.back values behind (record { others = []; is = sym (append-nil values); lawful = tt; written = close }),
  λ all r h.
      let known = so_far.onward all r h in
      let last = ended text_of rest behind known.others r close known.written in
      (known.is ∙ ap (λ xs. values ++ xs) last.0 ∙ append-nil values, last.1),
)

pub unclosed : {X : Type 0} (Is : X → Type 0) (text_of : X → List ℕ) (before : List X) (text : List ℕ) (values : List X) (rest : List ℕ) → SameLists Is text_of before text values rest → ((r : List ℕ) → rest ≢ 44 ∷ r) → ((r : List ℕ) → rest ≢ 41 ∷ r) → (all : List X) (r : List ℕ) → ¬ (Completes Is text_of before text all r)
unclosed {X = X} Is text_of before text values rest so_far no_comma no_close all r h =
    let known = so_far.onward all r h in
    neither known.others known.written
  where
    neither : (others : List X) → rest ≡ others_text text_of others ++ (41 ∷ r) → ⊥
    neither [] e = no_close r e
    neither (y ∷ ys) e = no_comma ((text_of y ++ others_text text_of ys) ++ (41 ∷ r)) e

-- ---- the first thing

pub some_from : {X : Type 0} (Is : X → Type 0) (text_of : X → List ℕ) (text rest : List ℕ) (x : X) (before : List X) → Alone (IsItemAt Is text_of text) x rest → before ≡ x ∷ [] → (all : List X) (r : List ℕ) → Completes Is text_of before rest all r → AreSome Is text_of text all r
some_from Is text_of text rest x before found made all r h =
    let is : all ≡ x ∷ h.others = h.is ∙ ap (λ xs. xs ++ h.others) made in
    subst (λ xs. AreSome Is text_of text xs r) (sym is) (record {
      at = record { lawful = (found.0.lawful, h.lawful); written = found.0.written ∙ ap (λ (xs : List ℕ). text_of x ++ xs) h.written ∙ sym (append_assoc (text_of x) (others_text text_of h.others) (41 ∷ r)) };
      some = λ none. absurd cc;
    })

pub from_some : {X : Type 0} (Is : X → Type 0) (text_of : X → List ℕ) (text rest : List ℕ) (x : X) (before : List X) → Alone (IsItemAt Is text_of text) x rest → before ≡ x ∷ [] → (all : List X) (r : List ℕ) → AreSome Is text_of text all r → Completes Is text_of before rest all r
from_some Is text_of text rest x before found made [] r h = absurd (h.some refl)
from_some Is text_of text rest x before found made (y ∷ ys) r h =
    let at : IsItemAt Is text_of text y (others_text text_of ys ++ (41 ∷ r)) = record { lawful = h.at.lawful.0; written = h.at.written ∙ append_assoc (text_of y) (others_text text_of ys) (41 ∷ r); ends = others_end text_of ys r } in
    let same = found.1 y (others_text text_of ys ++ (41 ∷ r)) at in
    record { others = ys; is = ap (λ z. z ∷ ys) same.0 ∙ ap (λ xs. xs ++ ys) (sym made); lawful = h.at.lawful.1; written = sym same.1 }

pub some_missing : {X : Type 0} (Is : X → Type 0) (text_of : X → List ℕ) (text : List ℕ) → ((x : X) (rest : List ℕ) → ¬ (IsItemAt Is text_of text x rest)) → (all : List X) (r : List ℕ) → ¬ (AreSome Is text_of text all r)
some_missing Is text_of text none [] r h = h.some refl
some_missing Is text_of text none (y ∷ ys) r h =
    none y (others_text text_of ys ++ (41 ∷ r)) (record { lawful = h.at.lawful.0; written = h.at.written ∙ append_assoc (text_of y) (others_text text_of ys) (41 ∷ r); ends = others_end text_of ys r })

-- ---- none, or some

pub some_list : {X : Type 0} (Is : X → Type 0) (text_of : X → List ℕ) (text : List ℕ) (all : List X) (r : List ℕ) → AreSome Is text_of text all r → AreAt Is text_of text all r
some_list Is text_of text all r h = h.at

pub list_some : {X : Type 0} (Is : X → Type 0) (text_of : X → List ℕ) (text : List ℕ) → ((r : List ℕ) → text ≢ 41 ∷ r) → (all : List X) (r : List ℕ) → AreAt Is text_of text all r → AreSome Is text_of text all r
list_some Is text_of text other [] r h = absurd (other r h.written)
list_some Is text_of text other (y ∷ ys) r h = record { at = h; some = λ none. absurd cc }

pub empty_found : {X : Type 0} (Is : X → Type 0) (text_of : X → List ℕ) (text rest : List ℕ) (none : List X) → ((x : X) (s : List ℕ) → begins_with 41 (text_of x ++ s) ≡ false) → text ≡ 41 ∷ rest → none ≡ [] → Alone (AreAt Is text_of text) none rest
empty_found {X = X} Is text_of text rest none apart close is = (
  subst (λ xs. AreAt Is text_of text xs rest) (sym is) (record { lawful = tt; written = close }),
  λ all r h. let same = only all r h in (same.0 ∙ sym is, same.1),
)
  where
    only : (all : List X) (r : List ℕ) → AreAt Is text_of text all r → (all ≡ []) × (r ≡ rest)
    only [] r h = (refl, same_behind 41 r rest (sym h.written ∙ close))
    only (y ∷ ys) r h =
        absurd (not_both (begins_with 41 text) (ap (begins_with 41) close) (ap (begins_with 41) (h.written ∙ append_assoc (text_of y) (others_text text_of ys) (41 ∷ r)) ∙ apart y (others_text text_of ys ++ (41 ∷ r))))
