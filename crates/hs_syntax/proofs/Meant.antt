-- What holds of readings and of what they are meant as.
use Rattle.std.proofs.Common.{◌≡◌, ℕ, zero, suc, not, Bool, true, false, ◌&&◌, eqb, T, List, [], ◌∷◌, ◌++◌, ◌+◌, ◌<◌, arith, if◌then◌else◌, refl, ap, sym, ◌∙◌, subst, ◌⊎◌, inl, inr}
use Rattle.std.proofs.Math.Facts.{eqb_yes}
use Rattle.hs_grammar.proofs.Sets.{and_left, and_right}
use Rattle.hs_grammar.specs.declared.types.Item.{Item}
use Rattle.hs_grammar.specs.declared.types.Item.TheVariants as I
use Rattle.hs_grammar.specs.Grammar.{tokens_of}
use Rattle.hs_syntax.specs.Marks.{bracket, first, in_list, query, in_query}
use Rattle.hs_syntax.specs.Names.{right_parenthesis}
use Rattle.hs_syntax.specs.Meant.{MeantAs, ends, same, body_in_parentheses, query_behind_in, as_expression, as_body, close, HasNoSpot, HasOneReading}

-- ---- equal items, by computation

abbrev pub item_eq : Item → Item → Bool
item_eq (I.Token c) (I.Token d) = eqb c d
item_eq (I.Mark a) (I.Mark b) = eqb a b
item_eq _ _ = false

pub item_same : (x y : Item) → T (item_eq x y) → x ≡ y
item_same (I.Token c) (I.Token d) h = ap I.Token (eqb_yes h)
item_same (I.Token c) (I.Mark b) h = absurd h
item_same (I.Mark a) (I.Token d) h = absurd h
item_same (I.Mark a) (I.Mark b) h = ap I.Mark (eqb_yes h)

abbrev pub items_eq : List Item → List Item → Bool
items_eq [] [] = true
items_eq (x ∷ a) (y ∷ b) = item_eq x y && items_eq a b
items_eq _ _ = false

pub items_same : (a b : List Item) → T (items_eq a b) → a ≡ b
items_same [] [] h = refl
items_same [] (y ∷ b) h = absurd h
items_same (x ∷ a) [] h = absurd h
items_same (x ∷ a) (y ∷ b) h =
    let e = item_same x y (and_left (item_eq x y) (items_eq a b) h) in let f = items_same a b (and_right (item_eq x y) (items_eq a b) h) in cc

-- ---- the tokens stay

pub same_tokens : {w v : List Item} → MeantAs w v → tokens_of v ≡ tokens_of w
same_tokens ends = refl
same_tokens (same {x = I.Token c} d) = ap (λ b. c ∷ b) (same_tokens d)
same_tokens (same {x = I.Mark k} d) = same_tokens d
same_tokens (body_in_parentheses d) = ap (λ b. right_parenthesis ∷ b) (same_tokens d)
same_tokens (query_behind_in d) = ap (λ b. right_parenthesis ∷ b) (same_tokens d)

-- ---- a spot that is exchanged in front

abbrev Split : Item → List Item → List Item → Type 0
Split x w v = (u : List Item) × (v ≡ x ∷ u) × MeantAs w u

-- what is no step of a spot's beginning stays
inverted : (x : Item) (w : List Item) {a v : List Item} → MeantAs a v → a ≡ x ∷ w → T (not (item_eq as_expression x)) → Split x w v
inverted x w ends e h = cc
inverted x w (same {x = y} {w = a} {v} d) e h =
    let first_is : y ≡ x = cc in let rest_is : a ≡ w = cc in
    (v, ap (λ b. b ∷ v) first_is, subst (λ b. MeantAs b v) rest_is d)
inverted x w (body_in_parentheses d) e h = let is : as_expression ≡ x = cc in absurd (subst (λ b. T (not (item_eq as_expression b))) (sym is) h)
inverted x w (query_behind_in d) e h = let is : as_expression ≡ x = cc in absurd (subst (λ b. T (not (item_eq as_expression b))) (sym is) h)

exchanged_body : (w v : List Item) → MeantAs (as_body ∷ close ∷ as_expression ∷ w) v → MeantAs (as_expression ∷ close ∷ I.Mark bracket ∷ w) v
exchanged_body w v d =
    let i = inverted as_body (close ∷ as_expression ∷ w) d refl tt in
    let j = inverted close (as_expression ∷ w) i.2 refl tt in
    subst (λ b. MeantAs (as_expression ∷ close ∷ I.Mark bracket ∷ w) b) (sym (i.1 ∙ ap (λ b. as_body ∷ b) j.1)) (body_in_parentheses j.2)

exchanged_query : (w v : List Item) → MeantAs (as_body ∷ I.Mark query ∷ close ∷ I.Mark in_query ∷ w) v → MeantAs (as_expression ∷ I.Mark first ∷ close ∷ I.Mark in_list ∷ w) v
exchanged_query w v d =
    let i = inverted as_body (I.Mark query ∷ close ∷ I.Mark in_query ∷ w) d refl tt in
    let j = inverted (I.Mark query) (close ∷ I.Mark in_query ∷ w) i.2 refl tt in
    let k = inverted close (I.Mark in_query ∷ w) j.2 refl tt in
    let l = inverted (I.Mark in_query) w k.2 refl tt in
    subst (λ b. MeantAs (as_expression ∷ I.Mark first ∷ close ∷ I.Mark in_list ∷ w) b)
    (sym (i.1 ∙ ap (λ b. as_body ∷ b) (j.1 ∙ ap (λ b. I.Mark query ∷ b) (k.1 ∙ ap (λ b. close ∷ b) l.1)))) (query_behind_in l.2)

-- the steps with these numbers, as items
abbrev pub marks_of : List ℕ → List Item
marks_of [] = []
marks_of (k ∷ a) = I.Mark k ∷ marks_of a

-- the spots by their numbers, and what they are meant as
abbrev pub old : ℕ → List Item
old zero = as_expression ∷ close ∷ I.Mark bracket ∷ []
old (suc i) = as_expression ∷ I.Mark first ∷ close ∷ I.Mark in_list ∷ []

abbrev pub new : ℕ → List Item
new zero = as_body ∷ close ∷ as_expression ∷ []
new (suc i) = as_body ∷ I.Mark query ∷ close ∷ I.Mark in_query ∷ []

pub exchanged : (i : ℕ) (w v : List Item) → MeantAs (new i ++ w) v → MeantAs (old i ++ w) v
exchanged zero w v d = exchanged_body w v d
exchanged (suc i) w v d = exchanged_query w v d

-- ---- where no spot is, the reading itself is meant

pub nothing_else : {w v : List Item} → MeantAs w v → HasNoSpot w → w ≡ v
nothing_else ends h = refl
nothing_else (same {x} d) h = ap (λ b. x ∷ b) (nothing_else d h.1)
nothing_else (body_in_parentheses {w} d) h = absurd (h.0 (inl (w, refl)))
nothing_else (query_behind_in {w} d) h = absurd (h.0 (inr (w, refl)))

-- ---- it goes one way: what is meant otherwise has fewer of the steps that stand for less

abbrev less_meant : Item → ℕ
less_meant (I.Token c) = 0
less_meant (I.Mark k) = if eqb k bracket then 1 else if eqb k in_list then 1 else 0

abbrev how_many : List Item → ℕ
how_many [] = 0
how_many (x ∷ w) = less_meant x + how_many w

fewer : {w v : List Item} → MeantAs w v → (w ≡ v) ⊎ (how_many v < how_many w)
fewer ends = inl refl
fewer (same {x} {w} {v} d) = elim (fewer d) [ inl e ↦ inl (ap (λ b. x ∷ b) e) | inr l ↦ inr (omega (arith, l)) ]
fewer (body_in_parentheses {w} {v} d) = elim (fewer d) [
  | inl e ↦ let is : how_many (as_expression ∷ w) ≡ how_many v = ap how_many e in inr (omega (arith, is))
  | inr l ↦ inr (omega (arith, l))
]
fewer (query_behind_in d) = elim (fewer d) [ inl e ↦ let is = ap how_many e in inr (omega (arith, is)) | inr l ↦ inr (omega (arith, l)) ]

pub one_way : {w v : List Item} → MeantAs w v → MeantAs v w → w ≡ v
one_way d e = elim (fewer d) [ inl i ↦ i | inr l ↦ elim (fewer e) [ inl i ↦ sym i | inr k ↦ absurd (omega (arith, l, k)) ] ]
