-- What LIKE means, in pieces of the text.
use Rattle.std.proofs.Common.{◌≡◌, ◌↔◌, ℕ, List, [], ◌∷◌, ◌++◌, Bool, true, ◌==◌, length, inl, inr, refl, sym, ◌∙◌, ap, arith}
use Rattle.std.specs.List.{AllZip, concat}
use Rattle.std.proofs.lemmas.Bool.{eqb-true, eq-eqb}
use Rattle.hs_scalar.specs.declared.pattern.Item.{Item}
use Rattle.hs_scalar.specs.declared.pattern.Item.TheVariants.{AnyRun, AnyCharacter, This}
use Rattle.hs_scalar.specs.Like.{matches, some_end_passes, Fits, IsLike}
use Rattle.hs_scalar.proofs.LikeLemmas.{matches_fitting, and_first, and_second, or_cases, or_second, some_end_from_whole}

-- an end that passes, and what stands before it
some_end_split : (test : List ℕ → Bool) (cs : List ℕ) → some_end_passes test cs ≡ true → (front : List ℕ) × (end : List ℕ) × (front ++ end ≡ cs) × (test end ≡ true)
some_end_split test [] passes = ([], [], refl, passes)
some_end_split test (c ∷ cs) passes = elim (or_cases (test (c ∷ cs)) (some_end_passes test cs) passes) [
  | inl here ↦ ([], c ∷ cs, refl, here)
  | inr later ↦ let found : (front : List ℕ) × (end : List ℕ) × (front ++ end ≡ cs) × (test end ≡ true) = some_end_split test cs later in
      (c ∷ found.0, found.1, ap (λ (xs : List ℕ). c ∷ xs) found.2, found.3)
]

some_end_behind : (test : List ℕ → Bool) (front end : List ℕ) → test end ≡ true → some_end_passes test (front ++ end) ≡ true
some_end_behind test [] end passes = some_end_from_whole test end passes
some_end_behind test (c ∷ front) end passes = or_second (test (c ∷ front ++ end)) (some_end_passes test (front ++ end)) (some_end_behind test front end passes)

pieces_of : (items : List Item) (cs : List ℕ) → matches items cs ≡ true → IsLike items cs
unfolding matches
pieces_of [] [] matched = ([], tt, refl)
pieces_of [] (c ∷ cs) matched = absurd cc
pieces_of (AnyRun ∷ items) cs matched =
    let found : (front : List ℕ) × (end : List ℕ) × (front ++ end ≡ cs) × (matches items end ≡ true) = some_end_split (matches items) cs matched in
    let rest : IsLike items found.1 = pieces_of items found.1 found.3 in
    (found.0 ∷ rest.0, (tt, rest.1), ap (λ (xs : List ℕ). found.0 ++ xs) rest.2 ∙ found.2)
pieces_of (AnyCharacter ∷ items) [] matched = absurd cc
pieces_of (AnyCharacter ∷ items) (c ∷ cs) matched =
    let rest : IsLike items cs = pieces_of items cs matched in
    ((c ∷ []) ∷ rest.0, (refl, rest.1), ap (λ (xs : List ℕ). c ∷ xs) rest.2)
pieces_of (This d ∷ items) [] matched = absurd cc
pieces_of (This d ∷ items) (c ∷ cs) matched =
    let same : c ≡ d = eqb-true c d (and_first (c == d) (matches items cs) matched) in
    let rest : IsLike items cs = pieces_of items cs (and_second (c == d) (matches items cs) matched) in
    ((c ∷ []) ∷ rest.0, (ap (λ (x : ℕ). x ∷ []) same, rest.1), ap (λ (xs : List ℕ). c ∷ xs) rest.2)

matches_of : (items : List Item) (pieces : List (List ℕ)) → AllZip Fits items pieces → matches items (concat pieces) ≡ true
unfolding matches
matches_of [] [] fit = refl
matches_of [] (p ∷ ps) fit = absurd fit
matches_of (item ∷ items) [] fit = absurd fit
matches_of (AnyRun ∷ items) (p ∷ ps) fit = some_end_behind (matches items) p (concat ps) (matches_of items ps fit.1)
matches_of (AnyCharacter ∷ items) ([] ∷ ps) fit = absurd (let never : 0 ≡ 1 = fit.0 in omega arith)
matches_of (AnyCharacter ∷ items) ((c ∷ []) ∷ ps) fit = matches_of items ps fit.1
matches_of (AnyCharacter ∷ items) ((c ∷ d ∷ more) ∷ ps) fit = absurd (let never : length (c ∷ d ∷ more) ≡ 1 = fit.0 in omega arith)
matches_of (This d ∷ items) (p ∷ ps) fit = rw fit.0 (matches_fitting (This d) items d (concat ps) (eq-eqb d d refl) ∙ matches_of items ps fit.1)

-- a list of items matches the characters just where these are pieces in a row that fit the items
pub IsLike-matches : (items : List Item) (cs : List ℕ) → (matches items cs ≡ true) ↔ IsLike items cs
IsLike-matches items cs = (pieces_of items cs, λ like. rw (sym like.2) (matches_of items like.0 like.1))
