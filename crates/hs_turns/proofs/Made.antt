-- Each commit is a definition's or that of an ended transaction.
use Rattle.std.proofs.Common.{◌≡◌, ◌⊎◌, inl, inr, ℕ, zero, suc, true, List, [], ◌∷◌, ◌++◌, length, Option, None, Some, slice_get, refl, sym, ap, ◌∙◌, subst}
use Rattle.std.specs.List.{list_any}
use Rattle.hs_turns.specs.Database.{is_definition}
use Rattle.hs_turns.specs.Histories.{Commit, Ended, commit_of}
use Rattle.hs_turns.specs.Promises.{AreMade, IsOfEnded}

same_some : {X : Type 0} (x y : X) → Some x ≡ Some y → x ≡ y
same_some {X} x y e = ap (λ (o : Option X). elim o as (λ _. X) [ None ↦ x | Some z ↦ z ]) e

-- what stands in a list with one more
at_or_last : {X : Type 0} (x c : X) → (xs : List X) (k : ℕ) → slice_get (xs ++ x ∷ []) k ≡ Some c → (slice_get xs k ≡ Some c) ⊎ ((k ≡ length xs) × (x ≡ c))
at_or_last x c [] zero h = inr (refl, same_some x c h)
at_or_last x c [] (suc k) h = absurd cc
at_or_last x c (y ∷ xs) zero h = inl h
at_or_last x c (y ∷ xs) (suc k) h = later (at_or_last x c xs k h)
  where
    later : (slice_get xs k ≡ Some c) ⊎ ((k ≡ length xs) × (x ≡ c)) → (slice_get xs k ≡ Some c) ⊎ ((suc k ≡ length (y ∷ xs)) × (x ≡ c))
    later (inl old) = inl old
    later (inr last) = inr (ap suc last.0, last.1)

with_more : (ended : List Ended) (e : Ended) (k : ℕ) (commit : Commit) → (list_any is_definition commit.changes ≡ true) ⊎ IsOfEnded ended k commit → (list_any is_definition commit.changes ≡ true) ⊎ IsOfEnded (e ∷ ended) k commit
with_more ended e k commit (inl d) = inl d
with_more ended e k commit (inr known) = inr (known.0, inr known.1, known.2, known.3, known.4)

-- one that ends without a commit
pub made_without : (commits : List Commit) (ended : List Ended) (e : Ended) → AreMade commits ended → AreMade commits (e ∷ ended)
made_without commits ended e h = λ k commit at. with_more ended e k commit (h k commit at)

-- one that is the next commit
pub made_with : (commits : List Commit) (ended : List Ended) (e : Ended) → e.kept ≡ true → e.at ≡ length commits → AreMade commits ended → AreMade (commits ++ commit_of e.txn ∷ []) (e ∷ ended)
made_with commits ended e kept there h = λ k commit at. by k commit (at_or_last (commit_of e.txn) commit commits k at)
  where
    by : (k : ℕ) (commit : Commit) → (slice_get commits k ≡ Some commit) ⊎ ((k ≡ length commits) × (commit_of e.txn ≡ commit)) → (list_any is_definition commit.changes ≡ true) ⊎ IsOfEnded (e ∷ ended) k commit
    by k commit (inl old) = with_more ended e k commit (h k commit old)
    by k commit (inr last) = inr (e, inl refl, kept, there ∙ sym last.0, last.1)

-- a definition
pub made_by_definition : (commits : List Commit) (ended : List Ended) (d : Commit) → list_any is_definition d.changes ≡ true → AreMade commits ended → AreMade (commits ++ d ∷ []) ended
made_by_definition commits ended d is h = λ k commit at. by k commit (at_or_last d commit commits k at)
  where
    by : (k : ℕ) (commit : Commit) → (slice_get commits k ≡ Some commit) ⊎ ((k ≡ length commits) × (d ≡ commit)) → (list_any is_definition commit.changes ≡ true) ⊎ IsOfEnded ended k commit
    by k commit (inl old) = h k commit old
    by k commit (inr last) = inl (subst (λ (c : Commit). list_any is_definition c.changes ≡ true) last.1 is)
