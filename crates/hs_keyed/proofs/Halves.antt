-- A list of which a first part is done.
use Rattle.std.proofs.Common.{ℕ, ◌+◌, ◌<◌, ◌≤◌, inl, inr, List, length, get_or, sym, subst, arith}
use Rattle.std.proofs.Math.ListN.{set, length-set}
use Rattle.std.proofs.lemmas.Bool.{cases_eq}
use Rattle.std.proofs.lemmas.Grind.{get_or-set_at}
use Rattle.std.proofs.lemmas.List.{get_or-set_other}
use Rattle.std.specs.List.{All}

pub record Half {X : Type 0} (P Q : X → Type 0) (i : ℕ) (xs : List X) : Type 0 where
  pub done : (k : ℕ) (d : X) → k < i → k < length xs → P (get_or xs k d)
  pub left : (k : ℕ) (d : X) → i ≤ k → k < length xs → Q (get_or xs k d)

module _ {X : Type 0} (P Q : X → Type 0) where
  pub half_none : (xs : List X) → All Q xs → Half P Q 0 xs
  half_none xs all = record { done = λ k d none within. absurd (omega arith); left = λ k d from within. all k d within }

  pub half_more : (i : ℕ) (xs : List X) (y : X) → Half P Q i xs → i < length xs → P y → Half P Q (i + 1) (set xs i y)
  half_more i xs y half low is = record {
    done = λ k d below within. elim (cases_eq k i) [
      | inl same ↦ subst P (sym (get_or-set_at xs i k y d same low)) is
      | inr other ↦ subst P (sym (get_or-set_other xs i k y d other)) (half.done k d (omega arith) (omega (arith, length-set xs i y)))
    ];
    left = λ k d from within. subst Q (sym (get_or-set_other xs i k y d (λ same. absurd (omega arith)))) (half.left k d (omega arith) (omega (arith, length-set xs i y)));
  }

  pub half_all : (i : ℕ) (xs : List X) → Half P Q i xs → length xs ≤ i → All P xs
  half_all i xs half past = λ k d within. half.done k d (omega arith) within
