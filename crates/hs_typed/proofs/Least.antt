-- The least of faults.
use Rattle.std.proofs.Common.{◌≡◌, ℕ, Bool, true, false, ◌||◌, ◌&&◌, List, [], ◌∷◌, Some, None, refl, arith, inl, inr, subst, ◌↔◌}
use Rattle.std.specs.Prelude.{nat_lt, ◌==◌, Contains, if◌then◌else◌}
use Rattle.std.proofs.lemmas.Bool.Decides.{nat_tests}
use Rattle.std.proofs.lemmas.List.Elements.{All-cons, All-head, All-tail, Contains-append_cases, Contains-append_left, Contains-append_right, Contains-push}
use Rattle.hs_plan.specs.declared.fault.PlacedFault.{PlacedFault}
use Rattle.hs_plan.specs.Fault.{is_before, rank_of}
use Rattle.hs_typed.specs.Faults.{earlier, least, noted, IsLeast}

-- by class, and in a class by place
abbrev comes : ℕ → ℕ → ℕ → ℕ → Bool
comes r p q s = nat_lt r q || ((r == q) && nat_lt p s)

comes_irreflexive : (r p : ℕ) → comes r p r p ≡ false
comes_irreflexive r p = grind (arith, nat_tests)

-- what comes before another, and that not after a third
comes_through : (r p q s t u : ℕ) → comes q s r p ≡ true → comes q s t u ≡ false → comes r p t u ≡ false
comes_through r p q s t u before after = grind (arith, nat_tests)

comes_not : (r p q s t u : ℕ) → comes q s r p ≡ false → comes r p t u ≡ false → comes q s t u ≡ false
comes_not r p q s t u before after = grind (arith, nat_tests)

abbrev IsNone : PlacedFault → PlacedFault → Type 0
IsNone b other = is_before other b ≡ false

step : (a f : PlacedFault) (fs : List PlacedFault) (b : PlacedFault) (t : Bool) → is_before f a ≡ t → IsLeast b ((if t then f else a) ∷ fs) → IsLeast b (a ∷ f ∷ fs)
step a f fs b true before known = (
  Contains-append_right (a ∷ []) (f ∷ fs) b known.0,
  All-cons (IsNone b) a (f ∷ fs) (comes_through (rank_of a.cause) a.at (rank_of f.cause) f.at (rank_of b.cause) b.at before (All-head (IsNone b) f fs known.1)) known.1,
)
step a f fs b false before known =
    let none : IsNone b f = comes_not (rank_of a.cause) a.at (rank_of f.cause) f.at (rank_of b.cause) b.at before (All-head (IsNone b) a fs known.1) in
    let among : Contains (a ∷ f ∷ fs) b = elim (Contains-append_cases (a ∷ []) fs b known.0) [
      | inl head ↦ Contains-append_left (a ∷ []) (f ∷ fs) b head
      | inr tail ↦ Contains-append_right (a ∷ f ∷ []) fs b tail
    ] in
    (among, All-cons (IsNone b) a (f ∷ fs) (All-head (IsNone b) a fs known.1) (All-cons (IsNone b) f fs none (All-tail (IsNone b) a fs known.1)))

alone : (a b : PlacedFault) → a ≡ b → IsLeast b (a ∷ [])
alone a b same = subst (λ z. IsLeast z (a ∷ [])) same
    (Contains-push [] a, All-cons (IsNone a) a [] (comes_irreflexive (rank_of a.cause) a.at) (λ k d within. absurd (omega arith)))

inside_some : (a b : PlacedFault) → Some a ≡ Some b → a ≡ b
inside_some a b same = cc

-- the least of a fault and more faults is one of them, and none of them comes before it
pub behind_one : (a : PlacedFault) (fs : List PlacedFault) (b : PlacedFault) → noted (Some a) fs ≡ Some b → IsLeast b (a ∷ fs)
behind_one a [] b is = alone a b (inside_some a b is)
behind_one a (f ∷ fs) b is = step a f fs b (is_before f a) refl (behind_one (earlier a f) fs b is)

pub is_least : (fs : List PlacedFault) (b : PlacedFault) → least fs ≡ Some b → IsLeast b fs
is_least [] b is = absurd (cc)
is_least (f ∷ fs) b is = behind_one f fs b is

still_some : (a : PlacedFault) (fs : List PlacedFault) → noted (Some a) fs ≡ None → ⊥
still_some a [] is = cc
still_some a (f ∷ fs) is = still_some (earlier a f) fs is

pub no_fault : (fs : List PlacedFault) → (least fs ≡ None) ↔ (fs ≡ [])
no_fault [] = ((λ _. refl), (λ _. refl))
no_fault (f ∷ fs) = ((λ is. absurd (still_some f fs is)), (λ is. absurd (cc)))
