-- Lists of numbers without some of them.
use Rattle.std.proofs.Common.{◌≡◌, ℕ, Bool, true, false, cond, not, ◌&&◌, ◌||◌, nat_eq, List, [], ◌∷◌, filter, refl, sym, ap, ◌∙◌, subst}
use Rattle.std.proofs.lemmas.List.Kept.{IsStrictlyIncreasing-filter}
use Rattle.std.proofs.lemmas.List.Sorted.{IsNonDecreasingBy-from_sort}
use Rattle.std.proofs.lemmas.Map.Keys.{IsStrictlyIncreasing-from_distinct}
use Rattle.std.specs.List.{IsDistinct}
use Rattle.std.specs.List.Sorted.{IsStrictlyIncreasing, IsSorted}
use Rattle.std.specs.Ordering.{nat_cmp}
use Rattle.hs_base.specs.declared.numbers.TableNo.{TableNo}
use Rattle.hs_closure.specs.Sets.{is_in, is_only_in, HasExactly}
use Rattle.hs_closure.specs.Steps.{numbers}
use Rattle.hs_closure.proofs.Sets.{same_number, contained, contained-from}

and-false : (b : Bool) → (b && false) ≡ false
and-false true = refl
and-false false = refl

and-true : (b : Bool) → (b && true) ≡ b
and-true true = refl
and-true false = refl

in_filter : (p : ℕ → Bool) (xs : List ℕ) (m : ℕ) → is_in (filter p xs) m ≡ (is_in xs m && p m)
in_filter p [] m = refl
in_filter p (x ∷ xs) m = by (p x) refl (nat_eq m x) refl (in_filter p xs m)
  where
    by : (b : Bool) → p x ≡ b → (e : Bool) → nat_eq m x ≡ e → is_in (filter p xs) m ≡ (is_in xs m && p m) → is_in (cond b (x ∷ filter p xs) (filter p xs)) m ≡ ((e || is_in xs m) && p m)
    by true passes true same rest = ap (λ c. c || is_in (filter p xs) m) same ∙ sym (ap p (same_number m x same) ∙ passes)
    by true passes false other rest = ap (λ c. c || is_in (filter p xs) m) other ∙ rest
    by false fails true same rest = rest ∙ ap (λ c. is_in xs m && c) (ap p (same_number m x same) ∙ fails) ∙ and-false (is_in xs m) ∙ sym (ap p (same_number m x same) ∙ fails)
    by false fails false other rest = rest

-- what is left of sorted numbers that differ
pub ascends : (p : ℕ → Bool) (keys : List ℕ) (tables : List TableNo) → IsSorted nat_cmp keys → IsDistinct nat_eq keys → numbers tables ≡ filter p keys → IsStrictlyIncreasing (numbers tables)
ascends p keys tables sorted distinct is =
    subst IsStrictlyIncreasing (sym is) (IsStrictlyIncreasing-filter p keys (IsStrictlyIncreasing-from_distinct keys (IsNonDecreasingBy-from_sort (λ n. n) keys sorted) distinct))

pub exactly : (old keys other : List ℕ) (tables : List TableNo) → ((n : ℕ) → is_in keys n ≡ is_in old n) → numbers tables ≡ filter (λ n. not (is_in other n)) keys → HasExactly (is_only_in old other) tables
exactly old keys other tables same is = λ t.
    let here : is_in (numbers tables) t.0 ≡ is_only_in old other t.0 =
    ap (λ xs. is_in xs t.0) is ∙ in_filter (λ n. not (is_in other n)) keys t.0 ∙ ap (λ b. b && not (is_in other t.0)) (same t.0) in
    (λ there. sym here ∙ contained-from tables t there, λ h. contained tables t (here ∙ h))
