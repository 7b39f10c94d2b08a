-- The numbers that inserted rows get at a commit.
use Rattle.std.proofs.Common.{◌≡◌, ℕ, zero, suc, ◌+◌, ◌-◌, ◌^◌, ◌<◌, ◌≤◌, Bool, true, false, cond, List, [], ◌∷◌, length, ◌⊎◌, inl, inr, refl, ap, ◌∙◌, arith}
use Rattle.std.specs.Prelude.{Some, slice_get, slice_index_or, nat_lt}
use Rattle.std.specs.List.{Contains}
use Rattle.std.proofs.lemmas.Bool.{ltb-true, lt-ltb}
use Rattle.std.proofs.lemmas.List.Elements.{Contains-append_cases}
use Rattle.std.proofs.lemmas.Option.{get_or_from_slice_get}
use Rattle.hs_plan.specs.declared.change.Change.{Change}
use Rattle.hs_plan.specs.declared.change.Change.TheVariants as change
use Rattle.hs_changes.specs.Changes.{own_row}
use Rattle.hs_turns.specs.Numbers.{number_in, numbers_from, final_row}

alone : (n x k : ℕ) → k < 1 → slice_index_or (n ∷ []) k x ≡ x → n ≡ x
alone n x zero h is = is
alone n x (suc k) h is = absurd (omega (arith, h))

nothing : (x k : ℕ) → k < 0 → ⊥
nothing x k h = omega (arith, h)

-- the number of a change is its own
of_one : (n x : ℕ) (c : Change) → Contains (number_in n c) x → n ≡ x
of_one n x (change.Insert table values) h = alone n x h.0 h.1 h.2
of_one n x (change.Put table row values) h = absurd (nothing x h.0 h.1)
of_one n x (change.Delete table row) h = absurd (nothing x h.0 h.1)
of_one n x (change.Define definition) h = absurd (nothing x h.0 h.1)

-- numbers from n on are those of the changes
pub between : (n x : ℕ) (cs : List Change) → Contains (numbers_from n cs) x → (n ≤ x) × (x < n + length cs)
between n x [] h = absurd (nothing x h.0 h.1)
between n x (c ∷ cs) h = by (Contains-append_cases (number_in n c) (numbers_from (n + 1) cs) x h) (between (n + 1) x cs)
  where
    by : Contains (number_in n c) x ⊎ Contains (numbers_from (n + 1) cs) x → (Contains (numbers_from (n + 1) cs) x → (n + 1 ≤ x) × (x < n + 1 + length cs)) → (n ≤ x) × (x < n + length (c ∷ cs))
    by (inl one) later = let is = of_one n x c one in (omega (arith, is), omega (arith, is))
    by (inr more) later = let rest = later more in let low = rest.0 in let high = rest.1 in (omega (arith, low), omega (arith, high))

pub own-final : (numbers : List ℕ) (i number : ℕ) → slice_get numbers i ≡ Some number → final_row numbers (own_row (i + 1)) ≡ number
own-final numbers i number is =
    let above : nat_lt (2 ^ 63) (own_row (i + 1)) ≡ true = lt-ltb (2 ^ 63) (own_row (i + 1)) (omega arith) in
    let place : own_row (i + 1) - 2 ^ 63 - 1 ≡ i = omega arith in
    ap (λ (b : Bool). cond b (slice_index_or numbers (own_row (i + 1) - 2 ^ 63 - 1) (own_row (i + 1))) (own_row (i + 1))) above
    ∙ ap (λ (k : ℕ). slice_index_or numbers k (own_row (i + 1))) place
    ∙ get_or_from_slice_get numbers i number (own_row (i + 1)) is

pub old-final : (numbers : List ℕ) (row : ℕ) → row < own_row 1 → final_row numbers row ≡ row
old-final numbers row old = by (nat_lt (2 ^ 63) row) refl
  where
    by : (b : Bool) → nat_lt (2 ^ 63) row ≡ b → cond b (slice_index_or numbers (row - 2 ^ 63 - 1) row) row ≡ row
    by true is = let above = ltb-true (2 ^ 63) row is in absurd (omega (arith, above, old))
    by false is = refl
