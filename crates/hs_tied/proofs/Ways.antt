-- From whom recorded waits lead to a session.
use Rattle.std.proofs.Common.{◌≡◌, ◌⊎◌, inl, inr, ℕ, zero, suc, ◌+◌, ◌-◌, ◌<◌, ◌≤◌, ◌==◌, ◌&&◌, ◌||◌, Bool, true, false, List, [], ◌∷◌, length, refl, sym, ◌∙◌, subst, arith, eqb-true, eq-eqb}
use Rattle.std.specs.Prelude.{Option, None, Some, filter}
use Rattle.std.specs.List.{list_any}
use Rattle.std.specs.Option.{option_map}
use Rattle.std.proofs.lemmas.Bool.{and_from, and_parts}
use Rattle.hs_base.specs.declared.numbers.SessionNo.{SessionNo}
use Rattle.hs_claims.specs.declared.blockers.Blockers.{Blockers}
use Rattle.hs_claims.specs.Blockers.{has}
use Rattle.hs_claims.specs.Session.{IsSession}
use Rattle.hs_waits.specs.Waits.{Waits as Recorded, waits_of, WaitsFor, IsWay, Leads, IsFirstLeading}
use Rattle.hs_turns.specs.Waiting.{Waits, ascending, first_leading, is_among, leads, leads_over}
use Rattle.hs_turns.proofs.Counting.{or_cases, or_first, or_second, some_of, any_map, any_among}
use Rattle.hs_holding.specs.Held.{IsNumber}
use Rattle.hs_tied.specs.Waiting.{Ways}
use Rattle.hs_tied.proofs.Numbers.{among, first_none, first_some}

module _ (n : ℕ) (most : n ≤ 64) (w : Waits) (ways : Ways n w) (r : Recorded) (tie : (a b : ℕ) → IsSession a → IsSession b → w a b ≡ has (waits_of r a) b) where
  number : (a : ℕ) → IsNumber n a → IsSession a
  number a k = (k.0, omega (arith, k.1, most))

  known : (a : ℕ) → IsNumber n a → is_among a (ascending 1 n) ≡ true
  known a k = among a n 1 k.0 (omega (arith, k.1))

  edge : (a b : ℕ) → w a b ≡ true → WaitsFor r a b
  edge a b e = let from = number a (ways.from a b e) in let to = number b (ways.to a b e) in (from, to, sym (tie a b from to) ∙ e)

  waits : (a b : ℕ) → WaitsFor r a b → w a b ≡ true
  waits a b h = tie a b h.0 h.1 ∙ h.2

  -- ---- each lead is a way

  on_by : (k a b : ℕ) → ((c : ℕ) → leads_over k (ascending 1 n) w c b ≡ true → Leads r c b)
      → ((a == b) ≡ true) ⊎ (list_any (λ next. w a next && leads_over k (ascending 1 n) w next b) (ascending 1 n) ≡ true) → Leads r a b
  on_by k a b rest (inl e) = ([], eqb-true a b e)
  on_by k a b rest (inr h) =
      let one = some_of (λ next. w a next && leads_over k (ascending 1 n) w next b) (ascending 1 n) h in
      let parts = and_parts (w a one.0) (leads_over k (ascending 1 n) w one.0 b) one.1 in
      let way = rest one.0 parts.1 in
      (one.0 ∷ way.0, (edge a one.0 parts.0, way.1))

  is_way : (k a b : ℕ) → leads_over k (ascending 1 n) w a b ≡ true → Leads r a b
  unfolding leads_over
  is_way zero a b h = ([], eqb-true a b h)
  is_way (suc k) a b h = on_by k a b (λ c. is_way k c b) (or_cases (a == b) (list_any (λ next. w a next && leads_over k (ascending 1 n) w next b) (ascending 1 n)) h)

  -- ---- each way is a lead

  along : (b : ℕ) (way : List ℕ) (a : ℕ) → IsWay r a way b → leads_over (length way) (ascending 1 n) w a b ≡ true
  unfolding leads_over
  along b [] a is = eq-eqb a b is
  along b (next ∷ way) a is = or_second (a == b) (list_any (λ x. w a x && leads_over (length way) (ascending 1 n) w x b) (ascending 1 n))
      (any_among (λ x. w a x && leads_over (length way) (ascending 1 n) w x b) next (ascending 1 n) (known next (ways.to a next (waits a next is.0)))
      (and_from (w a next) (leads_over (length way) (ascending 1 n) w next b) (waits a next is.0) (along b way next is.1)))

  longer_by : (k a b : ℕ) → ((c : ℕ) → leads_over k (ascending 1 n) w c b ≡ true → leads_over (suc k) (ascending 1 n) w c b ≡ true)
      → ((a == b) ≡ true) ⊎ (list_any (λ next. w a next && leads_over k (ascending 1 n) w next b) (ascending 1 n) ≡ true)
      → ((a == b) || list_any (λ next. w a next && leads_over (suc k) (ascending 1 n) w next b) (ascending 1 n)) ≡ true
  longer_by k a b rest (inl e) = or_first (a == b) (list_any (λ next. w a next && leads_over (suc k) (ascending 1 n) w next b) (ascending 1 n)) e
  longer_by k a b rest (inr h) = or_second (a == b) (list_any (λ next. w a next && leads_over (suc k) (ascending 1 n) w next b) (ascending 1 n))
      (any_map (λ next. w a next && leads_over k (ascending 1 n) w next b) (λ next. w a next && leads_over (suc k) (ascending 1 n) w next b)
      (λ next e. let parts = and_parts (w a next) (leads_over k (ascending 1 n) w next b) e in and_from (w a next) (leads_over (suc k) (ascending 1 n) w next b) parts.0 (rest next parts.1)) (ascending 1 n) h)

  longer : (k a b : ℕ) → leads_over k (ascending 1 n) w a b ≡ true → leads_over (suc k) (ascending 1 n) w a b ≡ true
  unfolding leads_over
  longer zero a b h = or_first (a == b) (list_any (λ next. w a next && (next == b)) (ascending 1 n)) h
  longer (suc k) a b h = longer_by k a b (λ c. longer k c b) (or_cases (a == b) (list_any (λ next. w a next && leads_over k (ascending 1 n) w next b) (ascending 1 n)) h)

  up_to : (j k m a b : ℕ) → m ≡ j + k → leads_over k (ascending 1 n) w a b ≡ true → leads_over m (ascending 1 n) w a b ≡ true
  up_to zero k m a b e h = let is : k ≡ m = omega (arith, e) in subst (λ (x : ℕ). leads_over x (ascending 1 n) w a b ≡ true) is h
  up_to (suc j) k m a b e h = up_to j (suc k) m a b (omega (arith, e)) (longer k a b h)

  -- no way is longer than there are ranks
  short : (b : ℕ) (way : List ℕ) (a : ℕ) → IsWay r a way b → (length way ≡ 0) ⊎ (ways.ranked.rank a + length way < n)
  short b [] a is = inl refl
  short b (next ∷ way) a is =
      let e = waits a next is.0 in
      let rises = ways.ranked.rises a next e in
      let below = ways.ranked.below a next e in
      elim (short b way next is.1) [
        | inl none ↦ inr (omega (arith, none, rises, below))
        | inr less ↦ inr (omega (arith, less, rises))
      ]

  fits_in : (b : ℕ) (way : List ℕ) (a : ℕ) → IsWay r a way b → length way ≤ n
  fits_in b way a is = elim (short b way a is) [
    | inl none ↦ omega (arith, none)
    | inr less ↦ omega (arith, less)
  ]

  is_lead : (a b : ℕ) → Leads r a b → leads n w a b ≡ true
  is_lead a b h = let j = n - length h.0 in let le = fits_in b h.0 a h.1 in up_to j (length h.0) n a b (omega (arith, le)) (along b h.0 a h.1)

  not_lead : (a b : ℕ) → (Leads r a b → ⊥) → leads n w a b ≡ false
  not_lead a b absent = by (leads n w a b) refl
    where
      by : (t : Bool) → leads n w a b ≡ t → leads n w a b ≡ false
      by true e = absurd (absent (is_way n a b e))
      by false e = e

  -- the first from whom waits lead back is found among the numbers of a set
  pub first_is : (s : ℕ) (set : Blockers) (found : Option SessionNo) → ((b : ℕ) → IsSession b → has set b ≡ true → b ≤ n) → IsFirstLeading r s set found
      → first_leading n w s (filter (has set) (ascending 1 n)) ≡ option_map (λ x. x.0) found
  first_is s set None within h = first_none (λ b. leads n w b s) (has set) n 1 (λ b low high at. not_lead b s (h b (low, omega (arith, high, most)) at))
  first_is s set (Some first) within h =
      first_some (λ b. leads n w b s) (has set) first.0 n 1 h.0.0 (let le = within first.0 h.0 h.1 in omega (arith, le)) h.1 (is_lead first.0 s h.2) (λ b low less at. not_lead b s (h.3 b low less at))
