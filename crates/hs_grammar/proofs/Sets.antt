-- Sets of columns, and tests that compute.
use Rattle.std.proofs.Common.{◌≡◌, ◌≢◌, ℕ, zero, suc, ◌<◌, ◌≤◌, Bool, true, false, ◌&&◌, ◌||◌, eqb, T, List, [], ◌∷◌, get_or, refl, ap, arith, suc-add, add-suc, ◌⊎◌, inl, inr}
use Rattle.std.proofs.Math.Nat.{eq-or-lt_of_le}
use Rattle.std.proofs.Math.Facts.{eqb_yes}
use Rattle.hs_grammar.specs.Check.{join, spike, ones, between, has, has_any, has_other, is_above_zero, within, takes, all_below, if_above}
use Rattle.hs_grammar.specs.Stands.{Has, here, there}

pub holds : (b : Bool) → b ≡ true → T b
holds true e = tt
holds false e = cc

pub is_true : (b : Bool) → T b → b ≡ true
is_true true h = refl
is_true false h = absurd h

pub and_left : (a b : Bool) → T (a && b) → T a
and_left true b h = tt
and_left false b h = absurd h

pub and_right : (a b : Bool) → T (a && b) → T b
and_right true b h = h
and_right false b h = absurd h

or_left : (a b : Bool) → T a → T (a || b)
or_left true b h = tt
or_left false b h = absurd h

or_right : (a b : Bool) → T b → T (a || b)
or_right true b h = tt
or_right false b h = h

pub within_at : (a b : List ℕ) (c : ℕ) → T (within a b) → Has a c → Has b c
within_at [] b c h k = elim k [ ]
within_at (zero ∷ a) [] zero h k = elim k [ ]
within_at (zero ∷ a) [] (suc c) h (there k) = elim (within_at a [] c h k) [ ]
within_at (suc x ∷ a) [] c h k = absurd h
within_at (zero ∷ a) (y ∷ b) zero h k = elim k [ ]
within_at (zero ∷ a) (y ∷ b) (suc c) h (there k) = there (within_at a b c h k)
within_at (suc x ∷ a) (zero ∷ b) c h k = absurd h
within_at (suc x ∷ a) (suc y ∷ b) _ h here = here
within_at (suc x ∷ a) (suc y ∷ b) _ h (there k) = there (within_at a b _ h k)

takes_none : (p : ℕ) (a : List ℕ) (c : ℕ) → T (takes p a []) → Has a c → ⊥
takes_none p [] c h k = elim k [ ]
takes_none p (zero ∷ a) zero h k = elim k [ ]
takes_none p (zero ∷ a) (suc c) h (there k) = takes_none p a c h k
takes_none p (suc x ∷ a) c h k = h

pub takes_at : (p : ℕ) (a b : List ℕ) (c : ℕ) → T (takes p a b) → Has a c → get_or b c 0 ≡ p
takes_at p [] b c h k = elim k [ ]
takes_at p (zero ∷ a) [] zero h k = elim k [ ]
takes_at p (zero ∷ a) [] (suc c) h (there k) = absurd (takes_none p a c h k)
takes_at p (suc x ∷ a) [] c h k = absurd h
takes_at p (zero ∷ a) (y ∷ b) zero h k = elim k [ ]
takes_at p (zero ∷ a) (y ∷ b) (suc c) h (there k) = takes_at p a b c h k
takes_at p (suc x ∷ a) (y ∷ b) _ h here = eqb_yes (and_left (eqb y p) (takes p a b) h)
takes_at p (suc x ∷ a) (y ∷ b) _ h (there k) = takes_at p a b _ (and_right (eqb y p) (takes p a b) h) k

pub has_spike : (d : ℕ) → Has (spike d) d
has_spike zero = here
has_spike (suc d) = there (has_spike d)

has_ones : (b c : ℕ) → c ≤ b → Has (ones b) c
has_ones zero zero h = here
has_ones zero (suc c) h = absurd (omega arith)
has_ones (suc b) zero h = here
has_ones (suc b) (suc c) h = there (has_ones b c (omega arith))

pub has_between : (a b c : ℕ) → a ≤ c → c ≤ b → Has (between a b) c
has_between zero b c h k = has_ones b c k
has_between (suc a) zero c h k = absurd (omega arith)
has_between (suc a) (suc b) zero h k = absurd (omega arith)
has_between (suc a) (suc b) (suc c) h k = there (has_between a b c (omega arith) (omega arith))

pub has_join : (a b : List ℕ) (c : ℕ) → Has a c ⊎ Has b c → Has (join a b) c
has_join [] b c (inl k) = elim k [ ]
has_join [] b c (inr k) = k
has_join (x ∷ a) [] c (inl k) = k
has_join (x ∷ a) [] c (inr k) = elim k [ ]
has_join (suc x ∷ a) (y ∷ b) _ (inl here) = rw suc-add here
has_join (x ∷ a) (y ∷ b) _ (inl (there k)) = there (has_join a b _ (inl k))
has_join (x ∷ a) (suc y ∷ b) _ (inr here) = rw add-suc here
has_join (x ∷ a) (y ∷ b) _ (inr (there k)) = there (has_join a b _ (inr k))

pub has_some : (r : List ℕ) (c p : ℕ) → get_or r c 0 ≡ p → 0 < p → Has r c
has_some [] c p e h = absurd (omega (arith, e))
has_some (zero ∷ r) zero p e h = absurd (omega (arith, e))
has_some (suc x ∷ r) zero p e h = here
has_some (x ∷ r) (suc c) p e h = there (has_some r c p e h)

pub has_yes : (r : List ℕ) (c : ℕ) → Has r c → T (has r c)
has_yes _ _ here = tt
has_yes _ _ (there {x} {c} {r} k) = has_yes r c k

has_any_yes : (r : List ℕ) (c : ℕ) → Has r c → T (has_any r)
has_any_yes _ _ here = tt
has_any_yes _ _ (there {x} {c} {r} k) = or_right (is_above_zero x) (has_any r) (has_any_yes r c k)

pub has_other_yes : (r : List ℕ) (c d : ℕ) → Has r c → c ≢ d → T (has_other r d)
has_other_yes _ _ zero here n = absurd (n refl)
has_other_yes _ _ (suc d) here n = tt
has_other_yes _ _ zero (there {x} {c} {r} k) n = has_any_yes r c k
has_other_yes _ _ (suc d) (there {x} {c} {r} k) n = or_right (is_above_zero x) (has_other r d) (has_other_yes r c d k (λ e. n (ap suc e)))

eq_or_below : (n k : ℕ) → k < suc n → (k ≡ n) ⊎ (k < n)
eq_or_below n k h = let le : k ≤ n = omega arith in eq-or-lt_of_le le

pub all_at : (n : ℕ) (f : ℕ → Bool) (k : ℕ) → T (all_below n f) → k < n → T (f k)
all_at zero f k h l = absurd (omega arith)
all_at (suc n) f k h l = elim (eq_or_below n k (omega arith)) [ inl e ↦ rw e (and_left (f n) (all_below n f) h) | inr l' ↦ all_at n f k (and_right (f n) (all_below n f) h) l' ]

pub above_zero : (p : ℕ) (b : Bool) → 0 < p → T (if_above p b) → T b
above_zero zero b l h = absurd (omega arith)
above_zero (suc p) b l h = h
