-- A set that is closed by a list that is worked from its front.
use Rattle.std.proofs.Common.{◌≡◌, ℕ, zero, suc, ◌+◌, Bool, true, false, nat_eq, List, [], ◌∷◌, take, slice_get, Some, None, refl, sym, ap, ◌∙◌, inl, inr, take_all, arith}
use Rattle.std.proofs.lemmas.Bool.{or_cases, or_left, or_right}
use Rattle.std.proofs.lemmas.Map.Keys.{any_passes_from_place}
use Rattle.indexmap.specs.IndexSet.{insert_all}
use Rattle.hs_closure.specs.Sets.{is_in, IsClosure}
use Rattle.hs_closure.proofs.Sets.{never, itself, is_in-insert_all, front_grown, in_front_or_last}

-- what is known when the numbers in front of a place were worked
pub record Closing (next : ℕ → List ℕ) (old ks : List ℕ) (at : ℕ) : Type 0 where
  pub kept : (n : ℕ) → is_in old n ≡ true → is_in ks n ≡ true
  pub done : (n m : ℕ) → is_in (take at ks) n ≡ true → is_in (next n) m ≡ true → is_in ks m ≡ true
  pub least : (set : ℕ → Bool) → ((n : ℕ) → is_in old n ≡ true → set n ≡ true) → ((n m : ℕ) → set n ≡ true → is_in (next n) m ≡ true → set m ≡ true) → (n : ℕ) → is_in ks n ≡ true → set n ≡ true

pub closing_start : (next : ℕ → List ℕ) (old : List ℕ) → Closing next old old 0
closing_start next old = record {
  kept = λ n h. h;
  done = λ n m h more. never false h refl;
  least = λ set base closed n h. base n h;
}

pub closing_step : (next : ℕ → List ℕ) (old ks : List ℕ) (at x : ℕ) → Closing next old ks at → slice_get ks at ≡ Some x → Closing next old (insert_all nat_eq ks (next x)) (at + 1)
closing_step next old ks at x c here = record {
  kept = λ n h. grown n (c.kept n h);
  done = done;
  least = least;
}
  where
    grown : (n : ℕ) → is_in ks n ≡ true → is_in (insert_all nat_eq ks (next x)) n ≡ true
    grown n h = is_in-insert_all ks (next x) n ∙ or_left (is_in ks n) (is_in (next x) n) h

    done : (n m : ℕ) → is_in (take (at + 1) (insert_all nat_eq ks (next x))) n ≡ true → is_in (next n) m ≡ true → is_in (insert_all nat_eq ks (next x)) m ≡ true
    done n m h more = elim (in_front_or_last (take at ks) x n (sym (ap (λ l. is_in l n) (front_grown ks (next x) at x here)) ∙ h)) [
      | inl front ↦ grown m (c.done n m front more)
      | inr last ↦ is_in-insert_all ks (next x) m ∙ or_right (is_in ks m) (is_in (next x) m) (ap (λ k. is_in (next k) m) (sym last) ∙ more)
    ]

    least : (set : ℕ → Bool) → ((n : ℕ) → is_in old n ≡ true → set n ≡ true) → ((n m : ℕ) → set n ≡ true → is_in (next n) m ≡ true → set m ≡ true) → (n : ℕ) → is_in (insert_all nat_eq ks (next x)) n ≡ true → set n ≡ true
    least set base closed n h = elim (or_cases (is_in ks n) (is_in (next x) n) (sym (is_in-insert_all ks (next x) n) ∙ h)) [
      | inl there ↦ c.least set base closed n there
      | inr new ↦ closed x n (c.least set base closed x (any_passes_from_place (nat_eq x) ks at x here (itself x))) new
    ]

all_front : (ks : List ℕ) (at : ℕ) → slice_get ks at ≡ None → take at ks ≡ ks
all_front [] at h = take_all at [] (omega arith)
all_front (k ∷ ks) zero h = absurd (let no : Some k ≡ None = h in cc)
all_front (k ∷ ks) (suc at) h = ap (λ l. k ∷ l) (all_front ks at h)

pub closing_end : (next : ℕ → List ℕ) (old ks : List ℕ) (at : ℕ) → Closing next old ks at → slice_get ks at ≡ None → IsClosure next old ks
closing_end next old ks at c none = record {
  kept = c.kept;
  closed = λ n m h more. c.done n m (ap (λ l. is_in l n) (all_front ks at none) ∙ h) more;
  least = c.least;
}
