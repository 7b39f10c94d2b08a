-- Places, and the snapshots that there are.
use Rattle.std.proofs.Common.{◌≡◌, ℕ, zero, suc, ◌+◌, ◌==◌, ◌||◌, ◌<◌, ◌≤◌, ◌⊎◌, not, Bool, true, false, cond, List, [], ◌∷◌, ◌++◌, length, map, get_or, set, Option, None, Some, refl, sym, ap, ◌∙◌, inl, inr, arith, eq-eqb, eqb-true, ltb, ltb-false}
use Rattle.std.proofs.lemmas.List.Quantifiers.{position-Some}
use Rattle.std.specs.Cmp.{nat_eq_equiv}
use Rattle.std.specs.Prelude.{if◌then◌else◌}
use Rattle.std.specs.List.{filter, list_any, position, position_or_len}
use Rattle.hs_plan.specs.declared.change.Change.{Change}
use Rattle.hs_turns.specs.Each.{Each}
use Rattle.hs_snapshots.specs.declared.snapshot.Snapshot.{Snapshot}
use Rattle.hs_snapshots.specs.Places.{AreApart, IsPlace, has_start, index_at, on_present, on_snapshot, place_without, starts_without}

or_none : (a b : Bool) → (a || b) ≡ false → (a ≡ false) × (b ≡ false)
or_none true b h = absurd cc
or_none false b h = (refl, h)

or_right : (a b : Bool) → b ≡ true → (a || b) ≡ true
or_right true b h = refl
or_right false b h = h

if_same : {X : Type 0} (b : Bool) (x : X) → (if b then x else x) ≡ x
if_same true x = refl
if_same false x = refl

-- ---- where no changes are

pub none_present : (place : Option ℕ) → on_present place [] ≡ []
none_present None = refl
none_present (Some start) = refl

pub none_snapshot : (place : Option ℕ) (s : ℕ) → on_snapshot place s [] ≡ []
none_snapshot None s = refl
none_snapshot (Some start) s = let none : List Change = [] in if_same (s == start) none

-- at the present, or where there are none, none are on snapshots
pub over_present : (place : Option ℕ) (seated : List Change) → (place ≡ None) ⊎ (seated ≡ []) → on_present place seated ≡ seated
over_present place seated (inl e) = ap (λ (p : Option ℕ). on_present p seated) e
over_present place seated (inr e) = ap (on_present place) e ∙ none_present place ∙ sym e

pub over_snapshot : (place : Option ℕ) (s : ℕ) (seated : List Change) → (place ≡ None) ⊎ (seated ≡ []) → on_snapshot place s seated ≡ []
over_snapshot place s seated (inl e) = ap (λ (p : Option ℕ). on_snapshot p s seated) e
over_snapshot place s seated (inr e) = ap (on_snapshot place s) e ∙ none_snapshot place s

-- they are on the snapshot of the place, and on no other
pub own_snapshot : (s : ℕ) (seated : List Change) → on_snapshot (Some s) s seated ≡ seated
own_snapshot s seated = ap (λ (b : Bool). if b then seated else []) (eq-eqb s s refl)

pub other_snapshot : (start s : ℕ) (seated : List Change) → (s == start) ≡ false → on_snapshot (Some start) s seated ≡ []
other_snapshot start s seated e = ap (λ (b : Bool). if b then seated else []) e

-- ---- starts

-- a start that is found once stays so
pub start_pushed : (start s : ℕ) → (starts : List ℕ) → has_start start starts ≡ true → has_start start (starts ++ s ∷ []) ≡ true
start_pushed start s [] h = absurd cc
start_pushed start s (t ∷ ts) h = by (t == start) h (start_pushed start s ts)
  where
    by : (b : Bool) → (b || has_start start ts) ≡ true → (has_start start ts ≡ true → has_start start (ts ++ s ∷ []) ≡ true) → (b || has_start start (ts ++ s ∷ [])) ≡ true
    by true h rest = refl
    by false h rest = rest h

pub place_pushed : (place : Option ℕ) (s : ℕ) (starts : List ℕ) → IsPlace place starts → IsPlace place (starts ++ s ∷ [])
place_pushed None s starts h = tt
place_pushed (Some start) s starts h = start_pushed start s starts h

none_pushed : (start s : ℕ) → (starts : List ℕ) → has_start start starts ≡ false → (s == start) ≡ false → has_start start (starts ++ s ∷ []) ≡ false
none_pushed start s [] h other = ap (λ (b : Bool). b || false) other
none_pushed start s (t ∷ ts) h other =
    let both : ((t == start) ≡ false) × (has_start start ts ≡ false) = or_none (t == start) (has_start start ts) h in
    ap (λ (b : Bool). b || has_start start (ts ++ s ∷ [])) both.0 ∙ none_pushed start s ts both.1 other

pub apart_pushed : (s : ℕ) → (starts : List ℕ) → AreApart starts → has_start s starts ≡ false → AreApart (starts ++ s ∷ [])
apart_pushed s [] h new = (refl, tt)
apart_pushed s (t ∷ ts) h new =
    let both : ((t == s) ≡ false) × (has_start s ts ≡ false) = or_none (t == s) (has_start s ts) new in
    (none_pushed t s ts h.0 (nat_eq_equiv.symm s t ∙ both.0), apart_pushed s ts h.1 both.1)

-- ---- a start that goes

pub start_kept : (gone start : ℕ) → (start == gone) ≡ false → (starts : List ℕ) → has_start start (starts_without gone starts) ≡ has_start start starts
start_kept gone start other [] = refl
start_kept gone start other (t ∷ ts) = by (t == gone) refl (t == start) refl (start_kept gone start other ts)
  where
    by : (b : Bool) → (t == gone) ≡ b → (m : Bool) → (t == start) ≡ m → has_start start (starts_without gone ts) ≡ has_start start ts
        → has_start start (cond (not b) (t ∷ starts_without gone ts) (starts_without gone ts)) ≡ ((t == start) || has_start start ts)
    by false is m mine rest = ap (λ (b : Bool). (t == start) || b) rest
    by true is false mine rest = rest ∙ ap (λ (b : Bool). b || has_start start ts) (sym mine)
    by true is true mine rest =
        let same : t ≡ start = eqb-true t start mine in
        let both : true ≡ false = sym is ∙ ap (λ (n : ℕ). n == gone) same ∙ other in absurd cc

none_kept : (gone start : ℕ) → (starts : List ℕ) → has_start start starts ≡ false → has_start start (starts_without gone starts) ≡ false
none_kept gone start [] h = refl
none_kept gone start (t ∷ ts) h =
    let both : ((t == start) ≡ false) × (has_start start ts ≡ false) = or_none (t == start) (has_start start ts) h in
    by (t == gone) both.0 (none_kept gone start ts both.1)
  where
    by : (b : Bool) → (t == start) ≡ false → has_start start (starts_without gone ts) ≡ false → has_start start (cond (not b) (t ∷ starts_without gone ts) (starts_without gone ts)) ≡ false
    by true other rest = rest
    by false other rest = ap (λ (b : Bool). b || has_start start (starts_without gone ts)) other ∙ rest

pub apart_kept : (gone : ℕ) → (starts : List ℕ) → AreApart starts → AreApart (starts_without gone starts)
apart_kept gone [] h = tt
apart_kept gone (t ∷ ts) h = by (t == gone) (none_kept gone t ts h.0) (apart_kept gone ts h.1)
  where
    by : (b : Bool) → has_start t (starts_without gone ts) ≡ false → AreApart (starts_without gone ts) → AreApart (cond (not b) (t ∷ starts_without gone ts) (starts_without gone ts))
    by true other rest = rest
    by false other rest = (other, rest)

pub place_kept : (gone : ℕ) (place : Option ℕ) (starts : List ℕ) → IsPlace place starts → IsPlace (place_without gone place) (starts_without gone starts)
place_kept gone None starts h = tt
place_kept gone (Some start) starts h = by (start == gone) refl
  where
    by : (b : Bool) → (start == gone) ≡ b → IsPlace (if b then None else Some start) (starts_without gone starts)
    by true is = tt
    by false is = start_kept gone start is starts ∙ h

-- where no changes are on the one that goes, they are where they were
pub present_kept : (gone : ℕ) (place : Option ℕ) (seated : List Change) → (place ≡ Some gone → seated ≡ []) → on_present (place_without gone place) seated ≡ on_present place seated
present_kept gone None seated none = refl
present_kept gone (Some start) seated none = by (start == gone) refl
  where
    by : (b : Bool) → (start == gone) ≡ b → on_present (if b then None else Some start) seated ≡ []
    by true is = none (ap Some (eqb-true start gone is))
    by false is = refl

pub snapshot_kept : (gone : ℕ) (place : Option ℕ) (s : ℕ) (seated : List Change) → (place ≡ Some gone → seated ≡ []) → on_snapshot (place_without gone place) s seated ≡ on_snapshot place s seated
snapshot_kept gone None s seated none = refl
snapshot_kept gone (Some start) s seated none = by (start == gone) refl
  where
    by : (b : Bool) → (start == gone) ≡ b → on_snapshot (if b then None else Some start) s seated ≡ on_snapshot (Some start) s seated
    by true is = sym (over_snapshot (Some start) s seated (inr (none (ap Some (eqb-true start gone is)))))
    by false is = refl

-- ---- each snapshot

pub each_map : {X : Type 0} (P Q : X → Type 0) → ((x : X) → P x → Q x) → (xs : List X) → Each P xs → Each Q xs
each_map P Q f [] h = tt
each_map P Q f (x ∷ xs) h = (f x h.0, each_map P Q f xs h.1)

pub each_push : {X : Type 0} (P : X → Type 0) (y : X) → P y → (xs : List X) → Each P xs → Each P (xs ++ y ∷ [])
each_push P y here [] h = (here, tt)
each_push P y here (x ∷ xs) h = (h.0, each_push P y here xs h.1)

pub each_filter : {X : Type 0} (P : X → Type 0) (p : X → Bool) → (xs : List X) → Each P xs → Each P (filter p xs)
each_filter P p [] h = tt
each_filter P p (x ∷ xs) h = by (p x) (each_filter P p xs h.1)
  where
    by : (b : Bool) → Each P (filter p xs) → Each P (cond b (x ∷ filter p xs) (filter p xs))
    by true rest = (h.0, rest)
    by false rest = rest

pub each_at : {X : Type 0} (P : X → Type 0) → (xs : List X) (i : ℕ) (d : X) → i < length xs → Each P xs → P (get_or xs i d)
each_at P [] i d within h = absurd (omega arith)
each_at P (x ∷ xs) zero d within h = h.0
each_at P (x ∷ xs) (suc i) d within h = each_at P xs i d (omega arith) h.1

-- ---- the snapshot at an index

-- a test that finds none
long_none : {X : Type 0} (p : X → Bool) → (xs : List X) → length xs ≤ position_or_len p xs → list_any p xs ≡ false
long_none p [] h = refl
long_none p (x ∷ xs) h = by (p x) h (long_none p xs)
  where
    by : (b : Bool) → length (x ∷ xs) ≤ cond (not b) (1 + position_or_len p xs) 0 → (length xs ≤ position_or_len p xs → list_any p xs ≡ false) → (b || list_any p xs) ≡ false
    by true h rest = absurd (omega arith)
    by false h rest = rest (omega arith)

none_any : {X : Type 0} (p : X → Bool) (xs : List X) → position p xs ≡ None → list_any p xs ≡ false
none_any p xs none = long_none p xs (ltb-false (position_or_len p xs) (length xs) (by (ltb (position_or_len p xs) (length xs)) (position_or_len p xs) none))
  where
    by : (b : Bool) (n : ℕ) → cond b (Some n) None ≡ None → b ≡ false
    by true n h = absurd cc
    by false n h = refl

module _ {S : Type 0} where
  abbrev pub starts : List (Snapshot S) → List ℕ
  starts xs = map (λ (s : Snapshot S). s.start) xs

  pub any_start : (start : ℕ) → (xs : List (Snapshot S)) → has_start start (starts xs) ≡ list_any (λ s. s.start == start) xs
  any_start start [] = refl
  any_start start (x ∷ xs) = ap (λ (b : Bool). (x.start == start) || b) (any_start start xs)

  pub starts_filtered : (gone : ℕ) → (xs : List (Snapshot S)) → starts (filter (λ s. not (s.start == gone)) xs) ≡ starts_without gone (starts xs)
  starts_filtered gone [] = refl
  starts_filtered gone (x ∷ xs) = by (x.start == gone) (starts_filtered gone xs)
    where
      by : (b : Bool) → starts (filter (λ s. not (s.start == gone)) xs) ≡ starts_without gone (starts xs)
          → starts (cond (not b) (x ∷ filter (λ s. not (s.start == gone)) xs) (filter (λ s. not (s.start == gone)) xs)) ≡ cond (not b) (x.start ∷ starts_without gone (starts xs)) (starts_without gone (starts xs))
      by true rest = rest
      by false rest = ap (λ (ss : List ℕ). x.start ∷ ss) rest

  -- where there is no index, the place is the present
  pub at_present : (place : Option ℕ) (xs : List (Snapshot S)) → IsPlace place (starts xs) → index_at place xs ≡ None → place ≡ None
  at_present None xs is none = refl
  at_present (Some start) xs is none =
      let both : true ≡ false = sym is ∙ any_start start xs ∙ none_any (λ (s : Snapshot S). s.start == start) xs none in absurd cc

  pub at_snapshot : (place : Option ℕ) (xs : List (Snapshot S)) (i : ℕ) (d : Snapshot S) → index_at place xs ≡ Some i → (i < length xs) × (place ≡ Some (get_or xs i d).start)
  at_snapshot None xs i d found = absurd cc
  at_snapshot (Some start) xs i d found =
      let at = position-Some (λ (s : Snapshot S). s.start == start) xs i d found in
      (at.0, ap Some (sym (eqb-true (get_or xs i d).start start at.1)))

  -- ---- a write to one of them

  start_at : (xs : List (Snapshot S)) (i : ℕ) (d : Snapshot S) → i < length xs → has_start (get_or xs i d).start (starts xs) ≡ true
  start_at [] i d within = absurd (omega arith)
  start_at (x ∷ xs) zero d within = ap (λ (b : Bool). b || has_start x.start (starts xs)) (eq-eqb x.start x.start refl)
  start_at (x ∷ xs) (suc i) d within = or_right (x.start == (get_or xs i d).start) (has_start (get_or xs i d).start (starts xs)) (start_at xs i d (omega arith))

  module _ (P Q : Snapshot S → Type 0) (start : ℕ) (away : (x : Snapshot S) → (x.start == start) ≡ false → P x → Q x) where
    each_away : (xs : List (Snapshot S)) → has_start start (starts xs) ≡ false → Each P xs → Each Q xs
    each_away [] none h = tt
    each_away (x ∷ xs) none h =
        let both : ((x.start == start) ≡ false) × (has_start start (starts xs) ≡ false) = or_none (x.start == start) (has_start start (starts xs)) none in
        (away x both.0 h.0, each_away xs both.1 h.1)

    -- the others are elsewhere
    pub each_set : (v : Snapshot S) → Q v → (xs : List (Snapshot S)) (i : ℕ) (d : Snapshot S) → i < length xs → (get_or xs i d).start ≡ start → AreApart (starts xs) → Each P xs → Each Q (set xs i v)
    each_set v here [] i d within is apart h = tt
    each_set v here (x ∷ xs) zero d within is apart h = (here, each_away xs (ap (λ (s : ℕ). has_start s (starts xs)) (sym is) ∙ apart.0) h.1)
    each_set v here (x ∷ xs) (suc i) d within is apart h = (away x (by (x.start == start) refl) h.0, each_set v here xs i d (omega arith) is apart.1 h.1)
      where
        by : (b : Bool) → (x.start == start) ≡ b → (x.start == start) ≡ false
        by false e = e
        by true e =
            let there : has_start start (starts xs) ≡ true = ap (λ (s : ℕ). has_start s (starts xs)) (sym is) ∙ start_at xs i d (omega arith) in
            let both : true ≡ false = sym there ∙ ap (λ (s : ℕ). has_start s (starts xs)) (sym (eqb-true x.start start e)) ∙ apart.0 in absurd cc
