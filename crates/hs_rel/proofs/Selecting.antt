-- The rows that a condition keeps, and the least of its faults.
use Rattle.std.proofs.Common.{◌≡◌, ◌⊎◌, ◌↔◌, inl, inr, ℕ, zero, suc, ◌<◌, ◌≤◌, Bool, true, false, List, [], ◌∷◌, length, slice_index_or, filter, fold, map, Option, Some, None, Result, Ok, Err, refl, sym, ap, subst, ◌∙◌, arith, suc-le-suc, zero-le}
use Rattle.std.specs.List.{All, Contains, filter_map, cons_option}
use Rattle.std.proofs.lemmas.Bool.{cases_Bool, cond-true, cond-false}
use Rattle.std.proofs.lemmas.List.Elements.{All-contains, All-contains_itself, All-filter, filter_passes}
use Rattle.hs_values.specs.declared.fault.EvalFault.{EvalFault}
use Rattle.hs_values.specs.declared.value.Value.{Value}
use Rattle.hs_values.specs.declared.value.Value.TheVariants as v
use Rattle.hs_values.specs.Fault.{number_of, lesser}
use Rattle.hs_values.proofs.Faults.{lesser_either, lesser_least}
use Rattle.hs_values.proofs.Stable.{kept, dropped}
use Rattle.hs_rel.specs.Selection.{Verdict, is_true, fault_of, lesser_of, least, least_fault, true_rows, unless, selected}

module _ {X : Type 0} where
  pub at_head : (x : X) (xs : List X) → Contains (x ∷ xs) x
  at_head x xs = (zero, suc-le-suc zero-le, refl)

  pub in_tail : (x : X) (xs : List X) (y : X) → Contains xs y → Contains (x ∷ xs) y
  in_tail x xs y h = (suc h.0, suc-le-suc h.1, h.2)

  pub head_or_tail : (x : X) (xs : List X) (y : X) → Contains (x ∷ xs) y → (x ≡ y) ⊎ Contains xs y
  head_or_tail x xs y h = at h.0 h.1 h.2
    where
      at : (k : ℕ) → k < length (x ∷ xs) → slice_index_or (x ∷ xs) k y ≡ y → (x ≡ y) ⊎ Contains xs y
      at zero lt is = inl is
      at (suc k) lt is = inr (k, omega arith, is)

  pub nothing_in : (y : X) → Contains [] y → ⊥
  nothing_in y h = absurd (omega (arith, h.1))

  -- what a test keeps
  pub from_filter : (p : X → Bool) (xs : List X) (y : X) → Contains (filter p xs) y → Contains xs y × (p y ≡ true)
  from_filter p xs y h = (
    All-contains (Contains xs) (filter p xs) y (All-filter p (Contains xs) xs (All-contains_itself xs)) h,
    All-contains (λ x. p x ≡ true) (filter p xs) y (filter_passes p xs) h,
  )

  pub to_filter : (p : X → Bool) (xs : List X) (y : X) → Contains xs y → p y ≡ true → Contains (filter p xs) y
  to_filter p [] y h with = absurd (nothing_in y h)
  to_filter p (x ∷ xs) y h with =
      elim (cases_Bool (p x)) [
        | inl here ↦
            subst (λ l. Contains l y) (sym (kept p x xs here))
            (elim (head_or_tail x xs y h) [
              | inl is ↦ subst (Contains (x ∷ filter p xs)) is (at_head x (filter p xs))
              | inr later ↦ in_tail x (filter p xs) y (to_filter p xs y later with)
            ])
        | inr other ↦
            subst (λ l. Contains l y) (sym (dropped p x xs other))
            (elim (head_or_tail x xs y h) [
              | inl is ↦ let clash : true ≡ false = sym with ∙ ap p (sym is) ∙ other in cc
              | inr later ↦ to_filter p xs y later with
            ])
      ]

-- ---- conditions

true_given : (given : Result Value EvalFault) → is_true given ≡ true → given ≡ Ok (v.Bool true)
true_given (Ok (v.Bool true)) h = refl
true_given (Ok (v.Bool false)) h = cc
true_given (Ok a) h = cc
true_given (Err fault) h = cc

pub true_kept : (verdict : Verdict) (rows : List (List Value)) (row : List Value) → Contains (true_rows verdict rows) row ↔ (Contains rows row × (verdict row ≡ Ok (v.Bool true)))
true_kept verdict rows row = (
  λ h. let both = from_filter (λ r. is_true (verdict r)) rows row h in (both.0, true_given (verdict row) both.1),
  λ h. to_filter (λ r. is_true (verdict r)) rows row h.0 (ap is_true h.1),
)

-- ---- faults

abbrev pub faults : Verdict → List (List Value) → List EvalFault
faults verdict rows = filter_map (λ row. fault_of (verdict row)) rows

-- the fault that was kept is the least of those that came, and one of them
least_from : (a : EvalFault) (fs : List EvalFault) → (fault : EvalFault) × (fold lesser_of (Some a) fs ≡ Some fault) × (number_of fault ≤ number_of a) × ((g : EvalFault) → Contains fs g → number_of fault ≤ number_of g) × ((fault ≡ a) ⊎ Contains fs fault)
least_from a [] = (a, refl, omega arith, λ g h. absurd (nothing_in g h), inl refl)
least_from a (b ∷ fs) =
    let rest = least_from (lesser a b) fs in
    let bound = lesser_least a b in (
      rest.0,
      rest.1,
      omega (arith, rest.2, bound.0),
      λ g h. elim (head_or_tail b fs g h) [
        | inl is ↦ subst (λ z. number_of rest.0 ≤ number_of z) is (omega (arith, rest.2, bound.1))
        | inr later ↦ rest.3 g later
      ],
      elim rest.4 [
        | inl is ↦ elim (lesser_either a b) [ inl left ↦ inl (is ∙ left) | inr right ↦ inr (subst (Contains (b ∷ fs)) (sym (is ∙ right)) (at_head b fs)) ]
        | inr later ↦ inr (in_tail b fs rest.0 later)
      ],
    )

fault_given : (given : Result Value EvalFault) (fault : EvalFault) → fault_of given ≡ Some fault → given ≡ Err fault
fault_given (Ok a) fault h = cc
fault_given (Err other) fault h = cc

-- a row with this fault
abbrev pub HasFault : Verdict → List (List Value) → EvalFault → Type 0
HasFault verdict rows fault = (row : List Value) × Contains rows row × (verdict row ≡ Err fault)

fault_row : (verdict : Verdict) (rows : List (List Value)) (fault : EvalFault) → Contains (faults verdict rows) fault → HasFault verdict rows fault
fault_row verdict [] fault h = absurd (nothing_in fault h)
fault_row verdict (row ∷ rows) fault h = by (fault_row verdict rows fault) (verdict row) refl h
  where
    further : HasFault verdict rows fault → HasFault verdict (row ∷ rows) fault
    further found = (found.0, in_tail row rows found.0 found.1, found.2)

    by : (Contains (faults verdict rows) fault → HasFault verdict rows fault) → (given : Result Value EvalFault) → verdict row ≡ given → Contains (cons_option (fault_of given) (faults verdict rows)) fault → HasFault verdict (row ∷ rows) fault
    by later (Ok a) is found = further (later found)
    by later (Err other) is found = elim (head_or_tail other (faults verdict rows) fault found) [
      | inl same ↦ (row, at_head row rows, is ∙ ap Err same)
      | inr rest ↦ further (later rest)
    ]

row_fault : (verdict : Verdict) (rows : List (List Value)) (row : List Value) (fault : EvalFault) → Contains rows row → verdict row ≡ Err fault → Contains (faults verdict rows) fault
row_fault verdict [] row fault h is = absurd (nothing_in row h)
row_fault verdict (one ∷ rows) row fault h is =
    elim (head_or_tail one rows row h) [
      | inl same ↦
          subst (λ given. Contains (cons_option (fault_of given) (faults verdict rows)) fault) (sym (ap verdict same ∙ is)) (at_head fault (faults verdict rows))
      | inr rest ↦ by (verdict one) (row_fault verdict rows row fault rest is)
    ]
  where
    by : (given : Result Value EvalFault) → Contains (faults verdict rows) fault → Contains (cons_option (fault_of given) (faults verdict rows)) fault
    by (Ok a) found = found
    by (Err other) found = in_tail other (faults verdict rows) fault found

abbrev IsLeast : List EvalFault → EvalFault → Type 0
IsLeast fs fault = Contains fs fault × ((g : EvalFault) → Contains fs g → number_of fault ≤ number_of g)

least_is : (fs : List EvalFault) (fault : EvalFault) → least fs ≡ Some fault → IsLeast fs fault
least_is [] fault h = cc
least_is (a ∷ fs) fault h =
    let told = least_from a fs in
    let same : told.0 ≡ fault = cc in
    let reached : Contains (a ∷ fs) told.0 = elim told.4 [ inl is ↦ subst (Contains (a ∷ fs)) (sym is) (at_head a fs) | inr later ↦ in_tail a fs told.0 later ] in
    let below : (g : EvalFault) → Contains (a ∷ fs) g → number_of told.0 ≤ number_of g =
    λ g found. elim (head_or_tail a fs g found) [ inl is ↦ subst (λ z. number_of told.0 ≤ number_of z) is told.2 | inr later ↦ told.3 g later ] in
    subst (IsLeast (a ∷ fs)) same (reached, below)

none_from : (fs : List EvalFault) → least fs ≡ None → fs ≡ []
none_from [] h = refl
none_from (a ∷ fs) h = let told = least_from a fs in cc

-- an answer says whether there is a fault
pub no_fault : {A : Type 0} (found : Option EvalFault) (a b : A) → unless found a ≡ Ok b → (found ≡ None) × (a ≡ b)
no_fault None a b h = (refl, cc)
no_fault (Some fault) a b h = cc

pub some_fault : {A : Type 0} (found : Option EvalFault) (a : A) (fault : EvalFault) → unless found a ≡ Err fault → found ≡ Some fault
some_fault None a fault h = cc
some_fault (Some other) a fault h = cc

pub selected_rows : (verdict : Verdict) (rows kept : List (List Value)) → selected verdict rows ≡ Ok kept → (row : List Value) → Contains kept row ↔ (Contains rows row × (verdict row ≡ Ok (v.Bool true)))
selected_rows verdict rows kept is row =
    let same : true_rows verdict rows ≡ kept = (no_fault (least_fault verdict rows) (true_rows verdict rows) kept is).1 in
    subst (λ l. Contains l row ↔ (Contains rows row × (verdict row ≡ Ok (v.Bool true)))) same (true_kept verdict rows row)

pub selected_without_fault : (verdict : Verdict) (rows kept : List (List Value)) → selected verdict rows ≡ Ok kept → (row : List Value) (fault : EvalFault) → Contains rows row → verdict row ≡ Err fault → ⊥
selected_without_fault verdict rows kept is row fault found fails =
    let none : faults verdict rows ≡ [] = none_from (faults verdict rows) (no_fault (least_fault verdict rows) (true_rows verdict rows) kept is).0 in
    nothing_in fault (subst (λ fs. Contains fs fault) none (row_fault verdict rows row fault found fails))

pub selected_fault : (verdict : Verdict) (rows : List (List Value)) (fault : EvalFault) → selected verdict rows ≡ Err fault → (row : List Value) × Contains rows row × (verdict row ≡ Err fault)
selected_fault verdict rows fault is =
    fault_row verdict rows fault (least_is (faults verdict rows) fault (some_fault (least_fault verdict rows) (true_rows verdict rows) fault is)).0

pub selected_least : (verdict : Verdict) (rows : List (List Value)) (fault : EvalFault) → selected verdict rows ≡ Err fault → (row : List Value) (other : EvalFault) → Contains rows row → verdict row ≡ Err other → number_of fault ≤ number_of other
selected_least verdict rows fault is row other found fails =
    (least_is (faults verdict rows) fault (some_fault (least_fault verdict rows) (true_rows verdict rows) fault is)).1 other (row_fault verdict rows row other found fails)
