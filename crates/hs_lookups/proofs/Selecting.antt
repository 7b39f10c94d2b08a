-- The rows that a condition chooses, of all rows and of some among which are all that it may choose.
use Rattle.std.proofs.Common.{◌≡◌, Bool, true, false, cond, List, [], ◌∷◌, filter, Option, Some, None, Result, Ok, Err, refl, sym, ap, ◌∙◌}
use Rattle.std.specs.List.{cons_option, filter_map}
use Rattle.hs_values.specs.declared.fault.EvalFault.{EvalFault}
use Rattle.hs_values.specs.declared.value.Value.{Value}
use Rattle.hs_rel.specs.Selection.{Verdict, fault_of, is_true, least, least_fault, selected, true_rows, unless}
use Rattle.hs_lookups.specs.Asked.{IsPassedOver}

module _ (verdict : Verdict) where
  abbrev faults : List (List Value) → List EvalFault
  faults = filter_map (λ row. fault_of (verdict row))

  -- ---- without rows that are passed over

  module _ (keeps : List Value → Bool) (passes : (row : List Value) → keeps row ≡ false → IsPassedOver (verdict row)) where
    faults_kept : (rows : List (List Value)) → faults (filter keeps rows) ≡ faults rows
    faults_kept [] = refl
    faults_kept (row ∷ rows) = by (keeps row) refl (faults_kept rows)
      where
        by : (b : Bool) → keeps row ≡ b → faults (filter keeps rows) ≡ faults rows → faults (cond b (row ∷ filter keeps rows) (filter keeps rows)) ≡ cons_option (fault_of (verdict row)) (faults rows)
        by true is rest = ap (cons_option (fault_of (verdict row))) rest
        by false is rest = rest ∙ ap (λ o. cons_option o (faults rows)) (sym (passes row is).no_fault)

    true_kept : (rows : List (List Value)) → true_rows verdict (filter keeps rows) ≡ true_rows verdict rows
    true_kept [] = refl
    true_kept (row ∷ rows) = by (keeps row) refl (true_kept rows)
      where
        by : (b : Bool) → keeps row ≡ b → true_rows verdict (filter keeps rows) ≡ true_rows verdict rows → true_rows verdict (cond b (row ∷ filter keeps rows) (filter keeps rows)) ≡ cond (is_true (verdict row)) (row ∷ true_rows verdict rows) (true_rows verdict rows)
        by true is rest = ap (λ more. cond (is_true (verdict row)) (row ∷ more) more) rest
        by false is rest = rest ∙ ap (λ b. cond b (row ∷ true_rows verdict rows) (true_rows verdict rows)) (sym (passes row is).not_true)

    pub selected_kept : (rows : List (List Value)) → selected verdict (filter keeps rows) ≡ selected verdict rows
    selected_kept rows = λ i. unless (least (faults_kept rows i)) (true_kept rows i)

  -- ---- the rows that it chooses

  no_fault : (outcome : Result Value EvalFault) → is_true outcome ≡ true → fault_of outcome ≡ None
  no_fault (Ok a) is = refl
  no_fault (Err fault) is = absurd (cc)

  no_faults : (rows : List (List Value)) → faults (true_rows verdict rows) ≡ []
  no_faults [] = refl
  no_faults (row ∷ rows) = by (is_true (verdict row)) refl (no_faults rows)
    where
      by : (b : Bool) → is_true (verdict row) ≡ b → faults (true_rows verdict rows) ≡ [] → faults (cond b (row ∷ true_rows verdict rows) (true_rows verdict rows)) ≡ []
      by true is rest = λ i. cons_option (no_fault (verdict row) is i) (rest i)
      by false is rest = rest

  true_again : (rows : List (List Value)) → true_rows verdict (true_rows verdict rows) ≡ true_rows verdict rows
  true_again [] = refl
  true_again (row ∷ rows) = by (is_true (verdict row)) refl (true_again rows)
    where
      by : (b : Bool) → is_true (verdict row) ≡ b → true_rows verdict (true_rows verdict rows) ≡ true_rows verdict rows → true_rows verdict (cond b (row ∷ true_rows verdict rows) (true_rows verdict rows)) ≡ cond b (row ∷ true_rows verdict rows) (true_rows verdict rows)
      by true is rest = ap (λ b. cond b (row ∷ true_rows verdict (true_rows verdict rows)) (true_rows verdict (true_rows verdict rows))) is ∙ ap (λ more. row ∷ more) rest
      by false is rest = rest

  given : (found : Option EvalFault) (rows kept : List (List Value)) → unless found rows ≡ Ok kept → rows ≡ kept
  given None rows kept is = cc
  given (Some fault) rows kept is = absurd (cc)

  -- what it chooses of all rows, it chooses of these
  pub selected_again : (rows kept : List (List Value)) → selected verdict rows ≡ Ok kept → selected verdict kept ≡ Ok kept
  selected_again rows kept is =
      let same : true_rows verdict rows ≡ kept = given (least_fault verdict rows) (true_rows verdict rows) kept is in
      ap (selected verdict) (sym same)
      ∙ (λ i. unless (least (no_faults rows i)) (true_again rows i))
      ∙ ap Ok same
