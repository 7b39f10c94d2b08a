-- Values that are made one after another.
use Rattle.std.proofs.Common.{◌≡◌, ℕ, List, [], ◌∷◌, ◌++◌, Result, Ok, Err, refl, sym, ap, ◌∙◌, append_assoc, append-nil}
use Rattle.hs_plan.specs.declared.definition.Column.{Column}
use Rattle.hs_plan.specs.declared.plan.NewValue.{NewValue}
use Rattle.hs_values.specs.declared.fault.EvalFault.{EvalFault}
use Rattle.hs_values.specs.declared.value.Value.{Value}
use Rattle.hs_values.specs.Outcome.{◌>>=◌}
use Rattle.hs_tentative.specs.NewRows.{Evaluate, stored, value_for, values_for, all_stored}

abbrev pub Made : Type 0
Made = Result (List Value) EvalFault

-- these values, and behind them what is made
abbrev pub behind : List Value → Made → Made
behind made r = r >>= λ ys. Ok (made ++ ys)

behind_none : (r : Made) → behind [] r ≡ r
behind_none (Ok ys) = refl
behind_none (Err fault) = refl

behind_more : (made : List Value) (y : Value) (r : Made) → behind made (r >>= λ ys. Ok (y ∷ ys)) ≡ behind (made ++ y ∷ []) r
behind_more made y (Ok ys) = ap (λ l. Ok l) (sym (append_assoc made (y ∷ []) ys))
behind_more made y (Err fault) = refl

abbrev step : List Value → Made → Result Value EvalFault → Made
step made rest o = behind made (o >>= λ y. rest >>= λ ys. Ok (y ∷ ys))

module _ (evaluate : Evaluate) (columns : List Column) (row : List Value) where
  abbrev all : List ℕ → List NewValue → Made
  all places values = values_for evaluate columns row places values

  pub begun : (places : List ℕ) (values : List NewValue) → behind [] (values_for evaluate columns row places values) ≡ values_for evaluate columns row places values
  begun places values = behind_none (all places values)

  pub more : (made : List Value) (p : ℕ) (ps : List ℕ) (x : NewValue) (xs : List NewValue) (y : Value) → value_for evaluate columns row p x ≡ Ok y
      → behind made (values_for evaluate columns row (p ∷ ps) (x ∷ xs)) ≡ behind (made ++ y ∷ []) (values_for evaluate columns row ps xs)
  more made p ps x xs y is = ap (step made (all ps xs)) is ∙ behind_more made y (all ps xs)

  pub failed : (made : List Value) (p : ℕ) (ps : List ℕ) (x : NewValue) (xs : List NewValue) (fault : EvalFault) → value_for evaluate columns row p x ≡ Err fault
      → behind made (values_for evaluate columns row (p ∷ ps) (x ∷ xs)) ≡ Err fault
  failed made p ps x xs fault is = ap (step made (all ps xs)) is

  -- where no value is left, these are all
  pub no_values : (made : List Value) (places : List ℕ) (values : List NewValue) → values ≡ [] → behind made (values_for evaluate columns row places values) ≡ Ok made
  no_values made places values none = ap (λ xs. behind made (all places xs)) none ∙ by places
    where
      by : (places : List ℕ) → behind made (all places []) ≡ Ok made
      by [] = ap (λ l. Ok l) (append-nil made)
      by (p ∷ ps) = ap (λ l. Ok l) (append-nil made)

module _ (columns : List Column) where
  pub stored_begun : (places : List ℕ) (values : List Value) → behind [] (all_stored columns places values) ≡ all_stored columns places values
  stored_begun places values = behind_none (all_stored columns places values)

  pub stored_more : (made : List Value) (p : ℕ) (ps : List ℕ) (x : Value) (xs : List Value) (y : Value) → stored columns p x ≡ Ok y
      → behind made (all_stored columns (p ∷ ps) (x ∷ xs)) ≡ behind (made ++ y ∷ []) (all_stored columns ps xs)
  stored_more made p ps x xs y is = ap (step made (all_stored columns ps xs)) is ∙ behind_more made y (all_stored columns ps xs)

  pub stored_failed : (made : List Value) (p : ℕ) (ps : List ℕ) (x : Value) (xs : List Value) (fault : EvalFault) → stored columns p x ≡ Err fault
      → behind made (all_stored columns (p ∷ ps) (x ∷ xs)) ≡ Err fault
  stored_failed made p ps x xs fault is = ap (step made (all_stored columns ps xs)) is

  pub none_stored : (made : List Value) (places : List ℕ) (values : List Value) → values ≡ [] → behind made (all_stored columns places values) ≡ Ok made
  none_stored made places values none = ap (λ xs. behind made (all_stored columns places xs)) none ∙ by places
    where
      by : (places : List ℕ) → behind made (all_stored columns places []) ≡ Ok made
      by [] = ap (λ l. Ok l) (append-nil made)
      by (p ∷ ps) = ap (λ l. Ok l) (append-nil made)
