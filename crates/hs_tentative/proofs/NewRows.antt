-- The rows that a writing statement makes of values.
use Rattle.std.proofs.Common.{◌≡◌, ℕ, zero, suc, Bool, true, false, nat_eq, List, [], ◌∷◌, map, get_or, Result, Ok, Err, refl, sym, ap, ◌∙◌}
use Rattle.std.proofs.lemmas.Bool.{or_parts}
use Rattle.std.proofs.lemmas.List.{get_or-set_other}
use Rattle.std.specs.Cmp.{nat_eq_equiv}
use Rattle.std.specs.List.{slice_get}
use Rattle.hs_plan.specs.declared.definition.Column.{Column}
use Rattle.hs_plan.specs.declared.plan.Assignment.{Assignment}
use Rattle.hs_plan.specs.declared.plan.NewValue.{NewValue}
use Rattle.hs_values.specs.declared.fault.EvalFault.{EvalFault}
use Rattle.hs_values.specs.declared.value.Value.{Value}
use Rattle.hs_values.specs.declared.value.Value.TheVariants as v
use Rattle.hs_values.specs.Outcome.{◌>>=◌}
use Rattle.hs_index.specs.Keys.{value_at}
use Rattle.hs_sentences.specs.Asking.{is_one_of}
use Rattle.hs_actions.specs.Acting.{with_columns}
use Rattle.hs_tentative.specs.NewRows.{Evaluate, default_in, default_of, defaults, values_for, all_stored, inserted, taken_in, updated}

-- a column that gets no value has its own
pub others_stay : (row : List Value) (places : List ℕ) (values : List Value) (p : ℕ) → is_one_of places p ≡ false → value_at (with_columns row places values) p ≡ value_at row p
others_stay row [] values p h = refl
others_stay row (c ∷ cs) [] p h = refl
others_stay row (c ∷ cs) (x ∷ xs) p h =
    let parts = or_parts (nat_eq p c) (is_one_of cs p) h in
    others_stay _ cs xs p parts.1
    ∙ get_or-set_other row c p x v.Null (λ same. let both : true ≡ false = sym (nat_eq_equiv.refl p) ∙ ap (nat_eq p) same ∙ parts.0 in cc)

default_at : (columns : List Column) (p : ℕ) → value_at (defaults columns) p ≡ default_of columns p
default_at [] p = refl
default_at (c ∷ cs) zero = refl
default_at (c ∷ cs) (suc p) = default_at cs p

-- what is made of the values, where there are some
made_of : (given : Result (List Value) EvalFault) (old : List Value) (places : List ℕ) (row : List Value) (p : ℕ)
    → (given >>= λ values. Ok (with_columns old places values)) ≡ Ok row → is_one_of places p ≡ false → value_at row p ≡ value_at old p
made_of (Ok values) old places row p is left = let same : with_columns old places values ≡ row = cc in ap (λ r. value_at r p) (sym same) ∙ others_stay old places values p left
made_of (Err fault) old places row p is left = absurd (let no : ◌≡◌ {A = Result (List Value) EvalFault} (Err fault) (Ok row) = is in cc)

pub inserted_left : (evaluate : Evaluate) (columns : List Column) (places : List ℕ) (tuple : List NewValue) (row : List Value) (p : ℕ) → inserted evaluate columns places tuple ≡ Ok row → is_one_of places p ≡ false → value_at row p ≡ default_of columns p
inserted_left evaluate columns places tuple row p is left = made_of (values_for evaluate columns [] places tuple) (defaults columns) places row p is left ∙ default_at columns p

pub taken_left : (columns : List Column) (places : List ℕ) (given row : List Value) (p : ℕ) → taken_in columns places given ≡ Ok row → is_one_of places p ≡ false → value_at row p ≡ default_of columns p
taken_left columns places given row p is left = made_of (all_stored columns places given) (defaults columns) places row p is left ∙ default_at columns p

pub updated_left : (evaluate : Evaluate) (columns : List Column) (assignments : List Assignment) (old row : List Value) (p : ℕ) → updated evaluate columns assignments old ≡ Ok row → is_one_of (map (λ a. a.column) assignments) p ≡ false → value_at row p ≡ value_at old p
updated_left evaluate columns assignments old row p is left =
    made_of (values_for evaluate columns old (map (λ a. a.column) assignments) (map (λ a. a.value) assignments)) old (map (λ a. a.column) assignments) row p is left
