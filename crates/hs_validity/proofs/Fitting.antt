-- Rows that statements and actions make fit the columns of their table.
use Rattle.std.proofs.Common.{◌≡◌, ℕ, zero, suc, Bool, true, false, cond, List, [], ◌∷◌, map, Option, Some, None, Result, Ok, Err, refl, sym, ap, subst, ◌∙◌, slice_get}
use Rattle.std.specs.Prelude.{slice_set}
use Rattle.std.specs.List.{list_all}
use Rattle.std.specs.Option.{option_map_or, unwrap_or}
use Rattle.std.proofs.lemmas.Bool.{and_from, and_parts}
use Rattle.std.proofs.lemmas.Option.{none-some, same_Some}
use Rattle.hs_ast.specs.declared.definition.ReferentialAction.{ReferentialAction}
use Rattle.hs_ast.specs.declared.definition.ReferentialAction.TheVariants as action
use Rattle.hs_plan.specs.declared.definition.Column.{Column}
use Rattle.hs_plan.specs.declared.plan.NewValue.{NewValue}
use Rattle.hs_plan.specs.declared.plan.NewValue.TheVariants as new
use Rattle.hs_values.specs.declared.fault.EvalFault.{EvalFault}
use Rattle.hs_values.specs.declared.sql_type.SqlType.{SqlType}
use Rattle.hs_values.specs.declared.value.Value.{Value}
use Rattle.hs_values.specs.declared.value.Value.TheVariants as v
use Rattle.hs_values.specs.Outcome.{◌>>=◌}
use Rattle.hs_values.specs.SqlType.{assign_of, column_form, fits_of, misfit_of, row_fits}
use Rattle.hs_rowtext.specs.Rows.{types_of}
use Rattle.hs_index.specs.Keys.{key_in}
use Rattle.hs_actions.specs.declared.reference.Reference.{Reference}
use Rattle.hs_actions.specs.Acting.{action_at, assigned, changed, done, effect, new_key, with_columns}
use Rattle.hs_references.specs.Referenced.{type_in, type_of}
use Rattle.hs_tentative.specs.NewRows.{Evaluate, all_stored, default_of, defaults, inserted, stored, stored_in, taken_in, value_for, values_for}
use Rattle.hs_language.specs.Sound.{has_fitting_default}

pub same_given : {A : Type 0} (x y : A) → ◌≡◌ {A = Result A EvalFault} (Ok x) (Ok y) → x ≡ y
same_given {A = A} x y h = ap (λ (r : Result A EvalFault). elim r as (λ _. A) [ Ok z ↦ z | Err e ↦ x ]) h

-- ---- one value

null_fits : (t : SqlType) → fits_of t v.Null ≡ true
null_fits t = refl

assigned_fits : (t : SqlType) (a y : Value) → assign_of t a ≡ Ok y → fits_of t y ≡ true
assigned_fits t a y = by (fits_of t (column_form t a)) refl
  where
    by : (b : Bool) → fits_of t (column_form t a) ≡ b → ◌≡◌ {A = Result Value EvalFault} (cond b (Ok (column_form t a)) (Err (misfit_of a))) (Ok y) → fits_of t y ≡ true
    by true fits is = ap (fits_of t) (sym (same_given (column_form t a) y is)) ∙ fits
    by false other is = absurd (let no : ◌≡◌ {A = Result Value EvalFault} (Err (misfit_of a)) (Ok y) = is in cc)

module _ (columns : List Column) where
  -- a value fits the column of this place, where there is one
  abbrev FitsAt : ℕ → Value → Type 0
  FitsAt place value = (column : Column) → slice_get columns place ≡ Some column → fits_of column.data_type value ≡ true

  -- so does each of several
  abbrev AllFitAt : List ℕ → List Value → Type 0
  AllFitAt [] values = Unit {0}
  AllFitAt (p ∷ ps) [] = Unit {0}
  AllFitAt (p ∷ ps) (x ∷ xs) = FitsAt p x × AllFitAt ps xs

set_fits : (columns : List Column) (row : List Value) (place : ℕ) (value : Value) → row_fits (types_of columns) row ≡ true → FitsAt columns place value → row_fits (types_of columns) (slice_set row place value) ≡ true
set_fits [] [] place value h f = h
set_fits [] (y ∷ ys) place value h f = absurd (let no : false ≡ true = h in cc)
set_fits (c ∷ cs) [] place value h f = absurd (let no : false ≡ true = h in cc)
set_fits (c ∷ cs) (x ∷ xs) zero value h f =
    let parts = and_parts (fits_of c.data_type x) (row_fits (types_of cs) xs) h in
    and_from (fits_of c.data_type value) (row_fits (types_of cs) xs) (f c refl) parts.1
set_fits (c ∷ cs) (x ∷ xs) (suc place) value h f =
    let parts = and_parts (fits_of c.data_type x) (row_fits (types_of cs) xs) h in
    and_from (fits_of c.data_type x) (row_fits (types_of cs) (slice_set xs place value)) parts.0 (set_fits cs xs place value parts.1 (λ column is. f column is))

module _ (columns : List Column) where
  with_fits : (places : List ℕ) (values row : List Value) → row_fits (types_of columns) row ≡ true → AllFitAt columns places values → row_fits (types_of columns) (with_columns row places values) ≡ true
  with_fits [] values row h all = h
  with_fits (p ∷ ps) [] row h all = h
  with_fits (p ∷ ps) (x ∷ xs) row h all = with_fits ps xs (slice_set row p x) (set_fits columns row p x h all.0) all.1

  stored_fits : (place : ℕ) (value y : Value) → stored columns place value ≡ Ok y → FitsAt columns place y
  stored_fits place value y h column is = assigned_fits column.data_type value y (sym (ap (λ (o : Option Column). stored_in o value) is) ∙ h)

  null_at : (place : ℕ) → FitsAt columns place v.Null
  null_at place column is = null_fits column.data_type

default_value_fits : (column : Column) → has_fitting_default column ≡ true → fits_of column.data_type (unwrap_or column.default v.Null) ≡ true
default_value_fits column = by column.default
  where
    by : (o : Option Value) → option_map_or (fits_of column.data_type) o true ≡ true → fits_of column.data_type (unwrap_or o v.Null) ≡ true
    by None h = null_fits column.data_type
    by (Some x) h = h

default_at : (columns : List Column) (place : ℕ) → list_all has_fitting_default columns ≡ true → FitsAt columns place (default_of columns place)
default_at [] place h column is = absurd (none-some column is)
default_at (c ∷ cs) zero h column is =
    let parts = and_parts (has_fitting_default c) (list_all has_fitting_default cs) h in
    subst (λ (x : Column). fits_of x.data_type (unwrap_or c.default v.Null) ≡ true) (same_Some c column is) (default_value_fits c parts.0)
default_at (c ∷ cs) (suc place) h column is = default_at cs place (and_parts (has_fitting_default c) (list_all has_fitting_default cs) h).1 column is

defaults_fit : (columns : List Column) → list_all has_fitting_default columns ≡ true → row_fits (types_of columns) (defaults columns) ≡ true
defaults_fit [] h = refl
defaults_fit (c ∷ cs) h =
    let parts = and_parts (has_fitting_default c) (list_all has_fitting_default cs) h in
    and_from (fits_of c.data_type (unwrap_or c.default v.Null)) (row_fits (types_of cs) (defaults cs)) (default_value_fits c parts.0) (defaults_fit cs parts.1)

-- ---- rows of statements

module _ (evaluate : Evaluate) (columns : List Column) (fitting : list_all has_fitting_default columns ≡ true) where
  value_fits : (row : List Value) (place : ℕ) (x : NewValue) (y : Value) → value_for evaluate columns row place x ≡ Ok y → FitsAt columns place y
  value_fits row place new.Default y h = subst (FitsAt columns place) (same_given (default_of columns place) y h) (default_at columns place fitting)
  value_fits row place (new.Value e) y h = by (evaluate e row) h
    where
      by : (r : Result Value EvalFault) → (r >>= stored columns place) ≡ Ok y → FitsAt columns place y
      by (Ok a) h = stored_fits columns place a y h
      by (Err fault) h = absurd (let no : ◌≡◌ {A = Result Value EvalFault} (Err fault) (Ok y) = h in cc)

  both_given : (place : ℕ) (places : List ℕ) (ys : List Value) (r : Result Value EvalFault) (rs : Result (List Value) EvalFault) → ((y : Value) → r ≡ Ok y → FitsAt columns place y) → ((zs : List Value) → rs ≡ Ok zs → AllFitAt columns places zs)
      → (r >>= λ y. rs >>= λ zs. Ok (y ∷ zs)) ≡ Ok ys → AllFitAt columns (place ∷ places) ys
  both_given place places ys (Ok y) (Ok zs) one rest h = subst (AllFitAt columns (place ∷ places)) (same_given (y ∷ zs) ys h) (one y refl, rest zs refl)
  both_given place places ys (Ok y) (Err fault) one rest h = absurd (let no : ◌≡◌ {A = Result (List Value) EvalFault} (Err fault) (Ok ys) = h in cc)
  both_given place places ys (Err fault) rs one rest h = absurd (let no : ◌≡◌ {A = Result (List Value) EvalFault} (Err fault) (Ok ys) = h in cc)

  values_fit : (row : List Value) (places : List ℕ) (xs : List NewValue) (ys : List Value) → values_for evaluate columns row places xs ≡ Ok ys → AllFitAt columns places ys
  values_fit row [] xs ys h = tt
  values_fit row (p ∷ ps) [] ys h = subst (AllFitAt columns (p ∷ ps)) (same_given [] ys h) tt
  values_fit row (p ∷ ps) (x ∷ xs) ys h =
      both_given p ps ys (value_for evaluate columns row p x) (values_for evaluate columns row ps xs) (value_fits row p x) (values_fit row ps xs) h

  all_stored_fit : (places : List ℕ) (xs ys : List Value) → all_stored columns places xs ≡ Ok ys → AllFitAt columns places ys
  all_stored_fit [] xs ys h = tt
  all_stored_fit (p ∷ ps) [] ys h = subst (AllFitAt columns (p ∷ ps)) (same_given [] ys h) tt
  all_stored_fit (p ∷ ps) (x ∷ xs) ys h =
      both_given p ps ys (stored columns p x) (all_stored columns ps xs) (stored_fits columns p x) (all_stored_fit ps xs) h

  made_fits : (places : List ℕ) (old row : List Value) (r : Result (List Value) EvalFault) → row_fits (types_of columns) old ≡ true → ((ys : List Value) → r ≡ Ok ys → AllFitAt columns places ys)
      → (r >>= λ values. Ok (with_columns old places values)) ≡ Ok row → row_fits (types_of columns) row ≡ true
  made_fits places old row (Ok ys) h all is = ap (row_fits (types_of columns)) (sym (same_given (with_columns old places ys) row is)) ∙ with_fits columns places ys old h (all ys refl)
  made_fits places old row (Err fault) h all is = absurd (let no : ◌≡◌ {A = Result (List Value) EvalFault} (Err fault) (Ok row) = is in cc)

  pub inserted_fits : (places : List ℕ) (tuple : List NewValue) (row : List Value) → inserted evaluate columns places tuple ≡ Ok row → row_fits (types_of columns) row ≡ true
  inserted_fits places tuple row h = made_fits places (defaults columns) row (values_for evaluate columns [] places tuple) (defaults_fit columns fitting) (values_fit [] places tuple) h

  pub taken_fits : (places : List ℕ) (given row : List Value) → taken_in columns places given ≡ Ok row → row_fits (types_of columns) row ≡ true
  taken_fits places given row h = made_fits places (defaults columns) row (all_stored columns places given) (defaults_fit columns fitting) (all_stored_fit places given) h

  pub assigned_row_fits : (places : List ℕ) (xs : List NewValue) (old row : List Value) → row_fits (types_of columns) old ≡ true → (values_for evaluate columns old places xs >>= λ values. Ok (with_columns old places values)) ≡ Ok row → row_fits (types_of columns) row ≡ true
  assigned_row_fits places xs old row h is = made_fits places old row (values_for evaluate columns old places xs) h (values_fit old places xs) is

-- ---- rows of actions

-- a foreign key has the types and defaults of its own columns
pub record IsTyped (columns : List Column) (key : Reference) : Type 0 where
  pub types : key.types ≡ map (type_of columns) key.columns
  pub defaults : key.defaults ≡ map (default_of columns) key.columns

module _ (columns : List Column) (fitting : list_all has_fitting_default columns ≡ true) where
  nulls_fit : (places : List ℕ) → AllFitAt columns places (map (λ c. v.Null) places)
  nulls_fit [] = tt
  nulls_fit (p ∷ ps) = (null_at columns p, nulls_fit ps)

  defaults_at : (places : List ℕ) → AllFitAt columns places (map (default_of columns) places)
  defaults_at [] = tt
  defaults_at (p ∷ ps) = (default_at columns p fitting, defaults_at ps)

  typed_at : (place : ℕ) (x y : Value) → assign_of (type_of columns place) x ≡ Ok y → FitsAt columns place y
  typed_at place x y h column is = assigned_fits column.data_type x y (sym (ap (λ (o : Option Column). assign_of (type_in o) x) is) ∙ h)

  typed_fit : (places : List ℕ) (xs ys : List Value) → assigned (map (type_of columns) places) xs ≡ Ok ys → AllFitAt columns places ys
  typed_fit [] xs ys h = tt
  typed_fit (p ∷ ps) [] ys h = subst (AllFitAt columns (p ∷ ps)) (same_given [] ys h) tt
  typed_fit (p ∷ ps) (x ∷ xs) ys h = by (assign_of (type_of columns p) x) refl (assigned (map (type_of columns) ps) xs) (typed_fit ps xs) h
    where
      by : (r : Result Value EvalFault) → assign_of (type_of columns p) x ≡ r → (rs : Result (List Value) EvalFault) → ((zs : List Value) → rs ≡ Ok zs → AllFitAt columns ps zs) → (r >>= λ y. rs >>= λ zs. Ok (y ∷ zs)) ≡ Ok ys → AllFitAt columns (p ∷ ps) ys
      by (Ok y) one (Ok zs) rest h = subst (AllFitAt columns (p ∷ ps)) (same_given (y ∷ zs) ys h) (typed_at p x y one, rest zs refl)
      by (Ok y) one (Err fault) rest h = absurd (let no : ◌≡◌ {A = Result (List Value) EvalFault} (Err fault) (Ok ys) = h in cc)
      by (Err fault) one rs rest h = absurd (let no : ◌≡◌ {A = Result (List Value) EvalFault} (Err fault) (Ok ys) = h in cc)

  module _ (key : Reference) (typed : IsTyped columns key) where
    taken_key : (given ys : List Value) → assigned key.types given ≡ Ok ys → AllFitAt columns key.columns ys
    taken_key given ys h = typed_fit key.columns given ys (sym (ap (λ (ts : List SqlType). assigned ts given) typed.types) ∙ h)

    key_fits : (what : ReferentialAction) (new_ ys : List Value) → new_key key new_ what ≡ Ok ys → AllFitAt columns key.columns ys
    key_fits action.SetNull new_ ys h = subst (AllFitAt columns key.columns) (same_given (map (λ c. v.Null) key.columns) ys h) (nulls_fit key.columns)
    key_fits action.SetDefault new_ ys h = subst (AllFitAt columns key.columns) (sym typed.defaults ∙ same_given key.defaults ys h) (defaults_at key.columns)
    key_fits action.Cascade new_ ys h = taken_key (key_in key.parent_columns new_) ys h
    key_fits action.NoAction new_ ys h = taken_key (key_in key.parent_columns new_) ys h
    key_fits action.Restrict new_ ys h = taken_key (key_in key.parent_columns new_) ys h

    changed_fits : (new_ : List Value) (what : ReferentialAction) (old row : List Value) → row_fits (types_of columns) old ≡ true → changed key new_ what old ≡ Ok row → row_fits (types_of columns) row ≡ true
    changed_fits new_ what old row h = by (new_key key new_ what) refl
      where
        by : (r : Result (List Value) EvalFault) → new_key key new_ what ≡ r → (r >>= λ values. Ok (with_columns old key.columns values)) ≡ Ok row → row_fits (types_of columns) row ≡ true
        by (Ok ys) is given = ap (row_fits (types_of columns)) (sym (same_given (with_columns old key.columns ys) row given)) ∙ with_fits columns key.columns ys old h (key_fits what new_ ys is)
        by (Err fault) is given = absurd (let no : ◌≡◌ {A = Result (List Value) EvalFault} (Err fault) (Ok row) = given in cc)

    abbrev PutFits : Option (List Value) → Type 0
    PutFits o = (values : List Value) → o ≡ Some values → row_fits (types_of columns) values ≡ true

    put_by : (new_ : List Value) (what : ReferentialAction) (old : List Value) (o : Option (List Value)) → row_fits (types_of columns) old ≡ true → (changed key new_ what old >>= λ values. Ok (Some values)) ≡ Ok o → PutFits o
    put_by new_ what old o h = by (changed key new_ what old) refl
      where
        by : (r : Result (List Value) EvalFault) → changed key new_ what old ≡ r → (r >>= λ values. Ok (Some values)) ≡ Ok o → PutFits o
        by (Ok ys) is given values some =
            let same = same_Some ys values (same_given (Some ys) o given ∙ some) in
            ap (row_fits (types_of columns)) (sym same) ∙ changed_fits new_ what old ys h is
        by (Err fault) is given values some = absurd (let no : ◌≡◌ {A = Result (Option (List Value)) EvalFault} (Err fault) (Ok o) = given in cc)

    done_fits : (what : ReferentialAction) (now : Option (List Value)) (old : List Value) (o : Option (List Value)) → row_fits (types_of columns) old ≡ true → done key what now old ≡ Ok o → PutFits o
    done_fits action.Cascade None old o h given = λ values some. absurd (none-some values (same_given None o given ∙ some))
    done_fits action.SetNull None old o h given = put_by [] action.SetNull old o h given
    done_fits action.SetDefault None old o h given = put_by [] action.SetDefault old o h given
    done_fits action.NoAction None old o h given = put_by [] action.NoAction old o h given
    done_fits action.Restrict None old o h given = put_by [] action.Restrict old o h given
    done_fits action.Cascade (Some new_) old o h given = put_by new_ action.Cascade old o h given
    done_fits action.SetNull (Some new_) old o h given = put_by new_ action.SetNull old o h given
    done_fits action.SetDefault (Some new_) old o h given = put_by new_ action.SetDefault old o h given
    done_fits action.NoAction (Some new_) old o h given = put_by new_ action.NoAction old o h given
    done_fits action.Restrict (Some new_) old o h given = put_by new_ action.Restrict old o h given

    pub effect_fits : (now : Option (List Value)) (old : List Value) (o : Option (List Value)) → row_fits (types_of columns) old ≡ true → effect key now old ≡ Ok o → PutFits o
    effect_fits now old o h given = done_fits (action_at key now) now old o h given
