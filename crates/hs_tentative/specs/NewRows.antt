-- The rows that a writing statement makes of values.
use Rattle.std.specs.Prelude.{ℕ, List, [], ◌∷◌, map, Option, None, Some, Result, Ok, Err}
use Rattle.std.specs.List as list
use Rattle.std.specs.Option.{option_map_or, unwrap_or}
use Rattle.hs_plan.specs.declared.definition.Column.{Column}
use Rattle.hs_plan.specs.declared.expression.Expr.{Expr}
use Rattle.hs_plan.specs.declared.plan.Assignment.{Assignment}
use Rattle.hs_plan.specs.declared.plan.NewValue.{NewValue}
use Rattle.hs_plan.specs.declared.plan.NewValue.TheVariants as new
use Rattle.hs_values.specs.declared.fault.EvalFault.{EvalFault}
use Rattle.hs_values.specs.declared.value.Value.{Value}
use Rattle.hs_values.specs.declared.value.Value.TheVariants as v
use Rattle.hs_values.specs.Outcome.{◌>>=◌}
use Rattle.hs_values.specs.SqlType.{assign_of}
use Rattle.hs_actions.specs.Acting.{with_columns}

-- what an expression gives over a row
abbrev pub Evaluate : Type 0
Evaluate = Expr → List Value → Result Value EvalFault

-- ---- columns

abbrev pub default_in : Option Column → Value
default_in None = v.Null
default_in (Some column) = unwrap_or column.default v.Null

-- the default of a column, NULL where it has none
abbrev pub default_of : List Column → ℕ → Value
default_of columns place = default_in (list.slice_get columns place)

abbrev pub defaults : List Column → List Value
defaults columns = map (λ c. default_in (Some c)) columns

abbrev pub stored_in : Option Column → Value → Result Value EvalFault
stored_in None value = Ok value
stored_in (Some column) value = assign_of column.data_type value

-- a value as a column stores it
abbrev pub stored : List Column → ℕ → Value → Result Value EvalFault
stored columns place value = stored_in (list.slice_get columns place) value

-- ---- values for columns

-- a value of VALUES or SET for a column: evaluated over a row, and as the column stores it
abbrev pub value_for : Evaluate → List Column → List Value → ℕ → NewValue → Result Value EvalFault
value_for evaluate columns row place new.Default = Ok (default_of columns place)
value_for evaluate columns row place (new.Value e) = evaluate e row >>= stored columns place

-- each is evaluated and stored before the next, and the first fault is that of all
abbrev pub values_for : Evaluate → List Column → List Value → List ℕ → List NewValue → Result (List Value) EvalFault
values_for evaluate columns row [] values = Ok []
values_for evaluate columns row (p ∷ ps) [] = Ok []
values_for evaluate columns row (p ∷ ps) (x ∷ xs) = value_for evaluate columns row p x >>= λ y. values_for evaluate columns row ps xs >>= λ ys. Ok (y ∷ ys)

abbrev pub all_stored : List Column → List ℕ → List Value → Result (List Value) EvalFault
all_stored columns [] values = Ok []
all_stored columns (p ∷ ps) [] = Ok []
all_stored columns (p ∷ ps) (x ∷ xs) = stored columns p x >>= λ y. all_stored columns ps xs >>= λ ys. Ok (y ∷ ys)

-- ---- rows

-- a row of VALUES: columns that are left out have their defaults
abbrev pub inserted : Evaluate → List Column → List ℕ → List NewValue → Result (List Value) EvalFault
inserted evaluate columns places tuple = values_for evaluate columns [] places tuple >>= λ values. Ok (with_columns (defaults columns) places values)

-- a row that a query gave
abbrev pub taken_in : List Column → List ℕ → List Value → Result (List Value) EvalFault
taken_in columns places row = all_stored columns places row >>= λ values. Ok (with_columns (defaults columns) places values)

-- a row with what SET assigns: each value is evaluated over the row as it was
abbrev pub updated : Evaluate → List Column → List Assignment → List Value → Result (List Value) EvalFault
updated evaluate columns assignments row =
    values_for evaluate columns row (map (λ a. a.column) assignments) (map (λ a. a.value) assignments) >>= λ values. Ok (with_columns row (map (λ a. a.column) assignments) values)
