-- What the forms of expressions make of what their parts give, from left to right: the first fault is the expression's, and what
-- decides is all that is looked at.
use Rattle.std.specs.Prelude.{Bool, true, false, not, List, [], ◌∷◌, map, Option, Some, None, Result, Ok, Err, if◌then◌else◌}
use Rattle.hs_ast.specs.declared.expression.BinaryOperator.TheVariants as o
use Rattle.hs_values.specs.declared.fault.EvalFault.{EvalFault}
use Rattle.hs_values.specs.declared.fault.EvalFault.TheVariants.{MoreThanOne}
use Rattle.hs_values.specs.declared.value.Value.{Value}
use Rattle.hs_values.specs.declared.value.Value.TheVariants as v
use Rattle.hs_values.specs.Outcome.{◌>>=◌}
use Rattle.hs_plan.specs.declared.operator.Binary.{Binary}
use Rattle.hs_plan.specs.declared.operator.Binary.TheVariants as b
use Rattle.hs_plan.specs.declared.operator.Ternary.{Ternary}
use Rattle.hs_plan.specs.declared.operator.Ternary.TheVariants as three
use Rattle.hs_plan.specs.declared.reading.Reading.{Reading}
use Rattle.hs_expression.specs.Kinds.{readable}
use Rattle.hs_expression.specs.Logic.{is_null, is_true, negated_if, disjunction}
use Rattle.hs_expression.specs.Numbers.{Outcome}
use Rattle.hs_expression.specs.Operators.{binary_value, ternary_value, least_test, greatest_test, equal_test, between_value}

abbrev pub is_false : Value → Bool
is_false (v.Bool b) = not b
is_false _ = false

-- ---- two and three operands

-- whether the first operand decides: FALSE in AND, TRUE in OR
abbrev pub is_decided : Binary → Value → Bool
is_decided (b.Operator o.And) a = is_false a
is_decided (b.Operator o.Or) a = is_true a
is_decided _ a = false

-- what the first operand is read as
abbrev pub reading_in : Binary → Option Reading
reading_in (b.NullIf reading) = reading
reading_in _ = None

-- an operation on a value and the operand behind it, which isn't looked at where the value decides
abbrev pub second_operand : Binary → Outcome → Value → Outcome
second_operand operator second x =
    if is_decided operator x then Ok x else (readable (reading_in operator) >>= λ read. second >>= λ y. binary_value operator x y)

abbrev pub two_operands : Binary → Outcome → Outcome → Outcome
two_operands operator first second = first >>= second_operand operator second

-- the halves of BETWEEN
abbrev pub least_tested : Option Reading → Outcome → Value → Outcome
least_tested reading low x = readable reading >>= λ read. low >>= λ y. least_test reading x y

abbrev pub greatest_tested : Option Reading → Outcome → Value → Outcome
greatest_tested reading high x = readable reading >>= λ read. high >>= λ z. greatest_test reading x z

-- the second half isn't looked at where the first is FALSE
abbrev pub between : Bool → Option Reading → Option Reading → Outcome → Outcome → Value → Outcome
between negated low_reading high_reading low high x =
    least_tested low_reading low x >>= λ above.
    if is_false above then Ok (negated_if negated above) else (greatest_tested high_reading high x >>= λ below. Ok (between_value negated above below))

abbrev pub three_operands : Ternary → Outcome → Outcome → Outcome → Outcome
three_operands (three.Between negated low high) first second third = first >>= between negated low high second third
three_operands three.SubstringFor first second third = first >>= λ x. second >>= λ y. third >>= λ z. ternary_value three.SubstringFor x y z

-- ---- IN

-- whether a value is equal to one of a list
abbrev pub item_tested : Value → Option Reading × Outcome → Outcome
item_tested x item = readable item.0 >>= λ read. item.1 >>= λ y. equal_test item.0 x y

-- TRUE at the first value that is equal; else unknown where one comparison is, and else FALSE
abbrev pub found_in : Value → Value → List (Option Reading × Outcome) → Outcome
found_in x so_far [] = Ok so_far
found_in x so_far (item ∷ more) = item_tested x item >>= λ equal. if is_true equal then Ok equal else found_in x (disjunction so_far equal) more

abbrev pub in_list : Bool → List (Option Reading × Outcome) → Value → Outcome
in_list negated list x = found_in x (v.Bool false) list >>= λ found. Ok (negated_if negated found)

-- ---- CASE and COALESCE

-- what the first arm gives whose test is TRUE
abbrev pub chosen : List (Outcome × Outcome) → Result (Option Value) EvalFault
chosen [] = Ok None
chosen (arm ∷ more) = arm.0 >>= λ test. if is_true test then (arm.1 >>= λ x. Ok (Some x)) else chosen more

-- what was chosen, else what stands behind ELSE, else NULL
abbrev pub or_otherwise : Option Outcome → Option Value → Outcome
or_otherwise otherwise (Some x) = Ok x
or_otherwise (Some outcome) None = outcome
or_otherwise None None = Ok v.Null

-- the first that isn't NULL
abbrev pub first_known : List Outcome → Outcome
first_known [] = Ok v.Null
first_known (first ∷ more) = first >>= λ x. if is_null x then first_known more else Ok x

-- ---- subqueries

-- the first column of a row
abbrev pub first_value : List Value → Value
first_value [] = v.Null
first_value (x ∷ more) = x

-- whether the query has a row
abbrev pub exists : List (List Value) → Value
exists [] = v.Bool false
exists (row ∷ rows) = v.Bool true

-- the value of its one row; NULL of no row
abbrev pub only_value : List (List Value) → Outcome
only_value [] = Ok v.Null
only_value (row ∷ []) = Ok (first_value row)
only_value _ = Err MoreThanOne

-- its values, as those of a list
abbrev pub values_of : List (List Value) → List (Option Reading × Outcome)
values_of rows = map (λ row. (None, Ok (first_value row))) rows
