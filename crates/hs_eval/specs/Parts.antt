-- What lists of parts of an expression and of a SELECT give, and where they are evaluated, counted from 0.
use Rattle.std.specs.Prelude.{ℕ, Bool, List, map, Option, None, Result, Ok}
use Rattle.hs_ast.specs.declared.expression.Aggregate.{Aggregate}
use Rattle.hs_ast.specs.declared.query.SetOperator.{SetOperator}
use Rattle.hs_plan.specs.declared.expression.CaseArm.{CaseArm}
use Rattle.hs_plan.specs.declared.expression.Expr.{Expr}
use Rattle.hs_plan.specs.declared.expression.ListItem.{ListItem}
use Rattle.hs_plan.specs.declared.kind.Kind.{Kind}
use Rattle.hs_values.specs.declared.fault.EvalFault.{EvalFault}
use Rattle.hs_values.specs.declared.value.Value.{Value}
use Rattle.hs_values.specs.Outcome.{◌>>=◌}
use Rattle.hs_changes.specs.Settings.{Maps}
use Rattle.hs_expression.specs.Numbers.{Outcome}
use Rattle.hs_expression.specs.Aggregates.{aggregate_value}
use Rattle.hs_expression.specs.Expression.{arm_at, listed_at, value_in_group, valued_at}
use Rattle.hs_expression.specs.Forms.{chosen, first_known, found_in}
use Rattle.hs_expression.specs.Outcomes.{all_or_least}
use Rattle.hs_expression.specs.Surroundings.{Rows, Surroundings, Valued}
use Rattle.hs_answer.specs.Answer.{arm_in, item_in, value_in}
use Rattle.hs_answer.specs.Layers.{Line}
use Rattle.hs_answer.specs.Selects.{line_at, one_of_each}
use Rattle.hs_places.specs.declared.lines.Lines.{Lines}
use Rattle.hs_places.specs.Places.{around_of, group_of}
use Rattle.hs_settled.specs.Parts.{sides_given}

-- what each expression gives
abbrev pub outcomes_at : Maps → Surroundings → List Expr → List Outcome
outcomes_at tables s all = map (valued_at s) (map (value_in tables) all)

-- whether a value is equal to one of a list, where comparisons before it gave this
abbrev pub found_by : Maps → Surroundings → Value → Value → List ListItem → Outcome
found_by tables s x so_far list = found_in x so_far (map (listed_at s) (map (item_in tables) list))

-- what the first arm gives whose test is TRUE
abbrev pub chosen_by : Maps → Surroundings → List CaseArm → Result (Option Value) EvalFault
chosen_by tables s arms = chosen (map (arm_at s) (map (arm_in tables) arms))

-- the first that isn't NULL
abbrev pub known_by : Maps → Surroundings → List Expr → Outcome
known_by tables s operands = first_known (outcomes_at tables s operands)

-- the place of this number
abbrev pub place_at : List Surroundings → ℕ → Surroundings
place_at places at = record { rows = around_of places at; group = group_of places at }

-- what the items give at each place, and of equal lines one where DISTINCT is written
abbrev pub item_lines : Bool → Rows → List Valued → List Surroundings → Result (List Line) EvalFault
item_lines is_distinct outer items places = all_or_least (map (line_at items) places) >>= λ lines. Ok (one_of_each is_distinct outer lines)

-- an aggregate, by what its operand gives at the rows of the group
abbrev pub aggregate_by : Aggregate → Bool → List Outcome → Outcome
aggregate_by function distinct outcomes = all_or_least outcomes >>= aggregate_value function distinct

abbrev pub aggregate_of : Aggregate → Bool → Valued → Surroundings → Outcome
aggregate_of function distinct a s = aggregate_by function distinct (map (value_in_group a s) s.group)

-- rows over which no keys are evaluated
abbrev pub lines_alone : Rows → Lines
lines_alone rows = record { rows = rows; over = None }

-- the lines of a set operation, by the rows of its sides
abbrev pub lines_of_sides : SetOperator → List Kind → Rows → Rows → Result Lines EvalFault
lines_of_sides operator kinds above below = sides_given operator kinds above below >>= λ rows. Ok (lines_alone rows)
