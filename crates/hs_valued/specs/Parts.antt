-- What lists of parts of an expression give, and conditions.
use Rattle.std.specs.Prelude.{Bool, List, map, Option, Result, Ok}
use Rattle.hs_values.specs.declared.fault.EvalFault.{EvalFault}
use Rattle.hs_values.specs.declared.value.Value.{Value}
use Rattle.hs_values.specs.Outcome.{◌>>=◌}
use Rattle.hs_plan.specs.declared.expression.CaseArm.{CaseArm}
use Rattle.hs_plan.specs.declared.expression.Expr.{Expr}
use Rattle.hs_plan.specs.declared.expression.ListItem.{ListItem}
use Rattle.hs_expression.specs.Logic.{is_true}
use Rattle.hs_expression.specs.Numbers.{Outcome}
use Rattle.hs_expression.specs.Expression.{value_of, arm_of, item_of, arm_at, listed_at, valued_at, value_in_group}
use Rattle.hs_expression.specs.Forms.{chosen, first_known, found_in}
use Rattle.hs_expression.specs.Outcomes.{all_or_least}
use Rattle.hs_expression.specs.Surroundings.{Surroundings, Valued}

-- whether a value is equal to one of a list, where comparisons before it gave this
abbrev pub found_by : Surroundings → Value → Value → List ListItem → Outcome
found_by s x so_far list = found_in x so_far (map (listed_at s) (map item_of list))

-- what the first arm gives whose test is TRUE
abbrev pub chosen_by : Surroundings → List CaseArm → Result (Option Value) EvalFault
chosen_by s arms = chosen (map (arm_at s) (map arm_of arms))

-- the first that isn't NULL
abbrev pub known_by : Surroundings → List Expr → Outcome
known_by s operands = first_known (map (valued_at s) (map value_of operands))

-- what an expression gives of the rows of the group, or the least of its faults
abbrev pub in_group_by : Valued → Surroundings → Result (List Value) EvalFault
in_group_by value s = all_or_least (map (value_in_group value s) s.group)

-- whether a condition holds, which it does where it is TRUE
abbrev pub holds : Outcome → Result Bool EvalFault
holds outcome = outcome >>= λ x. Ok (is_true x)
