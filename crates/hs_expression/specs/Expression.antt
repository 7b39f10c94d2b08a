-- The value of an expression: a step for each layer of the tree, over what its parts give.
use Rattle.std.specs.Prelude.{List, [], map, length, Option, Ok, Err}
use Rattle.std.specs.Option.{option_map}
use Rattle.hs_values.specs.declared.fault.EvalFault.TheVariants.{BadDate}
use Rattle.hs_values.specs.declared.value.Value.{Value}
use Rattle.hs_values.specs.Outcome.{◌>>=◌}
use Rattle.hs_plan.specs.declared.expression.CaseArm.{CaseArm, fold-CaseArm}
use Rattle.hs_plan.specs.declared.expression.Expr.{Expr, fold-Expr}
use Rattle.hs_plan.specs.declared.expression.Expr.TheOpen.{Expr-F, CaseArm-F, ListItem-F}
use Rattle.hs_plan.specs.declared.expression.ListItem.{ListItem, fold-ListItem}
use Rattle.hs_plan.specs.declared.reading.Reading.{Reading}
use Rattle.hs_expression.specs.Kinds.{given_at, read_value}
use Rattle.hs_expression.specs.Numbers.{Outcome}
use Rattle.hs_expression.specs.Operators.{unary_value}
use Rattle.hs_expression.specs.Aggregates.{count_value, aggregate_value}
use Rattle.hs_expression.specs.Forms.{two_operands, three_operands, in_list, values_of, exists, only_value, chosen, or_otherwise, first_known}
use Rattle.hs_expression.specs.Outcomes.{all_or_least}
use Rattle.hs_expression.specs.Surroundings.{Surroundings, Valued, Answered, column, at_row}

-- a value of a list, with what the operand is read as beside it; a test, with the value behind THEN
abbrev pub Listed : Type 0
Listed = Option Reading × Valued

abbrev pub Arm : Type 0
Arm = Valued × Valued

abbrev pub valued_at : Surroundings → Valued → Outcome
valued_at s a = a s

-- what an aggregate's operand gives of a row of the group
abbrev pub value_in_group : Valued → Surroundings → List Value → Outcome
value_in_group a s row = a (at_row s row)

abbrev pub listed_at : Surroundings → Listed → Option Reading × Outcome
listed_at s item = (item.0, item.1 s)

abbrev pub arm_at : Surroundings → Arm → Outcome × Outcome
arm_at s arm = (arm.0 s, arm.1 s)

-- ---- one layer, with what its parts give in their places

module _ {J K B S F Q V W : Type 0} where
  abbrev pub of_expression : Expr-F Valued J K B S Arm Listed F Answered Q V W → Valued
  of_expression (Expr-F.Literal x) s = Ok x
  of_expression (Expr-F.ReadText text reading) s = read_value reading
  of_expression (Expr-F.BadMoment timestamp text) s = Err BadDate
  of_expression (Expr-F.Column outward at) s = Ok (column s.rows outward at)
  of_expression (Expr-F.Unary operator a) s = a s >>= unary_value operator
  of_expression (Expr-F.Binary operator a b) s = two_operands operator (a s) (b s)
  of_expression (Expr-F.Ternary operator a b c) s = three_operands operator (a s) (b s) (c s)
  of_expression (Expr-F.InList a negated list) s = a s >>= in_list negated (map (listed_at s) list)
  of_expression (Expr-F.InQuery a negated query) s = a s >>= λ x. query s.rows >>= λ rows. in_list negated (values_of rows) x
  of_expression (Expr-F.Exists query) s = query s.rows >>= λ rows. Ok (exists rows)
  of_expression (Expr-F.Subquery query) s = query s.rows >>= only_value
  of_expression (Expr-F.Case kind arms otherwise) s = chosen (map (arm_at s) arms) >>= or_otherwise (option_map (λ a. a s) otherwise) >>= given_at kind
  of_expression (Expr-F.Coalesce kind operands) s = first_known (map (valued_at s) operands) >>= given_at kind
  of_expression Expr-F.CountRows s = count_value (length s.group)
  of_expression (Expr-F.Aggregate function distinct a) s = all_or_least (map (value_in_group a s) s.group) >>= aggregate_value function distinct

  abbrev pub of_arm : CaseArm-F Valued J K B S Arm Listed F Answered Q V W → Arm
  of_arm arm = (arm.test, arm.value)

  abbrev pub of_item : ListItem-F Valued J K B S Arm Listed F Answered Q V W → Listed
  of_item item = (item.reading, item.value)

-- ---- expressions alone: a subquery counts as one without rows

abbrev pub Nothing : Type 0
Nothing = Unit {0}

abbrev pub none : {A : Type 0} → A → Nothing
none a = tt

abbrev pub no_rows : {A : Type 0} → A → Answered
no_rows query outer = Ok []

abbrev pub value_of : Expr → Valued
value_of = fold-Expr Valued Nothing Nothing Nothing Nothing Arm Listed Nothing Answered Nothing Nothing Nothing of_expression none none none none of_arm of_item none no_rows none none none

abbrev pub arm_of : CaseArm → Arm
arm_of = fold-CaseArm Valued Nothing Nothing Nothing Nothing Arm Listed Nothing Answered Nothing Nothing Nothing of_expression none none none none of_arm of_item none no_rows none none none

abbrev pub item_of : ListItem → Listed
item_of = fold-ListItem Valued Nothing Nothing Nothing Nothing Arm Listed Nothing Answered Nothing Nothing Nothing of_expression none none none none of_arm of_item none no_rows none none none
