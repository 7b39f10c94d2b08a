-- What each form of an expression gives that has no fault, with what its parts give.
use Rattle.std.proofs.Common.{◌≡◌, ℕ, Bool, List, map, Ok, ap}
use Rattle.hs_plan.specs.declared.expression.Expr.{Expr}
use Rattle.hs_plan.specs.declared.expression.Expr as e
use Rattle.hs_plan.specs.declared.expression.Expr.TheOpen.{Expr-F}
use Rattle.hs_plan.specs.declared.expression.ListItem.{ListItem, out-ListItem, fold_out-ListItem}
use Rattle.hs_plan.specs.declared.operator.Binary.{Binary}
use Rattle.hs_plan.specs.declared.operator.Ternary.{Ternary}
use Rattle.hs_plan.specs.declared.operator.Unary.{Unary}
use Rattle.hs_plan.specs.declared.reading.Reading.{Reading}
use Rattle.hs_values.specs.declared.value.Value.{Value}
use Rattle.hs_values.specs.Outcome.{◌>>=◌}
use Rattle.hs_changes.specs.Settings.{Maps}
use Rattle.hs_expression.specs.Expression.{Arm, Listed, listed_at, of_arm, of_expression, of_item}
use Rattle.hs_expression.specs.Forms.{in_list, three_operands, two_operands}
use Rattle.hs_expression.specs.Kinds.{read_value}
use Rattle.hs_expression.specs.Numbers.{Outcome}
use Rattle.hs_expression.specs.Operators.{unary_value}
use Rattle.hs_expression.specs.Surroundings.{Answered, Surroundings, Valued, column}
use Rattle.hs_answer.specs.Answer.{item_in, value_in}
use Rattle.hs_answer.specs.Bodies.{of_body, of_row}
use Rattle.hs_answer.specs.From.{of_element, of_join, of_source}
use Rattle.hs_answer.specs.Layers.{Bodied, Joining, Keyed, SortBy, Sourced}
use Rattle.hs_answer.specs.Order.{of_key, of_query, of_sort_key}
use Rattle.hs_answer.specs.Selects.{of_select}
use Rattle.hs_answer_laws.proofs.Layers.{value_gives}

module _ (tables : Maps) (s : Surroundings) where
  abbrev at : Valued → Outcome
  at g = g s

  pub literal_is : (value : Value) → value_in tables (e.Literal value) s ≡ Ok value
  unfolding e.roll-Expr denote.Hole.Carrier.roll
  literal_is value = ap at (value_gives tables (Expr-F.Literal value))

  pub text_is : (text : List ℕ) (reading : Reading) → value_in tables (e.ReadText text reading) s ≡ read_value reading
  unfolding e.roll-Expr denote.Hole.Carrier.roll
  text_is text reading = ap at (value_gives tables (Expr-F.ReadText text reading))

  pub column_is : (outward place : ℕ) → value_in tables (e.Column outward place) s ≡ Ok (column s.rows outward place)
  unfolding e.roll-Expr denote.Hole.Carrier.roll
  column_is outward place = ap at (value_gives tables (Expr-F.Column outward place))

  pub one_is : (operator : Unary) (a : Expr) → value_in tables (e.Unary operator a) s ≡ (value_in tables a s >>= unary_value operator)
  unfolding e.roll-Expr denote.Hole.Carrier.roll
  one_is operator a = ap at (value_gives tables (Expr-F.Unary operator a))

  pub two_are : (operator : Binary) (a b : Expr) → value_in tables (e.Binary operator a b) s ≡ two_operands operator (value_in tables a s) (value_in tables b s)
  unfolding e.roll-Expr denote.Hole.Carrier.roll
  two_are operator a b = ap at (value_gives tables (Expr-F.Binary operator a b))

  pub three_are : (operator : Ternary) (a b c : Expr) → value_in tables (e.Ternary operator a b c) s ≡ three_operands operator (value_in tables a s) (value_in tables b s) (value_in tables c s)
  unfolding e.roll-Expr denote.Hole.Carrier.roll
  three_are operator a b c = ap at (value_gives tables (Expr-F.Ternary operator a b c))

  pub list_is : (a : Expr) (negated : Bool) (list : List ListItem) → value_in tables (e.InList a negated list) s ≡ (value_in tables a s >>= in_list negated (map (listed_at s) (map (item_in tables) list)))
  unfolding e.roll-Expr denote.Hole.Carrier.roll
  list_is a negated list = ap at (value_gives tables (Expr-F.InList a negated list))

pub item_is : (tables : Maps) (item : ListItem) → item_in tables item ≡ ((out-ListItem item).reading, value_in tables (out-ListItem item).value)
item_is tables item = fold_out-ListItem Valued Joining Keyed Bodied Sourced Arm Listed Answered Answered Bodied SortBy (List Valued) of_expression of_join of_key of_body (of_source tables) of_arm of_item of_element of_query of_select of_sort_key of_row item
