-- Expressions without subqueries.
use Rattle.std.specs.Prelude.{Bool, true, false, ◌&&◌, List, Option, unwrap_or}
use Rattle.std.specs.List.{list_all}
use Rattle.hs_plan.specs.declared.expression.CaseArm.{CaseArm, fold-CaseArm}
use Rattle.hs_plan.specs.declared.expression.Expr.{Expr, fold-Expr}
use Rattle.hs_plan.specs.declared.expression.Expr.TheOpen.{Expr-F, CaseArm-F, ListItem-F}
use Rattle.hs_plan.specs.declared.expression.ListItem.{ListItem, fold-ListItem}

abbrev pub all : List Bool → Bool
all = list_all (λ is. is)

abbrev pub if_written : Option Bool → Bool
if_written is = unwrap_or is true

-- ---- one layer, with whether its parts have none

abbrev pub of_expression : Expr-F Bool Bool Bool Bool Bool Bool Bool Bool Bool Bool Bool Bool → Bool
of_expression (Expr-F.Literal x) = true
of_expression (Expr-F.ReadText text reading) = true
of_expression (Expr-F.BadMoment timestamp text) = true
of_expression (Expr-F.Column outward at) = true
of_expression (Expr-F.Unary operator a) = a
of_expression (Expr-F.Binary operator a b) = a && b
of_expression (Expr-F.Ternary operator a b c) = a && (b && c)
of_expression (Expr-F.InList a negated list) = a && all list
of_expression (Expr-F.InQuery a negated query) = false
of_expression (Expr-F.Exists query) = false
of_expression (Expr-F.Subquery query) = false
of_expression (Expr-F.Case kind arms otherwise) = all arms && if_written otherwise
of_expression (Expr-F.Coalesce kind operands) = all operands
of_expression Expr-F.CountRows = true
of_expression (Expr-F.Aggregate function distinct a) = a

abbrev pub of_arm : CaseArm-F Bool Bool Bool Bool Bool Bool Bool Bool Bool Bool Bool Bool → Bool
of_arm arm = arm.test && arm.value

abbrev pub of_item : ListItem-F Bool Bool Bool Bool Bool Bool Bool Bool Bool Bool Bool Bool → Bool
of_item item = item.value

-- ---- whole trees

abbrev pub no_part : {A : Type 0} → A → Bool
no_part part = false

abbrev pub is_plain : Expr → Bool
is_plain = fold-Expr Bool Bool Bool Bool Bool Bool Bool Bool Bool Bool Bool Bool of_expression no_part no_part no_part no_part of_arm of_item no_part no_part no_part no_part no_part

abbrev pub arm_is_plain : CaseArm → Bool
arm_is_plain = fold-CaseArm Bool Bool Bool Bool Bool Bool Bool Bool Bool Bool Bool Bool of_expression no_part no_part no_part no_part of_arm of_item no_part no_part no_part no_part no_part

abbrev pub item_is_plain : ListItem → Bool
item_is_plain = fold-ListItem Bool Bool Bool Bool Bool Bool Bool Bool Bool Bool Bool Bool of_expression no_part no_part no_part no_part of_arm of_item no_part no_part no_part no_part no_part
