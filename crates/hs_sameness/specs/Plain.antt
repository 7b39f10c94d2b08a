-- Expressions without queries and aggregates.
use Rattle.std.specs.Prelude.{Bool, true, false, ◌&&◌, List, [], ◌∷◌, map, Option, None, Some}
use Rattle.std.specs.Option.{option_map}
use Rattle.hs_plan.specs.declared.expression.CaseArm.{CaseArm, fold-CaseArm}
use Rattle.hs_plan.specs.declared.expression.Expr.{Expr, fold-Expr}
use Rattle.hs_plan.specs.declared.expression.Expr.TheOpen.{Expr-F, CaseArm-F, ListItem-F}
use Rattle.hs_plan.specs.declared.expression.ListItem.{ListItem, fold-ListItem}

abbrev pub every : List Bool → Bool
every [] = true
every (x ∷ xs) = x && every xs

abbrev pub if_written : Option Bool → Bool
if_written None = true
if_written (Some x) = x

-- ---- one layer, with what is told of its parts in their places

abbrev pub of_expression : Expr-F Bool Bool Bool Bool Bool Bool Bool Bool Bool Bool Bool Bool → Bool
of_expression (Expr-F.Literal x) = true
of_expression (Expr-F.ReadText text reading) = true
of_expression (Expr-F.BadMoment timestamp text) = true
of_expression (Expr-F.Column outward at) = true
of_expression (Expr-F.Unary operator a) = a
of_expression (Expr-F.Binary operator a b) = a && b
of_expression (Expr-F.Ternary operator a b c) = a && b && c
of_expression (Expr-F.InList a negated list) = a && every list
of_expression (Expr-F.InQuery a negated query) = false
of_expression (Expr-F.Exists query) = false
of_expression (Expr-F.Subquery query) = false
of_expression (Expr-F.Case kind arms otherwise) = every arms && if_written otherwise
of_expression (Expr-F.Coalesce kind operands) = every operands
of_expression Expr-F.CountRows = false
of_expression (Expr-F.Aggregate function distinct a) = false

abbrev pub of_arm : CaseArm-F Bool Bool Bool Bool Bool Bool Bool Bool Bool Bool Bool Bool → Bool
of_arm arm = arm.test && arm.value

abbrev pub of_item : ListItem-F Bool Bool Bool Bool Bool Bool Bool Bool Bool Bool Bool Bool → Bool
of_item item = item.value

-- ---- whole expressions

abbrev pub no : {A : Type 0} → A → Bool
no part = false

-- neither it nor a part of it is a query or an aggregate
abbrev pub is_plain : Expr → Bool
is_plain = fold-Expr Bool Bool Bool Bool Bool Bool Bool Bool Bool Bool Bool Bool of_expression no no no no of_arm of_item no no no no no

abbrev pub is_plain_arm : CaseArm → Bool
is_plain_arm = fold-CaseArm Bool Bool Bool Bool Bool Bool Bool Bool Bool Bool Bool Bool of_expression no no no no of_arm of_item no no no no no

abbrev pub is_plain_item : ListItem → Bool
is_plain_item = fold-ListItem Bool Bool Bool Bool Bool Bool Bool Bool Bool Bool Bool Bool of_expression no no no no of_arm of_item no no no no no

-- ---- several of them

abbrev pub are_plain : List Expr → Bool
are_plain all = every (map is_plain all)

abbrev pub are_plain_arms : List CaseArm → Bool
are_plain_arms all = every (map is_plain_arm all)

abbrev pub are_plain_items : List ListItem → Bool
are_plain_items all = every (map is_plain_item all)

-- an expression that need not be written
abbrev pub is_plain_option : Option Expr → Bool
is_plain_option e = if_written (option_map is_plain e)
