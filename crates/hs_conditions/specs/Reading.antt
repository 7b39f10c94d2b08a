-- The condition that a text is over a table's columns.
use Rattle.std.specs.Prelude.{ℕ, List, [], ◌∷◌, ◌++◌, codes, map, Option, Some, None, Result, Ok, Err}
use Rattle.std.specs.Option.{option_map_or}
use Rattle.hs_ast.specs.declared.definition.AlterAction.{AlterAction}
use Rattle.hs_ast.specs.declared.definition.AlterAction.TheVariants as action
use Rattle.hs_ast.specs.declared.definition.TableRule.{TableRule}
use Rattle.hs_ast.specs.declared.definition.TableRule.TheVariants as rule
use Rattle.hs_ast.specs.declared.expression.Expression.{Expression}
use Rattle.hs_ast.specs.declared.statement.Stmt.{Stmt}
use Rattle.hs_ast.specs.declared.statement.Stmt.TheVariants as s
use Rattle.hs_meaning.specs.Parts.{Meaning, tree_in}
use Rattle.hs_meaning.specs.Statements.{check_meaning}
use Rattle.hs_plan.specs.declared.definition.Column.{Column}
use Rattle.hs_plan.specs.declared.expression.Expr.{Expr}
use Rattle.hs_plan.specs.declared.fault.PlacedFault.{PlacedFault}
use Rattle.hs_read.specs.Read.{Refusal, statement_in}
use Rattle.hs_scope.specs.Names.{column_of}
use Rattle.hs_scope.specs.declared.from_table.FromTable.{FromTable}

-- ---- its tree

-- the statement that adds a CHECK with this condition
abbrev pub with_check : List ℕ → List ℕ
with_check text = codes "ALTER TABLE T ADD CHECK(" ++ (text ++ codes ")")

abbrev pub of_rule : TableRule → Option Expression
of_rule (rule.Check e) = Some e
of_rule (rule.PrimaryKey columns) = None
of_rule (rule.Unique columns) = None
of_rule (rule.ForeignKey columns key) = None

abbrev pub of_action : AlterAction → Option Expression
of_action (action.AddConstraint constraint) = of_rule constraint.rule
of_action (action.AddColumn column) = None
of_action (action.DropConstraint name) = None

-- the condition of the CHECK that a statement adds
abbrev pub of_statement : Stmt → Option Expression
of_statement (s.AlterTable alter) = of_action alter.action
of_statement _ = None

abbrev pub of_reading : Result Stmt Refusal → Option Expression
of_reading (Ok statement) = of_statement statement
of_reading (Err refusal) = None

-- by the grammar
abbrev pub tree_of : List ℕ → Option Expression
tree_of text = of_reading (statement_in (with_check text))

-- ---- what it means

-- a table as its CHECKs see it
abbrev pub seen_by_checks : List ℕ → List Column → List FromTable
seen_by_checks name columns = record { name = name; columns = map column_of columns } ∷ []

-- where there is no fault
abbrev pub if_faultless : {A : Type 0} → List PlacedFault → Option A → Option A
if_faultless [] part = part
if_faultless (fault ∷ faults) part = None

abbrev pub known_of : {A : Type 0} → Meaning A → Option A
known_of m = if_faultless m.faults m.part

-- what a condition means as a CHECK of a table with these columns, whose name is T
abbrev pub meant_over : List Column → Expression → Option Expr
meant_over columns e = known_of (tree_in (check_meaning (seen_by_checks (codes "T") columns) e))

-- ---- both

-- the condition of this text, none where it is no condition or has a fault
unfoldable pub condition_of : List Column → List ℕ → Option Expr
condition_of columns text = option_map_or (meant_over columns) (tree_of text) None
