-- What the grammar offers of definitions.
use Rattle.std.specs.Prelude.{◌&&◌, nat_lt, Bool, true, List, length}
use Rattle.std.specs.List.{list_all}
use Rattle.hs_ast.specs.declared.definition.AlterAction.{AlterAction}
use Rattle.hs_ast.specs.declared.definition.AlterAction.TheVariants as action
use Rattle.hs_ast.specs.declared.definition.TableElement.{TableElement}
use Rattle.hs_ast.specs.declared.definition.TableElement.TheVariants as element
use Rattle.hs_ast.specs.declared.definition.TableRule.{TableRule}
use Rattle.hs_ast.specs.declared.definition.TableRule.TheVariants as table
use Rattle.hs_ast.specs.declared.statement.Stmt.{Stmt}
use Rattle.hs_ast.specs.declared.statement.Stmt.TheVariants as s
use Rattle.hs_ast.specs.declared.word.Identifier.{Identifier}
use Rattle.hs_language.specs.Proper.{is_memory}

abbrev pub are_some : List Identifier → Bool
are_some list = nat_lt 0 (length list)

-- a key, and a foreign key, names one column at least
abbrev pub is_offered_rule : TableRule → Bool
is_offered_rule (table.PrimaryKey list) = are_some list
is_offered_rule (table.Unique list) = are_some list
is_offered_rule (table.Check e) = true
is_offered_rule (table.ForeignKey list key) = are_some list

abbrev pub is_offered_element : TableElement → Bool
is_offered_element (element.Column c) = true
is_offered_element (element.Constraint t) = is_offered_rule t.rule

abbrev pub is_offered_action : AlterAction → Bool
is_offered_action (action.AddColumn c) = true
is_offered_action (action.AddConstraint t) = is_offered_rule t.rule
is_offered_action (action.DropConstraint name) = true

-- a table is made in memory, and an index names one column at least
abbrev pub is_offered : Stmt → Bool
is_offered (s.CreateTable c) = is_memory c.storage && list_all is_offered_element c.elements
is_offered (s.CreateIndex c) = are_some c.columns
is_offered (s.AlterTable a) = is_offered_action a.action
is_offered _ = true
