-- What a statement is answered by the function is its answer.
use Rattle.std.proofs.Common.{◌≡◌, [], List, Option, Some, None, refl, ap}
use Rattle.std.specs.Option.{option_map}
use Rattle.hs_ast.specs.declared.definition.AlterAction.{AlterAction}
use Rattle.hs_ast.specs.declared.definition.AlterAction.TheVariants as action
use Rattle.hs_ast.specs.declared.definition.CreateIndex.{CreateIndex}
use Rattle.hs_ast.specs.declared.definition.TableElement.{TableElement}
use Rattle.hs_ast.specs.declared.statement.Stmt.{Stmt}
use Rattle.hs_ast.specs.declared.statement.Stmt.TheVariants as s
use Rattle.hs_ast.specs.declared.word.Identifier.{Identifier}
use Rattle.hs_statements.specs.Answers.{answer, answer_by, answer_of}
use Rattle.hs_statements.specs.Bound.{altered, bound, by_names, index_on, named}
use Rattle.hs_statements.specs.Naming.{names_from}
use Rattle.hs_statements.proofs.Naming.{are_named}
use Rattle.hs_drops.specs.Answers.{AnswersIndex}
use Rattle.hs_drops.specs.Definitions.{constraint_dropped, index_created, index_dropped, no_table, table_dropped}
use Rattle.hs_elements.specs.Faults.{Text}
use Rattle.hs_meaning.specs.Parts.{Meaning}
use Rattle.hs_meaning.specs.Statements.{IsAnswer, query_meaning}
use Rattle.hs_outlines.specs.Named.{written}
use Rattle.hs_plan.specs.Fault.{fault_of}
use Rattle.hs_plan.specs.declared.fault.PlacedFault.{PlacedFault}
use Rattle.hs_schema.specs.Catalogue.{Things, table_named}
use Rattle.hs_schema.specs.declared.table.Table.{Table}
use Rattle.hs_statements.specs.Statements.{AnswersStatement}
use Rattle.hs_tables.specs.Answers.{AnswersAction, AnswersNamed, ByNames}
use Rattle.hs_tables.specs.Definitions.{by_column, by_constraint, column_added, constraint_added, table_created}
use Rattle.hs_typed.specs.Faults.{least}
use Rattle.hs_typed.proofs.Least.{no_fault}
use Rattle.hs_writing.specs.Statements.{delete_meaning, insert_meaning, locks_meaning, update_meaning}

answered_by : {A : Type 0} (faults : List PlacedFault) (o : Option PlacedFault) (part : Option A) → least faults ≡ o → IsAnswer faults part (answer_by o part)
answered_by faults (Some fault) part is = λ some. ap (option_map fault_of) is
answered_by faults None (Some a) is = ((no_fault faults).0 is, refl)
answered_by faults None None is = λ some. absurd (some refl)

answered : {A : Type 0} (faults : List PlacedFault) (part : Option A) → IsAnswer faults part (answer_of faults part)
answered faults part = answered_by faults (least faults) part refl

answers : {A : Type 0} (m : Meaning A) → IsAnswer m.faults m.part (answer m)
answers m = answered m.faults m.part

named_by : (things : Things) (table : Text) (elements : List TableElement) (means : ByNames) (o : Option (List Text)) → names_from things table [] (written elements) ≡ o
    → AnswersNamed things table elements means (by_names means o)
named_by things table elements means (Some names) is = λ some. (names, (are_named things table [] (written elements) names is, answers (means names)))
named_by things table elements means None is = λ some. absurd (some refl)

named_answer : (things : Things) (table : Text) (elements : List TableElement) (means : ByNames) → AnswersNamed things table elements means (named things table elements means)
named_answer things table elements means = named_by things table elements means (names_from things table [] (written elements)) refl

index_answer : (things : Things) (c : CreateIndex) (o : Option Table) → AnswersIndex things c o (index_on things c o)
index_answer things c (Some t) = answers (index_created things c t)
index_answer things c None = answers (no_table c.table)

altered_answer : (things : Things) (table : Identifier) (a : AlterAction) (o : Option Table) → AnswersAction things table a o (altered things table a o)
altered_answer things table (action.AddColumn c) (Some t) = named_answer things table.name (by_column c) (column_added things table c t)
altered_answer things table (action.AddColumn c) None = answers (no_table table)
altered_answer things table (action.AddConstraint k) (Some t) = named_answer things table.name (by_constraint k) (constraint_added things table k t)
altered_answer things table (action.AddConstraint k) None = answers (no_table table)
altered_answer things table (action.DropConstraint name) (Some t) = answers (constraint_dropped t table name)
altered_answer things table (action.DropConstraint name) None = answers (no_table table)

pub statement_answer : (things : Things) (statement : Stmt) → AnswersStatement things statement (bound things statement)
unfolding bound
statement_answer things (s.Query q) = (answer_of (query_meaning things q).faults (query_meaning things q).plan, (answered (query_meaning things q).faults (query_meaning things q).plan, refl))
statement_answer things (s.Insert i) = (answer (insert_meaning things i), (answers (insert_meaning things i), refl))
statement_answer things (s.Update u) = (answer (update_meaning things u), (answers (update_meaning things u), refl))
statement_answer things (s.Delete x) = (answer (delete_meaning things x), (answers (delete_meaning things x), refl))
statement_answer things (s.LockTable locks) = (answer (locks_meaning things locks), (answers (locks_meaning things locks), refl))
statement_answer things (s.CreateTable c) = (named things c.name.name c.elements (table_created things c), (named_answer things c.name.name c.elements (table_created things c), refl))
statement_answer things (s.CreateIndex c) = (index_on things c (table_named things c.table.name), (index_answer things c (table_named things c.table.name), refl))
statement_answer things (s.AlterTable a) = (altered things a.table a.action (table_named things a.table.name), (altered_answer things a.table a.action (table_named things a.table.name), refl))
statement_answer things (s.DropTable name) = (answer (table_dropped things name), (answers (table_dropped things name), refl))
statement_answer things (s.DropIndex name) = (answer (index_dropped things name), (answers (index_dropped things name), refl))
statement_answer things (s.SetControl control) = (refl, refl)
statement_answer things (s.SetDefaultLevel isolation) = (refl, refl)
statement_answer things (s.SetAutocommit on) = (refl, refl)
statement_answer things (s.SetCharacteristics modes) = (refl, refl)
statement_answer things (s.SetTransaction modes) = (refl, refl)
statement_answer things (s.StartTransaction modes) = (refl, refl)
statement_answer things s.Commit = (refl, refl)
statement_answer things s.Rollback = (refl, refl)
statement_answer things (s.Savepoint name) = (refl, refl)
statement_answer things (s.RollbackTo name) = (refl, refl)
statement_answer things (s.ReleaseSavepoint name) = (refl, refl)
statement_answer things s.WriteDelayFalse = (refl, refl)
statement_answer things s.Checkpoint = (refl, refl)
statement_answer things s.Shutdown = (refl, refl)
