-- What every statement means over a catalogue, as a function: its plan, or its least fault.
use Rattle.std.specs.Prelude.{◌+◌, ◌^◌, ◌<◌, [], List, length, Option, Some, None, Ok, Err}
use Rattle.hs_ast.specs.declared.definition.AlterAction.{AlterAction}
use Rattle.hs_ast.specs.declared.definition.AlterAction.TheVariants as action
use Rattle.hs_ast.specs.declared.definition.CreateIndex.{CreateIndex}
use Rattle.hs_ast.specs.declared.definition.TableElement.{TableElement}
use Rattle.hs_ast.specs.declared.statement.Stmt.{Stmt}
use Rattle.hs_ast.specs.declared.statement.Stmt.TheVariants as s
use Rattle.hs_ast.specs.declared.word.Identifier.{Identifier}
use Rattle.hs_statements.specs.Answers.{answer, answer_of}
use Rattle.hs_statements.specs.Naming.{names_from}
use Rattle.hs_drops.specs.Answers.{Answer as Defined}
use Rattle.hs_drops.specs.Definitions.{constraint_dropped, index_created, index_dropped, no_table, table_dropped}
use Rattle.hs_elements.specs.Faults.{Text}
use Rattle.hs_meaning.specs.Statements.{query_meaning}
use Rattle.hs_outlines.specs.Named.{written}
use Rattle.hs_outlines.specs.declared.written.Written.{Written}
use Rattle.hs_plan.specs.declared.definition.Definition.TheVariants as d
use Rattle.hs_plan.specs.declared.fault.BindFault.TheVariants.{NoMemory}
use Rattle.hs_plan.specs.declared.plan.Plan.TheVariants as plan
use Rattle.hs_plan.specs.declared.plan.SessionStatement.TheVariants as session
use Rattle.hs_schema.specs.Catalogue.{Things, owned, table_named}
use Rattle.hs_schema.specs.declared.table.Table.{Table}
use Rattle.hs_statements.specs.Statements.{Answer, as_plan, is_serializable}
use Rattle.hs_tables.specs.Answers.{ByNames}
use Rattle.hs_tables.specs.Definitions.{by_column, by_constraint, column_added, constraint_added, table_created}
use Rattle.hs_writing.specs.Statements.{delete_meaning, insert_meaning, locks_meaning, update_meaning}

-- ---- definitions

abbrev pub by_names : ByNames → Option (List Text) → Defined
by_names means (Some names) = answer (means names)
by_names means None = Err NoMemory

-- with the names that the constraints of these elements have
abbrev pub named : Things → Text → List TableElement → ByNames → Defined
named things table elements means = by_names means (names_from things table [] (written elements))

abbrev pub index_on : Things → CreateIndex → Option Table → Defined
index_on things c (Some t) = answer (index_created things c t)
index_on things c None = answer (no_table c.table)

-- where the table isn't there, this is the only fault
abbrev pub altered : Things → Identifier → AlterAction → Option Table → Defined
altered things table (action.AddColumn c) (Some t) = named things table.name (by_column c) (column_added things table c t)
altered things table (action.AddColumn c) None = answer (no_table table)
altered things table (action.AddConstraint k) (Some t) = named things table.name (by_constraint k) (constraint_added things table k t)
altered things table (action.AddConstraint k) None = answer (no_table table)
altered things table (action.DropConstraint name) (Some t) = answer (constraint_dropped t table name)
altered things table (action.DropConstraint name) None = answer (no_table table)

-- ---- every statement

unfoldable pub bound : Things → Stmt → Answer
bound things (s.Query q) = as_plan plan.Query (answer_of (query_meaning things q).faults (query_meaning things q).plan)
bound things (s.Insert i) = as_plan plan.Insert (answer (insert_meaning things i))
bound things (s.Update u) = as_plan plan.Update (answer (update_meaning things u))
bound things (s.Delete x) = as_plan plan.Delete (answer (delete_meaning things x))
bound things (s.LockTable locks) = as_plan plan.LockTable (answer (locks_meaning things locks))
bound things (s.CreateTable c) = as_plan plan.Define (named things c.name.name c.elements (table_created things c))
bound things (s.CreateIndex c) = as_plan plan.Define (index_on things c (table_named things c.table.name))
bound things (s.AlterTable a) = as_plan plan.Define (altered things a.table a.action (table_named things a.table.name))
bound things (s.DropTable name) = as_plan plan.Define (answer (table_dropped things name))
bound things (s.DropIndex name) = as_plan plan.Define (answer (index_dropped things name))
bound things (s.SetControl control) = Ok (plan.Define (d.SetControl control))
bound things (s.SetDefaultLevel isolation) = Ok (plan.Define (d.SetDefaultLevel (is_serializable isolation)))
bound things (s.SetAutocommit on) = Ok (plan.Session (session.SetAutocommit on))
bound things (s.SetCharacteristics modes) = Ok (plan.Session (session.SetCharacteristics modes))
bound things (s.SetTransaction modes) = Ok (plan.Session (session.SetTransaction modes))
bound things (s.StartTransaction modes) = Ok (plan.Session (session.StartTransaction modes))
bound things s.Commit = Ok (plan.Session session.Commit)
bound things s.Rollback = Ok (plan.Session session.Rollback)
bound things (s.Savepoint name) = Ok (plan.Session (session.Savepoint name))
bound things (s.RollbackTo name) = Ok (plan.Session (session.RollbackTo name))
bound things (s.ReleaseSavepoint name) = Ok (plan.Session (session.ReleaseSavepoint name))
bound things s.WriteDelayFalse = Ok (plan.Session session.WriteDelayFalse)
bound things s.Checkpoint = Ok (plan.Session session.Checkpoint)
bound things s.Shutdown = Ok (plan.Session session.Shutdown)

-- ---- names of constraints

abbrev pub constraints_added : AlterAction → List Written
constraints_added (action.AddColumn c) = written (by_column c)
constraints_added (action.AddConstraint k) = written (by_constraint k)
constraints_added (action.DropConstraint name) = []

-- the constraints that a statement writes
abbrev pub constraints_in : Stmt → List Written
constraints_in (s.CreateTable c) = written c.elements
constraints_in (s.AlterTable a) = constraints_added a.action
constraints_in _ = []

-- constraints and indexes are fewer than the numbers of at most 64 digits
abbrev pub HasFreeNames : Things → Stmt → Type 0
HasFreeNames things statement = length (owned things) + length (constraints_in statement) < 10 ^ 64
