-- What is answered to CREATE TABLE and to ALTER TABLE.
use Rattle.std.specs.Prelude.{◌≡◌, List, [], Option, Some, None, Result, Err, IfOk}
use Rattle.hs_ast.specs.declared.definition.AlterAction.{AlterAction}
use Rattle.hs_ast.specs.declared.definition.AlterAction.TheVariants as action
use Rattle.hs_ast.specs.declared.definition.AlterTable.{AlterTable}
use Rattle.hs_ast.specs.declared.definition.CreateTable.{CreateTable}
use Rattle.hs_ast.specs.declared.definition.TableElement.{TableElement}
use Rattle.hs_ast.specs.declared.word.Identifier.{Identifier}
use Rattle.hs_base.specs.declared.no_memory.NoMemory.{NoMemory}
use Rattle.hs_drops.specs.Answers.{Answer, Answers, AnswersDropConstraint}
use Rattle.hs_drops.specs.Definitions.{no_table}
use Rattle.hs_elements.specs.Faults.{Text}
use Rattle.hs_meaning.specs.Parts.{Meaning}
use Rattle.hs_outlines.specs.Named.{AreNamed, written}
use Rattle.hs_plan.specs.declared.definition.Definition.{Definition}
use Rattle.hs_plan.specs.declared.fault.BindFault.TheVariants as fault
use Rattle.hs_schema.specs.Catalogue.{Things, table_named}
use Rattle.hs_schema.specs.declared.table.Table.{Table}
use Rattle.hs_meaning.specs.Finding.{Least}
use Rattle.hs_typed.specs.Faults.{noted}
use Rattle.hs_tables.specs.Definitions.{by_column, by_constraint, column_added, constraint_added, table_created}

-- what is meant with the names that the constraints of these elements have
abbrev pub ByNames : Type 0
ByNames = List Text → Meaning Definition

abbrev pub HasNames : Things → Text → List TableElement → List Text → Type 0
HasNames things table elements = AreNamed things table [] (written elements)

abbrev pub FindsNamed : Things → Text → List TableElement → ByNames → Least → Least → Result (Option Definition) NoMemory → Type 0
FindsNamed things table elements means old new result =
    IfOk result (λ part. (names : List Text) × (HasNames things table elements names × (part ≡ (means names).part) × (new ≡ noted old (means names).faults)))

-- want of memory may come in its place
abbrev pub AnswersNamed : Things → Text → List TableElement → ByNames → Answer → Type 0
AnswersNamed things table elements means result =
    ¬ (result ≡ Err fault.NoMemory) → (names : List Text) × (HasNames things table elements names × Answers (means names) result)

abbrev pub AnswersCreate : Things → CreateTable → Answer → Type 0
AnswersCreate things c = AnswersNamed things c.name.name c.elements (table_created things c)

-- where the table isn't there, this is the only fault
abbrev pub AnswersAction : Things → Identifier → AlterAction → Option Table → Answer → Type 0
AnswersAction things table (action.AddColumn c) (Some t) = AnswersNamed things table.name (by_column c) (column_added things table c t)
AnswersAction things table (action.AddColumn c) None = Answers (no_table table)
AnswersAction things table (action.AddConstraint k) (Some t) = AnswersNamed things table.name (by_constraint k) (constraint_added things table k t)
AnswersAction things table (action.AddConstraint k) None = Answers (no_table table)
AnswersAction things table (action.DropConstraint name) t = AnswersDropConstraint table name t

abbrev pub AnswersAlter : Things → AlterTable → Answer → Type 0
AnswersAlter things a = AnswersAction things a.table a.action (table_named things a.table.name)
