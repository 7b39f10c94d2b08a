-- A statement has one answer beside want of memory.
use Rattle.std.proofs.Common.{◌≡◌, [], List, Option, Some, None, Result, Ok, Err, sym, ap, ◌∙◌}
use Rattle.std.specs.Option.{option_map}
use Rattle.hs_ast.specs.declared.definition.AlterAction.{AlterAction}
use Rattle.hs_ast.specs.declared.definition.AlterAction.TheVariants as action
use Rattle.hs_ast.specs.declared.definition.CreateIndex.{CreateIndex}
use Rattle.hs_ast.specs.declared.definition.TableElement.{TableElement}
use Rattle.hs_ast.specs.declared.statement.Stmt.{Stmt}
use Rattle.hs_ast.specs.declared.statement.Stmt.TheVariants as s
use Rattle.hs_ast.specs.declared.word.Identifier.{Identifier}
use Rattle.hs_statements.specs.Answers.{answer, answer_by, answer_of}
use Rattle.hs_statements.specs.Bound.{altered, bound, by_names, index_on, named}
use Rattle.hs_statements.proofs.Naming.{named_so}
use Rattle.hs_drops.specs.Answers.{Answer as Defined, AnswersIndex}
use Rattle.hs_drops.specs.Definitions.{constraint_dropped, index_created, index_dropped, no_table, table_dropped}
use Rattle.hs_elements.specs.Faults.{Text}
use Rattle.hs_meaning.specs.Parts.{Meaning}
use Rattle.hs_meaning.specs.Statements.{IsAnswer, query_meaning}
use Rattle.hs_outlines.specs.Named.{written}
use Rattle.hs_plan.specs.Fault.{fault_of}
use Rattle.hs_plan.specs.declared.definition.Definition.TheVariants as d
use Rattle.hs_plan.specs.declared.fault.BindFault.{BindFault}
use Rattle.hs_plan.specs.declared.fault.BindFault.TheVariants.{NoMemory}
use Rattle.hs_plan.specs.declared.fault.PlacedFault.{PlacedFault}
use Rattle.hs_plan.specs.declared.plan.Plan.{Plan}
use Rattle.hs_plan.specs.declared.plan.Plan.TheVariants as plan
use Rattle.hs_plan.specs.declared.plan.SessionStatement.TheVariants as session
use Rattle.hs_schema.specs.Catalogue.{Things, table_named}
use Rattle.hs_schema.specs.declared.table.Table.{Table}
use Rattle.hs_statements.specs.Statements.{Answer, AnswersStatement, Gives, as_plan, is_serializable}
use Rattle.hs_tables.specs.Answers.{AnswersAction, AnswersNamed, ByNames}
use Rattle.hs_tables.specs.Definitions.{by_column, by_constraint, column_added, constraint_added, table_created}
use Rattle.hs_typed.specs.Faults.{least}
use Rattle.hs_writing.specs.Statements.{delete_meaning, insert_meaning, locks_meaning, update_meaning}

-- ---- one answer to faults and what is meant

-- an answer of some kind is no want of memory
abbrev IsThere : {A : Type 0} → Result A BindFault → Type 0
IsThere {A} r = r ≡ Err NoMemory → ⊥

some_fault : (a b : BindFault) → Some a ≡ Some b → a ≡ b
some_fault a b e = cc

module _ {A : Type 0} (faults : List PlacedFault) (part : Option A) where
  meant : (a : A) → faults ≡ [] → part ≡ Some a → Ok a ≡ answer_of faults part
  meant a e f = sym (ap (λ x. answer_by (least x) part) e ∙ ap (λ x. answer_by None x) f)

  told_by : (f : BindFault) (o : Option PlacedFault) → option_map fault_of o ≡ Some f → Err f ≡ answer_by o part
  told_by f (Some p) e = sym (ap Err (some_fault (fault_of p) f e))
  told_by f None e = let no : None ≡ Some f = e in absurd (cc)

  one : (r : Result A BindFault) → IsAnswer faults part r → IsThere r → r ≡ answer_of faults part
  one (Ok a) is some = meant a is.0 is.1
  one (Err f) is some = told_by f (least faults) (is (λ e. some (ap Err e)))

-- ---- one list of names

named_alone : (things : Things) (table : Text) (elements : List TableElement) (means : ByNames) (r : Defined) → AnswersNamed things table elements means r → IsThere r
    → r ≡ named things table elements means
named_alone things table elements means r is some =
    let its = is some in
    one (means its.0).faults (means its.0).part r its.1.1 some ∙ ap (by_names means) (sym (named_so things table [] (written elements) its.0 its.1.0))

-- ---- as plans

there_before : {A : Type 0} (make : A → Plan) (r : Result A BindFault) → IsThere (as_plan make r) → IsThere r
there_before make (Ok a) h = λ e. cc
there_before make (Err f) h = λ e. h (ap (as_plan make) e)

given : {A : Type 0} (make : A → Plan) (its : Result A BindFault) (IsRight : Result A BindFault → Type 0) (result : Answer)
    → ((r : Result A BindFault) → IsRight r → IsThere r → r ≡ its) → Gives make IsRight result → IsThere result → result ≡ as_plan make its
given make its IsRight result alone is some =
    let before : IsThere is.0 = there_before make is.0 (λ e. some (is.1.1 ∙ e)) in
    is.1.1 ∙ ap (as_plan make) (alone is.0 is.1.0 before)

meaning_alone : {A : Type 0} (m : Meaning A) (r : Result A BindFault) → IsAnswer m.faults m.part r → IsThere r → r ≡ answer m
meaning_alone m r is some = one m.faults m.part r is some

index_alone : (things : Things) (c : CreateIndex) (o : Option Table) (r : Defined) → AnswersIndex things c o r → IsThere r → r ≡ index_on things c o
index_alone things c (Some t) r is some = meaning_alone (index_created things c t) r is some
index_alone things c None r is some = meaning_alone (no_table c.table) r is some

altered_alone : (things : Things) (table : Identifier) (a : AlterAction) (o : Option Table) (r : Defined) → AnswersAction things table a o r → IsThere r → r ≡ altered things table a o
altered_alone things table (action.AddColumn c) (Some t) r is some = named_alone things table.name (by_column c) (column_added things table c t) r is some
altered_alone things table (action.AddColumn c) None r is some = meaning_alone (no_table table) r is some
altered_alone things table (action.AddConstraint k) (Some t) r is some = named_alone things table.name (by_constraint k) (constraint_added things table k t) r is some
altered_alone things table (action.AddConstraint k) None r is some = meaning_alone (no_table table) r is some
altered_alone things table (action.DropConstraint name) (Some t) r is some = meaning_alone (constraint_dropped t table name) r is some
altered_alone things table (action.DropConstraint name) None r is some = meaning_alone (no_table table) r is some

means_alone : (p : Plan) (r : Answer) → IsAnswer [] (Some p) r → IsThere r → r ≡ Ok p
means_alone p r is some = one [] (Some p) r is some

pub alone : (things : Things) (statement : Stmt) (r : Answer) → AnswersStatement things statement r → IsThere r → r ≡ bound things statement
unfolding bound
alone things (s.Query q) r is some =
    given plan.Query (answer_of (query_meaning things q).faults (query_meaning things q).plan) _ r (λ x i t. one (query_meaning things q).faults (query_meaning things q).plan x i t) is some
alone things (s.Insert i) r is some = given plan.Insert (answer (insert_meaning things i)) _ r (meaning_alone (insert_meaning things i)) is some
alone things (s.Update u) r is some = given plan.Update (answer (update_meaning things u)) _ r (meaning_alone (update_meaning things u)) is some
alone things (s.Delete x) r is some = given plan.Delete (answer (delete_meaning things x)) _ r (meaning_alone (delete_meaning things x)) is some
alone things (s.LockTable locks) r is some = given plan.LockTable (answer (locks_meaning things locks)) _ r (meaning_alone (locks_meaning things locks)) is some
alone things (s.CreateTable c) r is some =
    given plan.Define (named things c.name.name c.elements (table_created things c)) _ r (named_alone things c.name.name c.elements (table_created things c)) is some
alone things (s.CreateIndex c) r is some =
    given plan.Define (index_on things c (table_named things c.table.name)) _ r (index_alone things c (table_named things c.table.name)) is some
alone things (s.AlterTable a) r is some =
    given plan.Define (altered things a.table a.action (table_named things a.table.name)) _ r (altered_alone things a.table a.action (table_named things a.table.name)) is some
alone things (s.DropTable name) r is some = given plan.Define (answer (table_dropped things name)) _ r (meaning_alone (table_dropped things name)) is some
alone things (s.DropIndex name) r is some = given plan.Define (answer (index_dropped things name)) _ r (meaning_alone (index_dropped things name)) is some
alone things (s.SetControl control) r is some = means_alone (plan.Define (d.SetControl control)) r is some
alone things (s.SetDefaultLevel isolation) r is some = means_alone (plan.Define (d.SetDefaultLevel (is_serializable isolation))) r is some
alone things (s.SetAutocommit on) r is some = means_alone (plan.Session (session.SetAutocommit on)) r is some
alone things (s.SetCharacteristics modes) r is some = means_alone (plan.Session (session.SetCharacteristics modes)) r is some
alone things (s.SetTransaction modes) r is some = means_alone (plan.Session (session.SetTransaction modes)) r is some
alone things (s.StartTransaction modes) r is some = means_alone (plan.Session (session.StartTransaction modes)) r is some
alone things s.Commit r is some = means_alone (plan.Session session.Commit) r is some
alone things s.Rollback r is some = means_alone (plan.Session session.Rollback) r is some
alone things (s.Savepoint name) r is some = means_alone (plan.Session (session.Savepoint name)) r is some
alone things (s.RollbackTo name) r is some = means_alone (plan.Session (session.RollbackTo name)) r is some
alone things (s.ReleaseSavepoint name) r is some = means_alone (plan.Session (session.ReleaseSavepoint name)) r is some
alone things s.WriteDelayFalse r is some = means_alone (plan.Session session.WriteDelayFalse) r is some
alone things s.Checkpoint r is some = means_alone (plan.Session session.Checkpoint) r is some
alone things s.Shutdown r is some = means_alone (plan.Session session.Shutdown) r is some
