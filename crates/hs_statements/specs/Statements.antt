-- What every statement means over a catalogue.
use Rattle.std.specs.Prelude.{◌≡◌, Bool, true, false, [], Some, Result, Ok, Err}
use Rattle.hs_ast.specs.declared.session.Isolation.{Isolation}
use Rattle.hs_ast.specs.declared.session.Isolation.TheVariants as level
use Rattle.hs_ast.specs.declared.statement.Stmt.{Stmt}
use Rattle.hs_ast.specs.declared.statement.Stmt.TheVariants as s
use Rattle.hs_drops.specs.Answers.{Answers, AnswersIndex}
use Rattle.hs_drops.specs.Definitions.{index_dropped, table_dropped}
use Rattle.hs_meaning.specs.Statements.{IsAnswer, query_meaning}
use Rattle.hs_plan.specs.declared.definition.Definition.{Definition}
use Rattle.hs_plan.specs.declared.definition.Definition.TheVariants as d
use Rattle.hs_plan.specs.declared.fault.BindFault.{BindFault}
use Rattle.hs_plan.specs.declared.plan.Plan.{Plan}
use Rattle.hs_plan.specs.declared.plan.Plan.TheVariants as plan
use Rattle.hs_plan.specs.declared.plan.SessionStatement.{SessionStatement}
use Rattle.hs_plan.specs.declared.plan.SessionStatement.TheVariants as session
use Rattle.hs_schema.specs.Catalogue.{Things, table_named}
use Rattle.hs_tables.specs.Answers.{AnswersAlter, AnswersCreate}
use Rattle.hs_writing.specs.Answers as writing
use Rattle.hs_writing.specs.Statements.{delete_meaning, insert_meaning, locks_meaning, update_meaning}

abbrev pub Answer : Type 0
Answer = Result Plan BindFault

-- the answer to a statement of one kind, as that to the statement
abbrev pub as_plan : {A : Type 0} → (A → Plan) → Result A BindFault → Answer
as_plan make (Ok a) = Ok (make a)
as_plan make (Err fault) = Err fault

abbrev pub Gives : {A : Type 0} → (A → Plan) → (Result A BindFault → Type 0) → Answer → Type 0
Gives {A} make IsRight result = (answer : Result A BindFault) × (IsRight answer × (result ≡ as_plan make answer))

-- it means this over each catalogue
abbrev pub Means : Plan → Answer → Type 0
Means p = IsAnswer [] (Some p)

abbrev pub MeansSession : SessionStatement → Answer → Type 0
MeansSession statement = Means (plan.Session statement)

-- REPEATABLE READ, which the grammar doesn't offer there, would be the stronger level
abbrev pub is_serializable : Isolation → Bool
is_serializable level.ReadCommitted = false
is_serializable level.RepeatableRead = true
is_serializable level.Serializable = true

abbrev pub MeansDefinition : Definition → Answer → Type 0
MeansDefinition definition = Means (plan.Define definition)

-- the answer to a statement over a catalogue: what it means, or its least fault
abbrev pub AnswersStatement : Things → Stmt → Answer → Type 0
AnswersStatement things (s.Query q) = Gives plan.Query (writing.AnswersQuery (query_meaning things q))
AnswersStatement things (s.Insert i) = Gives plan.Insert (writing.Answers (insert_meaning things i))
AnswersStatement things (s.Update u) = Gives plan.Update (writing.Answers (update_meaning things u))
AnswersStatement things (s.Delete x) = Gives plan.Delete (writing.Answers (delete_meaning things x))
AnswersStatement things (s.LockTable locks) = Gives plan.LockTable (writing.Answers (locks_meaning things locks))
AnswersStatement things (s.CreateTable c) = Gives plan.Define (AnswersCreate things c)
AnswersStatement things (s.CreateIndex c) = Gives plan.Define (AnswersIndex things c (table_named things c.table.name))
AnswersStatement things (s.AlterTable a) = Gives plan.Define (AnswersAlter things a)
AnswersStatement things (s.DropTable name) = Gives plan.Define (Answers (table_dropped things name))
AnswersStatement things (s.DropIndex name) = Gives plan.Define (Answers (index_dropped things name))
AnswersStatement things (s.SetControl control) = MeansDefinition (d.SetControl control)
AnswersStatement things (s.SetDefaultLevel isolation) = MeansDefinition (d.SetDefaultLevel (is_serializable isolation))
AnswersStatement things (s.SetAutocommit on) = MeansSession (session.SetAutocommit on)
AnswersStatement things (s.SetCharacteristics modes) = MeansSession (session.SetCharacteristics modes)
AnswersStatement things (s.SetTransaction modes) = MeansSession (session.SetTransaction modes)
AnswersStatement things (s.StartTransaction modes) = MeansSession (session.StartTransaction modes)
AnswersStatement things s.Commit = MeansSession session.Commit
AnswersStatement things s.Rollback = MeansSession session.Rollback
AnswersStatement things (s.Savepoint name) = MeansSession (session.Savepoint name)
AnswersStatement things (s.RollbackTo name) = MeansSession (session.RollbackTo name)
AnswersStatement things (s.ReleaseSavepoint name) = MeansSession (session.ReleaseSavepoint name)
AnswersStatement things s.WriteDelayFalse = MeansSession session.WriteDelayFalse
AnswersStatement things s.Checkpoint = MeansSession session.Checkpoint
AnswersStatement things s.Shutdown = MeansSession session.Shutdown
