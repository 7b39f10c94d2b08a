-- What an entry asks for, by its text alone.
use Rattle.std.specs.Prelude.{ℕ, Result, Ok, Err}
use Rattle.hs_ast.specs.declared.statement.Stmt.{Stmt}
use Rattle.hs_ast.specs.declared.statement.Stmt.TheVariants as s
use Rattle.hs_entries.specs.Entry.{place_of, statement_of}
use Rattle.hs_read.specs.Read.{Refusal, statement_in}
use Rattle.hs_requests.specs.Words.{not_offered_at, refusal_words}
use Rattle.hs_schema.specs.Catalogue.{Text}
use Rattle.hs_sessions.specs.declared.control.Control.TheVariants as control
use Rattle.hs_turns.specs.Dialect.{Request}
use Rattle.hs_turns.specs.Dialect.{Request as request}

-- By the kind of its statement, which stands at `at` in the entry. No text is read as CHECKPOINT or SHUTDOWN, until
-- they are built.
abbrev pub asked_by : ℕ → Stmt → Request
asked_by at (s.Query q) = request.OfData
asked_by at (s.Insert i) = request.OfData
asked_by at (s.Update u) = request.OfData
asked_by at (s.Delete d) = request.OfData
asked_by at (s.LockTable locks) = request.OfData
asked_by at (s.CreateTable c) = request.OfDefinition
asked_by at (s.CreateIndex c) = request.OfDefinition
asked_by at (s.AlterTable a) = request.OfDefinition
asked_by at (s.DropTable name) = request.OfDefinition
asked_by at (s.DropIndex name) = request.OfDefinition
asked_by at (s.SetControl kind) = request.OfDefinition
asked_by at (s.SetDefaultLevel isolation) = request.OfDefinition
asked_by at (s.SetAutocommit on) = request.OnSettings (control.Autocommit on)
asked_by at (s.SetCharacteristics modes) = request.OnSettings (control.Characteristics modes)
asked_by at (s.SetTransaction modes) = request.OnSettings (control.Transaction modes)
asked_by at (s.StartTransaction modes) = request.Starts modes
asked_by at s.Commit = request.Commits
asked_by at s.Rollback = request.RollsBack
asked_by at (s.Savepoint name) = request.OnSettings (control.Savepoint name)
asked_by at (s.RollbackTo name) = request.OnSettings (control.RollbackTo name)
asked_by at (s.ReleaseSavepoint name) = request.OnSettings (control.Release name)
asked_by at s.WriteDelayFalse = request.OnSettings control.WriteDelayFalse
asked_by at s.Checkpoint = request.Faulty (not_offered_at at)
asked_by at s.Shutdown = request.Faulty (not_offered_at at)

abbrev pub request_by : ℕ → Result Stmt Refusal → Request
request_by at (Ok statement) = asked_by at statement
request_by at (Err refusal) = request.Faulty (refusal_words at refusal)

-- what an entry asks for, by its whole text: the session's name, the colon and the statement
unfoldable pub request_of : Text → Request
request_of entry = request_by (place_of entry) (statement_in (statement_of entry))
