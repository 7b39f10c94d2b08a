-- What is read of an entry, as what it asks for.
use Rattle.std.specs.Prelude.{◌≡◌, ℕ, Result, Ok, Err}
use Rattle.hs_ast.specs.declared.statement.Stmt.{Stmt}
use Rattle.hs_read.specs.Read.{Refusal}
use Rattle.hs_requested.specs.declared.request.Request.{Request as Found}
use Rattle.hs_requested.specs.declared.request.Request.TheVariants as found
use Rattle.hs_requests.specs.Words.{refusal_words}
use Rattle.hs_schema.specs.Catalogue.{Text}
use Rattle.hs_turns.specs.Dialect.{Request}
use Rattle.hs_turns.specs.Dialect.{Request as request}

abbrev pub asked : Found → Request
asked (found.Faulty why) = request.Faulty why
asked (found.OfData statement) = request.OfData
asked (found.OfDefinition statement) = request.OfDefinition
asked (found.Starts modes) = request.Starts modes
asked found.Commits = request.Commits
asked found.RollsBack = request.RollsBack
asked (found.OnSettings control) = request.OnSettings control

-- it has the tree of the statement that was read, where that is kept
abbrev pub HasTree : Result Stmt Refusal → Found → Type 0
HasTree answer (found.OfData statement) = answer ≡ Ok statement
HasTree answer (found.OfDefinition statement) = answer ≡ Ok statement
HasTree answer _ = Unit {0}

-- a statement, or the words of its refusal
abbrev pub told : ℕ → Result Stmt Refusal → Result Stmt Text
told at (Ok statement) = Ok statement
told at (Err refusal) = Err (refusal_words at refusal)
