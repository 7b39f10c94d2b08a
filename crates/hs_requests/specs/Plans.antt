-- What an entry means over a catalogue: its plan, or the words of its least fault.
use Rattle.std.specs.Prelude.{◌≡◌, ℕ, Bool, true, false, Result, Ok, Err}
use Rattle.hs_ast.specs.declared.statement.Stmt.{Stmt}
use Rattle.hs_statements.specs.Bound.{bound}
use Rattle.hs_entries.specs.Entry.{place_of, statement_of}
use Rattle.hs_plan.specs.declared.plan.Plan.{Plan}
use Rattle.hs_plan.specs.declared.plan.Plan.TheVariants as p
use Rattle.hs_read.specs.Read.{Refusal, statement_in}
use Rattle.hs_requests.specs.Words.{bind_words, refusal_words}
use Rattle.hs_schema.specs.Catalogue.{Text, Things}
use Rattle.hs_statements.specs.Statements.{Answer}
use Rattle.hs_turns.specs.Dialect.{Request}
use Rattle.hs_turns.specs.Dialect.{Request as request}

-- its plan, or the words of its fault, where the statement stands at `at` in the entry
abbrev pub in_words : ℕ → Answer → Result Plan Text
in_words at (Ok plan) = Ok plan
in_words at (Err fault) = Err (bind_words at fault)

-- it is what the statement means over the catalogue, in words
abbrev pub IsPlan : Things → ℕ → Stmt → Result Plan Text → Type 0
IsPlan things at statement result = result ≡ in_words at (bound things statement)

abbrev pub plan_by : Things → ℕ → Result Stmt Refusal → Result Plan Text
plan_by things at (Ok statement) = in_words at (bound things statement)
plan_by things at (Err refusal) = Err (refusal_words at refusal)

unfoldable pub plan_of : Things → Text → Result Plan Text
plan_of things entry = plan_by things (place_of entry) (statement_in (statement_of entry))

-- ---- kinds

abbrev pub is_data : Plan → Bool
is_data (p.Query query) = true
is_data (p.Insert insert) = true
is_data (p.Update update) = true
is_data (p.Delete delete) = true
is_data (p.LockTable locked) = true
is_data (p.Define definition) = false
is_data (p.Session statement) = false

abbrev pub is_definition : Plan → Bool
is_definition (p.Define definition) = true
is_definition _ = false

abbrev pub is_of_session : Plan → Bool
is_of_session (p.Session statement) = true
is_of_session _ = false

-- a plan is of the kind that is asked for
abbrev pub goes_with : Request → Plan → Bool
goes_with request.OfData plan = is_data plan
goes_with request.OfDefinition plan = is_definition plan
goes_with _ plan = is_of_session plan
