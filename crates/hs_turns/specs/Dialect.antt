-- Statements as functions, as SQL gives them to the machine, and the language that they are to the laws of histories.
use Rattle.std.specs.Prelude.{ℕ, Bool, List, [], ◌++◌, Option, None, Some, Result, Ok, Err, codes}
use Rattle.hs_ast.specs.declared.session.Modes.{Modes as NewModes}
use Rattle.hs_claims.specs.declared.footprint.Footprint.{Footprint}
use Rattle.hs_plan.specs.declared.change.Change.{Change}
use Rattle.hs_plan.specs.declared.definition.Definition.{Definition}
use Rattle.hs_schema.specs.Catalogue.{Text}
use Rattle.hs_sessions.specs.declared.control.Control.{Control}
use Rattle.hs_turns.specs.Database.{Database}
use Rattle.hs_turns.specs.Language.{Language, Outcome}
use Rattle.hs_turns.specs.Histories.{Commit}

-- What an entry asks for, by its text alone: nothing, as it is no statement, for this reason; a query, a change of
-- rows or LOCK TABLE; a change of the catalogue or of the database's settings; or what a session does to its own
-- transaction and settings.
pub data Request : Type 0 where
  Faulty : Text → Request
  OfData : Request
  OfDefinition : Request
  Starts : NewModes → Request
  Commits : Request
  RollsBack : Request
  OnSettings : Control → Request

pub record Dialect : Type 0 where
  pub request : Text → Request
  -- Why a data statement or a definition is refused before it wants anything: its least fault over a database, or
  -- that it may not stand in a read-only transaction
  pub refusal : Bool → Database → Text → Option Text
  -- what a data statement comes to that isn't refused so, where its transaction has inserted so many rows by then
  pub outcome : Bool → ℕ → Database → Text → Outcome
  -- what a definition defines that isn't refused so, or the rows or foreign keys against which it is refused
  pub definition : Database → Text → Result Definition Text
  -- every constraint holds, and each row fits its columns
  pub is_valid : Database → Bool
  -- these footprints tell of all that the changes of a transaction do to a database
  pub describes : Database → List Change → List Footprint → Bool
  -- the log has room for a commit behind these of the run
  pub has_log_room : List Commit → Commit → Bool
  -- a name as it stands in a line
  pub printed_name : Text → Text

-- ---- refusals

abbrev pub refused_words : Text → Text
refused_words why = codes "refused " ++ why

abbrev pub open_transaction : Text
open_transaction = codes "open transaction"

-- ---- the language

abbrev pub untouched : Footprint
untouched = record { reads = []; writes = []; rows = []; keys = []; parents = [] }

-- a refused statement tells why, and touches nothing
abbrev pub refused : Text → Outcome
refused why = record { rows = []; reply = refused_words why; changes = []; foot = untouched }

abbrev pub nothing : Outcome
nothing = record { rows = []; reply = []; changes = []; foot = untouched }

abbrev pub unless_refused : Option Text → Outcome → Outcome
unless_refused None outcome = outcome
unless_refused (Some why) outcome = refused why

-- What an entry comes to inside of an open transaction. A definition that isn't refused ends the transaction, as
-- COMMIT and ROLLBACK do; of these three nothing is asked here.
abbrev pub outcome_of : Dialect → Bool → ℕ → Database → Text → Request → Outcome
outcome_of d read_only inserted db text (Faulty why) = refused why
outcome_of d read_only inserted db text OfData = unless_refused (d.refusal read_only db text) (d.outcome read_only inserted db text)
outcome_of d read_only inserted db text OfDefinition = unless_refused (d.refusal read_only db text) nothing
outcome_of d read_only inserted db text (Starts modes) = refused open_transaction
outcome_of d read_only inserted db text Commits = nothing
outcome_of d read_only inserted db text RollsBack = nothing
outcome_of d read_only inserted db text (OnSettings control) = nothing

abbrev pub accepted : Result Definition Text → Option Definition
accepted (Ok definition) = Some definition
accepted (Err why) = None

abbrev pub language_of : Dialect → Language
language_of d = record {
  outcome = λ read_only inserted db text. outcome_of d read_only inserted db text (d.request text);
  definition = λ db text. accepted (d.definition db text);
  is_valid = d.is_valid;
  describes = d.describes;
}
