-- What queries, changes of rows and LOCK TABLE come to over a database.
use Rattle.std.specs.Prelude.{ℕ, ◌∷◌, Bool, true, false, List, [], map, length, Option, None, Some, Result, Ok, Err, if◌then◌else◌}
use Rattle.std.specs.FinMap.{entries}
use Rattle.std.specs.List.{flat_map, list_any}
use Rattle.hs_claims.specs.declared.footprint.Footprint.{Footprint}
use Rattle.hs_plan.specs.declared.change.Change.{Change}
use Rattle.hs_plan.specs.declared.plan.Plan.{Plan}
use Rattle.hs_plan.specs.declared.plan.Plan.TheVariants as plan
use Rattle.hs_values.specs.declared.fault.EvalFault.{EvalFault}
use Rattle.hs_values.specs.declared.value.Value.{Value}
use Rattle.hs_changes.specs.Changes.{settings_of}
use Rattle.hs_changes.specs.Settings.{set_rows}
use Rattle.hs_schema.specs.Catalogue.{Text, Things, is_table}
use Rattle.hs_schema.specs.declared.thing.Thing.{Thing}
use Rattle.hs_sentences.specs.declared.violation.Violation.{Violation}
use Rattle.hs_sentences.specs.Violations.{first_violated}
use Rattle.hs_actions.specs.Referencing.{Keys}
use Rattle.hs_references.specs.Referenced.{references_on}
use Rattle.hs_tentative.specs.Statements.{Around, Numbered, for_which}
use Rattle.hs_dml.specs.Told.{columns_in, tentative}
use Rattle.hs_effects.specs.Effects.{around_in}
use Rattle.hs_answer.specs.Answer.{answer}
use Rattle.hs_footprint.specs.Touched.{keys_changed, parents_named, rows_changed}
use Rattle.hs_turns.specs.Database.{Database}
use Rattle.hs_turns.specs.Language.{Outcome}
use Rattle.hs_turns.specs.Dialect.{nothing, refused_words}
use Rattle.hs_language.specs.Reading.{Reading}
use Rattle.hs_language.specs.Validity.{lets_pass, puts_long, touched_by}
use Rattle.hs_language.specs.Words.{count_words, done_words, fault_words, long_row_words, row_words, violation_words}

-- ---- what statements are told over

-- for each table the foreign keys that reference it, in the order of creation
abbrev pub keys_at : Things → Thing → Keys
keys_at things t = if is_table t.part then (t.table.0, references_on things t.table) ∷ [] else []

abbrev pub keys_in : Things → Keys
keys_in things = flat_map (keys_at things) things

-- the rows of a database, and the columns and foreign keys of its catalogue
abbrev pub around : Database → Around
around db = around_in db.rows (columns_in db.things) (keys_in db.things)

-- ---- footprints

-- the tables that a statement reads and writes, and no rows and keys
abbrev pub of_tables : Reading → Database → Plan → Footprint
of_tables r db p = record { reads = r.reads db.things p; writes = r.writes db.things p; rows = []; keys = []; parents = [] }

-- and the committed rows, the unique keys and the parent keys that its changes touch
abbrev pub of_changes : Reading → Database → Plan → List Change → Footprint
of_changes r db p changes = record {
  reads = r.reads db.things p;
  writes = r.writes db.things p;
  rows = rows_changed changes;
  keys = keys_changed db.things db.rows changes;
  parents = parents_named db.things changes;
}

-- ---- replies

-- it is refused, for this reason
abbrev pub refused : Text → Footprint → Outcome
refused why foot = record { rows = []; reply = refused_words why; changes = []; foot = foot }

-- the rows of an answer, or its fault
abbrev pub answered : Result (List (List Value)) EvalFault → Footprint → Outcome
answered (Ok rows) foot = record { rows = map row_words rows; reply = count_words (length rows); changes = []; foot = foot }
answered (Err fault) foot = refused (fault_words fault) foot

-- ---- changes of rows

abbrev pub count_of : Result Numbered EvalFault → ℕ
count_of (Ok rows) = length rows
count_of (Err fault) = 0

-- how many rows a statement itself puts or deletes, without those that actions change
abbrev pub own_count : Around → Plan → List Change → ℕ
own_count a (plan.Insert insert) changes = length changes
own_count a (plan.Update update) changes = count_of (for_which a.evaluate update.filter (entries (a.before update.table.0)))
own_count a (plan.Delete delete) changes = count_of (for_which a.evaluate delete.filter (entries (a.before delete.table.0)))
own_count a _ changes = 0

-- the first constraint that changes violate, where so many rows were inserted before them
abbrev pub violated_by : ℕ → Database → List Change → Option Violation
violated_by inserted db changes =
    let settings = settings_of inserted changes in first_violated lets_pass db.things (touched_by settings) (set_rows db.rows settings)

-- by whether a row is too long
abbrev pub kept_unless_long : Bool → ℕ → List Change → Footprint → Outcome
kept_unless_long true count changes foot = refused long_row_words foot
kept_unless_long false count changes foot = record { rows = []; reply = count_words count; changes = changes; foot = foot }

-- by the first constraint that is violated
abbrev pub kept_unless_violated : Option Violation → Things → ℕ → List Change → Footprint → Outcome
kept_unless_violated (Some violation) things count changes foot = refused (violation_words violation) foot
kept_unless_violated None things count changes foot = kept_unless_long (list_any (puts_long things) changes) count changes foot

-- by its changes, or their fault
abbrev pub changed : Reading → ℕ → Database → Plan → Result (List Change) EvalFault → Outcome
changed r inserted db p (Ok changes) = kept_unless_violated (violated_by inserted db changes) db.things (own_count (around db) p changes) changes (of_changes r db p changes)
changed r inserted db p (Err fault) = refused (fault_words fault) (of_tables r db p)

-- ---- the whole

-- what a data statement comes to, where its transaction has inserted so many rows by then
abbrev pub of_plan : Reading → ℕ → Database → Plan → Outcome
of_plan r inserted db (plan.Query query) = answered (answer db.rows query) (of_tables r db (plan.Query query))
of_plan r inserted db (plan.LockTable locked) = record { rows = []; reply = done_words; changes = []; foot = of_tables r db (plan.LockTable locked) }
of_plan r inserted db (plan.Define definition) = nothing
of_plan r inserted db (plan.Session statement) = nothing
of_plan r inserted db p = changed r inserted db p (tentative (around db) p)
