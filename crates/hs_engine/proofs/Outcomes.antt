-- Data statements, as their world tells them.
use Rattle.std.proofs.Common.{◌≡◌, ◌&&◌, Bool, true, List, ◌++◌, None, Some, Result, Ok, Err, sym, ap, ◌∙◌}
use Rattle.std.proofs.lemmas.Bool.{and_parts}
use Rattle.hs_changes.specs.Changes.{count_all_inserted}
use Rattle.hs_turns.specs.Database.{Database}
use Rattle.hs_turns.specs.Histories.{Commit}
use Rattle.hs_instance.specs.Instance.{IsInstance}
use Rattle.hs_instance.specs.declared.instance.Instance.{Instance}
use Rattle.hs_language.specs.Outcomes.{of_plan}
use Rattle.hs_language.specs.Reading.{TellsTables}
use Rattle.hs_language.specs.Sound.{is_sound}
use Rattle.hs_language.specs.Sql.{are_numbered, is_valid, outcome_by, refused_by}
use Rattle.hs_language.specs.Validity.{all_fit, all_hold}
use Rattle.hs_outcome.specs.Same.{ListsAscending}
use Rattle.hs_plan.specs.declared.change.Change.{Change}
use Rattle.hs_plan.specs.declared.plan.Plan.{Plan}
use Rattle.hs_reached.proofs.Tables.{read, read_ascends, written, written_ascends}
use Rattle.hs_requests.specs.Plans.{plan_of}
use Rattle.hs_schema.specs.Catalogue.{Text, Things}
use Rattle.hs_seams.specs.Stores.{Evaluates, outcome_of, present, seen}
use Rattle.hs_seams.specs.World.{World}
use Rattle.hs_seams.specs.declared.outcome.Outcome.{Outcome as Held}
use Rattle.hs_engine.proofs.Speaking.{outcome_is, reading_in, refusal_is, valid_is}
use Rattle.hs_engine.specs.Store.{IsHere, SpeaksSql}

-- ---- the reading

pub tells : (w : World) → TellsTables (reading_in w)
tells w = record { read = read; written = written }

pub lists : (w : World) → ListsAscending (reading_in w)
lists w = record { reads = read_ascends; writes = written_ascends }

-- ---- a valid database

pub held_by : (db : Database) → is_valid db ≡ true → all_hold db ≡ true
held_by db h =
    let outer = and_parts (are_numbered db) (is_sound db.things && (all_fit db && all_hold db)) h in
    let inner = and_parts (is_sound db.things) (all_fit db && all_hold db) outer.1 in
    (and_parts (all_fit db) (all_hold db) inner.1).1

pub holds_in : (w : World) (commits : List Commit) (seated : List Change) → SpeaksSql w → w.run.dialect.is_valid (seen w commits seated) ≡ true → all_hold (seen w commits seated) ≡ true
holds_in w commits seated speaks h = held_by (seen w commits seated) (sym (valid_is w speaks (seen w commits seated)) ∙ h)

-- ---- what is told

module _ (w : World) (commits : List Commit) (seated : List Change) (read_only : Bool) (text : Text) (speaks : SpeaksSql w) (things : Things) (there : things ≡ (present w commits).things) (i : Instance) where
  refusal_by : w.run.dialect.refusal read_only (seen w commits seated) text ≡ refused_by read_only (plan_of things text)
  refusal_by = refusal_is w speaks read_only (seen w commits seated) text ∙ ap (λ (t : Things). refused_by read_only (plan_of t text)) (sym there)

  pub refused : (why : Text) → refused_by read_only (plan_of things text) ≡ Some why → IsHere i w commits seated → Evaluates (IsHere i) w commits seated read_only text (Err why)
  refused why is here = (refusal_by ∙ is, here)

  pub told : (plan : Plan) (o : Held) → plan_of things text ≡ Ok plan → refused_by read_only (plan_of things text) ≡ None → outcome_of o ≡ of_plan (reading_in w) (count_all_inserted seated) (seen w commits seated) plan
      → IsInstance (present w commits) (seated ++ o.changes) i → Evaluates (IsHere i) w commits seated read_only text (Ok o)
  told plan o planned none is here = (
    refusal_by ∙ none,
    (
      is
          ∙ sym
          (outcome_is w speaks read_only (count_all_inserted seated) (seen w commits seated) text
          ∙ (ap (λ (t : Things). outcome_by (reading_in w) (count_all_inserted seated) (seen w commits seated) (plan_of t text)) (sym there)
          ∙ ap (λ (p : Result Plan Text). outcome_by (reading_in w) (count_all_inserted seated) (seen w commits seated) p) planned)),
      here,
    ),
  )

-- what is so of a database in memory is so of the store that has it
pub evaluates_at : (At Other : World → List Commit → List Change → Type 0) (w : World) (commits : List Commit) (seated : List Change) (read_only : Bool) (text : Text) (answer : Result Held Text)
    → ((all : List Change) → At w commits all → Other w commits all) → Evaluates At w commits seated read_only text answer → Evaluates Other w commits seated read_only text answer
evaluates_at At Other w commits seated read_only text (Ok o) so is = (is.0, (is.1.0, so (seated ++ o.changes) is.1.1))
evaluates_at At Other w commits seated read_only text (Err why) so is = (is.0, so seated is.1)
