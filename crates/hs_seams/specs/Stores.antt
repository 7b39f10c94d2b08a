-- What a store's calls come to.
use Rattle.std.specs.Prelude.{◌≡◌, ℕ, Bool, true, false, List, [], ◌∷◌, ◌++◌, Option, None, Some, Result, Ok, Err}
use Rattle.hs_ast.specs.declared.statement.Stmt.{Stmt}
use Rattle.hs_changes.specs.Changes.{count_all_inserted}
use Rattle.hs_turns.specs.Database.{Database, has_room, view}
use Rattle.hs_turns.specs.Histories.{Commit, now}
use Rattle.hs_turns.specs.Language.{Laws, Outcome, Stands}
use Rattle.hs_plan.specs.declared.change.Change.{Change}
use Rattle.hs_plan.specs.declared.change.Change.TheVariants as change
use Rattle.hs_plan.specs.declared.definition.Definition.{Definition}
use Rattle.hs_schema.specs.Catalogue.{Text}
use Rattle.hs_seams.specs.World.{World}
use Rattle.hs_seams.specs.declared.asked.Asked.{Asked}
use Rattle.hs_seams.specs.declared.asked.Asked.TheVariants as asked
use Rattle.hs_seams.specs.declared.outcome.Outcome.{Outcome as Held}
use Rattle.hs_turns.specs.Dialect.{Request, language_of}
use Rattle.hs_turns.specs.Dialect.{Request as request}

-- ---- databases

-- the database behind these commits of a run
abbrev pub present : World → List Commit → Database
present w commits = now w.run.opening commits

-- the same with the changes of a transaction on it, as that transaction sees it
abbrev pub seen : World → List Commit → List Change → Database
seen w commits seated = view (present w commits) seated

-- ---- worlds

-- the language of the entries meets the laws of transactions, and the database is valid
pub record IsWorld (w : World) : Type 0 where
  pub laws : Laws (language_of w.run.dialect)
  pub opened : Stands (language_of w.run.dialect) w.run.opening

-- ---- what is asked

abbrev pub asked_of : Asked → Request
asked_of (asked.Faulty why) = request.Faulty why
asked_of (asked.OfData statement) = request.OfData
asked_of (asked.OfDefinition statement) = request.OfDefinition
asked_of (asked.Starts modes) = request.Starts modes
asked_of asked.Commits = request.Commits
asked_of asked.RollsBack = request.RollsBack
asked_of (asked.OnSettings control) = request.OnSettings control

-- its statement is that of the text, where it has one
abbrev pub IsTreeOf : (Stmt → Text → Type 0) → Asked → Text → Type 0
IsTreeOf Is (asked.OfData statement) text = Is statement text
IsTreeOf Is (asked.OfDefinition statement) text = Is statement text
IsTreeOf Is _ text = Unit {0}

-- ---- data statements

-- what a data statement comes to, as its outcome
abbrev pub outcome_of : Held → Outcome
outcome_of o = record { rows = o.rows.items; reply = o.reply; changes = o.changes; foot = o.foot }

-- the store stands behind some commits with some changes that leave a valid database
abbrev pub IsReady : (World → List Commit → List Change → Type 0) → Type 0
IsReady At = (w : World) × (commits : List Commit) × (seated : List Change) × (At w commits seated × (w.run.dialect.is_valid (seen w commits seated) ≡ true))

-- It comes to what the language says, and its changes are made behind those that were there; or it is refused at once.
abbrev pub Evaluates : (World → List Commit → List Change → Type 0) → World → List Commit → List Change → Bool → Text → Result Held Text → Type 0
Evaluates At w commits seated read_only text (Ok o) =
    (w.run.dialect.refusal read_only (seen w commits seated) text ≡ None)
    × ((outcome_of o ≡ w.run.dialect.outcome read_only (count_all_inserted seated) (seen w commits seated) text) × At w commits (seated ++ o.changes))
Evaluates At w commits seated read_only text (Err why) =
    (w.run.dialect.refusal read_only (seen w commits seated) text ≡ Some why) × At w commits seated

-- ---- commits

-- It was made with its text, where the log has room for it; else nothing was.
pub record Commits (At : World → List Commit → List Change → Type 0) (w : World) (commits : List Commit) (seated : List Change) (k : Commit) (old_made made : List (List ℕ)) (is_made : Bool) : Type 0 where
  pub room : is_made ≡ w.run.dialect.has_log_room commits k
  pub done : is_made ≡ true → At w (commits ++ k ∷ []) [] × (made ≡ old_made ++ w.text commits k ∷ [])
  pub kept : is_made ≡ false → At w commits seated × (made ≡ old_made)

-- The store stands behind commits with no changes on the database, over which some text defines this; the database is valid and has
-- room for it.
pub record IsDefined (At : World → List Commit → List Change → Type 0) (definition : Definition) : Type 0 where
  pub w : World
  pub commits : List Commit
  pub text : Text
  pub stands : At w commits []
  pub valid : w.run.dialect.is_valid (present w commits) ≡ true
  pub defines : w.run.dialect.definition (present w commits) text ≡ Ok definition
  pub room : has_room (present w commits) (change.Define definition ∷ []) ≡ true
