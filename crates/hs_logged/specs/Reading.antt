-- What a text makes, as a function, over a function that reads texts.
use Rattle.std.specs.Prelude.{◌≡◌, ℕ, Bool, true, false, List, Option, None, Some}
use Rattle.hs_base.specs.declared.numbers.SessionNo.{SessionNo}
use Rattle.hs_committext.specs.Commits.{IsCommitText}
use Rattle.hs_turns.specs.Database.{Database}
use Rattle.hs_logged.specs.Entered.{Decides}
use Rattle.hs_plan.specs.declared.change.Change.{Change}
use Rattle.hs_logged.specs.Redone.{State, Takes, after}
use Rattle.hs_tabletext.specs.Conditions.{Wording}
use Rattle.hs_schema.specs.Catalogue.{Things}
use Rattle.hs_valuetext.specs.Finding.{Knows}

-- of a text beside the things of a catalogue, and behind a text of the session before, the session and the changes of a commit
abbrev pub Reader : Type 0
Reader = Things → Option SessionNo → List ℕ → Option (SessionNo × List Change)

-- it tells the one commit whose text this is, and none exactly where there is none
abbrev pub Reads : Wording → Reader → Type 0
Reads wording reader =
    (things : Things) (before : Option SessionNo) (text : List ℕ) → Knows (λ (p : SessionNo × List Change). p) (λ p. IsCommitText wording things before text p.0 p.1) (reader things before text)

-- whether changes may be made on a database as those of a commit
abbrev pub Test : Type 0
Test = Database → List Change → Bool

abbrev pub Tests : Takes → Test → Type 0
Tests takes test = (db : Database) (changes : List Change) → Decides (takes db changes) (test db changes)

abbrev pub made_by : Bool → State → SessionNo → List Change → Option State
made_by true at session changes = Some (after at session changes)
made_by false at session changes = None

abbrev pub redone_by : Test → State → Option (SessionNo × List Change) → Option State
redone_by test at (Some p) = made_by (test at.database p.1) at p.0 p.1
redone_by test at None = None

-- what a text makes of what those before it made, none where it makes nothing
abbrev pub redone : Reader → Test → State → List ℕ → Option State
redone reader test at text = redone_by test at (reader at.database.things at.last text)

-- the same of what is answered: one state, for which this stands, or none
abbrev pub Tells : Reader → Test → (State → Type 0) → State → List ℕ → Bool → Type 0
Tells reader test Stands at text true = (next : State) × (redone reader test at text ≡ Some next) × Stands next
Tells reader test Stands at text false = redone reader test at text ≡ None
