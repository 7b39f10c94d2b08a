-- The texts of commits over a database, and the log's room for them, as functions.
use Rattle.std.specs.Prelude.{◌≡◌, ℕ, ◌+◌, ◌&&◌, nat_le, Bool, List, [], ◌∷◌, ◌++◌, length, Option}
use Rattle.hs_base.specs.declared.numbers.SessionNo.{SessionNo}
use Rattle.hs_committext.specs.Commits.{commit_text}
use Rattle.hs_turns.specs.Database.{Database}
use Rattle.hs_turns.specs.Numbers.{numbered}
use Rattle.hs_gate.specs.Groups.{spelled}
use Rattle.hs_turns.specs.Histories.{Commit, now}
use Rattle.hs_logged.specs.Entered.{Decides, HasText}
use Rattle.hs_logged.specs.Logged.{last_behind, session_of}
use Rattle.hs_logged.specs.declared.logbook.Logbook.{Logbook}
use Rattle.hs_plan.specs.declared.change.Change.{Change}
use Rattle.hs_tabletext.specs.Conditions.{Wording}
use Rattle.hs_schema.specs.Catalogue.{Things}
use Rattle.hs_seams.specs.World.{World}

-- ---- texts

-- the text of a commit behind others of a run over an opening database
abbrev pub text_over : Wording → Logbook → Database → List Commit → Commit → List ℕ
text_over wording start opening commits k =
    commit_text wording (now opening commits).things (last_behind start.last commits) (session_of k) (numbered (now opening commits).count k.changes)

-- by such a function, those of commits one behind the other, behind others
abbrev pub texts_by : (List Commit → Commit → List ℕ) → List Commit → List Commit → List (List ℕ)
texts_by text before [] = []
texts_by text before (k ∷ ks) = text before k ∷ texts_by text (before ++ k ∷ []) ks

-- ---- room

-- whether a commit has a text, beside a catalogue and behind a text of the session before
abbrev pub TextTest : Type 0
TextTest = Things → Option SessionNo → SessionNo → List Change → Bool

abbrev pub TestsTexts : Wording → TextTest → Type 0
TestsTexts wording test = (things : Things) (before : Option SessionNo) (session : SessionNo) (changes : List Change) → Decides (HasText wording things before session changes) (test things before session changes)

-- whether the log has room for a commit behind others
abbrev pub room_over : Wording → TextTest → Logbook → Database → List Commit → Commit → Bool
room_over wording test start opening commits k =
    test (now opening commits).things (last_behind start.last commits) (session_of k) (numbered (now opening commits).count k.changes)
    && nat_le (start.size + length (spelled (texts_by (text_over wording start opening) [] (commits ++ k ∷ []))) + 1) start.limit

-- a world with these texts and this room
pub record IsMadeOver (wording : Wording) (test : TextTest) (start : Logbook) (w : World) : Type 0 where
  pub text : (commits : List Commit) (k : Commit) → w.text commits k ≡ text_over wording start w.run.opening commits k
  pub room : (commits : List Commit) (k : Commit) → w.run.dialect.has_log_room commits k ≡ room_over wording test start w.run.opening commits k
