-- The texts that the commits of a run have in the log, and whether the log has room for them.
use Rattle.std.specs.Prelude.{◌≡◌, ℕ, ◌+◌, ◌≤◌, Bool, true, false, List, [], ◌∷◌, ◌++◌, length, fold, Option, Some}
use Rattle.hs_base.specs.declared.numbers.SessionNo.{SessionNo}
use Rattle.hs_committext.specs.Commits.{commit_text}
use Rattle.hs_turns.specs.Numbers.{numbered}
use Rattle.hs_gate.specs.Groups.{spelled}
use Rattle.hs_turns.specs.Histories.{Commit}
use Rattle.hs_logged.specs.Entered.{Decides, HasText}
use Rattle.hs_logged.specs.declared.logbook.Logbook.{Logbook}
use Rattle.hs_plan.specs.declared.change.Change.{Change}
use Rattle.hs_tabletext.specs.Conditions.{Wording}
use Rattle.hs_seams.specs.Stores.{present}
use Rattle.hs_seams.specs.World.{World, texts_from}

-- ---- one commit behind others

abbrev pub session_of : Commit → SessionNo
session_of k = record { 0 = k.session }

-- its changes, with the numbers that its rows get there
abbrev pub changes_behind : World → List Commit → Commit → List Change
changes_behind w commits k = numbered (present w commits).count k.changes

abbrev pub with_session : Option SessionNo → Commit → Option SessionNo
with_session before k = Some (session_of k)

-- the session of the last of these commits, and where there is none, that of the text before them
abbrev pub last_behind : Option SessionNo → List Commit → Option SessionNo
last_behind before commits = fold with_session before commits

-- its text
abbrev pub text_behind : Wording → Logbook → World → List Commit → Commit → List ℕ
text_behind wording start w commits k = commit_text wording (present w commits).things (last_behind start.last commits) (session_of k) (changes_behind w commits k)

-- ---- the log

-- how many bytes stand behind commits of a run before the one that ends the log
abbrev pub size_behind : Logbook → World → List Commit → ℕ
size_behind start w commits = start.size + length (spelled (texts_from w [] commits))

-- The log has room for a commit behind others: it has a text, and with this the log isn't longer than it may be.
pub record HasRoom (wording : Wording) (start : Logbook) (w : World) (commits : List Commit) (k : Commit) : Type 0 where
  pub text : HasText wording (present w commits).things (last_behind start.last commits) (session_of k) (changes_behind w commits k)
  pub fits : size_behind start w (commits ++ k ∷ []) + 1 ≤ start.limit

-- the commits of a run have these texts in a log that is so at its start, and this room
pub record IsLogged (wording : Wording) (start : Logbook) (w : World) : Type 0 where
  pub text : (commits : List Commit) (k : Commit) → w.text commits k ≡ text_behind wording start w commits k
  pub room : (commits : List Commit) (k : Commit) → Decides (HasRoom wording start w commits k) (w.run.dialect.has_log_room commits k)

-- the log is so behind commits of a run
pub record IsBehind (start : Logbook) (w : World) (commits : List Commit) (book : Logbook) : Type 0 where
  pub last : book.last ≡ last_behind start.last commits
  pub size : book.size ≡ size_behind start w commits
  pub limit : book.limit ≡ start.limit

-- a commit of a run was entered with its text where the log has room for it, and else nothing was
pub record IsEntered (start : Logbook) (w : World) (commits : List Commit) (k : Commit) (old new : Logbook) (old_made made : List (List ℕ)) (is_made : Bool) : Type 0 where
  pub room : is_made ≡ w.run.dialect.has_log_room commits k
  pub done : is_made ≡ true → IsBehind start w (commits ++ k ∷ []) new × (made ≡ old_made ++ w.text commits k ∷ [])
  pub kept : is_made ≡ false → (new ≡ old) × (made ≡ old_made)
