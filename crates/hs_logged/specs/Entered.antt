-- A commit that is entered in a logbook.
use Rattle.std.specs.Prelude.{◌≡◌, ℕ, ◌+◌, ◌≤◌, Bool, true, false, List, [], ◌∷◌, ◌++◌, length, Option, None, Some}
use Rattle.hs_base.specs.declared.numbers.SessionNo.{SessionNo}
use Rattle.hs_committext.specs.Commits.{commit_text, IsCommitText}
use Rattle.hs_logged.specs.declared.logbook.Logbook.{Logbook}
use Rattle.hs_plan.specs.declared.change.Change.{Change}
use Rattle.hs_tabletext.specs.Conditions.{Wording}
use Rattle.hs_schema.specs.Catalogue.{Things}

-- what a test says of a sentence: that it is so, or that it isn't
abbrev pub Decides : Type 0 → Bool → Type 0
Decides P true = P
Decides P false = ¬ P

-- beside these things, and behind a text of the session before, a commit has a text
abbrev pub HasText : Wording → Things → Option SessionNo → SessionNo → List Change → Type 0
HasText wording things before session changes = IsCommitText wording things before (commit_text wording things before session changes) session changes

-- the text of a commit, none exactly where it has none
abbrev pub IsTextIn : Wording → Things → Option SessionNo → SessionNo → List Change → Option (List ℕ) → Type 0
IsTextIn wording things before session changes (Some text) = (text ≡ commit_text wording things before session changes) × HasText wording things before session changes
IsTextIn wording things before session changes None = ¬ (HasText wording things before session changes)

-- The log with this text behind its others: a text takes its bytes and 9 more.
abbrev pub with_text : SessionNo → List ℕ → Logbook → Logbook
with_text session text book = record { last = Some session; size = book.size + (9 + length text); limit = book.limit }

-- one byte ends the log, which may have so many bytes at most
abbrev pub IsWithin : Logbook → Type 0
IsWithin book = book.size + 1 ≤ book.limit

-- the log has room for a commit: it has a text, and with this the log isn't longer than it may be
pub record HasRoomIn (wording : Wording) (things : Things) (book : Logbook) (session : SessionNo) (changes : List Change) : Type 0 where
  pub text : HasText wording things book.last session changes
  pub fits : IsWithin (with_text session (commit_text wording things book.last session changes) book)

-- a commit was entered with its text where the log has room for it, and else nothing was
abbrev pub Enters : Wording → Things → SessionNo → List Change → Logbook → Logbook → List (List ℕ) → List (List ℕ) → Bool → Type 0
Enters wording things session changes old new old_made made true =
    HasRoomIn wording things old session changes
    × ((new ≡ with_text session (commit_text wording things old.last session changes) old) × (made ≡ old_made ++ commit_text wording things old.last session changes ∷ []))
Enters wording things session changes old new old_made made false = (¬ (HasRoomIn wording things old session changes)) × ((new ≡ old) × (made ≡ old_made))
