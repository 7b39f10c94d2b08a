-- Commits that a log takes, and what it comes to where one is to be made.
use Rattle.std.specs.Prelude.{◌≡◌, ℕ, Bool, true, false, List, [], ◌∷◌, ◌++◌}
use Rattle.hs_turns.specs.Database.{Database}
use Rattle.hs_turns.specs.Histories.{Commit}
use Rattle.hs_logged.specs.Entered.{Decides}
use Rattle.hs_logged.specs.Logged.{HasRoom, IsBehind, changes_behind, text_behind}
use Rattle.hs_logged.specs.declared.logbook.Logbook.{Logbook}
use Rattle.hs_logged.specs.Redone.{Takes}
use Rattle.hs_tabletext.specs.Conditions.{Wording}
use Rattle.hs_seams.specs.Stores.{present}
use Rattle.hs_seams.specs.World.{World}

-- the log has room for a commit behind others, whose changes may be made again there
pub record IsTaken (wording : Wording) (takes : Takes) (start : Logbook) (w : World) (commits : List Commit) (k : Commit) : Type 0 where
  pub room : HasRoom wording start w commits k
  pub may : takes (present w commits) (changes_behind w commits k)

-- The commits of a run have these texts in a log that is so at its start, and it takes none but those that may be made again.
pub record IsKept (wording : Wording) (takes : Takes) (start : Logbook) (w : World) : Type 0 where
  pub text : (commits : List Commit) (k : Commit) → w.text commits k ≡ text_behind wording start w commits k
  pub room : (commits : List Commit) (k : Commit) → Decides (IsTaken wording takes start w commits k) (w.run.dialect.has_log_room commits k)

-- a commit was made with its text where the log takes it, and else nothing was
pub record IsSettled {D : Type 0} (stands : D → Database → Type 0) (start : Logbook) (w : World) (commits : List Commit) (k : Commit) (old new : D) (old_book book : Logbook) (old_made made : List (List ℕ)) (is_made : Bool) : Type 0 where
  pub room : is_made ≡ w.run.dialect.has_log_room commits k
  pub done : is_made ≡ true → stands new (present w (commits ++ k ∷ [])) × IsBehind start w (commits ++ k ∷ []) book × (made ≡ old_made ++ w.text commits k ∷ [])
  pub kept : is_made ≡ false → (new ≡ old) × (book ≡ old_book) × (made ≡ old_made)
