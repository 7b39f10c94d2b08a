-- Changes that are made, and kept to be taken back.
use Rattle.std.specs.Prelude.{◌≡◌, ℕ, ◌+◌, ◌==◌, ◌&&◌, ◌||◌, false, List, [], ◌∷◌, ◌++◌}
use Rattle.std.specs.FinMap.{get}
use Rattle.hs_changes.specs.Changes.{count_inserted, setting_of}
use Rattle.hs_changes.specs.Settings.{Maps, Setting, set_row}
use Rattle.hs_turns.specs.Database.{is_definition}
use Rattle.hs_draft.specs.Drafted.{after, before, touched}
use Rattle.hs_plan.specs.declared.change.Change.{Change}
use Rattle.hs_sentences.specs.Asking.{is_one_of}
use Rattle.hs_seated.specs.declared.seated_rows.SeatedRows.{SeatedRows}
use Rattle.hs_seated.specs.declared.seated.Seated.{Seated}
use Rattle.hs_seated.specs.declared.step.Step.{Step}
use Rattle.hs_seated.specs.Rows.{AreRows}

-- a row was set behind so many inserts, and what it was is kept
pub record IsSet (s : Setting) (inserted : ℕ) (old new : SeatedRows) (steps news : List Step) : Type 0 where
  pub rows : (maps : Maps) → AreRows maps old → AreRows (set_row maps s) new
  pub before : (table : ℕ) → before new.draft table ≡ before old.draft table
  pub touched : (table row : ℕ) → is_one_of (touched new.draft table) row ≡ ((table == s.table && row == s.row) || is_one_of (touched old.draft table) row)
  pub step : news ≡ steps ++ record { table = record { 0 = s.table }; row = record { 0 = s.row }; old = get (after old.draft s.table) s.row; inserted = inserted } ∷ []

-- a change of a row was made behind the others
pub record Makes (change : Change) (old new : Seated) : Type 0 where
  pub of_row : is_definition change ≡ false
  pub s : Setting
  pub sets : setting_of old.inserted change ≡ s ∷ []
  pub is : IsSet s old.inserted old.rows new.rows old.steps.items new.steps.items
  pub count : new.inserted ≡ old.inserted + count_inserted change
