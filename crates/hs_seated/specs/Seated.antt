-- Rows with the changes of a transaction on them.
use Rattle.std.specs.Prelude.{◌≡◌, ℕ, ◌||◌, false, List, length}
use Rattle.std.specs.List.{list_any}
use Rattle.hs_changes.specs.Changes.{after_changes, count_all_inserted, settings_of}
use Rattle.hs_changes.specs.Settings.{Maps, Setting, is_set, set_row}
use Rattle.hs_turns.specs.Database.{is_definition}
use Rattle.hs_draft.specs.Drafted.{before, touched}
use Rattle.hs_plan.specs.declared.change.Change.{Change}
use Rattle.hs_sentences.specs.Asking.{is_one_of}
use Rattle.hs_seated.specs.declared.seated_rows.SeatedRows.{SeatedRows}
use Rattle.hs_seated.specs.declared.seated.Seated.{Seated}
use Rattle.hs_seated.specs.declared.step.Step.{Step}
use Rattle.hs_seated.specs.Listed.{AreOver}
use Rattle.hs_seated.specs.Rows.{AreRows}

-- how a row is given back what it was
abbrev pub setting_back : Step → Setting
setting_back step = record { table = step.table.0; row = step.row.0; values = step.old }

-- it leads back from the rows with a change to those before it, and knows how many rows were inserted before it
pub record IsStep (maps : Maps) (before with_it : List Change) (step : Step) : Type 0 where
  pub inserted : step.inserted ≡ count_all_inserted before
  pub back : set_row (after_changes 0 maps with_it) (setting_back step) ≡ after_changes 0 maps before

-- These are the rows of a database with these changes of a transaction made on them, of which none is a definition. Each change
-- is taken back by its step.
pub record IsSeated (maps : Maps) (changes : List Change) (s : Seated) : Type 0 where
  pub rows : AreRows (after_changes 0 maps changes) s.rows
  pub of_rows : list_any is_definition changes ≡ false
  pub inserted : s.inserted ≡ count_all_inserted changes
  pub count : length s.steps.items ≡ length changes
  pub steps : AreOver (IsStep maps) changes s.steps.items

-- how many rows the changes insert
abbrev pub inserted_in : Seated → ℕ
inserted_in s = s.inserted

-- changes were made behind so many inserts: the rows before them are known still, and the changed rows are touched
pub record Touches (inserted : ℕ) (changes : List Change) (old new : SeatedRows) : Type 0 where
  pub before : (table : ℕ) → before new.draft table ≡ before old.draft table
  pub touched : (table row : ℕ) → is_one_of (touched new.draft table) row ≡ (is_set table row (settings_of inserted changes) || is_one_of (touched old.draft table) row)
