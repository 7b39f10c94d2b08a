-- What changes make of the rows of a draft.
use Rattle.std.specs.Prelude.{◌≡◌, ℕ, ◌||◌, true, List}
use Rattle.hs_plan.specs.declared.change.Change.{Change}
use Rattle.hs_changes.specs.Changes.{after_changes, settings_of}
use Rattle.hs_changes.specs.Settings.{Setting, is_set, set_rows}
use Rattle.hs_schema.specs.Catalogue.{Things}
use Rattle.hs_sentences.specs.Asking.{is_one_of}
use Rattle.hs_draft.specs.declared.draft.Draft.{Draft}
use Rattle.hs_draft.specs.Drafted.{after, before, touched}
use Rattle.hs_turns.specs.Database.{Database}
use Rattle.hs_language.specs.Validity.{all_hold}
use Rattle.hs_applied.specs.Undone.{undone}

-- these rows were set, one after another
pub record AreSet (settings : List Setting) (old new : Draft) : Type 0 where
  pub after : after new ≡ set_rows (after old) settings
  pub touched : (table row : ℕ) → is_one_of (touched new table) row ≡ (is_set table row settings || is_one_of (touched old table) row)

-- the rows before the changes are known still, and what leads back leads back to the same rows
pub record Keeps (old new : Draft) (olds news : List Setting) : Type 0 where
  pub before : before new ≡ before old
  pub back : undone (after new) news ≡ undone (after old) olds

-- a draft has the rows of a database in which all constraints held, and then these changes, behind so many inserts
pub record IsAfter (inserted : ℕ) (db : Database) (changes : List Change) (catalogue : Things) (draft : Draft) : Type 0 where
  pub things : db.things ≡ catalogue
  pub held : all_hold db ≡ true
  pub before : (table : ℕ) → before draft table ≡ db.rows table
  pub after : (table : ℕ) → after draft table ≡ after_changes inserted db.rows changes table
  pub touched : (table row : ℕ) → is_one_of (touched draft table) row ≡ is_set table row (settings_of inserted changes)
