-- The rows of all tables.
use Rattle.std.specs.Prelude.{◌≡◌, ℕ}
use Rattle.hs_changes.specs.Settings.{Maps}
use Rattle.hs_draft.specs.Drafted.{after}
use Rattle.hs_seated.specs.declared.seated_rows.SeatedRows.{SeatedRows}

-- they are these
pub record AreRows (maps : Maps) (rows : SeatedRows) : Type 0 where
  pub draft : (table : ℕ) → after rows.draft table ≡ maps table
