-- Rows as queries look at them.
use Rattle.std.specs.Prelude.{◌≡◌, ℕ, Option, Some, None, ⊤}
use Rattle.hs_changes.specs.Settings.{Maps}
use Rattle.hs_draft.specs.Drafted.{after}
use Rattle.hs_rows.specs.Numbers.{row_in}
use Rattle.hs_seated.specs.declared.draft_rows.Brought.{Brought}
use Rattle.hs_seated.specs.declared.draft_rows.DraftRows.{DraftRows}

-- the rows of each table, by the tables' numbers
abbrev pub looked_at : DraftRows → Maps
looked_at rows = after rows.draft.now

abbrev pub place_of : Option Brought → Option (ℕ × ℕ)
place_of None = None
place_of (Some brought) = Some (brought.table.0, brought.row.0)

abbrev pub IsThere : Maps → Option Brought → Type 0
IsThere maps None = ⊤
IsThere maps (Some brought) = row_in (maps brought.table.0) brought.row.0 ≡ Some brought.values.now

-- the row that was brought last is there still
abbrev pub IsReady : DraftRows → Type 0
IsReady rows = IsThere (looked_at rows) rows.brought
