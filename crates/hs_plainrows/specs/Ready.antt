-- The rows of all tables, and what can be looked at.
use Rattle.std.specs.Prelude.{◌≡◌, ℕ, true, Option, Some, None, ⊤}
use Rattle.hs_changes.specs.Settings.{Maps}
use Rattle.hs_rows.specs.Numbers.{has_row}
use Rattle.hs_plainrows.specs.declared.plain_rows.PlainRows.{PlainRows}
use Rattle.hs_plainrows.specs.Held.{rows_at}

-- the rows of each table, by the tables' numbers
abbrev pub tables_of : PlainRows → Maps
tables_of rows = rows_at rows.tables.entries

abbrev pub IsThere : Maps → Option (ℕ × ℕ) → Type 0
IsThere maps None = ⊤
IsThere maps (Some place) = has_row (maps place.0) place.1 ≡ true

-- the row that was brought last is there still
abbrev pub IsReady : PlainRows → Type 0
IsReady rows = IsThere (tables_of rows) rows.brought
