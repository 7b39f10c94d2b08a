-- The rows of tables that were copied.
use Rattle.std.specs.Prelude.{ℕ, ◌==◌, List, fold, Option, None, Some, unwrap_or, if◌then◌else◌}
use Rattle.std.specs.FinMap.{empty}
use Rattle.hs_index.specs.Table.{Rows}
use Rattle.hs_changes.specs.Settings.{Maps}
use Rattle.hs_before.specs.declared.held_rows.HeldRows.{HeldRows}
use Rattle.hs_before.specs.declared.held_rows.TableRows.{TableRows}

-- the rows that were copied last of a table, where some were
abbrev pub found_in : List TableRows → ℕ → Option Rows
found_in tables table = fold (λ found (each : TableRows). if each.table.0 == table then Some each.rows else found) None tables

abbrev pub rows_at : List TableRows → ℕ → Rows
rows_at tables table = unwrap_or (found_in tables table) empty

-- the rows of each table, none where they weren't copied
abbrev pub rows_of : HeldRows → Maps
rows_of held table = rows_at held.tables.items table
