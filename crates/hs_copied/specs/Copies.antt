-- Copies of the rows of tables, and what maps they stand for.
use Rattle.std.specs.Prelude.{◌≡◌, ℕ, suc, Bool, true, ◌==◌, if◌then◌else◌, List, [], ◌∷◌, fold}
use Rattle.std.specs.FinMap.{from_sorted, values}
use Rattle.std.specs.List.{list_any}
use Rattle.hs_base.specs.declared.numbers.TableNo.{TableNo}
use Rattle.hs_values.specs.declared.value.Value.{Value}
use Rattle.hs_changes.specs.Settings.{Maps}
use Rattle.hs_expression.specs.Surroundings.{Rows}
use Rattle.hs_copied.specs.declared.table_copies.TableCopies.{TableCopies}
use Rattle.hs_copied.specs.declared.table_copies.TableCopy.{TableCopy}

-- whether the rows of a table are among the copies
abbrev pub is_held : List TableCopy → ℕ → Bool
is_held copies table = list_any (λ (copy : TableCopy). copy.table.0 == table) copies

-- the rows that were copied last of a table, and none where none were
abbrev pub rows_held : List TableCopy → ℕ → Rows
rows_held copies table = fold (λ rows (copy : TableCopy). if copy.table.0 == table then copy.rows else rows) [] copies

-- rows under numbers, from this one on
abbrev pub numbered : ℕ → Rows → List (ℕ × List Value)
numbered n [] = []
numbered n (row ∷ rows) = (n, row) ∷ numbered (suc n) rows

-- the maps that copies stand for. The rows of a table stand in them in their order, under any numbers
unfoldable pub maps_of : TableCopies → Maps
maps_of copies table = from_sorted (numbered 0 (rows_held copies.copies.items table))

-- tables of which those that are among copies have their rows, under any numbers
abbrev pub over : List TableCopy → Maps → Maps
over copies tables table = if is_held copies table then from_sorted (numbered 0 (rows_held copies table)) else tables table

-- tables of which one has these rows
unfoldable pub with_rows : Maps → TableNo → Rows → Maps
with_rows tables table rows = over (record { table = table; rows = rows } ∷ []) tables

-- whether a table has this number
abbrev pub has_number : ℕ → TableNo → Bool
has_number table named = named.0 == table

-- the rows of each of these tables are copied
abbrev pub Stand : Maps → List TableNo → TableCopies → Type 0
Stand tables named copies = (table : ℕ) → list_any (has_number table) named ≡ true → rows_held copies.copies.items table ≡ values (tables table)
