-- The group of a MEMORY table: its rows.
use Rattle.std.specs.Prelude.{◌≡◌, ℕ, ◌<◌, ◌≤◌, List, [], ◌∷◌}
use Rattle.hs_base.specs.declared.numbers.TableNo.{TableNo}
use Rattle.hs_plan.specs.declared.definition.Column.{Column}
use Rattle.hs_rowtext.specs.Lines.{kept_line, IsKeptLine}
use Rattle.hs_committext.specs.Lines.{lines_of, AreLinesOf}
use Rattle.hs_script.specs.declared.shelf.Shelf as declared
use Rattle.hs_script.specs.declared.stored_row.StoredRow.{StoredRow}

-- a table by what the lines of its rows say of it: its number, its name as it is written, and its columns
pub record Shelf : Type 0 where
  pub table : TableNo
  pub written : List ℕ
  pub columns : List Column

abbrev pub seen : declared.Shelf → Shelf
seen s = record { table = s.table; written = s.written.now; columns = s.columns.now }

-- ---- one row

abbrev pub row_line : Shelf → StoredRow → List ℕ
row_line shelf r = kept_line shelf.written r.row r.values

-- the line is that of this row of this table
pub record IsStoredLine (shelf : Shelf) (line : List ℕ) (r : StoredRow) : Type 0 where
  pub table : r.table ≡ shelf.table
  pub at : IsKeptLine shelf.written shelf.columns line (r.row, r.values)

-- ---- all of them

-- the one text of these rows: a line each, with a line feed behind it
abbrev pub rows_text : Shelf → List StoredRow → List ℕ
rows_text shelf rows = lines_of (row_line shelf) rows

-- each number is above the one before it, the first above this one, and none is greater than the most
abbrev pub Rise : ℕ → ℕ → List StoredRow → Type 0
Rise before most [] = Unit {0}
Rise before most (r ∷ rs) = (before < r.row.0) × (r.row.0 ≤ most) × Rise r.row.0 most rs

-- the text is that of these rows of this table, whose numbers are from 1 to this one
pub record IsRowsText (shelf : Shelf) (most : ℕ) (text : List ℕ) (rows : List StoredRow) : Type 0 where
  pub lines : AreLinesOf (IsStoredLine shelf) text rows
  pub rise : Rise 0 most rows
