-- Rows that are set, one after another.
use Rattle.std.specs.Prelude.{ℕ, Bool, ◌&&◌, ◌==◌, List, fold, Option, None, Some, if◌then◌else◌}
use Rattle.std.specs.FinMap.{insert, remove}
use Rattle.std.specs.List.{list_any}
use Rattle.hs_values.specs.declared.value.Value.{Value}
use Rattle.hs_index.specs.Table.{Rows}

-- the rows of each table, by the tables' numbers
abbrev pub Maps : Type 0
Maps = ℕ → Rows

-- a row of a table, and the values that it gets, or None where it goes
pub record Setting : Type 0 where
  pub table : ℕ
  pub row : ℕ
  pub values : Option (List Value)

-- a table's rows where one has these values, or is gone
abbrev pub with_values : Rows → ℕ → Option (List Value) → Rows
with_values rows row None = remove rows row
with_values rows row (Some values) = insert rows row values

-- one row is set
abbrev pub set_row : Maps → Setting → Maps
set_row maps setting = λ table. if table == setting.table then with_values (maps table) setting.row setting.values else maps table

-- rows are set one after another
abbrev pub set_rows : Maps → List Setting → Maps
set_rows = fold set_row

-- it sets this row
abbrev pub names : ℕ → ℕ → Setting → Bool
names table row setting = (table == setting.table) && (row == setting.row)

-- one of them sets this row
abbrev pub is_set : ℕ → ℕ → List Setting → Bool
is_set table row settings = list_any (names table row) settings

-- what the last of them that sets this row makes of it, and what it is else
abbrev pub last_values : ℕ → ℕ → Option (List Value) → List Setting → Option (List Value)
last_values table row before = fold (λ now setting. if names table row setting then setting.values else now) before
