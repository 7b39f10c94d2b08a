-- The rows that a draft has, those that it had before, and which were touched.
use Rattle.std.specs.Prelude.{ℕ, Bool, List, [], ◌∷◌, Option}
use Rattle.std.specs.BTreeMap.{BTreeMap}
use Rattle.std.specs.FinMap.{empty}
use Rattle.std.specs.Map.{lookup, keys_of}
use Rattle.std.specs.Option.{option_map_or, unwrap_or}
use Rattle.std.specs.Ordering.{nat_cmp, is_eq}
use Rattle.hs_values.specs.declared.value.Value.{Value}
use Rattle.hs_index.specs.Table.{Rows}
use Rattle.hs_changes.specs.Settings.{Maps, with_values}
use Rattle.hs_sentences.specs.Violations.{Touched}
use Rattle.hs_draft.specs.declared.draft.Draft.{Draft}

-- rows with what they were: None where a row wasn't there
abbrev pub Olds : Type 0
Olds = List (ℕ × Option (List Value))

abbrev pub is : ℕ → ℕ → Bool
is a b = is_eq (nat_cmp a b)

-- the rows of a table, none where it isn't among these
abbrev pub rows_at : List (ℕ × Rows) → ℕ → Rows
rows_at tables table = unwrap_or (lookup (is table) tables) empty

-- what was kept of a row of a table
abbrev pub olds_at : List (ℕ × BTreeMap ℕ (Option (List Value))) → ℕ → Olds
olds_at olds table = option_map_or (λ m. m.entries) (lookup (is table) olds) []

abbrev pub old_in : Olds → ℕ → Option (Option (List Value))
old_in olds row = lookup (is row) olds

abbrev pub old_of : List (ℕ × BTreeMap ℕ (Option (List Value))) → ℕ → ℕ → Option (Option (List Value))
old_of olds table row = old_in (olds_at olds table) row

-- rows with those of these as they were
abbrev pub with_olds : Olds → Rows → Rows
with_olds [] rows = rows
with_olds (e ∷ es) rows = with_values (with_olds es rows) e.0 e.1

-- the rows of each table as they are
abbrev pub after : Draft → Maps
after draft table = rows_at draft.tables.entries table

-- the rows of each table as they were before the changes
abbrev pub before : Draft → Maps
before draft table = with_olds (olds_at draft.olds.entries table) (after draft table)

-- the rows of each table that were changed
abbrev pub touched : Draft → Touched
touched draft table = keys_of (olds_at draft.olds.entries table)
