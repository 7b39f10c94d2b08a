-- What constraints ask of rows.
use Rattle.std.specs.Prelude.{ℕ, not, ◌&&◌, ◌==◌, List, Some}
use Rattle.hs_values.specs.declared.value.Value.{Value}
use Rattle.hs_index.specs.Keys.{key_in, has_null}
use Rattle.hs_index.specs.Table.{Rows, has_key}
use Rattle.hs_sentences.specs.Asking.{Test, any_row}

-- a row has NULL in one of these columns
abbrev pub has_gap : List ℕ → Test
has_gap columns number row = has_null (key_in columns row)

-- a row has this key in these columns
abbrev pub carries : List ℕ → List Value → Test
carries columns key number row = has_key columns key (Some row)

-- another row of the table has the key that a row has in these columns
abbrev pub is_double : List ℕ → Rows → Test
is_double columns rows number row = any_row (λ other its. not (other == number) && has_key columns (key_in columns row) (Some its)) rows

-- a row names a key in these columns, and no row of the parent has it
abbrev pub is_orphan : List ℕ → List ℕ → Rows → Test
is_orphan columns parent_columns parents number row =
    not (has_null (key_in columns row)) && not (any_row (carries parent_columns (key_in columns row)) parents)

-- a row of the child names the key that a row has, and no row of the parent has it
abbrev pub is_missed : List ℕ → List ℕ → Rows → Rows → Test
is_missed columns parent_columns parents children number row =
    any_row (carries columns (key_in parent_columns row)) children && not (any_row (carries parent_columns (key_in parent_columns row)) parents)
