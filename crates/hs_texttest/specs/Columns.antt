-- Whether names, values and columns can be written, as tests.
use Rattle.std.specs.Prelude.{ℕ, ◌^◌, Bool, true, false, ◌&&◌, ◌==◌, nat_lt, List, [], ◌∷◌, length, Option, None, Some}
use Rattle.std.specs.List.{list_all}
use Rattle.std.specs.Str.{is_utf8}
use Rattle.hs_plan.specs.declared.definition.Column.{Column}
use Rattle.hs_plan.specs.declared.definition.ForeignKey.{ForeignKey}
use Rattle.hs_values.specs.declared.sql_type.SqlType.{SqlType}
use Rattle.hs_values.specs.declared.value.Value.{Value}
use Rattle.hs_values.specs.declared.value.Value.TheVariants as v
use Rattle.hs_values.specs.SqlType.{fits_of}
use Rattle.hs_valuetext.specs.Types.{is_type}
use Rattle.hs_nametext.specs.Names.{is_name}
use Rattle.hs_keytext.specs.ForeignKeys.{parent_columns}
use Rattle.hs_keytext.specs.Owners.{Owner}
use Rattle.hs_keytext.specs.Places.{are_distinct, name_at, place_of}

-- a name that can be written
abbrev pub is_named : List ℕ → Bool
is_named name = is_name name && is_utf8 name

-- ---- columns

abbrev pub is_spelled : Value → Bool
is_spelled (v.Text text) = is_utf8 text
is_spelled _ = true

abbrev pub is_default : SqlType → Option Value → Bool
is_default sql_type None = true
is_default sql_type (Some value) = fits_of sql_type value && is_spelled value

abbrev pub is_column : Column → Bool
is_column c = is_named c.name && (is_type c.data_type && is_default c.data_type c.default)

-- ---- keys

-- this number was found
abbrev pub is_found : ℕ → Option ℕ → Bool
is_found place None = false
is_found place (Some found) = found == place

-- a column that has a name, which no column before it has
abbrev pub is_place : List Column → ℕ → Bool
is_place columns place = is_named (name_at columns place) && (is_found place (place_of columns (name_at columns place)) && nat_lt place (2 ^ 32))

abbrev pub are_some : List ℕ → Bool
are_some [] = false
are_some (place ∷ places) = true

-- columns, one at least, none of them twice
abbrev pub are_columns : List Column → List ℕ → Bool
are_columns columns places = list_all (is_place columns) places && (are_some places && are_distinct places)

abbrev pub is_foreign_key : Owner → ForeignKey → Bool
is_foreign_key owner key =
    are_columns owner.columns key.columns
    && (is_named key.parent && (are_columns (parent_columns owner key.parent) key.parent_columns && (length key.columns == length key.parent_columns)))
