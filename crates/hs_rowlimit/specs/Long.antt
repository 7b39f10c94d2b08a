-- Rows whose encoding is too long.
use Rattle.std.specs.Prelude.{ℕ, Bool, false, List, [], length, map, nat_lt}
use Rattle.std.specs.List.{list_any}
use Rattle.std.specs.Option.{option_map_or}
use Rattle.hs_base.specs.declared.numbers.TableNo.{TableNo}
use Rattle.hs_plan.specs.declared.change.Change.{Change}
use Rattle.hs_plan.specs.declared.change.Change.TheVariants as change
use Rattle.hs_plan.specs.declared.definition.Column.{Column}
use Rattle.hs_rowcodec.specs.Encoding.{row_bytes}
use Rattle.hs_schema.specs.Catalogue.{Things, table_numbered}
use Rattle.hs_values.specs.declared.sql_type.SqlType.{SqlType}
use Rattle.hs_values.specs.declared.value.Value.{Value}

abbrev pub types_of : List Column → List SqlType
types_of columns = map (λ (c : Column). c.data_type) columns

-- the columns of a table, none where there is no such table
abbrev pub columns_in : Things → TableNo → List Column
columns_in things table = option_map_or (λ t. t.columns) (table_numbered things table) []

-- the encoding of a row of a table has more than 4,000 bytes
abbrev pub is_long : Things → TableNo → List Value → Bool
is_long things table row = nat_lt 4_000 (length (row_bytes (types_of (columns_in things table)) row))

-- a change puts such a row
abbrev pub puts_long : Things → Change → Bool
puts_long things (change.Insert table row) = is_long things table row
puts_long things (change.Put table number row) = is_long things table row
puts_long things (change.Delete table number) = false
puts_long things (change.Define definition) = false

-- one of these changes does
abbrev pub has_long : Things → List Change → Bool
has_long things changes = list_any (puts_long things) changes
