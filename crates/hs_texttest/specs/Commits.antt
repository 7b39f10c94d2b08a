-- Whether a commit has a text, as a test.
use Rattle.std.specs.Prelude.{◌^◌, Bool, false, not, ◌&&◌, ◌||◌, ◌==◌, nat_le, nat_lt, List, length, Option, None, Some}
use Rattle.std.specs.List.{list_all, list_any}
use Rattle.std.specs.Str.{is_utf8}
use Rattle.hs_base.specs.declared.numbers.RowNo.{RowNo}
use Rattle.hs_base.specs.declared.numbers.SessionNo.{SessionNo}
use Rattle.hs_base.specs.declared.numbers.TableNo.{TableNo}
use Rattle.hs_plan.specs.declared.change.Change.{Change}
use Rattle.hs_plan.specs.declared.change.Change.TheVariants as c
use Rattle.hs_plan.specs.declared.definition.Column.{Column}
use Rattle.hs_rowcodec.specs.Encoding.{row_bytes}
use Rattle.hs_schema.specs.declared.table.Table.{Table}
use Rattle.hs_schema.specs.Catalogue.{Things, table_named}
use Rattle.hs_values.specs.declared.value.Value.{Value}
use Rattle.hs_values.specs.SqlType.{row_fits}
use Rattle.hs_turns.specs.Database as database
use Rattle.hs_log.specs.CommitText.{is_session}
use Rattle.hs_rowtext.specs.Rows.{types_of}
use Rattle.hs_tabletext.specs.Conditions.{Wording}
use Rattle.hs_committext.specs.Changes.{table_name}
use Rattle.hs_committext.specs.Commits.{changes_text}
use Rattle.hs_texttest.specs.Columns.{is_named, is_spelled}
use Rattle.hs_texttest.specs.Definitions.{ConditionTest, is_definition}

-- ---- changes

-- a row of these columns: one value of each column's type, in at most 4,000 bytes of a row's encoding
abbrev pub is_row_of : List Column → List Value → Bool
is_row_of columns row = row_fits (types_of columns) row && (list_all is_spelled row && nat_le (length (row_bytes (types_of columns) row)) 4_000)

-- rows are numbered from 1
abbrev pub is_row_number : RowNo → Bool
is_row_number number = nat_le 1 number.0 && nat_lt number.0 (2 ^ 64)

-- a change of a row of this table
abbrev pub is_change_of : Table → Change → Bool
is_change_of table (c.Insert number row) = (number.0 == table.number.0) && is_row_of table.columns row
is_change_of table (c.Put number at row) = (number.0 == table.number.0) && (is_row_number at && is_row_of table.columns row)
is_change_of table (c.Delete number at) = (number.0 == table.number.0) && is_row_number at
is_change_of table (c.Define definition) = false

-- a change of a row of the table that was found
abbrev pub is_change_in : Option Table → Change → Bool
is_change_in None change = false
is_change_in (Some table) change = is_change_of table change

-- the table of this number has a name that can be written, and the change is one of a row of the table that has this name
abbrev pub is_row_change : Things → TableNo → Change → Bool
is_row_change things number change = is_named (table_name things number) && is_change_in (table_named things (table_name things number)) change

abbrev pub is_change : ConditionTest → Things → Change → Bool
is_change test things (c.Insert table row) = is_row_change things table (c.Insert table row)
is_change test things (c.Put table number row) = is_row_change things table (c.Put table number row)
is_change test things (c.Delete table number) = is_row_change things table (c.Delete table number)
is_change test things (c.Define definition) = is_definition test things definition

-- ---- commits

-- there is one change at least, and a definition stands alone
abbrev pub are_committed : List Change → Bool
are_committed changes = nat_le 1 (length changes) && (not (list_any database.is_definition changes) || (length changes == 1))

-- Beside these things a commit of a session has a text, whoever's is before it: its changes are those of a commit, each of them can be
-- written, and what is written of them is UTF-8.
abbrev pub has_text : Wording → ConditionTest → Things → Option SessionNo → SessionNo → List Change → Bool
has_text wording test things before session changes =
    is_session session.0 && (are_committed changes && (is_utf8 (changes_text wording things changes) && list_all (is_change test things) changes))
