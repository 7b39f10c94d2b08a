-- When a database is valid: every constraint holds, and each row fits its columns.
use Rattle.std.specs.Prelude.{ℕ, ◌==◌, ◌||◌, nat_lt, Bool, true, false, List, [], map, length, is_none, Result, Ok}
use Rattle.std.specs.FinMap.{empty, entries}
use Rattle.std.specs.List.{filter, list_all}
use Rattle.std.specs.Option.{option_map_or}
use Rattle.hs_plan.specs.declared.change.Change.{Change}
use Rattle.hs_plan.specs.declared.change.Change.TheVariants as change
use Rattle.hs_plan.specs.declared.definition.Column.{Column}
use Rattle.hs_values.specs.declared.fault.EvalFault.{EvalFault}
use Rattle.hs_values.specs.declared.sql_type.SqlType.{SqlType}
use Rattle.hs_values.specs.declared.value.Value.{Value}
use Rattle.hs_values.specs.declared.value.Value.TheVariants as v
use Rattle.hs_values.specs.SqlType.{row_fits}
use Rattle.hs_rowcodec.specs.Encoding.{row_bytes}
use Rattle.hs_rowtext.specs.Rows.{types_of}
use Rattle.hs_rel.specs.Selection.{is_true}
use Rattle.hs_index.specs.Table.{Rows}
use Rattle.hs_changes.specs.Settings.{Setting}
use Rattle.hs_schema.specs.Catalogue.{Things, table_numbered}
use Rattle.hs_sentences.specs.Violations.{Checks, Touched, first_violated}
use Rattle.hs_answer.specs.Answer.{evaluated}
use Rattle.hs_turns.specs.Database.{Database}

-- ---- CHECK

abbrev pub is_null : Result Value EvalFault → Bool
is_null (Ok v.Null) = true
is_null _ = false

-- a CHECK lets a row pass for which its condition is TRUE or NULL, and no fault. It has no subqueries, so that no table
-- counts
abbrev pub lets_pass : Checks
lets_pass condition row = let given = evaluated (λ table. empty) condition row in is_true given || is_null given

-- ---- columns

-- the columns of a table, none where there is no such table
abbrev pub columns_of : Things → ℕ → List Column
columns_of things table = option_map_or (λ t. t.columns) (table_numbered things (record { 0 = table })) []

abbrev pub types_in : Things → ℕ → List SqlType
types_in things table = types_of (columns_of things table)

-- each row of a table has one value of each column's type
abbrev pub rows_fit : List SqlType → Rows → Bool
rows_fit types rows = list_all (λ e. row_fits types e.1) (entries rows)

-- ---- the whole

-- the rows of every table fit its columns
abbrev pub all_fit : Database → Bool
all_fit db = list_all (λ t. rows_fit (types_in db.things t.table.0) (db.rows t.table.0)) db.things

-- every constraint holds
abbrev pub all_hold : Database → Bool
all_hold db = is_none (first_violated lets_pass db.things (λ table. []) db.rows)

-- ---- rows that are set

-- which rows of each table were put or deleted
abbrev pub touched_by : List Setting → Touched
touched_by settings = λ table. map (λ s. s.row) (filter (λ s. s.table == table) settings)

-- ---- rows that are too long

-- a row's encoding has more than 4,000 bytes
abbrev pub is_long : List SqlType → List Value → Bool
is_long types row = nat_lt 4_000 (length (row_bytes types row))

-- a row that a change puts is too long
abbrev pub puts_long : Things → Change → Bool
puts_long things (change.Insert table values) = is_long (types_in things table.0) values
puts_long things (change.Put table row values) = is_long (types_in things table.0) values
puts_long things (change.Delete table row) = false
puts_long things (change.Define definition) = false
