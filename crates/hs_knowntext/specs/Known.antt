-- Commits of rows, of which it is known that their text is read as they again.
use Rattle.std.specs.Prelude.{◌≡◌, ◌≤◌, true, List, length, Option, None, Some}
use Rattle.std.specs.List.{All, AllByRecursion}
use Rattle.hs_base.specs.declared.numbers.SessionNo.{SessionNo}
use Rattle.hs_base.specs.declared.numbers.TableNo.{TableNo}
use Rattle.hs_log.specs.CommitText.{IsSession}
use Rattle.hs_plan.specs.declared.change.Change.{Change}
use Rattle.hs_plan.specs.declared.change.Change.TheVariants as c
use Rattle.hs_plan.specs.declared.definition.Column.{Column}
use Rattle.hs_schema.specs.declared.table.Table.{Table}
use Rattle.hs_schema.specs.Catalogue.{Things, table_numbered}
use Rattle.hs_rowtext.specs.Lines.{IsChangeOf, IsRowNo, Names}
use Rattle.hs_rowtext.specs.Rows.{types_of}
use Rattle.hs_values.specs.SqlType.{row_fits}
use Rattle.hs_values.specs.declared.value.Value.{Value}
use Rattle.hs_valuetext.specs.Values.{IsSpelled}

-- the number of the table of which a change changes a row
abbrev pub table_of : Change → Option TableNo
table_of (c.Insert table row) = Some table
table_of (c.Put table number row) = Some table
table_of (c.Delete table number) = Some table
table_of (c.Define definition) = None

-- the catalogue has this table under the number, and under the table's own name, which can be written
pub record IsFound (things : Things) (number : TableNo) (table : Table) : Type 0 where
  pub numbered : table_numbered things number ≡ Some table
  pub named : Names things table.name table

-- a row has one value of each column's type, and its texts are UTF-8
abbrev pub FitsColumns : List Column → List Value → Type 0
FitsColumns columns row = (row_fits (types_of columns) row ≡ true) × AllByRecursion IsSpelled row

-- a change of a row has such values and such a number as the rows of a table have
abbrev pub FitsTable : Table → Change → Type 0
FitsTable table (c.Insert number row) = FitsColumns table.columns row
FitsTable table (c.Put number at row) = IsRowNo at × FitsColumns table.columns row
FitsTable table (c.Delete number at) = IsRowNo at
FitsTable table (c.Define definition) = ⊥

-- a change of a row of a table that the catalogue has under its number and its name
pub record IsKnownChange (things : Things) (change : Change) : Type 0 where
  pub table : Table
  pub found : IsFound things table.number table
  pub of : IsChangeOf table change

-- A session's commit of changes of rows of such tables, of which there is one at least.
pub record IsKnown (things : Things) (session : SessionNo) (changes : List Change) : Type 0 where
  pub lawful : IsSession session.0
  pub some : 1 ≤ length changes
  pub each : All (IsKnownChange things) changes
