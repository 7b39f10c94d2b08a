-- The lines of rows.
use Rattle.std.specs.Prelude.{◌≡◌, ℕ, ◌≤◌, ◌<◌, ◌^◌, true, false, List, [], ◌++◌, Some, codes, IsUtf8}
use Rattle.std.specs.Fmt.{decimal}
use Rattle.std.specs.List.{All}
use Rattle.hs_base.specs.declared.numbers.RowNo.{RowNo}
use Rattle.hs_plan.specs.declared.change.Change.{Change}
use Rattle.hs_plan.specs.declared.change.Change.TheVariants as c
use Rattle.hs_plan.specs.declared.definition.Column.{Column}
use Rattle.hs_schema.specs.declared.table.Table.{Table}
use Rattle.hs_schema.specs.Catalogue.{Things, table_named}
use Rattle.hs_values.specs.declared.value.Value.{Value}
use Rattle.hs_values.specs.Lawful.{IsLawful}
use Rattle.hs_nametext.specs.Names.{name_text, is_name, IsNameAt}
use Rattle.hs_rowtext.specs.declared.verb.Verb.{Verb}
use Rattle.hs_rowtext.specs.declared.verb.Verb.TheVariants as v
use Rattle.hs_rowtext.specs.Numbers.{begins_digit}
use Rattle.hs_rowtext.specs.Rows.{row_text, IsRowOf}

-- ---- what stands behind a table's name

abbrev pub values_part : List Value → List ℕ
values_part row = codes " VALUES(" ++ (row_text row ++ codes ")")

abbrev pub number_part : RowNo → List ℕ
number_part number = codes " ROW " ++ decimal number.0

abbrev pub numbered_part : RowNo → List Value → List ℕ
numbered_part number row = number_part number ++ values_part row

-- ---- whole lines, the table's name being given as it is written

-- a change of a row; a definition is none, and has no such line
abbrev pub row_line : List ℕ → Change → List ℕ
row_line written (c.Insert table row) = codes "INSERT INTO " ++ (written ++ values_part row)
row_line written (c.Put table number row) = codes "UPDATE " ++ (written ++ numbered_part number row)
row_line written (c.Delete table number) = codes "DELETE FROM " ++ (written ++ number_part number)
row_line written (c.Define definition) = []

-- a row that is kept, with its number
abbrev pub kept_line : List ℕ → RowNo → List Value → List ℕ
kept_line written number row = codes "INSERT INTO " ++ (written ++ numbered_part number row)

-- ---- of which changes and rows there are lines

-- rows are numbered from 1
pub record IsRowNo (number : RowNo) : Type 0 where
  pub first : 1 ≤ number.0
  pub lawful : number.0 < 2 ^ 64

-- a change of a row of this table
abbrev pub IsChangeOf : Table → Change → Type 0
IsChangeOf table (c.Insert number row) = (number ≡ table.number) × IsRowOf table.columns row
IsChangeOf table (c.Put number at row) = (number ≡ table.number) × IsRowNo at × IsRowOf table.columns row
IsChangeOf table (c.Delete number at) = (number ≡ table.number) × IsRowNo at
IsChangeOf table (c.Define definition) = ⊥

-- the name is one that the catalogue gives to this table
pub record Names (things : Things) (name : List ℕ) (table : Table) : Type 0 where
  pub lawful : is_name name ≡ true
  pub utf8 : IsUtf8 name
  pub named : table_named things name ≡ Some table

-- the line is that of this change of a row of one of the catalogue's tables
pub record IsRowLine (things : Things) (line : List ℕ) (change : Change) : Type 0 where
  pub name : List ℕ
  pub table : Table
  pub names : Names things name table
  pub of : IsChangeOf table change
  pub written : line ≡ row_line (name_text name) change

-- the line is that of this row of these columns, the table's name being given as it is written
pub record IsKeptLine (written : List ℕ) (columns : List Column) (line : List ℕ) (kept : RowNo × List Value) : Type 0 where
  pub numbered : IsRowNo kept.0
  pub of : IsRowOf columns kept.1
  pub is : line ≡ kept_line written kept.0 kept.1

-- the values of a change can be written
abbrev pub IsPrintable : Change → Type 0
IsPrintable (c.Insert table row) = All IsLawful row
IsPrintable (c.Put table number row) = All IsLawful row
IsPrintable _ = Unit {0}

-- ---- parts of lines

-- the text begins with a name of this table as it is written
pub record IsTableAt (things : Things) (text : List ℕ) (table : Table) (rest : List ℕ) : Type 0 where
  pub name : List ℕ
  pub named : table_named things name ≡ Some table
  pub at : IsNameAt text name rest

pub record IsNumberPart (text : List ℕ) (number : RowNo) (rest : List ℕ) : Type 0 where
  pub numbered : IsRowNo number
  pub written : text ≡ number_part number ++ rest
  pub ends : begins_digit rest ≡ false

pub record IsLastNumber (text : List ℕ) (number : RowNo) : Type 0 where
  pub numbered : IsRowNo number
  pub written : text ≡ number_part number

pub record IsValuesPart (columns : List Column) (text : List ℕ) (row : List Value) : Type 0 where
  pub of : IsRowOf columns row
  pub written : text ≡ values_part row

pub record IsNumberedPart (columns : List Column) (text : List ℕ) (kept : RowNo × List Value) : Type 0 where
  pub numbered : IsRowNo kept.0
  pub of : IsRowOf columns kept.1
  pub written : text ≡ numbered_part kept.0 kept.1

abbrev pub verb_text : Verb → List ℕ
verb_text v.Insert = codes "INSERT INTO "
verb_text v.Update = codes "UPDATE "
verb_text v.Delete = codes "DELETE FROM "

abbrev pub IsVerbAt : List ℕ → Verb → List ℕ → Type 0
IsVerbAt text verb rest = text ≡ verb_text verb ++ rest

-- a verb's change of a row of this table, and what its line has behind the table's name
abbrev pub IsBehind : Table → Verb → List ℕ → Change → Type 0
IsBehind table v.Insert text (c.Insert number row) = (number ≡ table.number) × IsValuesPart table.columns text row
IsBehind table v.Update text (c.Put number at row) = (number ≡ table.number) × IsNumberedPart table.columns text (at, row)
IsBehind table v.Delete text (c.Delete number at) = (number ≡ table.number) × IsLastNumber text at
IsBehind table _ text _ = ⊥
