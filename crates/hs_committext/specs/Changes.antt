-- How changes are written.
use Rattle.std.specs.Prelude.{ℕ, List, []}
use Rattle.std.specs.Option.{option_map_or}
use Rattle.hs_base.specs.declared.numbers.TableNo.{TableNo}
use Rattle.hs_plan.specs.declared.change.Change.{Change}
use Rattle.hs_plan.specs.declared.change.Change.TheVariants as c
use Rattle.hs_schema.specs.declared.table.Table.{Table}
use Rattle.hs_schema.specs.Catalogue.{Things, table_numbered}
use Rattle.hs_nametext.specs.Names.{name_text}
use Rattle.hs_tabletext.specs.Conditions.{Wording}
use Rattle.hs_rowtext.specs.Lines as rows
use Rattle.hs_committext.specs.Definitions as definitions

-- ---- their texts

-- the name of the catalogue's table of this number, and the empty one where there is none
abbrev pub table_name : Things → TableNo → List ℕ
table_name things number = option_map_or (λ t. t.name) (table_numbered things number) []

-- the one text of each change, beside the things of a catalogue before it
abbrev pub change_text : Wording → Things → Change → List ℕ
change_text wording things (c.Insert table row) = rows.row_line (name_text (table_name things table)) (c.Insert table row)
change_text wording things (c.Put table number row) = rows.row_line (name_text (table_name things table)) (c.Put table number row)
change_text wording things (c.Delete table number) = rows.row_line (name_text (table_name things table)) (c.Delete table number)
change_text wording things (c.Define definition) = definitions.definition_text wording things definition

-- ---- lines and changes

-- the text is that of this change: of a row of the table that the catalogue gives the line's name, or of a definition
abbrev pub IsChangeText : Wording → Things → List ℕ → Change → Type 0
IsChangeText wording things text (c.Insert table row) = rows.IsRowLine things text (c.Insert table row)
IsChangeText wording things text (c.Put table number row) = rows.IsRowLine things text (c.Put table number row)
IsChangeText wording things text (c.Delete table number) = rows.IsRowLine things text (c.Delete table number)
IsChangeText wording things text (c.Define definition) = definitions.IsDefinitionText wording things text definition

-- a change of a row of one of the catalogue's tables
pub record IsRowChange (things : Things) (change : Change) : Type 0 where
  pub name : List ℕ
  pub table : Table
  pub names : rows.Names things name table
  pub of : rows.IsChangeOf table change

-- a change that has a text
abbrev pub IsChange : Wording → Things → Change → Type 0
IsChange wording things (c.Insert table row) = IsRowChange things (c.Insert table row)
IsChange wording things (c.Put table number row) = IsRowChange things (c.Put table number row)
IsChange wording things (c.Delete table number) = IsRowChange things (c.Delete table number)
IsChange wording things (c.Define definition) = definitions.IsDefinition wording things definition

-- the values of a row are lawful, and what a definition has can be written
abbrev pub IsPrintable : Wording → Things → Change → Type 0
IsPrintable wording things (c.Define definition) = definitions.IsPrintable wording things definition
IsPrintable wording things (c.Insert table row) = rows.IsPrintable (c.Insert table row)
IsPrintable wording things (c.Put table number row) = rows.IsPrintable (c.Put table number row)
IsPrintable wording things (c.Delete table number) = rows.IsPrintable (c.Delete table number)
