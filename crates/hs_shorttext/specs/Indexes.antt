-- How indexes are written where they are made.
use Rattle.std.specs.Prelude.{◌≡◌, ℕ, List, ◌++◌, codes}
use Rattle.hs_plan.specs.declared.definition.Column.{Column}
use Rattle.hs_schema.specs.Catalogue.{Things}
use Rattle.hs_nametext.specs.Names.{name_text}
use Rattle.hs_keytext.specs.Places.{places_text, AreColumns}
use Rattle.hs_parttext.specs.Lines.{IsLine}
use Rattle.hs_parttext.specs.Named.{IsName, IsNamed, IsBehind}
use Rattle.hs_shorttext.specs.declared.index.NewIndex.{NewIndex}
use Rattle.hs_shorttext.specs.Tables.{IsTable, columns_of}

-- what stands behind the table's name
abbrev pub listed_text : List Column → List ℕ → List ℕ
listed_text columns places = codes "(" ++ (places_text columns places ++ codes ")")

abbrev pub index_text : Things → List ℕ → List ℕ → List ℕ → List ℕ
index_text things name table places = codes "CREATE INDEX " ++ (name_text name ++ (codes " ON " ++ (name_text table ++ listed_text (columns_of things table) places)))

-- an index on columns of a table of the catalogue
pub record IsIndex (things : Things) (i : NewIndex) : Type 0 where
  pub named : IsName i.name
  pub table : IsName i.table
  pub known : IsTable things i.table
  pub columns : AreColumns (columns_of things i.table) i.columns

-- the text is that of this index
abbrev pub IsIndexText : Things → List ℕ → NewIndex → Type 0
IsIndexText things = IsLine (IsIndex things) (λ i. index_text things i.name i.table i.columns)

-- ---- parts of the text

-- columns of the table of this name, which are all of the text
pub record AreListed (things : Things) (table text : List ℕ) (places : List ℕ) : Type 0 where
  pub known : IsTable things table
  pub lawful : AreColumns (columns_of things table) places
  pub written : text ≡ listed_text (columns_of things table) places

-- what stands behind the index's name, whichever that is: a table's name and columns
abbrev pub IsOn : Things → List ℕ → List ℕ → List ℕ × List ℕ → Type 0
IsOn things name = IsBehind (codes " ON ") (IsNamed (AreListed things))
