-- How the columns of a table are written.
use Rattle.std.specs.Prelude.{◌≡◌, ℕ, true, List, [], ◌∷◌, ◌++◌, Option, None, Some, codes, IsUtf8}
use Rattle.std.specs.List.{All}
use Rattle.hs_plan.specs.declared.definition.Column.{Column}
use Rattle.hs_values.specs.declared.sql_type.SqlType.{SqlType}
use Rattle.hs_values.specs.declared.value.Value.{Value}
use Rattle.hs_values.specs.SqlType.{fits_of}
use Rattle.hs_values.specs.Lawful.{IsLawful}
use Rattle.hs_valuetext.specs.Types.{type_text, is_type}
use Rattle.hs_valuetext.specs.Values.{value_text, IsSpelled}
use Rattle.hs_nametext.specs.Names.{name_text, is_name}
use Rattle.hs_columntext.specs.Lists.{list_text, IsItemAt, AreAt}

-- ---- how they are written

-- what stands behind a column's type
abbrev pub default_text : Option Value → List ℕ
default_text None = []
default_text (Some value) = codes " DEFAULT " ++ value_text value

-- what stands behind its name
abbrev pub typed_text : SqlType × Option Value → List ℕ
typed_text p = 32 ∷ (type_text p.0 ++ default_text p.1)

abbrev pub column_text : Column → List ℕ
column_text c = name_text c.name ++ typed_text (c.data_type, c.default)

-- with commas between
abbrev pub columns_text : List Column → List ℕ
columns_text columns = list_text column_text columns

-- ---- which can be written

-- what is behind DEFAULT is one of the type's values
abbrev pub IsDefault : SqlType → Option Value → Type 0
IsDefault sql_type None = Unit {0}
IsDefault sql_type (Some value) = (fits_of sql_type value ≡ true) × IsSpelled value

abbrev pub IsTyped : SqlType × Option Value → Type 0
IsTyped p = (is_type p.0 ≡ true) × IsDefault p.0 p.1

-- a column with a name, a type that can be written, and a DEFAULT of the type, or none
pub record IsColumn (c : Column) : Type 0 where
  pub named : is_name c.name ≡ true
  pub utf8 : IsUtf8 c.name
  pub typed : IsTyped (c.data_type, c.default)

-- what is behind DEFAULT can be written
abbrev pub IsPrintable : Option Value → Type 0
IsPrintable None = Unit {0}
IsPrintable (Some value) = IsLawful value

abbrev pub ArePrintable : List Column → Type 0
ArePrintable columns = All (λ c. IsPrintable c.default) columns

-- ---- at the front of a text

-- the text begins with a column as it is written, and goes on with a comma or a closing parenthesis
abbrev pub IsColumnAt : List ℕ → Column → List ℕ → Type 0
IsColumnAt = IsItemAt IsColumn column_text

-- the text begins with columns as they are written, and a closing parenthesis
abbrev pub AreColumnsAt : List ℕ → List Column → List ℕ → Type 0
AreColumnsAt = AreAt IsColumn column_text

-- the text is a column as it is written
pub record IsLastColumn (text : List ℕ) (c : Column) : Type 0 where
  pub lawful : IsColumn c
  pub written : text ≡ column_text c

-- a column of this name, and what stands behind the name
pub record IsNamed (name text : List ℕ) (c : Column) (rest : List ℕ) : Type 0 where
  pub is : c.name ≡ name
  pub at : IsItemAt IsTyped typed_text text (c.data_type, c.default) rest
