-- How the values of rows are written.
use Rattle.std.specs.Prelude.{◌≡◌, ℕ, ◌≤◌, true, List, [], ◌∷◌, ◌++◌, map, length, codes}
use Rattle.std.specs.List.{flat_map, AllByRecursion}
use Rattle.hs_plan.specs.declared.definition.Column.{Column}
use Rattle.hs_rowcodec.specs.Encoding.{row_bytes}
use Rattle.hs_values.specs.declared.sql_type.SqlType.{SqlType}
use Rattle.hs_values.specs.declared.value.Value.{Value}
use Rattle.hs_values.specs.SqlType.{row_fits}
use Rattle.hs_valuetext.specs.Values.{value_text, IsSpelled, IsValueAt}

-- a value behind another one
abbrev pub behind_comma : Value → List ℕ
behind_comma value = 44 ∷ value_text value

abbrev pub others_text : List Value → List ℕ
others_text row = flat_map behind_comma row

-- the values' texts, with commas between
abbrev pub row_text : List Value → List ℕ
row_text [] = []
row_text (value ∷ row) = value_text value ++ others_text row

abbrev pub types_of : List Column → List SqlType
types_of columns = map (λ c. c.data_type) columns

-- a row of these columns: one value of each column's type, in at most 4,000 bytes of a row's encoding
pub record IsRowOf (columns : List Column) (row : List Value) : Type 0 where
  pub fits : row_fits (types_of columns) row ≡ true
  pub spelled : AllByRecursion IsSpelled row
  pub short : length (row_bytes (types_of columns) row) ≤ 4_000

-- a comma and behind it a value of the type, at the front of a text
pub record IsBehindComma (sql_type : SqlType) (text : List ℕ) (value : Value) (rest : List ℕ) : Type 0 where
  pub inner : List ℕ
  pub comma : text ≡ 44 ∷ inner
  pub at : IsValueAt sql_type inner value rest

-- values of these types, each behind a comma, and a closing parenthesis: all of the text
pub record AreOthers (types : List SqlType) (text : List ℕ) (row : List Value) : Type 0 where
  pub fits : row_fits types row ≡ true
  pub spelled : AllByRecursion IsSpelled row
  pub written : text ≡ others_text row ++ codes ")"

-- behind these values, which were read before, such values
pub record Completes (before : List Value) (types : List SqlType) (text : List ℕ) (row : List Value) : Type 0 where
  pub others : List Value
  pub is : row ≡ before ++ others
  pub are : AreOthers types text others

-- values of these types with commas between, and a closing parenthesis: all of the text
pub record AreValues (types : List SqlType) (text : List ℕ) (row : List Value) : Type 0 where
  pub fits : row_fits types row ≡ true
  pub spelled : AllByRecursion IsSpelled row
  pub written : text ≡ row_text row ++ codes ")"

-- the text is that of a row of these columns behind `VALUES(`
pub record IsRowText (columns : List Column) (text : List ℕ) (row : List Value) : Type 0 where
  pub of : IsRowOf columns row
  pub written : text ≡ row_text row ++ codes ")"
