-- How values are written.
use Rattle.std.specs.Prelude.{◌≡◌, ◌<◌, ◌^◌, ℕ, ℤ, Bool, true, false, ◌⊎◌, ◌==◌, ◌||◌, List, [], ◌∷◌, ◌++◌, codes, IsUtf8}
use Rattle.std.specs.Fmt.{decimal, signed_decimal}
use Rattle.std.specs.List.{list_any}
use Rattle.hs_decimal.specs.Text.{text_of}
use Rattle.hs_temporal.specs.Days.{IsDay, IsMicros}
use Rattle.hs_temporal.specs.Texts.{date_text, stamp_text}
use Rattle.hs_values.specs.declared.sql_type.SqlType.{SqlType}
use Rattle.hs_values.specs.declared.value.Value.{Value}
use Rattle.hs_values.specs.declared.value.Value.TheVariants as v
use Rattle.hs_values.specs.SqlType.{fits_of, is_signed}
use Rattle.hs_valuetext.specs.Texts.{chars_text}

abbrev pub truth_text : Bool → List ℕ
truth_text true = codes "TRUE"
truth_text false = codes "FALSE"

abbrev pub day_text : List ℕ → List ℕ
day_text date = codes "DATE '" ++ date ++ codes "'"

abbrev pub moment_text : List ℕ → List ℕ
moment_text stamp = codes "TIMESTAMP '" ++ stamp ++ codes "'"

-- the one text of each value
abbrev pub value_text : Value → List ℕ
value_text v.Null = codes "NULL"
value_text (v.Bool b) = truth_text b
value_text (v.Int n) = signed_decimal n
value_text (v.Dec d) = text_of d
value_text (v.Text text) = chars_text text
value_text (v.Day day) = day_text (date_text day)
value_text (v.Micros micros) = moment_text (stamp_text micros)

-- a text value has a spelling in UTF-8
abbrev pub IsSpelled : Value → Type 0
IsSpelled (v.Text text) = IsUtf8 text
IsSpelled _ = Unit {0}

-- a comma or a closing parenthesis, which stand behind each value
abbrev pub is_end : ℕ → Bool
is_end b = b == 44 || b == 41

abbrev pub begins_end : List ℕ → Bool
begins_end [] = false
begins_end (b ∷ bytes) = is_end b

-- a text that begins with this value of the type as it is written, and goes on with a comma or a closing parenthesis
pub record IsValueAt (sql_type : SqlType) (text : List ℕ) (value : Value) (rest : List ℕ) : Type 0 where
  pub fits : fits_of sql_type value ≡ true
  pub spelled : IsSpelled value
  pub written : text ≡ value_text value ++ rest
  pub ends : begins_end rest ≡ true

abbrev pub is_text : Value → Bool
is_text (v.Text text) = true
is_text _ = false

-- the text is that of a value of the type that is no text
pub record IsPlainValue (sql_type : SqlType) (text : List ℕ) (value : Value) : Type 0 where
  pub fits : fits_of sql_type value ≡ true
  pub plain : is_text value ≡ false
  pub written : value_text value ≡ text

-- the text is that of a whole number of 64 bits, with a sign or without
pub record IsSigned (text : List ℕ) (n : ℤ) : Type 0 where
  pub lawful : is_signed 63 n ≡ true
  pub written : signed_decimal n ≡ text

pub record IsUnsigned (text : List ℕ) (n : ℕ) : Type 0 where
  pub lawful : n < 2 ^ 64
  pub written : decimal n ≡ text

-- the text is that of a day, or of a moment
pub record IsDayText (text : List ℕ) (day : ℤ) : Type 0 where
  pub lawful : IsDay day
  pub written : day_text (date_text day) ≡ text

pub record IsMomentText (text : List ℕ) (micros : ℤ) : Type 0 where
  pub lawful : IsMicros micros
  pub written : moment_text (stamp_text micros) ≡ text

-- a text value of the type at the front of a text
pub record IsTextAt (sql_type : SqlType) (text : List ℕ) (value : Value) (rest : List ℕ) : Type 0 where
  pub at : IsValueAt sql_type text value rest
  pub is : is_text value ≡ true

-- a quote or a `U`, with which the texts of texts begin, and no others
abbrev pub begins_text : List ℕ → Bool
begins_text [] = false
begins_text (b ∷ bytes) = b == 39 || b == 85

-- a text in two parts: what is before the first comma or closing parenthesis, and the rest, which is empty where there is none
pub record IsToken (text token rest : List ℕ) : Type 0 where
  pub parts : text ≡ token ++ rest
  pub before : list_any is_end token ≡ false
  pub ends : (rest ≡ []) ⊎ (begins_end rest ≡ true)
