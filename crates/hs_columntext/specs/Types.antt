-- Types at the front of a text.
use Rattle.std.specs.Prelude.{◌≡◌, ℕ, ◌≤◌, Bool, true, false, List, ◌∷◌, ◌++◌}
use Rattle.std.specs.Fmt.{decimal}
use Rattle.hs_values.specs.declared.sql_type.SqlType.{SqlType}
use Rattle.hs_values.specs.declared.sql_type.SqlType.TheVariants as t
use Rattle.hs_valuetext.specs.Types.{type_text, is_type}

-- the text begins with this type as it is written
pub record IsTypeAt (text : List ℕ) (sql_type : SqlType) (rest : List ℕ) : Type 0 where
  pub lawful : is_type sql_type ≡ true
  pub written : text ≡ type_text sql_type ++ rest

-- a type whose text is a word alone
abbrev pub is_word : SqlType → Bool
is_word (t.Decimal precision scale) = false
is_word (t.Varchar most) = false
is_word _ = true

pub record IsWordAt (text : List ℕ) (sql_type : SqlType) (rest : List ℕ) : Type 0 where
  pub word : is_word sql_type ≡ true
  pub written : text ≡ type_text sql_type ++ rest

-- the text begins with a number in these bounds, and with this byte behind it
pub record IsBoundedAt (least most close : ℕ) (text : List ℕ) (n : ℕ) (rest : List ℕ) : Type 0 where
  pub low : least ≤ n
  pub high : n ≤ most
  pub written : text ≡ decimal n ++ (close ∷ rest)

-- the text is what stands behind `DECIMAL(`, or behind `VARCHAR(`, in this type's, and more
pub record IsBehind (word text : List ℕ) (sql_type : SqlType) (rest : List ℕ) : Type 0 where
  pub lawful : is_type sql_type ≡ true
  pub written : word ++ text ≡ type_text sql_type ++ rest
