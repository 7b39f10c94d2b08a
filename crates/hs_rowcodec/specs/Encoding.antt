-- The bytes of a row.
use Rattle.std.specs.Prelude.{◌≡◌, ℕ, ◌^◌, ◌<◌, ℤ, Bool, true, if◌then◌else◌, List, [], ◌∷◌, ◌++◌, length, slice_index, nat_le, IsUtf8}
use Rattle.std.specs.List.{list_all}
use Rattle.std.specs.Int.{Width, w16, w32, w64, w128, cast_unsigned, to_be_bytes}
use Rattle.hs_values.specs.declared.sql_type.SqlType.{SqlType}
use Rattle.hs_values.specs.declared.sql_type.SqlType.TheVariants as t
use Rattle.hs_values.specs.declared.value.Value.{Value}
use Rattle.hs_values.specs.declared.value.Value.TheVariants as v
use Rattle.hs_values.specs.SqlType.{row_fits}

-- numbers that are bytes, as those of every slice of `u8`
abbrev pub AreBytes : List ℕ → Type 0
AreBytes bytes = (i : ℕ) → slice_index bytes i < 256

-- a whole number in two's complement, its highest byte first
unfoldable pub signed_bytes : Width → ℤ → List ℕ
signed_bytes width n = to_be_bytes width (cast_unsigned width n)

-- how wide a type's whole numbers are written
abbrev pub width_of : SqlType → Width
width_of t.Small = w16
width_of t.Integer = w32
width_of _ = w64

-- what stands behind the tag of a value that is not NULL
abbrev pub body_bytes : SqlType → Value → List ℕ
body_bytes _ v.Null = []
body_bytes sql_type (v.Int n) = signed_bytes (width_of sql_type) n
body_bytes _ (v.Dec d) = signed_bytes w128 d.units
body_bytes _ (v.Text text) = to_be_bytes w16 (length text) ++ text
body_bytes _ (v.Bool b) = (if b then 1 else 0) ∷ []
body_bytes _ (v.Day day) = signed_bytes w32 day
body_bytes _ (v.Micros micros) = signed_bytes w64 micros

-- a value's bytes: 0 for NULL, and 1 in front of the body of any other
abbrev pub value_bytes : SqlType → Value → List ℕ
value_bytes _ v.Null = 0 ∷ []
value_bytes sql_type value = 1 ∷ body_bytes sql_type value

-- a row's bytes: those of its values, column by column
abbrev pub row_bytes : List SqlType → List Value → List ℕ
row_bytes (sql_type ∷ types) (value ∷ row) = value_bytes sql_type value ++ row_bytes types row
row_bytes _ _ = []

-- a text has a spelling in UTF-8, whose length can be written in 2 bytes
abbrev pub IsWritable : Value → Type 0
IsWritable (v.Text text) = IsUtf8 text × (length text < 2 ^ 16)
IsWritable _ = Unit {0}

abbrev pub AreWritable : List Value → Type 0
AreWritable [] = Unit {0}
AreWritable (value ∷ row) = IsWritable value × AreWritable row

-- the bytes are the encoding of this row, which has one value for each of these types, each one of its own type's
pub record Encodes (types : List SqlType) (row : List Value) (bytes : List ℕ) : Type 0 where
  pub fits : row_fits types row ≡ true
  pub writable : AreWritable row
  pub spelled : row_bytes types row ≡ bytes

-- the types whose texts have a length of 2 bytes each: a character has at most 4 bytes
abbrev pub is_storable : SqlType → Bool
is_storable (t.Varchar most) = nat_le most 16_383
is_storable _ = true

abbrev pub are_storable : List SqlType → Bool
are_storable types = list_all is_storable types
