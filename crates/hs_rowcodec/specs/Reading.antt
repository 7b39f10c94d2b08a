-- The row that bytes encode, read from the left: a value at the front, and what stands behind it.
use Rattle.std.specs.Prelude.{ℕ, ◌+◌, ◌*◌, true, false, ◌==◌, ◌&&◌, nat_le, if◌then◌else◌, List, [], ◌∷◌, length, take, drop, Option, Some, None, ℤ}
use Rattle.std.specs.Int.{Width, w16, w32, w64, w128, cast_signed, from_be_bytes}
use Rattle.std.specs.Option.{unwrap_or}
use Rattle.std.specs.Str.{is_utf8}
use Rattle.hs_values.specs.declared.sql_type.SqlType.{SqlType}
use Rattle.hs_values.specs.declared.sql_type.SqlType.TheVariants as t
use Rattle.hs_values.specs.declared.value.Value.{Value}
use Rattle.hs_values.specs.declared.value.Value.TheVariants as v
use Rattle.hs_values.specs.SqlType.{fits_of}

-- the whole number that bytes are in two's complement
abbrev pub signed_in : Width → List ℕ → ℤ
signed_in width bytes = cast_signed width (from_be_bytes width bytes)

-- the value that bytes are as a whole number, as a decimal's units, as a day, as a moment
abbrev pub int_in : Width → List ℕ → Value
int_in width bytes = v.Int (signed_in width bytes)

abbrev pub dec_in : ℕ → List ℕ → Value
dec_in scale bytes = v.Dec (record { units = signed_in w128 bytes; scale = scale })

abbrev pub day_in : List ℕ → Value
day_in bytes = v.Day (signed_in w32 bytes)

abbrev pub micros_in : List ℕ → Value
micros_in bytes = v.Micros (signed_in w64 bytes)

-- so many bytes as a value
abbrev pub fixed_at : ℕ → (List ℕ → Value) → List ℕ → Option (Value × List ℕ)
fixed_at len read bytes =
    if nat_le len (length bytes) then Some (read (take len bytes), drop len bytes) else None

-- so many bytes as a text
abbrev pub chars_at : ℕ → List ℕ → Option (Value × List ℕ)
chars_at len bytes =
    if nat_le len (length bytes) && is_utf8 (take len bytes) then Some (v.Text (take len bytes), drop len bytes) else None

abbrev pub text_at : List ℕ → Option (Value × List ℕ)
text_at (high ∷ low ∷ bytes) = chars_at (high * 256 + low) bytes
text_at _ = None

abbrev pub truth_at : List ℕ → Option (Value × List ℕ)
truth_at [] = None
truth_at (b ∷ bytes) = if b == 0 then Some (v.Bool false, bytes) else if b == 1 then Some (v.Bool true, bytes) else None

-- what stands behind the tag of a value that is not NULL
abbrev pub body_at : SqlType → List ℕ → Option (Value × List ℕ)
body_at t.Small bytes = fixed_at 2 (int_in w16) bytes
body_at t.Integer bytes = fixed_at 4 (int_in w32) bytes
body_at t.Big bytes = fixed_at 8 (int_in w64) bytes
body_at (t.Decimal precision scale) bytes = fixed_at 16 (dec_in scale) bytes
body_at (t.Varchar most) bytes = text_at bytes
body_at t.Bool bytes = truth_at bytes
body_at t.Date bytes = fixed_at 4 day_in bytes
body_at t.Stamp bytes = fixed_at 8 micros_in bytes

-- one of the type's values, or none
abbrev pub if_fits : SqlType → Option (Value × List ℕ) → Option (Value × List ℕ)
if_fits sql_type None = None
if_fits sql_type (Some found) = if fits_of sql_type found.0 then Some found else None

-- the value at the front
abbrev pub value_at : SqlType → List ℕ → Option (Value × List ℕ)
value_at sql_type [] = None
value_at sql_type (tag ∷ bytes) =
    if tag == 0 then Some (v.Null, bytes) else if tag == 1 then if_fits sql_type (body_at sql_type bytes) else None

-- a value and the row behind it
abbrev pub with_front : Value → Option (List Value) → Option (List Value)
with_front value None = None
with_front value (Some row) = Some (value ∷ row)

-- the row of these types whose encoding is exactly these bytes
abbrev pub row_of : List SqlType → List ℕ → Option (List Value)
row_of [] [] = Some []
row_of [] (b ∷ bytes) = None
row_of (sql_type ∷ types) bytes =
    elim (value_at sql_type bytes) [ None ↦ None | Some found ↦ with_front found.0 (row_of types found.1) ]

-- the values of that row
abbrev pub values_in : List SqlType → List ℕ → List Value
values_in types bytes = unwrap_or (row_of types bytes) []
