-- The text of a decimal, and the decimal that a text spells.
use Rattle.std.specs.Prelude.{ℕ, ◌+◌, ◌-◌, ◌/◌, ◌%◌, ◌^◌, ◌≤◌, ℤ, pos, negsuc, ◌≤ℤ◌, ◌&&◌, unsigned_abs, if◌then◌else◌, ◌==◌, nat_lt, nat_le, List, [], ◌∷◌, ◌++◌, length, replicate, take, drop, Some, None, Option}
use Rattle.std.specs.Fmt.{decimal}
use Rattle.std.specs.List.{position_or_len}
use Rattle.std.specs.Str.{all_ascii_digits}
use Rattle.std.specs.Str.Parse.{IsNumeral, digits_value}
use Rattle.hs_values.specs.declared.value.Dec.{Dec}

-- ---- what is printed

-- a number's digits, with zeros in front where they are fewer than the places
unfoldable pub padded : ℕ → ℕ → List ℕ
padded places n = replicate (places - length (decimal n)) 48 ++ decimal n

-- `-` in front of a number below zero
abbrev pub sign_of : ℤ → List ℕ
sign_of (pos n) = []
sign_of (negsuc n) = 45 ∷ []

-- a point and as many digits behind it as the scale says; nothing at a scale of 0
abbrev pub fraction_of : ℕ → ℕ → List ℕ
fraction_of scale n = if scale == 0 then [] else 46 ∷ padded scale n

-- the digits in front of the point
abbrev pub whole_of : Dec → List ℕ
whole_of a = decimal (unsigned_abs a.units / 10 ^ a.scale)

unfoldable pub text_of : Dec → List ℕ
text_of a = sign_of a.units ++ whole_of a ++ fraction_of a.scale (unsigned_abs a.units % 10 ^ a.scale)

-- the number of these units, without a sign, at this scale
abbrev pub unsigned : ℕ → ℕ → Dec
unsigned size scale = record { units = pos size; scale = scale }

-- ---- what is read

-- the text is a number: digits, or digits with one point and a digit behind it, at most 38 digits in all; and d is this
-- number, with the digits behind the point as its scale
pub data Spells : List ℕ → Dec → Type 0 where
  whole : (digits : List ℕ) → IsNumeral 10 digits → length digits ≤ 38 → Spells digits (record { units = pos (digits_value 10 digits); scale = 0 })
  pointed : (digits fraction : List ℕ) → IsNumeral 10 digits → IsNumeral 10 fraction → length digits + length fraction ≤ 38 → Spells (digits ++ 46 ∷ fraction) (record { units = pos (digits_value 10 (digits ++ fraction)); scale = length fraction })

-- the number of these digits and of those behind its point, if they are digits, one or more in front, and at most 38
abbrev pub number_of : List ℕ → List ℕ → Option Dec
number_of digits fraction =
    if nat_lt 0 (length digits) && nat_le (length digits + length fraction) 38 && all_ascii_digits digits && all_ascii_digits fraction
    then Some (record { units = pos (digits_value 10 (digits ++ fraction)); scale = length fraction })
    else None

-- the number that a text spells, found by its first point
unfoldable pub read_of : List ℕ → Option Dec
read_of text =
    let point = position_or_len (λ b. b == 46) text in
    if point == length text then number_of text []
    else (if point + 1 == length text then None else number_of (take point text) (drop (point + 1) text))

-- a number that can be written without a sign, in at most 38 digits
pub record IsReadable (a : Dec) : Type 0 where
  pub unsigned : pos 0 ≤ℤ a.units
  pub few : length (whole_of a) + a.scale ≤ 38
