-- What the bytes of a text are good for. Those of a character beyond ASCII are 128 and above.
use Rattle.std.specs.Prelude.{ℕ, Bool, false, ◌==◌, ◌||◌, ◌&&◌, not, nat_lt, nat_le, List, [], ◌∷◌}

-- white space: tab, line feed, form feed, carriage return, space
abbrev pub is_white : ℕ → Bool
is_white b = b == 9 || b == 10 || b == 12 || b == 13 || b == 32

abbrev pub is_letter : ℕ → Bool
is_letter b = nat_le 65 b && nat_le b 90 || nat_le 97 b && nat_le b 122

abbrev pub is_digit : ℕ → Bool
is_digit b = nat_le 48 b && nat_le b 57

-- a word begins with a letter or `_`, and goes on with letters, digits and `_`
abbrev pub begins_word : ℕ → Bool
begins_word b = is_letter b || b == 95

abbrev pub is_in_word : ℕ → Bool
is_in_word b = is_letter b || is_digit b || b == 95

-- U+0000 to U+001F and U+007F
abbrev pub is_control : ℕ → Bool
is_control b = nat_lt b 32 || b == 127

abbrev pub is_in_line : ℕ → Bool
is_in_line b = not (b == 10)

-- the symbols of one byte: ( ) , . * + - / = < > ;
abbrev pub is_single : ℕ → Bool
is_single b = b == 40 || b == 41 || b == 44 || b == 46 || b == 42 || b == 43 || b == 45 || b == 47 || b == 61 || b == 60 || b == 62 || b == 59

-- those of two: <> != <= >= ||
abbrev pub is_pair : ℕ → ℕ → Bool
is_pair b c = b == 60 && c == 62 || b == 33 && c == 61 || b == 60 && c == 61 || b == 62 && c == 61 || b == 124 && c == 124

abbrev pub begins_symbol : ℕ → Bool
begins_symbol b = is_single b || b == 33 || b == 124

-- the bytes begin with this one
abbrev pub begins_with : ℕ → List ℕ → Bool
begins_with a [] = false
begins_with a (b ∷ bytes) = b == a

-- they begin with a digit
abbrev pub begins_digit : List ℕ → Bool
begins_digit [] = false
begins_digit (b ∷ bytes) = is_digit b
