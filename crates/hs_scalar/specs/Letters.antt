-- UPPER and LOWER: of each character of a text, the capital or the small letter of ASCII.
use Rattle.std.specs.Prelude.{ℕ, List, map, encode_utf8_all}
use Rattle.std.specs.Char.{to_ascii_uppercase, to_ascii_lowercase}
use Rattle.std.specs.Str.{chars}

-- the bytes of a text's characters, where each of the letters 'a' to 'z' is its capital and every other character stays
abbrev pub upper_of : List ℕ → List ℕ
upper_of text = encode_utf8_all (map to_ascii_uppercase (chars text))

-- the bytes of a text's characters, where each of the capitals 'A' to 'Z' is its small letter and every other character stays
abbrev pub lower_of : List ℕ → List ℕ
lower_of text = encode_utf8_all (map to_ascii_lowercase (chars text))
