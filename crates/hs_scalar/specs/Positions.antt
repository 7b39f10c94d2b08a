-- SUBSTRING: the characters of a text by their positions, which count from 1.
use Rattle.std.specs.Prelude.{ℕ, ℤ, pos, negsuc, ◌+ℤ◌, ◌-ℤ◌, List, take, drop}
use Rattle.std.specs.declared.option.Option.{Option}
use Rattle.std.specs.declared.option.Option.TheVariants.{None, Some}
use Rattle.std.specs.Str.{chars, encode_utf8_all}

-- how many positions, from 1 on, are at most `last`
abbrev pub positions_through : ℤ → ℕ
positions_through (pos n) = n
positions_through (negsuc n) = 0

-- the characters up to the position `last`
abbrev pub characters_through : ℤ → List ℕ → List ℕ
characters_through last cs = take (positions_through last) cs

-- the characters from the position `first` on
abbrev pub characters_from : ℤ → List ℕ → List ℕ
characters_from first cs = drop (positions_through (first -ℤ pos 1)) cs

-- the characters from the position `first` on, and with a count up to the position `first + count - 1`
abbrev pub characters_at : ℤ → Option ℤ → List ℕ → List ℕ
characters_at first None cs = characters_from first cs
characters_at first (Some count) cs = characters_from first (characters_through (first +ℤ count -ℤ pos 1) cs)

-- the bytes of these characters of a text
abbrev pub substring_of : List ℕ → ℤ → Option ℤ → List ℕ
substring_of text first count = encode_utf8_all (characters_at first count (chars text))
