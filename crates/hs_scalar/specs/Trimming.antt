-- TRIM: a text without a character at one side or at both.
use Rattle.std.specs.Prelude.{ℕ, List, [], ◌∷◌, reverse, ◌==◌, if◌then◌else◌}
use Rattle.std.specs.Str.{chars, encode_utf8_all}
use Rattle.hs_scalar.specs.declared.trimming.Side.{Side}
use Rattle.hs_scalar.specs.declared.trimming.Side.TheVariants.{Leading, Trailing, Both}

-- the characters without every c at their start
abbrev pub without_leading : ℕ → List ℕ → List ℕ
without_leading c [] = []
without_leading c (d ∷ ds) = if d == c then without_leading c ds else d ∷ ds

-- the characters without every c at their end
abbrev pub without_trailing : ℕ → List ℕ → List ℕ
without_trailing c cs = reverse (without_leading c (reverse cs))

-- the characters without every c at that side
abbrev pub trimmed : Side → ℕ → List ℕ → List ℕ
trimmed Leading c cs = without_leading c cs
trimmed Trailing c cs = without_trailing c cs
trimmed Both c cs = without_trailing c (without_leading c cs)

-- the bytes of a text's characters without every c at that side
abbrev pub trim_of : List ℕ → Side → ℕ → List ℕ
trim_of text side c = encode_utf8_all (trimmed side c (chars text))
