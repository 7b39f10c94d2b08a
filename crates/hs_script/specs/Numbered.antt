-- Lines with the numbers of the changes that made their things.
use Rattle.std.specs.Prelude.{◌≡◌, ◌≢◌, ℕ, ◌<◌, ◌^◌, Bool, true, false, if◌then◌else◌, List, [], ◌∷◌, ◌++◌, codes}
use Rattle.std.specs.Fmt.{decimal}
use Rattle.std.specs.List.{flat_map, AllByRecursion}
use Rattle.hs_parttext.specs.Lines.{is_feed, has_feed}

-- ---- one line

-- no space is in it
abbrev pub IsWord : List ℕ → Type 0
IsWord [] = Unit {0}
IsWord (b ∷ bytes) = (b ≢ 32) × IsWord bytes

-- what stands behind each line
abbrev pub number_part : ℕ → List ℕ
number_part number = codes " NUMBER " ++ decimal number

-- and with a line feed at its end
abbrev pub line_end : ℕ → List ℕ
line_end number = number_part number ++ 10 ∷ []

-- the line is this text with this number behind it
pub record IsNumberedLine (line : List ℕ) (p : List ℕ × ℕ) : Type 0 where
  pub lawful : p.1 < 2 ^ 64
  pub written : line ≡ p.0 ++ number_part p.1

-- such a line, with a line feed at its end, is at the front of the text
pub record IsNumberedAt (text : List ℕ) (p : List ℕ × ℕ) (rest : List ℕ) : Type 0 where
  pub lawful : p.1 < 2 ^ 64
  pub bare : has_feed p.0 ≡ false
  pub written : text ≡ p.0 ++ (line_end p.1 ++ rest)

-- ---- several of one number

-- no line of this number is at the front of the text
abbrev pub IsPast : ℕ → List ℕ → Type 0
IsPast number text = (line rest : List ℕ) → has_feed line ≡ false → text ≢ line ++ (line_end number ++ rest)

-- lines, each with this number and a line feed behind it
abbrev pub numbered_lines : ℕ → List (List ℕ) → List ℕ
numbered_lines number lines = flat_map (λ line. line ++ line_end number) lines

-- lines with line feeds between them
abbrev pub joined : List (List ℕ) → List ℕ
joined [] = []
joined (line ∷ lines) = line ++ flat_map (λ l. 10 ∷ l) lines

abbrev pub is_some_line : List (List ℕ) → Bool
is_some_line [] = false
is_some_line (line ∷ lines) = true

-- all lines of one number are at the front of the text: this is the number, and this the lines without it, with line feeds
-- between them
pub record IsRunAt (text : List ℕ) (p : ℕ × List ℕ) (rest : List ℕ) : Type 0 where
  pub lawful : p.0 < 2 ^ 64
  pub lines : List (List ℕ)
  pub some : is_some_line lines ≡ true
  pub bare : AllByRecursion (λ line. has_feed line ≡ false) lines
  pub said : p.1 ≡ joined lines
  pub written : text ≡ numbered_lines p.0 lines ++ rest
  pub past : IsPast p.0 rest

-- ---- lines of a text

-- a line feed with the number before it, and each other byte as it is
abbrev pub numbered_byte : ℕ → ℕ → List ℕ
numbered_byte number b = if is_feed b then line_end number else b ∷ []

-- the text with this number at the end of each of its lines, and a line feed behind the last one too
abbrev pub numbered_text : ℕ → List ℕ → List ℕ
numbered_text number text = flat_map (numbered_byte number) text ++ line_end number
