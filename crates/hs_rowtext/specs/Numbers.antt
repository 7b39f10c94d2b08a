-- Whole numbers at the front of a text.
use Rattle.std.specs.Prelude.{◌≡◌, ℕ, ◌<◌, ◌^◌, Bool, false, List, [], ◌∷◌, ◌++◌}
use Rattle.std.specs.Fmt.{decimal}
use Rattle.hs_lexer.specs.Bytes.{is_digit}

abbrev pub begins_digit : List ℕ → Bool
begins_digit [] = false
begins_digit (b ∷ bytes) = is_digit b

-- a text that begins with the digits of this number of 64 bits, without a leading zero, and goes on with no digit
pub record IsNumberAt (text : List ℕ) (n : ℕ) (rest : List ℕ) : Type 0 where
  pub lawful : n < 2 ^ 64
  pub written : text ≡ decimal n ++ rest
  pub ends : begins_digit rest ≡ false
