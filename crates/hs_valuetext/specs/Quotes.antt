-- Texts between quotes.
use Rattle.std.specs.Prelude.{◌≡◌, ℕ, Bool, false, ◌==◌, if◌then◌else◌, List, [], ◌∷◌, ◌++◌}
use Rattle.std.specs.List.{flat_map}

-- a byte of a text between quotes: the quote itself stands twice
abbrev pub doubled_byte : ℕ → ℕ → List ℕ
doubled_byte quote b = if b == quote then quote ∷ quote ∷ [] else b ∷ []

abbrev pub doubled : ℕ → List ℕ → List ℕ
doubled quote text = flat_map (doubled_byte quote) text

abbrev pub quoted : ℕ → List ℕ → List ℕ
quoted quote text = quote ∷ doubled quote text ++ quote ∷ []

abbrev pub begins_with : ℕ → List ℕ → Bool
begins_with a [] = false
begins_with a (b ∷ bytes) = b == a

-- behind the opening quote: the content, and the closing quote, behind which no other one stands
pub record Closes (quote : ℕ) (text content rest : List ℕ) : Type 0 where
  pub written : text ≡ doubled quote content ++ quote ∷ rest
  pub closed : begins_with quote rest ≡ false

-- a text that begins with a content between quotes, behind which no other quote stands
pub record IsQuoted (quote : ℕ) (text content rest : List ℕ) : Type 0 where
  pub written : text ≡ quoted quote content ++ rest
  pub closed : begins_with quote rest ≡ false
