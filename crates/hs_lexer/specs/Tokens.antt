-- What it is for tokens to be those of a text, and for a fault to be its first.
use Rattle.std.specs.Prelude.{◌≡◌, ℕ, ◌+◌, ◌<◌, ◌≤◌, true, None, Some, List, [], ◌∷◌, length, count_by}
use Rattle.hs_lexer.specs.declared.token.TokenKind.{TokenKind}
use Rattle.hs_lexer.specs.declared.token.TokenKind.TheVariants.{Word, Quoted, Number}
use Rattle.hs_lexer.specs.declared.token.Token.{Token as Found}
use Rattle.hs_lexer.specs.declared.lexeme.Lexeme.{Lexeme}
use Rattle.hs_lexer.specs.declared.lexeme.Lexeme.TheVariants.{Token}
use Rattle.hs_lexer.specs.declared.fault.LexFault.{LexFault}
use Rattle.hs_lexer.specs.declared.fault.LexFault.TheVariants.{BadChar}
use Rattle.hs_lexer.specs.Bytes.{is_digit}
use Rattle.hs_lexer.specs.Pieces.{begun, IsFront, IsUnfinished, Spells}
use Rattle.hs_lexer.specs.Reading.{fault_in, unfinished}
use Rattle.hs_lexer.specs.Content.{is_slice, is_name, name_of, written}

-- white space and comments stand between tokens
abbrev pub IsBetween : Lexeme → Type 0
IsBetween (Token kind) = ⊥
IsBetween _ = Unit {0}

-- The bytes, which stand at a place of the text, are these tokens: piece by piece, each a sound one and the longest of the
-- kind that begins there, and those that are no white space and no comment are the tokens.
pub data AreTokens : ℕ → List ℕ → List Found → Type 0 where
  none : (at : ℕ) → AreTokens at [] []
  between : (at : ℕ) (bytes : List ℕ) (lexeme : Lexeme) (piece rest : List ℕ) (tokens : List Found)
      → IsFront bytes lexeme piece rest → IsBetween lexeme → AreTokens (at + length piece) rest tokens → AreTokens at bytes tokens
  token : (at : ℕ) (bytes : List ℕ) (kind : TokenKind) (piece rest : List ℕ) (tokens : List Found)
      → IsFront bytes (Token kind) piece rest → fault_in at (Token kind) piece ≡ None → AreTokens (at + length piece) rest tokens
      → AreTokens at bytes (record { kind = kind; start = at; end = at + length piece } ∷ tokens)

-- Their first fault is this: behind sound pieces stands a byte that begins no piece, a piece that isn't finished, or one
-- that isn't sound.
pub data IsFault : ℕ → List ℕ → LexFault → Type 0 where
  later : (at : ℕ) (bytes : List ℕ) (lexeme : Lexeme) (piece rest : List ℕ) (fault : LexFault)
      → IsFront bytes lexeme piece rest → fault_in at lexeme piece ≡ None → IsFault (at + length piece) rest fault → IsFault at bytes fault
  nothing : (at b : ℕ) (bytes : List ℕ) → begun (b ∷ bytes) ≡ None → IsFault at (b ∷ bytes) (BadChar at)
  unclosed : (at : ℕ) (bytes : List ℕ) (lexeme : Lexeme) → IsUnfinished bytes lexeme → IsFault at bytes (unfinished at lexeme)
  unsound : (at : ℕ) (bytes : List ℕ) (lexeme : Lexeme) (piece rest : List ℕ) (fault : LexFault)
      → IsFront bytes lexeme piece rest → fault_in at lexeme piece ≡ Some fault → IsFault at bytes fault

-- the tokens stand one behind the other, from one place to another, and each has a byte at least
abbrev pub AreInOrder : ℕ → ℕ → List Found → Type 0
AreInOrder from end [] = Unit {0}
AreInOrder from end (first ∷ others) = (from ≤ first.start) × (first.start < first.end) × (first.end ≤ end) × AreInOrder first.end end others

-- each of them is a slice of the text
abbrev pub AreSlices : List ℕ → List Found → Type 0
AreSlices source [] = Unit {0}
AreSlices source (first ∷ others) = (is_slice source first.start first.end ≡ true) × AreSlices source others

-- a number is digits, or digits with a point and digits behind it, and has at most 38 digits
pub record IsShortNumber (number : List ℕ) : Type 0 where
  pub spelled : Spells (Token Number) number
  pub short : count_by is_digit number ≤ 38

-- what a token of this kind says: a word and a quoted name are a name of 1 to 128 bytes without control characters
abbrev pub IsSoundAs : TokenKind → List ℕ → Found → Type 0
IsSoundAs Word source found = is_name (name_of source found) ≡ true
IsSoundAs Quoted source found = is_name (name_of source found) ≡ true
IsSoundAs Number source found = IsShortNumber (written source found)
IsSoundAs _ source found = Unit {0}

abbrev pub AreSound : List ℕ → List Found → Type 0
AreSound source [] = Unit {0}
AreSound source (first ∷ others) = IsSoundAs first.kind source first × AreSound source others
