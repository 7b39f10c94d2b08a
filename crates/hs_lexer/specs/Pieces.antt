-- A text is pieces, one behind the other: tokens, and what may stand between them.
use Rattle.std.specs.Prelude.{◌≡◌, ℕ, ◌≤◌, Bool, true, false, ◌==◌, ◌&&◌, not, if◌then◌else◌, List, [], ◌∷◌, ◌++◌, length, drop, Option, None, Some}
use Rattle.std.specs.List.{list_all}
use Rattle.hs_lexer.specs.declared.token.TokenKind.TheVariants.{Word, Quoted, Number, Text, UnicodeText, Symbol}
use Rattle.hs_lexer.specs.declared.lexeme.Lexeme.{Lexeme}
use Rattle.hs_lexer.specs.declared.lexeme.Lexeme.TheVariants.{White, Line, Block, Token}
use Rattle.hs_lexer.specs.Bytes.{is_white, begins_word, is_in_word, is_digit, is_in_line, is_single, is_pair, begins_symbol, begins_with}

-- ---- how a piece is written

-- no `*/` stands in the bytes
abbrev pub lacks_close : List ℕ → Bool
lacks_close [] = true
lacks_close (b ∷ bytes) = not (b == 42 && begins_with 47 bytes) && lacks_close bytes

-- the bytes with each quote doubled
abbrev pub doubled : ℕ → List ℕ → List ℕ
doubled quote [] = []
doubled quote (b ∷ bytes) = if b == quote then quote ∷ quote ∷ doubled quote bytes else b ∷ doubled quote bytes

-- one digit or more
abbrev pub is_digits : List ℕ → Bool
is_digits [] = false
is_digits (b ∷ bytes) = is_digit b && list_all is_digit bytes

abbrev pub is_symbol : List ℕ → Bool
is_symbol [] = false
is_symbol (b ∷ []) = is_single b
is_symbol (b ∷ c ∷ []) = is_pair b c
is_symbol _ = false

-- These bytes are such a piece: white space; a `--` comment without the line feed that ends it; a comment from `/*` to
-- the first `*/`; a word; digits, or digits with a point and digits behind it; a name in `"`, or a text in `'`, with such
-- quotes in it doubled; a text behind `U&`; a symbol.
pub data Spells : Lexeme → List ℕ → Type 0 where
  white : (b : ℕ) → is_white b ≡ true → Spells White (b ∷ [])
  line : (comment : List ℕ) → list_all is_in_line comment ≡ true → Spells Line (45 ∷ 45 ∷ comment)
  block : (comment : List ℕ) → lacks_close comment ≡ true → Spells Block (47 ∷ 42 ∷ (comment ++ 42 ∷ 47 ∷ []))
  word : (b : ℕ) (bytes : List ℕ) → begins_word b ≡ true → list_all is_in_word bytes ≡ true → Spells (Token Word) (b ∷ bytes)
  whole : (digits : List ℕ) → is_digits digits ≡ true → Spells (Token Number) digits
  pointed : (digits fraction : List ℕ) → is_digits digits ≡ true → is_digits fraction ≡ true → Spells (Token Number) (digits ++ 46 ∷ fraction)
  quoted : (name : List ℕ) → Spells (Token Quoted) (34 ∷ (doubled 34 name ++ 34 ∷ []))
  text : (inside : List ℕ) → Spells (Token Text) (39 ∷ (doubled 39 inside ++ 39 ∷ []))
  unicode_text : (inside : List ℕ) → Spells (Token UnicodeText) (85 ∷ 38 ∷ 39 ∷ (doubled 39 inside ++ 39 ∷ []))
  symbol : (bytes : List ℕ) → is_symbol bytes ≡ true → Spells (Token Symbol) bytes

-- ---- which piece stands at the front of a text

-- What the first bytes begin, or nothing. A comment comes before the symbols `-` and `/`, and a text behind `U&` before
-- the word `U`.
abbrev pub begun : List ℕ → Option Lexeme
begun [] = None
begun (b ∷ bytes) =
    if is_white b then Some White
    else if b == 45 && begins_with 45 bytes then Some Line
    else if b == 47 && begins_with 42 bytes then Some Block
    else if b == 85 && (begins_with 38 bytes && begins_with 39 (drop 1 bytes)) then Some (Token UnicodeText)
    else if begins_word b then Some (Token Word)
    else if is_digit b then Some (Token Number)
    else if b == 34 then Some (Token Quoted)
    else if b == 39 then Some (Token Text)
    else if begins_symbol b then Some (Token Symbol)
    else None

-- The quote that ends a piece isn't the first of two: nothing else has to be so behind a piece.
abbrev pub is_apart : Lexeme → List ℕ → Bool
is_apart (Token Quoted) rest = not (begins_with 34 rest)
is_apart (Token Text) rest = not (begins_with 39 rest)
is_apart (Token UnicodeText) rest = not (begins_with 39 rest)
is_apart _ rest = true

-- the text is a piece of this kind, and the rest
pub record IsPiece (bytes : List ℕ) (lexeme : Lexeme) (piece rest : List ℕ) : Type 0 where
  pub cut : bytes ≡ piece ++ rest
  pub spelled : Spells lexeme piece
  pub apart : is_apart lexeme rest ≡ true

-- it is the piece at the front of the text, and the rest: the longest of the kind that the text begins
pub record IsFront (bytes : List ℕ) (lexeme : Lexeme) (piece rest : List ℕ) : Type 0 where
  pub kind : begun bytes ≡ Some lexeme
  pub is : IsPiece bytes lexeme piece rest
  pub longest : (longer shorter : List ℕ) → IsPiece bytes lexeme longer shorter → length longer ≤ length piece

-- the text begins a piece of this kind, and none stands there
pub record IsUnfinished (bytes : List ℕ) (lexeme : Lexeme) : Type 0 where
  pub kind : begun bytes ≡ Some lexeme
  pub none : (piece rest : List ℕ) → IsPiece bytes lexeme piece rest → ⊥
