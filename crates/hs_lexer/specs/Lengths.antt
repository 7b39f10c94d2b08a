-- How long a piece at the front of some bytes is.
use Rattle.std.specs.Prelude.{ℕ, ◌+◌, Bool, ◌==◌, ◌&&◌, if◌then◌else◌, List, [], ◌∷◌, drop, Option, None, Some}
use Rattle.std.specs.List.{prefix_len}
use Rattle.hs_lexer.specs.declared.token.TokenKind.TheVariants.{Word, Quoted, Number, Text, UnicodeText, Symbol}
use Rattle.hs_lexer.specs.declared.lexeme.Lexeme.{Lexeme}
use Rattle.hs_lexer.specs.declared.lexeme.Lexeme.TheVariants.{White, Line, Block, Token}
use Rattle.hs_lexer.specs.Bytes.{is_in_line, is_in_word, is_digit, is_single, is_pair, begins_with, begins_digit}

-- the place behind the first `*/`, counted from `at`
abbrev pub block_end : ℕ → List ℕ → Option ℕ
block_end at [] = None
block_end at (b ∷ bytes) = if b == 42 && begins_with 47 bytes then Some (at + 2) else block_end (at + 1) bytes

-- the place behind the first quote that isn't doubled, counted from `at`
abbrev pub quote_end : ℕ → ℕ → List ℕ → Option ℕ
quote_end quote at [] = None
quote_end quote at (b ∷ []) = if b == quote then Some (at + 1) else None
quote_end quote at (b ∷ c ∷ bytes) =
    if b == quote then (if c == quote then quote_end quote (at + 2) bytes else Some (at + 1)) else quote_end quote (at + 1) (c ∷ bytes)

-- a point stands at the place, and a digit behind it
abbrev pub has_fraction : ℕ → List ℕ → Bool
has_fraction whole bytes = begins_with 46 (drop whole bytes) && begins_digit (drop (whole + 1) bytes)

abbrev pub number_len : List ℕ → ℕ
number_len bytes =
    let whole = prefix_len is_digit bytes in
    if has_fraction whole bytes then whole + 1 + prefix_len is_digit (drop (whole + 1) bytes) else whole

abbrev pub symbol_len : List ℕ → Option ℕ
symbol_len [] = None
symbol_len (b ∷ []) = if is_single b then Some 1 else None
symbol_len (b ∷ c ∷ bytes) = if is_pair b c then Some 2 else if is_single b then Some 1 else None

-- the length of a piece of this kind, which the bytes begin; none where it isn't finished
unfoldable pub piece_len : Lexeme → List ℕ → Option ℕ
piece_len White bytes = Some 1
piece_len Line bytes = Some (2 + prefix_len is_in_line (drop 2 bytes))
piece_len Block bytes = block_end 2 (drop 2 bytes)
piece_len (Token Word) bytes = Some (prefix_len is_in_word bytes)
piece_len (Token Quoted) bytes = quote_end 34 1 (drop 1 bytes)
piece_len (Token Number) bytes = Some (number_len bytes)
piece_len (Token Text) bytes = quote_end 39 1 (drop 1 bytes)
piece_len (Token UnicodeText) bytes = quote_end 39 3 (drop 3 bytes)
piece_len (Token Symbol) bytes = symbol_len bytes
