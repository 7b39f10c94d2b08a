-- What a token says: the name of a word or a quoted name, and the text of a text.
use Rattle.std.specs.Prelude.{◌≡◌, ◌≢◌, true, ℕ, zero, suc, ◌+◌, ◌*◌, ◌-◌, Bool, ◌==◌, ◌||◌, ◌&&◌, not, nat_lt, nat_le, if◌then◌else◌, List, [], ◌∷◌, ◌++◌, length, drop, map, slice_range, slice_index, Option, None, Some, encode_utf8, is_some, unwrap_or}
use Rattle.std.specs.Char.{to_ascii_uppercase}
use Rattle.std.specs.List.{list_all}
use Rattle.std.specs.Str.{IsUtf8}
use Rattle.hs_lexer.specs.declared.token.Token.{Token}
use Rattle.hs_lexer.specs.declared.token.TokenKind.{TokenKind}
use Rattle.hs_lexer.specs.declared.token.TokenKind.TheVariants.{Quoted, Text, UnicodeText}
use Rattle.hs_lexer.specs.Bytes.{is_digit, begins_with, is_control}

-- ---- quotes

-- two quotes, one behind the other, are one
abbrev pub undoubled : ℕ → List ℕ → List ℕ
undoubled quote [] = []
undoubled quote (b ∷ []) = b ∷ []
undoubled quote (b ∷ c ∷ bytes) = if b == quote && c == quote then quote ∷ undoubled quote bytes else b ∷ undoubled quote (c ∷ bytes)

-- what stands behind a quote, without a second one
abbrev pub past_second : ℕ → List ℕ → List ℕ
past_second quote bytes = if begins_with quote bytes then drop 1 bytes else bytes

-- a piece without as many bytes at its front and one at its end
abbrev pub inside : ℕ → List ℕ → List ℕ
inside front piece = slice_range piece front (length piece - 1)

-- ---- escapes

abbrev pub is_hex : ℕ → Bool
is_hex b = is_digit b || nat_le 65 b && nat_le b 70 || nat_le 97 b && nat_le b 102

abbrev pub hex_value : ℕ → ℕ
hex_value b = if nat_lt b 65 then b - 48 else if nat_lt b 97 then b - 55 else b - 87

-- a number that is a character, of those with four hexadecimal digits
abbrev pub is_character : ℕ → Bool
is_character c = nat_lt c 55296 || nat_lt 57343 c

-- the character that four hexadecimal digits at the front name
abbrev pub coded : List ℕ → Option ℕ
coded (a ∷ b ∷ c ∷ d ∷ bytes) =
    let code = hex_value a * 4096 + hex_value b * 256 + hex_value c * 16 + hex_value d in
    if is_hex a && is_hex b && is_hex c && is_hex d && is_character code then Some code else None
coded _ = None

-- how many of the bytes behind a `\` go with it, and what is meant: with another `\` it is a `\`, with the four digits of
-- a character that character. Alone it is no escape, and is taken for itself.
abbrev pub escape_len : List ℕ → ℕ
escape_len bytes = if begins_with 92 bytes then 1 else if is_some (coded bytes) then 4 else 0

abbrev pub meant : List ℕ → List ℕ
meant bytes = encode_utf8 (if begins_with 92 bytes then 92 else unwrap_or (coded bytes) 92)

-- the bytes with each escape as what is meant, without as many that belong to one that was begun
abbrev pub unescaped : ℕ → List ℕ → List ℕ
unescaped left [] = []
unescaped (suc left) (b ∷ bytes) = unescaped left bytes
unescaped zero (b ∷ bytes) = if b == 92 then meant bytes ++ unescaped (escape_len bytes) bytes else b ∷ unescaped 0 bytes

-- the place of the first `\` that begins no escape, counted from `at`
abbrev pub lone_escape : ℕ → ℕ → List ℕ → Option ℕ
lone_escape at left [] = None
lone_escape at (suc left) (b ∷ bytes) = lone_escape (at + 1) left bytes
lone_escape at zero (b ∷ bytes) =
    if b == 92 then (if escape_len bytes == 0 then Some at else lone_escape (at + 1) (escape_len bytes) bytes)
    else lone_escape (at + 1) 0 bytes

-- ---- names and texts

-- a character begins at the place, or the text ends there
abbrev pub is_cut : List ℕ → ℕ → Bool
is_cut text at = if nat_lt at (length text) then nat_lt (slice_index text at) 128 || nat_le 192 (slice_index text at) else at == length text

abbrev pub is_slice : List ℕ → ℕ → ℕ → Bool
is_slice text from to = nat_le from to && is_cut text from && is_cut text to

-- the text from one place to another; nothing, where that is no text
unfoldable pub slice_of : List ℕ → ℕ → ℕ → List ℕ
slice_of text from to = if is_slice text from to then slice_range text from to else []

-- a token as it is written
abbrev pub written : List ℕ → Token → List ℕ
written text token = slice_of text token.start token.end

-- what stands in its quotes, of which the first is behind as many bytes
abbrev pub in_quotes : ℕ → List ℕ → Token → List ℕ
in_quotes front text token = slice_of text (token.start + front) (token.end - 1)

-- the name that a token is: what stands in the quotes, or a word in capitals
abbrev pub named : TokenKind → List ℕ → Token → List ℕ
named Quoted text token = undoubled 34 (in_quotes 1 text token)
named _ text token = map to_ascii_uppercase (written text token)

unfoldable pub name_of : List ℕ → Token → List ℕ
name_of text token = named token.kind text token

-- the text that a token is
abbrev pub told : TokenKind → List ℕ → Token → List ℕ
told Text text token = undoubled 39 (in_quotes 1 text token)
told UnicodeText text token = unescaped 0 (undoubled 39 (in_quotes 3 text token))
told _ text token = written text token

unfoldable pub text_of : List ℕ → Token → List ℕ
text_of text token = told token.kind text token

abbrev pub is_name_len : ℕ → Bool
is_name_len len = nat_lt 0 len && nat_le len 128

abbrev pub lacks_control : List ℕ → Bool
lacks_control name = list_all (λ b. not (is_control b)) name

-- from 1 to 128 bytes, and no control character
abbrev pub is_name : List ℕ → Bool
is_name name = is_name_len (length name) && lacks_control name

-- a token of a text is written so
pub record IsWritten (source : List ℕ) (token : Token) (piece : List ℕ) : Type 0 where
  pub utf8 : IsUtf8 source
  pub whole : is_slice source token.start token.end ≡ true
  pub is : slice_range source token.start token.end ≡ piece

-- The bytes mean these, where each `\` begins an escape: with another `\` it means a `\`, and with four hexadecimal digits the
-- character of that number.
pub data AreEscaped : List ℕ → List ℕ → Type 0 where
  none : AreEscaped [] []
  plain : (b : ℕ) (bytes means : List ℕ) → b ≢ 92 → AreEscaped bytes means → AreEscaped (b ∷ bytes) (b ∷ means)
  backslash : (bytes means : List ℕ) → AreEscaped bytes means → AreEscaped (92 ∷ 92 ∷ bytes) (92 ∷ means)
  character : (a b c d code : ℕ) (bytes means : List ℕ) → coded (a ∷ b ∷ c ∷ d ∷ bytes) ≡ Some code → AreEscaped bytes means
      → AreEscaped (92 ∷ a ∷ b ∷ c ∷ d ∷ bytes) (encode_utf8 code ++ means)
