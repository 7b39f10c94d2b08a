-- How texts are written.
use Rattle.std.specs.Prelude.{◌≡◌, ℕ, ◌/◌, ◌%◌, Bool, true, false, ◌==◌, ◌||◌, nat_lt, if◌then◌else◌, List, [], ◌∷◌, ◌++◌, codes, IsUtf8}
use Rattle.std.specs.Char.{digit_char}
use Rattle.std.specs.List.{flat_map, list_any}
use Rattle.hs_valuetext.specs.Quotes.{quoted, begins_with, IsQuoted}

-- U+0000 to U+001F and U+007F
abbrev pub is_control : ℕ → Bool
is_control b = nat_lt b 32 || b == 127

abbrev pub has_control : List ℕ → Bool
has_control text = list_any is_control text

-- a control character, and its hexadecimal digits
pub record IsControlOf (b high low : ℕ) : Type 0 where
  pub control : is_control b ≡ true
  pub first : digit_char (b / 16) ≡ high
  pub second : digit_char (b % 16) ≡ low

-- a byte behind `U&`: a control character as `\` and four hexadecimal digits, and `\` twice
abbrev pub escaped_byte : ℕ → List ℕ
escaped_byte b =
    if is_control b then codes "\\00" ++ digit_char (b / 16) ∷ digit_char (b % 16) ∷ []
    else if b == 92 then codes "\\\\" else b ∷ []

abbrev pub escaped : List ℕ → List ℕ
escaped text = flat_map escaped_byte text

-- between quotes; with escapes exactly where there is a control character
abbrev pub chars_text : List ℕ → List ℕ
chars_text text = if has_control text then codes "U&" ++ quoted 39 (escaped text) else quoted 39 text

-- a text that begins with this one between quotes, which has no control character
pub record IsPlainText (text content rest : List ℕ) : Type 0 where
  pub between : IsQuoted 39 text content rest
  pub plain : has_control content ≡ false
  pub utf8 : IsUtf8 content

-- this text with its escapes; it has a control character
pub record IsEscapedForm (text content : List ℕ) : Type 0 where
  pub written : escaped content ≡ text
  pub control : has_control content ≡ true
  pub utf8 : IsUtf8 content

-- a text that begins with this one between quotes and with its escapes
pub record IsEscapedText (text content rest : List ℕ) : Type 0 where
  pub between : IsQuoted 39 text (escaped content) rest
  pub control : has_control content ≡ true
  pub utf8 : IsUtf8 content

-- a text that begins with this one as it is written, behind which no quote stands
pub record IsWrittenText (text content rest : List ℕ) : Type 0 where
  pub written : text ≡ chars_text content ++ rest
  pub closed : begins_with 39 rest ≡ false
  pub utf8 : IsUtf8 content
