-- The classes of tokens, which the grammar's table knows by their numbers.
use Rattle.std.specs.Prelude.{ℕ, ◌+◌, ◌*◌, ◌-◌, Bool, ◌&&◌, ◌==◌, nat_le, nat_lt, if◌then◌else◌, List, [], ◌∷◌, length, map}
use Rattle.std.specs.List.{list_all, list_any}
use Rattle.std.specs.Str.{str_eq_ignore_ascii_case}
use Rattle.hs_lexer.specs.declared.token.Token.{Token}
use Rattle.hs_lexer.specs.declared.token.TokenKind.{TokenKind}
use Rattle.hs_lexer.specs.declared.token.TokenKind.TheVariants.{Word, Quoted, Number, Text, UnicodeText, Symbol}
use Rattle.hs_lexer.specs.Bytes.{is_digit}
use Rattle.hs_lexer.specs.Content.{written, text_of}
use Rattle.hs_syntax.specs.Names.{number_0, number_4000, above, fraction, digit_text, other_text, identifier}
use Rattle.hs_syntax.specs.Words.{keywords, signs}

-- the class beside a word, without regard to case; the other one where the word isn't there
abbrev pub lookup : List (List ℕ × ℕ) → List ℕ → ℕ → ℕ
lookup [] word other = other
lookup (entry ∷ entries) word other = if str_eq_ignore_ascii_case entry.0 word then entry.1 else lookup entries word other

-- a word that is none of the grammar's is a name
unfoldable pub word_class : List ℕ → ℕ
word_class word = lookup keywords word identifier

-- a class that no rule takes
abbrev pub nothing : ℕ
nothing = 255

unfoldable pub sign_class : List ℕ → ℕ
sign_class sign = lookup signs sign nothing

-- the number of which some digits are read, and these behind them
abbrev pub value_after : ℕ → List ℕ → ℕ
value_after value [] = value
value_after value (digit ∷ digits) = value_after (value * 10 + (digit - 48)) digits

abbrev pub whole_class : ℕ → ℕ
whole_class value = if nat_le value 38 then number_0 + value else if nat_le value 4000 then number_4000 else above

unfoldable pub number_class : List ℕ → ℕ
number_class number = if list_any (λ b. b == 46) number then fraction else whole_class (value_after 0 number)

-- from 1 to 18 digits
abbrev pub is_digit_text : List ℕ → Bool
is_digit_text text = nat_lt 0 (length text) && nat_le (length text) 18 && list_all is_digit text

abbrev pub text_class : List ℕ → ℕ
text_class text = if is_digit_text text then digit_text else other_text

abbrev pub class_in : TokenKind → List ℕ → Token → ℕ
class_in Word source token = word_class (written source token)
class_in Quoted source token = identifier
class_in Number source token = number_class (written source token)
class_in Text source token = text_class (text_of source token)
class_in UnicodeText source token = text_class (text_of source token)
class_in Symbol source token = sign_class (written source token)

unfoldable pub class_of : List ℕ → Token → ℕ
class_of source token = class_in token.kind source token

abbrev pub classes_of : List ℕ → List Token → List ℕ
classes_of source tokens = map (class_of source) tokens
