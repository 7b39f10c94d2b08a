-- How names are written.
use Rattle.std.specs.Prelude.{◌≡◌, ℕ, Bool, true, false, not, ◌==◌, ◌||◌, ◌&&◌, nat_le, if◌then◌else◌, List, [], ◌∷◌, ◌++◌, length, IsUtf8}
use Rattle.std.specs.List.{list_all}
use Rattle.hs_lexer.specs.Bytes.{is_digit}
use Rattle.hs_syntax.specs.Reserved.{is_reserved}
use Rattle.hs_valuetext.specs.Quotes.{quoted}
use Rattle.hs_valuetext.specs.Texts.{has_control}

abbrev pub is_capital : ℕ → Bool
is_capital b = nat_le 65 b && nat_le b 90

-- a capital letter, a digit or `_`
abbrev pub is_in_word : ℕ → Bool
is_in_word b = is_capital b || is_digit b || b == 95

-- a capital letter, and then capital letters, digits and `_`
abbrev pub is_word : List ℕ → Bool
is_word [] = false
is_word (b ∷ bytes) = is_capital b && list_all is_in_word bytes

-- a name that stands as it is: such a word that isn't reserved
abbrev pub is_plain : List ℕ → Bool
is_plain name = is_word name && not (is_reserved name)

-- the one text of each name: as it is, or in double quotes with each one in it twice
abbrev pub name_text : List ℕ → List ℕ
name_text name = if is_plain name then name else quoted 34 name

-- a name has 1 to 128 bytes and no control character
abbrev pub is_name : List ℕ → Bool
is_name name = nat_le 1 (length name) && nat_le (length name) 128 && not (has_control name)

-- a byte is at the front with which a name before it would go on
abbrev pub goes_on : List ℕ → Bool
goes_on [] = false
goes_on (b ∷ bytes) = is_in_word b || b == 34

-- a text that begins with this name as it is written, and goes on with something else
pub record IsNameAt (text name rest : List ℕ) : Type 0 where
  pub lawful : is_name name ≡ true
  pub utf8 : IsUtf8 name
  pub written : text ≡ name_text name ++ rest
  pub ends : goes_on rest ≡ false

-- the name stands as it is, or it stands in double quotes
pub record IsPlainAt (text name rest : List ℕ) : Type 0 where
  pub at : IsNameAt text name rest
  pub plain : is_plain name ≡ true

pub record IsQuotedAt (text name rest : List ℕ) : Type 0 where
  pub at : IsNameAt text name rest
  pub quoted : is_plain name ≡ false
