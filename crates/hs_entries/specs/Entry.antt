-- What an entry is, by its bytes.
use Rattle.std.specs.Prelude.{ℕ, ◌+◌, ◌≡◌, ◌≤◌, Bool, true, false, ◌==◌, ◌&&◌, nat_lt, if◌then◌else◌, List, [], ◌∷◌, length}
use Rattle.std.specs.List.{before_first, after_first, list_all, list_any}
use Rattle.std.specs.Str.{is_utf8}
pub use Rattle.hs_lexer.specs.Bytes.{is_letter, is_digit, is_in_word}
use Rattle.hs_entries.specs.declared.item.Item.{Item}
use Rattle.hs_entries.specs.declared.item.Item.TheVariants.{Entry, Bad, TooLong}

-- a letter, a digit or `_`
abbrev pub is_name_byte : ℕ → Bool
is_name_byte b = is_in_word b

-- the name of a session: a letter, and then up to 31 letters, digits and `_`
abbrev pub is_session : List ℕ → Bool
is_session [] = false
is_session (b ∷ bs) = is_letter b && (nat_lt (length bs) 32 && list_all is_name_byte bs)

abbrev pub is_colon : ℕ → Bool
is_colon b = b == 58

-- what stands before the first colon, and behind it
abbrev pub session_of : List ℕ → List ℕ
session_of bytes = before_first is_colon bytes

abbrev pub statement_of : List ℕ → List ℕ
statement_of bytes = after_first is_colon bytes

-- the place of the statement in the entry
abbrev pub place_of : List ℕ → ℕ
place_of bytes = length (session_of bytes) + 1

-- the bytes begin with the name of a session and directly a colon
abbrev pub has_session : List ℕ → Bool
has_session bytes = list_any is_colon bytes && is_session (session_of bytes)

-- more than 65,536 bytes, the `;` included
abbrev pub is_too_long : List ℕ → Bool
is_too_long bytes = nat_lt 65536 (length bytes)

-- the item of a whole entry, up to its `;`, whose number is n
unfoldable pub item_of : ℕ → List ℕ → Item
item_of n bytes =
    if is_too_long bytes then TooLong n
    else if has_session bytes && is_utf8 bytes then Entry n (session_of bytes) (statement_of bytes) (place_of bytes)
    else Bad n

-- the item of an entry that the input ends before its `;`
unfoldable pub cut_item_of : ℕ → List ℕ → Item
cut_item_of n bytes = if is_too_long bytes then TooLong n else Bad n

-- these are the name of its session and its statement
pub record IsSplit (bytes name text : List ℕ) : Type 0 where
  pub has : has_session bytes ≡ true
  pub short : length name ≤ 32
  pub session : name ≡ session_of bytes
  pub statement : text ≡ statement_of bytes
