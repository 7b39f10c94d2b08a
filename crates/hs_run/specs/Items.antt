-- Items of an input, and which of them may be taken.
use Rattle.std.specs.Prelude.{◌≡◌, ◌&&◌, nat_le, Bool, true, false, List, ◌++◌, length, codes}
use Rattle.std.specs.List.{list_all}
use Rattle.std.specs.Str.{is_utf8}
use Rattle.hs_entries.specs.declared.item.Item.{Item}
use Rattle.hs_entries.specs.declared.item.Item.TheVariants.{Entry, Bad, TooLong, End}
use Rattle.hs_entries.specs.Entry.{is_session}

abbrev pub is_end : Item → Bool
is_end End = true
is_end (Entry number name text at) = false
is_end (Bad number) = false
is_end (TooLong number) = false

-- an item that isn't the end of the input; an entry's session has a name, and its statement at most 65,536 bytes
abbrev pub is_taken : Item → Bool
is_taken End = false
is_taken (Entry number name text at) = is_session name && nat_le (length text) 65536
is_taken (Bad number) = true
is_taken (TooLong number) = true

abbrev pub IsTaken : Item → Type 0
IsTaken item = is_taken item ≡ true

-- it is text, an entry with its session's name and the colon
abbrev pub is_text : Item → Bool
is_text (Entry number name text at) = is_utf8 (name ++ codes ":" ++ text)
is_text (Bad number) = true
is_text (TooLong number) = true
is_text End = true

abbrev pub is_told : Item → Bool
is_told item = is_taken item && is_text item

-- items as those of an input are: each may be taken, and is text
abbrev pub AreTold : List Item → Type 0
AreTold items = list_all is_told items ≡ true
