-- What is left of an input, somewhere in it.
use Rattle.std.specs.Prelude.{◌≡◌, ℕ, ◌+◌, ◌<◌, List, [], ◌∷◌, length, take, replicate}
use Rattle.hs_entries.specs.declared.item.Item.{Item}
use Rattle.hs_entries.specs.declared.item.Item.TheVariants.{Entry, Bad, TooLong, End}
use Rattle.hs_entries.specs.declared.place.Place.{Place}
use Rattle.hs_entries.specs.Items.{items_from, cut_items, no_items}

-- the input that is left, the number of its first item, how many of its bytes may be used, and the bytes
-- that were begun before it, which lead to a place
pub record Left : Type 0 where
  pub number : ℕ
  pub place : Place
  pub begun : List ℕ
  pub room : ℕ
  pub input : List ℕ

abbrev pub items_of : Left → List Item
items_of l = items_from cut_items l.number l.place l.begun l.input

-- those that are whole among the bytes that may be used
abbrev pub whole_of : Left → List Item
whole_of l = items_from no_items l.number l.place l.begun (take l.room l.input)

-- the input goes beyond the bytes that may be used
abbrev pub RunsOut : Left → Type 0
RunsOut l = l.room < length l.input

-- the input goes beyond the bytes that may be used, and among these no further item is whole
pub record IsBeyond (l : Left) : Type 0 where
  pub more : RunsOut l
  pub none : whole_of l ≡ []

-- of some items the first is taken; the end comes where there is none
abbrev pub TakesFirst : List Item → Item → List Item → Type 0
TakesFirst before End after = before ≡ []
TakesFirst before item after = before ≡ item ∷ after

-- of some items the first is taken, and there is one
abbrev pub TakesWhole : List Item → Item → List Item → Type 0
TakesWhole before End after = ⊥
TakesWhole before item after = before ≡ item ∷ after

-- an item has the next number, and the end has none
abbrev pub IsNumbered : Item → ℕ → ℕ → Type 0
IsNumbered (Entry number session text at) before now = (number ≡ before) × (now ≡ before + 1)
IsNumbered (Bad number) before now = (number ≡ before) × (now ≡ before + 1)
IsNumbered (TooLong number) before now = (number ≡ before) × (now ≡ before + 1)
IsNumbered End before now = now ≡ before

-- the bytes that are used may not be used again
abbrev pub KeepsRoom : Left → Left → Type 0
KeepsRoom old new = new.room + length old.input ≡ old.room + length new.input

-- the next item is taken, or the end is reached
pub record Takes (old : Left) (item : Item) (new : Left) : Type 0 where
  pub first : TakesFirst (items_of old) item (items_of new)
  pub whole : RunsOut old → TakesWhole (whole_of old) item (whole_of new)
  pub room : KeepsRoom old new
  pub end : item ≡ End → new.input ≡ []

-- no item is taken: the same are left
pub record Continues (old new : Left) : Type 0 where
  pub items : items_of old ≡ items_of new
  pub whole : whole_of old ≡ whole_of new
  pub room : KeepsRoom old new

-- the front of an entry that is too long, whatever its bytes
unfoldable pub long : List ℕ
long = replicate 65537 0
