-- What a write of one row into a page changes.
use Rattle.std.specs.Prelude.{◌≡◌, ◌≢◌, ◌⊎◌, ℕ, ◌+◌, ◌*◌, ◌<◌, ◌≤◌, max, List, [], map, length, slice_index, slice_range}
use Rattle.std.specs.List.{range_with_len, sum_by}
use Rattle.hs_page.specs.declared.TheConstants.{PAGE_BYTES}
use Rattle.hs_page.specs.Pages.{IsPage, IsFree, SomeRowAt, slot_count, low, offset_of, length_of, slot_bytes}

-- the bytes between the slots, with this one, and the rows are enough for a row of so many
abbrev pub HasGap : List ℕ → ℕ → ℕ → Type 0
HasGap bytes slot len = 4 + 4 * max (slot_count bytes) (slot + 1) + len ≤ low bytes

-- a row of at least one byte may be written in front of the others, into a slot that is there or the next one
pub record MayPlace (old : List ℕ) (slot : ℕ) (row : List ℕ) : Type 0 where
  pub page : IsPage old
  pub slot_is : slot ≤ slot_count old
  pub some : 0 < length row
  pub gap : HasGap old slot (length row)

-- slot i has the same two numbers
pub record SameNumbers (old new : List ℕ) (i : ℕ) : Type 0 where
  pub offset : offset_of new i ≡ offset_of old i
  pub len : length_of new i ≡ length_of old i

-- a row now stands in front of low, in this slot, and low is its offset; the rows and the other slots are as they were
pub record IsPlaced (old new : List ℕ) (slot : ℕ) (row : List ℕ) : Type 0 where
  pub count : slot_count new ≡ max (slot_count old) (slot + 1)
  pub in_front : low new + length row ≡ low old
  pub offset : offset_of new slot ≡ low new
  pub len : length_of new slot ≡ length row
  pub bytes : slice_range new (low new) (low new + length row) ≡ row
  pub rows : (k : ℕ) → low old ≤ k → slice_index new k ≡ slice_index old k
  pub slots : (i : ℕ) → i < slot_count old → i ≢ slot → SameNumbers old new i

-- slot i has these bytes now, there are as many slots as it takes, and the other slots have the bytes that they had
pub record IsPut (old new : List ℕ) (slot : ℕ) (row : List ℕ) : Type 0 where
  pub count : slot_count new ≡ max (slot_count old) (slot + 1)
  pub here : slot_bytes new slot ≡ row
  pub others : (i : ℕ) → i ≢ slot → slot_bytes new i ≡ slot_bytes old i

-- the same slots, and the rows one behind another up to the end of the page
pub record IsPacked (old new : List ℕ) (total : ℕ) : Type 0 where
  pub count : slot_count new ≡ slot_count old
  pub in_front : low new + total ≡ length new
  pub same : (i : ℕ) → slot_bytes new i ≡ slot_bytes old i

-- the rows of the first i slots are packed, and the others are still free
pub record IsPackedTo (old new : List ℕ) (i : ℕ) : Type 0 where
  pub page : IsPage new
  pub count : slot_count new ≡ slot_count old
  pub in_front : low new + sum_by length (map (slot_bytes old) (range_with_len 0 i)) ≡ PAGE_BYTES
  pub done : (k : ℕ) → k < i → slot_bytes new k ≡ slot_bytes old k
  pub rest : (k : ℕ) → i ≤ k → slot_bytes new k ≡ []

-- this slot is free, the others have the numbers that they had, and low is the least offset that is left
pub record IsTaken (old new : List ℕ) (slot : ℕ) : Type 0 where
  pub count : slot_count new ≡ slot_count old
  pub free : IsFree new slot
  pub rows : (k : ℕ) → low old ≤ k → slice_index new k ≡ slice_index old k
  pub slots : (i : ℕ) → i ≢ slot → SameNumbers old new i
  pub lower : (i : ℕ) → i < slot_count new → 0 < length_of new i → low new ≤ offset_of new i
  pub least : (low new ≡ PAGE_BYTES) ⊎ SomeRowAt new (low new)
