-- What the bytes of a page mean: a number of slots, the least offset of a row, the slots, and behind them the rows.
use Rattle.std.specs.Prelude.{◌≡◌, ◌⊎◌, ℕ, ◌+◌, ◌-◌, ◌*◌, ◌<◌, ◌≤◌, ◌==◌, max, List, [], ◌∷◌, ◌++◌, map, length, take, drop, slice_index, slice_range, nat_lt, if◌then◌else◌}
use Rattle.std.specs.List.{range_with_len, sum_by, position_or_len}
use Rattle.std.specs.Int.{w64, to_be_bytes}
use Rattle.hs_page.specs.declared.TheConstants.{PAGE_BYTES}

-- a number of two bytes, the greater part first
abbrev pub number_at : List ℕ → ℕ → ℕ
number_at bytes at = 256 * slice_index bytes at + slice_index bytes (at + 1)

abbrev pub slot_count : List ℕ → ℕ
slot_count bytes = number_at bytes 0

abbrev pub low : List ℕ → ℕ
low bytes = number_at bytes 2

abbrev pub offset_of : List ℕ → ℕ → ℕ
offset_of bytes i = number_at bytes (4 + 4 * i)

abbrev pub length_of : List ℕ → ℕ → ℕ
length_of bytes i = number_at bytes (6 + 4 * i)

abbrev pub IsFree : List ℕ → ℕ → Type 0
IsFree bytes i = (offset_of bytes i ≡ 0) × (length_of bytes i ≡ 0)

-- slot i has a row of at least one byte, from low on and within the page
abbrev pub HasRow : List ℕ → ℕ → Type 0
HasRow bytes i = (low bytes ≤ offset_of bytes i) × (0 < length_of bytes i) × (offset_of bytes i + length_of bytes i ≤ PAGE_BYTES)

-- the byte at p is one of the row of slot i
pub record IsIn (bytes : List ℕ) (i p : ℕ) : Type 0 where
  pub from : offset_of bytes i ≤ p
  pub below : p < offset_of bytes i + length_of bytes i

-- a row begins at this offset
pub record SomeRowAt (bytes : List ℕ) (at : ℕ) : Type 0 where
  pub slot : ℕ
  pub within : slot < slot_count bytes
  pub used : 0 < length_of bytes slot
  pub is : offset_of bytes slot ≡ at

-- these bytes are a page
pub record IsPage (bytes : List ℕ) : Type 0 where
  pub size : length bytes ≡ PAGE_BYTES
  pub slots_end : 4 + 4 * slot_count bytes ≤ low bytes
  pub each : (i : ℕ) → i < slot_count bytes → IsFree bytes i ⊎ HasRow bytes i
  -- low is the least offset of a row, and the end of the page where there is none
  pub least : (low bytes ≡ PAGE_BYTES) ⊎ SomeRowAt bytes (low bytes)
  -- no byte is of two rows
  pub apart : (p i j : ℕ) → i < slot_count bytes → j < slot_count bytes → IsIn bytes i p → IsIn bytes j p → i ≡ j

-- the bytes of slot i, none where it is free or isn't there
abbrev pub slot_bytes : List ℕ → ℕ → List ℕ
slot_bytes bytes i = if nat_lt i (slot_count bytes) then slice_range bytes (offset_of bytes i) (offset_of bytes i + length_of bytes i) else []

-- a page as its slots: the bytes of each, none for a free one
abbrev pub slots_of : List ℕ → List (List ℕ)
slots_of bytes = map (slot_bytes bytes) (range_with_len 0 (slot_count bytes))

-- the first free slot, or the number of slots where none is free
abbrev pub first_free : List (List ℕ) → ℕ
first_free slots = position_or_len (λ s. length s == 0) slots

-- these slots with other bytes in one of them, or with one more at their end
abbrev pub with_slot : List (List ℕ) → ℕ → List ℕ → List (List ℕ)
with_slot slots i bytes = take i slots ++ bytes ∷ drop (i + 1) slots

-- the bytes of a page that its two numbers, its slots and their rows take
abbrev pub bytes_taken : ℕ → List (List ℕ) → ℕ
bytes_taken count slots = 4 + 4 * count + sum_by length slots

-- what a slot holds of a row: the numbers of its table and of itself, and the encoded row
abbrev pub row_bytes : ℕ → ℕ → List ℕ → List ℕ
row_bytes table row encoded = to_be_bytes w64 table ++ to_be_bytes w64 row ++ encoded

-- the length of the longest encoded row that fits beside these slots, in the first free one
abbrev pub room_of : List (List ℕ) → ℕ
room_of slots = PAGE_BYTES - (bytes_taken (max (length slots) (first_free slots + 1)) slots + 16)
