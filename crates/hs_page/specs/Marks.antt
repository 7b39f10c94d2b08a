-- Marks on the bytes of rows, by which rows that overlap are found.
use Rattle.std.specs.Prelude.{◌≡◌, ◌⊎◌, ℕ, ◌+◌, ◌*◌, ◌<◌, ◌≤◌, Bool, true, false, List, slice_index_or}
use Rattle.hs_page.specs.declared.TheConstants.{PAGE_BYTES}
use Rattle.hs_page.specs.Pages.{offset_of, length_of, IsFree, IsIn}

abbrev pub IsMarked : List Bool → ℕ → Type 0
IsMarked marks p = slice_index_or marks p false ≡ true

-- a byte from at to end has a mark
pub record HasMark (marks : List Bool) (at end : ℕ) : Type 0 where
  pub place : ℕ
  pub from : at ≤ place
  pub below : place < end
  pub is : IsMarked marks place

-- the bytes from at to end had no mark, and have one now; the others are as they were
pub record MarkedMore (old new : List Bool) (at end : ℕ) : Type 0 where
  pub free : (p : ℕ) → at ≤ p → p < end → slice_index_or old p false ≡ false
  pub marked : (p : ℕ) → at ≤ p → p < end → IsMarked new p
  pub before : (p : ℕ) → p < at → slice_index_or new p false ≡ slice_index_or old p false
  pub behind : (p : ℕ) → end ≤ p → slice_index_or new p false ≡ slice_index_or old p false

-- slot i is free, or has a row within the page
abbrev pub IsWhole : List ℕ → ℕ → Type 0
IsWhole bytes i = IsFree bytes i ⊎ ((0 < length_of bytes i) × (offset_of bytes i + length_of bytes i ≤ PAGE_BYTES))

-- no byte is of the rows of two of the first n slots
abbrev pub AreApart : List ℕ → ℕ → Type 0
AreApart bytes n = (p i j : ℕ) → i < n → j < n → IsIn bytes i p → IsIn bytes j p → i ≡ j

-- the byte at p is of a row of the first n slots
pub record IsTakenBelow (bytes : List ℕ) (n p : ℕ) : Type 0 where
  pub slot : ℕ
  pub within : slot < n
  pub inside : IsIn bytes slot p

-- the bytes of the rows of the first n slots, and no others, have marks
pub record AreMarked (bytes : List ℕ) (marks : List Bool) (n : ℕ) : Type 0 where
  pub whole : (i : ℕ) → i < n → IsWhole bytes i
  pub apart : AreApart bytes n
  pub rows : (p i : ℕ) → i < n → IsIn bytes i p → IsMarked marks p
  pub only : (p : ℕ) → IsMarked marks p → IsTakenBelow bytes n p
