-- What follows for every page.
use Rattle.std.proofs.Common.{◌≡◌, ◌≢◌, ◌⊎◌, ℕ, ◌+◌, ◌-◌, ◌*◌, ◌<◌, ◌≤◌, Bool, List, [], ◌∷◌, length, refl, slice_range, nat_lt, if◌then◌else◌, sym, ◌∙◌, ap, arith, inl, inr}
use Rattle.std.proofs.lemmas.Bool.{lt-ltb, le-ltb}
use Rattle.std.proofs.lemmas.List.Edits.{length-between}
use Rattle.hs_page.specs.declared.TheConstants.{PAGE_BYTES}
use Rattle.hs_page.specs.Pages.{slot_count, low, offset_of, length_of, IsFree, HasRow, IsIn, SomeRowAt, IsPage, slot_bytes}

pub slot_bytes_within : (bytes : List ℕ) (i : ℕ) → i < slot_count bytes → slot_bytes bytes i ≡ slice_range bytes (offset_of bytes i) (offset_of bytes i + length_of bytes i)
slot_bytes_within bytes i h = ap (λ (t : Bool). if t then slice_range bytes (offset_of bytes i) (offset_of bytes i + length_of bytes i) else []) (lt-ltb i (slot_count bytes) h)

pub slot_bytes_beyond : (bytes : List ℕ) (i : ℕ) → slot_count bytes ≤ i → slot_bytes bytes i ≡ []
slot_bytes_beyond bytes i h = ap (λ (t : Bool). if t then slice_range bytes (offset_of bytes i) (offset_of bytes i + length_of bytes i) else []) (le-ltb i (slot_count bytes) h)

-- a slot that is in place lies within the page
pub slot_end : (bytes : List ℕ) (i : ℕ) → IsPage bytes → i < slot_count bytes → offset_of bytes i + length_of bytes i ≤ PAGE_BYTES
slot_end bytes i page h = elim (page.each i h) [ inl free ↦ omega (arith, free.0, free.1) | inr row ↦ row.2 ]

pub low_end : (bytes : List ℕ) → IsPage bytes → low bytes ≤ PAGE_BYTES
low_end bytes page = elim (page.least) [ inl none ↦ omega (arith, none) | inr some ↦ omega (arith, some.is, slot_end bytes some.slot page some.within) ]

-- the bytes of rows lie from low on
pub in_rows : (bytes : List ℕ) (i p : ℕ) → IsPage bytes → i < slot_count bytes → IsIn bytes i p → low bytes ≤ p
in_rows bytes i p page h inside = elim (page.each i h) [ inl free ↦ absurd (omega (arith, free.0, free.1, inside.below)) | inr row ↦ omega (arith, row.0, inside.from) ]

-- a slot has as many bytes as its length says
pub length-slot_bytes : (bytes : List ℕ) (i : ℕ) → IsPage bytes → i < slot_count bytes → length (slot_bytes bytes i) ≡ length_of bytes i
length-slot_bytes bytes i page h =
    let end : offset_of bytes i + length_of bytes i ≤ length bytes = omega (arith, slot_end bytes i page h, page.size) in
    ap length (slot_bytes_within bytes i h) ∙ length-between bytes (offset_of bytes i) (offset_of bytes i + length_of bytes i) end ∙ omega arith

-- a list of no length has nothing
pub empty : (row : List ℕ) → length row ≡ 0 → row ≡ []
empty [] h = refl
empty (x ∷ xs) h = absurd (omega (arith, h))
