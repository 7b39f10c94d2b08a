-- The slots of a page as a list.
use Rattle.std.proofs.Common.{◌≡◌, ◌≢◌, ℕ, ◌+◌, ◌-◌, ◌<◌, ◌≤◌, ◌==◌, max, Bool, true, false, List, [], ◌∷◌, ◌++◌, length, get_or, take, drop, slice_range, refl, sym, ◌∙◌, ap, arith, inl, inr, eq-eqb, length-append, length-take, length-drop}
use Rattle.std.proofs.lemmas.List.{ext_get_or, places, get_or_append_left, get_or-append_right, get_or-take, get_or-drop, get_or_at, length-take-le}
use Rattle.std.proofs.lemmas.Grind.{get_or_tail}
use Rattle.std.proofs.lemmas.List.Sums.{position_or_len_is}
use Rattle.std.proofs.lemmas.Bool.{cases_eq, cases_lt, ne_eqb}
use Rattle.std.proofs.lemmas.Bool.Decides.{nat_tests}
use Rattle.std.specs.List.{sum_by, range_with_len}
use Rattle.std.proofs.lemmas.List.FromFn.{length-map-range_with_len, get_or-map-range_with_len}
use Rattle.hs_page.specs.declared.TheConstants.{PAGE_BYTES}
use Rattle.hs_page.specs.Pages.{IsPage, slots_of, slot_count, slot_bytes, length_of, first_free, with_slot, bytes_taken, room_of}
use Rattle.hs_page.specs.Writes.{IsPut}
use Rattle.hs_page.proofs.PageFacts.{length-slot_bytes}

pub length-slots_of : (bytes : List ℕ) → length (slots_of bytes) ≡ slot_count bytes
length-slots_of bytes = length-map-range_with_len (slot_bytes bytes) 0 (slot_count bytes)

pub get_or-slots_of : (bytes : List ℕ) (i : ℕ) (d : List ℕ) → i < slot_count bytes → get_or (slots_of bytes) i d ≡ slot_bytes bytes i
get_or-slots_of bytes i d h = get_or-map-range_with_len (slot_bytes bytes) 0 (slot_count bytes) i i d h (omega arith)

pub same_slots : (old new : List ℕ) → slot_count new ≡ slot_count old → ((i : ℕ) → slot_bytes new i ≡ slot_bytes old i) → slots_of new ≡ slots_of old
same_slots old new count same =
    ext_get_or [] (slots_of new) (slots_of old) (length-slots_of new ∙ count ∙ sym (length-slots_of old))
    (λ i h.
    let in_new : i < slot_count new = omega (arith, h, length-slots_of new) in
    let in_old : i < slot_count old = omega (arith, in_new, count) in
    get_or-slots_of new i [] in_new ∙ same i ∙ sym (get_or-slots_of old i [] in_old))

length-with_slot : (slots : List (List ℕ)) (slot : ℕ) (row : List ℕ) → slot ≤ length slots → length (with_slot slots slot row) ≡ max (length slots) (slot + 1)
length-with_slot slots slot row h = simp (length-append, length-take, length-drop) (omega arith)

get_or-with_slot : (slots : List (List ℕ)) (slot : ℕ) (row : List ℕ) (i : ℕ) → slot ≤ length slots → i ≢ slot → get_or (with_slot slots slot row) i [] ≡ get_or slots i []
get_or-with_slot slots slot row i h other =
    let front : length (take slot slots) ≡ slot = length-take-le slot slots h in
    elim (cases_lt i slot) [
      | inl before ↦ get_or_append_left (take slot slots) (row ∷ drop (slot + 1) slots) [] i (omega (arith, front, before)) ∙ get_or-take slot slots i [] before
      | inr behind ↦
          let there : (slot + 1) + (i - slot - 1) ≡ i = omega (arith, behind, other) in
          get_or-append_right (take slot slots) (row ∷ drop (slot + 1) slots) slot i [] front behind
          ∙ get_or_tail row (drop (slot + 1) slots) (i - slot) [] (omega (arith, behind, other))
          ∙ get_or-drop (slot + 1) slots (i - slot - 1) []
          ∙ ap (λ (k : ℕ). get_or slots k []) there
    ]

pub put_slots : (old new : List ℕ) (slot : ℕ) (row : List ℕ) → slot ≤ slot_count old → IsPut old new slot row → slots_of new ≡ with_slot (slots_of old) slot row
put_slots old new slot row h put =
    let within : slot ≤ length (slots_of old) = omega (arith, h, length-slots_of old) in
    ext_get_or [] (slots_of new) (with_slot (slots_of old) slot row)
    (length-slots_of new ∙ put.count ∙ ap (λ (n : ℕ). max n (slot + 1)) (sym (length-slots_of old)) ∙ sym (length-with_slot (slots_of old) slot row within))
    (λ i below.
    let in_new : i < slot_count new = omega (arith, below, length-slots_of new) in
    get_or-slots_of new i [] in_new ∙ elim (cases_eq i slot) [
      | inl is ↦
          ap (slot_bytes new) is ∙ put.here
          ∙ sym (ap (λ (k : ℕ). get_or (with_slot (slots_of old) slot row) k []) is ∙ get_or_at (take slot (slots_of old)) row (drop (slot + 1) (slots_of old)) [] slot (length-take-le slot (slots_of old) within))
      | inr other ↦
          put.others i other
          ∙ sym (get_or-with_slot (slots_of old) slot row i within other ∙ get_or-slots_of old i [] (omega (arith, in_new, put.count, other, h)))
    ])

-- the first slot without bytes
pub first_free_is : (bytes : List ℕ) (slot : ℕ) → IsPage bytes → slot ≤ slot_count bytes → ((k : ℕ) → k < slot → 0 < length_of bytes k) → (slot < slot_count bytes → length_of bytes slot ≡ 0) → first_free (slots_of bytes) ≡ slot
first_free_is bytes slot page h used free =
    let long : (k : ℕ) → k < slot_count bytes → length (get_or (slots_of bytes) k []) ≡ length_of bytes k =
    λ k within. ap length (get_or-slots_of bytes k [] within) ∙ length-slot_bytes bytes k page within
    in
    position_or_len_is (λ s. length s == 0) (slots_of bytes) slot [] (omega (arith, h, length-slots_of bytes))
    (λ k before. ne_eqb _ 0 (λ none. let is : length_of bytes k ≡ 0 = sym (long k (omega (arith, before, h))) ∙ none in omega (arith, is, used k before)))
    (λ within.
    let there : slot < slot_count bytes = omega (arith, within, length-slots_of bytes) in
    eq-eqb _ 0 (long slot there ∙ free there))

-- the room of a page by its own numbers
pub room_is : (bytes : List ℕ) (slot : ℕ) → slot ≡ first_free (slots_of bytes) → room_of (slots_of bytes) ≡ PAGE_BYTES - (bytes_taken (max (slot_count bytes) (slot + 1)) (slots_of bytes) + 16)
room_is bytes slot first =
    ap (λ (n : ℕ). PAGE_BYTES - (bytes_taken (max n (first_free (slots_of bytes) + 1)) (slots_of bytes) + 16)) (length-slots_of bytes)
    ∙ ap (λ (s : ℕ). PAGE_BYTES - (bytes_taken (max (slot_count bytes) (s + 1)) (slots_of bytes) + 16)) (sym first)
