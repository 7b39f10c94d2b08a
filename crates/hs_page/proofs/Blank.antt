-- A page whose bytes behind its two numbers are 0 has free slots alone.
use Rattle.std.proofs.Common.{◌≡◌, ◌≢◌, ℕ, ◌+◌, ◌*◌, ◌<◌, ◌≤◌, List, [], length, get_or, slice_range, replicate, ◌∙◌, ap, arith, inl, inr}
use Rattle.std.proofs.lemmas.Bool.{cases_lt}
use Rattle.std.proofs.lemmas.List.{get_or-replicate, get_or_past, length-replicate}
use Rattle.hs_page.specs.declared.TheConstants.{PAGE_BYTES}
use Rattle.hs_page.specs.Pages.{number_at, slot_count, low, offset_of, length_of, IsFree, IsIn, IsPage, slot_bytes}
use Rattle.hs_page.proofs.PageFacts.{slot_bytes_within, slot_bytes_beyond}

pub record IsBlank (bytes : List ℕ) : Type 0 where
  pub size : length bytes ≡ PAGE_BYTES
  pub low_is : low bytes ≡ PAGE_BYTES
  pub room : 4 + 4 * slot_count bytes ≤ PAGE_BYTES
  pub zeros : (k : ℕ) → 4 ≤ k → get_or bytes k 0 ≡ 0

pub same_everywhere : {A : Type 0} (n k : ℕ) (z : A) → get_or (replicate n z) k z ≡ z
same_everywhere n k z = elim (cases_lt k n) [ inl h ↦ get_or-replicate n k z z h | inr h ↦ get_or_past (replicate n z) k z (omega (arith, length-replicate n z, h)) ]

-- zeros with a number of slots and the page's end written over them
pub blank_is : (first new : List ℕ) (count : ℕ) → length new ≡ PAGE_BYTES → slot_count new ≡ count → low new ≡ PAGE_BYTES → 4 + 4 * count ≤ PAGE_BYTES
    → ((k : ℕ) → k ≢ 0 → k ≢ 0 + 1 → get_or first k 0 ≡ get_or (replicate PAGE_BYTES 0) k 0) → ((k : ℕ) → k ≢ 2 → k ≢ 2 + 1 → get_or new k 0 ≡ get_or first k 0) → IsBlank new
blank_is first new count size count_is low_is room others_first others_new = record {
  size = size;
  low_is = low_is;
  room = omega (arith, count_is, room);
  zeros = λ k h. others_new k (omega arith) (omega arith) ∙ others_first k (omega arith) (omega arith) ∙ same_everywhere {A = ℕ} PAGE_BYTES k 0;
}

zero_number : (bytes : List ℕ) (at : ℕ) → IsBlank bytes → 4 ≤ at → number_at bytes at ≡ 0
zero_number bytes at blank h = omega (arith, blank.zeros at h, blank.zeros (at + 1) (omega arith))

pub blank_page : (bytes : List ℕ) → IsBlank bytes → IsPage bytes
blank_page bytes blank = record {
  size = blank.size;
  slots_end = omega (arith, blank.low_is, blank.room);
  each = λ i h. inl (zero_number bytes (4 + 4 * i) blank (omega arith), zero_number bytes (6 + 4 * i) blank (omega arith));
  least = inl blank.low_is;
  apart = λ p i j hi hj in_i in_j. absurd (omega (arith, zero_number bytes (4 + 4 * i) blank (omega arith), zero_number bytes (6 + 4 * i) blank (omega arith), in_i.below));
}

pub blank_slot : (bytes : List ℕ) → IsBlank bytes → (i : ℕ) → slot_bytes bytes i ≡ []
blank_slot bytes blank i = elim (cases_lt i (slot_count bytes)) [
  | inl h ↦
      slot_bytes_within bytes i h
      ∙ ap (λ (a : ℕ). slice_range bytes a (a + length_of bytes i)) (zero_number bytes (4 + 4 * i) blank (omega arith))
      ∙ ap (λ (n : ℕ). slice_range bytes 0 (0 + n)) (zero_number bytes (6 + 4 * i) blank (omega arith))
  | inr h ↦ slot_bytes_beyond bytes i h
]
