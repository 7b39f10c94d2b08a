-- A row that is written in front of the others keeps the page one, and the other slots as they are.
use Rattle.std.proofs.Common.{◌≡◌, ◌≢◌, ◌⊎◌, ℕ, ◌+◌, ◌-◌, ◌*◌, ◌<◌, ◌≤◌, max, Bool, List, [], length, get_or, slice_range, refl, sym, subst, ◌∙◌, ap, arith, inl, inr}
use Rattle.std.proofs.lemmas.Bool.{cases_eq, cases_lt}
use Rattle.hs_page.specs.declared.TheConstants.{PAGE_BYTES}
use Rattle.hs_page.specs.Pages.{slot_count, low, offset_of, length_of, IsFree, HasRow, IsIn, SomeRowAt, IsPage, slot_bytes}
use Rattle.hs_page.specs.Writes.{SameNumbers, IsPlaced, IsPut, MayPlace}
use Rattle.hs_page.proofs.PageFacts.{slot_bytes_within, slot_bytes_beyond, slot_end, low_end, in_rows}
use Rattle.hs_page.proofs.Ranges.{same_range}

module _ (old new : List ℕ) (slot : ℕ) (row : List ℕ) (before : MayPlace old slot row) (placed : IsPlaced old new slot row) (size : length new ≡ PAGE_BYTES) where
  was_there : (i : ℕ) → i < slot_count new → i ≢ slot → i < slot_count old
  was_there i h other = omega (arith, placed.count, before.slot_is)

  was_in : (i p : ℕ) → i < slot_count new → i ≢ slot → IsIn new i p → IsIn old i p
  was_in i p h other inside =
      let same = placed.slots i (was_there i h other) other in
      record { from = omega (arith, same.offset, inside.from); below = omega (arith, same.offset, same.len, inside.below) }

  in_new : (p : ℕ) → IsIn new slot p → p < low old
  in_new p inside = omega (arith, placed.offset, placed.len, placed.in_front, inside.below)

  each : (i : ℕ) → i < slot_count new → IsFree new i ⊎ HasRow new i
  each i h = elim (cases_eq i slot) [
    | inl here ↦
        let end : low new + length row ≤ PAGE_BYTES = omega (arith, placed.in_front, low_end old before.page) in
        let offset : offset_of new i ≡ low new = ap (offset_of new) here ∙ placed.offset in
        let long : length_of new i ≡ length row = ap (length_of new) here ∙ placed.len in
        inr (omega (arith, offset), omega (arith, long, before.some), omega (arith, offset, long, end))
    | inr other ↦
        let same : SameNumbers old new i = placed.slots i (was_there i h other) other in
        elim (before.page.each i (was_there i h other)) [
          | inl free ↦ inl (same.offset ∙ free.0, same.len ∙ free.1)
          | inr has ↦ inr (omega (arith, same.offset, placed.in_front, has.0), omega (arith, same.len, has.1), omega (arith, same.offset, same.len, has.2))
        ]
  ]

  -- a byte of the new row is of no other one
  new_alone : (p i : ℕ) → i < slot_count new → IsIn new slot p → IsIn new i p → i ≡ slot
  new_alone p i h inside in_i = elim (cases_eq i slot) [
    | inl here ↦ here
    | inr other ↦
        let below : p < low old = in_new p inside in
        let behind : low old ≤ p = in_rows old i p before.page (was_there i h other) (was_in i p h other in_i) in
        absurd (omega arith)
  ]

  apart : (p i j : ℕ) → i < slot_count new → j < slot_count new → IsIn new i p → IsIn new j p → i ≡ j
  apart p i j hi hj in_i in_j = elim (cases_eq i slot) [
    | inl here ↦ here ∙ sym (new_alone p j hj (subst (λ (k : ℕ). IsIn new k p) here in_i) in_j)
    | inr other ↦ elim (cases_eq j slot) [
      | inl there ↦ new_alone p i hi (subst (λ (k : ℕ). IsIn new k p) there in_j) in_i ∙ sym there
      | inr another ↦ before.page.apart p i j (was_there i hi other) (was_there j hj another) (was_in i p hi other in_i) (was_in j p hj another in_j)
    ]
  ]

  pub placed_page : IsPage new
  placed_page = record {
    size = size;
    slots_end = omega (arith, placed.count, placed.in_front, before.gap);
    each = each;
    least = inr (record { slot = slot; within = omega (arith, placed.count); used = omega (arith, placed.len, before.some); is = placed.offset });
    apart = apart;
  }

  here : slot_bytes new slot ≡ row
  here =
      let within : slot < slot_count new = omega (arith, placed.count) in
      slot_bytes_within new slot within
      ∙ ap (λ (a : ℕ). slice_range new a (a + length_of new slot)) placed.offset
      ∙ ap (λ (n : ℕ). slice_range new (low new) (low new + n)) placed.len
      ∙ placed.bytes

  -- a slot that was there has the same bytes
  kept : (i : ℕ) → i < slot_count old → i ≢ slot → slot_bytes new i ≡ slot_bytes old i
  kept i h other =
      let same : SameNumbers old new i = placed.slots i h other in
      let within : i < slot_count new = omega (arith, placed.count, h) in
      let end : offset_of old i + length_of old i ≤ PAGE_BYTES = slot_end old i before.page h in
      slot_bytes_within new i within
      ∙ ap (λ (a : ℕ). slice_range new a (a + length_of new i)) same.offset
      ∙ ap (λ (n : ℕ). slice_range new (offset_of old i) (offset_of old i + n)) same.len
      ∙ same_range new old (offset_of old i) (offset_of old i + length_of old i) (omega (arith, size, end)) (omega (arith, before.page.size, end))
      (λ k from below. placed.rows k (in_rows old i k before.page h (record { from = from; below = below })))
      ∙ sym (slot_bytes_within old i h)

  pub placed_put : IsPut old new slot row
  placed_put = record {
    count = placed.count;
    here = here;
    others = λ i other. elim (cases_lt i (slot_count old)) [
      | inl h ↦ kept i h other
      | inr beyond ↦
          let after : slot_count new ≤ i = omega (arith, placed.count, beyond, other, before.slot_is) in
          slot_bytes_beyond new i after ∙ sym (slot_bytes_beyond old i beyond)
    ];
  }
