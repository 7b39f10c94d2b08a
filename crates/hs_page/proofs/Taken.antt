-- A row that is taken out keeps the page one, and the other slots as they are.
use Rattle.std.proofs.Common.{◌≡◌, ◌≢◌, ◌⊎◌, ℕ, ◌+◌, ◌-◌, ◌*◌, ◌<◌, ◌≤◌, max, Bool, List, [], length, get_or, slice_range, refl, sym, subst, ◌∙◌, ap, arith, inl, inr}
use Rattle.std.proofs.lemmas.Bool.{cases_eq, cases_lt}
use Rattle.hs_page.specs.declared.TheConstants.{PAGE_BYTES}
use Rattle.hs_page.specs.Pages.{slot_count, low, offset_of, length_of, IsFree, HasRow, IsIn, SomeRowAt, IsPage, slot_bytes}
use Rattle.hs_page.specs.Writes.{SameNumbers, IsTaken, IsPut}
use Rattle.hs_page.proofs.PageFacts.{slot_bytes_within, slot_bytes_beyond, slot_end, low_end, in_rows}
use Rattle.hs_page.proofs.Ranges.{same_range}

module _ (old new : List ℕ) (slot : ℕ) (page : IsPage old) (within : slot < slot_count old) (taken : IsTaken old new slot) (size : length new ≡ PAGE_BYTES) where
  was_in : (i p : ℕ) → IsIn new i p → IsIn old i p
  was_in i p inside = elim (cases_eq i slot) [
    | inl here ↦
        let offset : offset_of new i ≡ 0 = ap (offset_of new) here ∙ taken.free.0 in
        let len : length_of new i ≡ 0 = ap (length_of new) here ∙ taken.free.1 in
        absurd (omega (arith, offset, len, inside.below))
    | inr other ↦
        let same : SameNumbers old new i = taken.slots i other in
        record { from = omega (arith, same.offset, inside.from); below = omega (arith, same.offset, same.len, inside.below) }
  ]

  each : (i : ℕ) → i < slot_count new → IsFree new i ⊎ HasRow new i
  each i h = elim (cases_eq i slot) [
    | inl here ↦ inl (ap (offset_of new) here ∙ taken.free.0, ap (length_of new) here ∙ taken.free.1)
    | inr other ↦
        let same : SameNumbers old new i = taken.slots i other in
        elim (page.each i (omega (arith, h, taken.count))) [
          | inl free ↦ inl (same.offset ∙ free.0, same.len ∙ free.1)
          | inr has ↦
              let some : 0 < length_of new i = omega (arith, same.len, has.1) in
              inr (taken.lower i h some, some, omega (arith, same.offset, same.len, has.2))
        ]
  ]

  -- low doesn't fall
  low_kept : low old ≤ low new
  low_kept = elim (taken.least) [
    | inl none ↦ omega (arith, none, low_end old page)
    | inr some ↦
        let first : IsIn new some.slot (low new) = record { from = omega (arith, some.is); below = omega (arith, some.is, some.used) } in
        in_rows old some.slot (low new) page (omega (arith, some.within, taken.count)) (was_in some.slot (low new) first)
  ]

  pub taken_page : IsPage new
  taken_page = record {
    size = size;
    slots_end = omega (arith, taken.count, page.slots_end, low_kept);
    each = each;
    least = taken.least;
    apart = λ p i j hi hj in_i in_j. page.apart p i j (omega (arith, hi, taken.count)) (omega (arith, hj, taken.count)) (was_in i p in_i) (was_in j p in_j);
  }

  here : slot_bytes new slot ≡ []
  here =
      slot_bytes_within new slot (omega (arith, within, taken.count))
      ∙ ap (λ (a : ℕ). slice_range new a (a + length_of new slot)) taken.free.0
      ∙ ap (λ (n : ℕ). slice_range new 0 (0 + n)) taken.free.1

  kept : (i : ℕ) → i < slot_count old → i ≢ slot → slot_bytes new i ≡ slot_bytes old i
  kept i h other =
      let same : SameNumbers old new i = taken.slots i other in
      let end : offset_of old i + length_of old i ≤ PAGE_BYTES = slot_end old i page h in
      slot_bytes_within new i (omega (arith, h, taken.count))
      ∙ ap (λ (a : ℕ). slice_range new a (a + length_of new i)) same.offset
      ∙ ap (λ (n : ℕ). slice_range new (offset_of old i) (offset_of old i + n)) same.len
      ∙ same_range new old (offset_of old i) (offset_of old i + length_of old i) (omega (arith, size, end)) (omega (arith, page.size, end))
      (λ k from below. taken.rows k (in_rows old i k page h (record { from = from; below = below })))
      ∙ sym (slot_bytes_within old i h)

  pub taken_put : IsPut old new slot []
  taken_put = record {
    count = omega (arith, taken.count, within);
    here = here;
    others = λ i other. elim (cases_lt i (slot_count old)) [
      | inl h ↦ kept i h other
      | inr beyond ↦ slot_bytes_beyond new i (omega (arith, beyond, taken.count)) ∙ sym (slot_bytes_beyond old i beyond)
    ];
  }
