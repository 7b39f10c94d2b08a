-- The steps in which the rows of a page are packed.
use Rattle.std.proofs.Common.{◌≡◌, ◌≢◌, ℕ, ◌+◌, ◌*◌, ◌<◌, ◌≤◌, max, List, [], map, length, take, sym, subst, ◌∙◌, ap, arith, inl, inr, refl, ◌∷◌, ◌==◌, true, false, below_more}
use Rattle.std.proofs.lemmas.Bool.{cases_lt, eqb-false, eqb-true}
use Rattle.std.specs.List.{range_with_len, sum_by}
use Rattle.std.proofs.lemmas.List.FromFn.{take-map-range_with_len, sum_by-map-range_with_len_more}
use Rattle.std.proofs.lemmas.List.Sums.{sum_by-take-le}
use Rattle.hs_page.specs.declared.TheConstants.{PAGE_BYTES}
use Rattle.hs_page.specs.Pages.{IsPage, slot_count, slot_bytes, slots_of, low, bytes_taken}
use Rattle.hs_page.specs.Writes.{MayPlace, IsPut, IsPacked, IsPackedTo}
use Rattle.hs_page.proofs.PageFacts.{slot_bytes_beyond}
use Rattle.hs_page.proofs.Blank.{IsBlank, blank_page, blank_slot}

abbrev pub taken : List ℕ → ℕ → ℕ
taken bytes i = sum_by length (map (slot_bytes bytes) (range_with_len 0 i))

pub taken_more : (bytes : List ℕ) (i : ℕ) → taken bytes (i + 1) ≡ taken bytes i + length (slot_bytes bytes i)
taken_more bytes i = sum_by-map-range_with_len_more (length {A = ℕ}) (slot_bytes bytes) 0 i i (omega arith)

taken_le : (bytes : List ℕ) (i n : ℕ) → i ≤ n → taken bytes i ≤ taken bytes n
taken_le bytes i n h =
    let whole = map (slot_bytes bytes) (range_with_len 0 n) in
    let part : sum_by length (take i whole) ≡ taken bytes i = ap (sum_by length) (take-map-range_with_len (slot_bytes bytes) 0 n i h) in
    omega (arith, part, sum_by-take-le (length {A = ℕ}) whole i)

module _ (old new : List ℕ) (i : ℕ) (to : IsPackedTo old new i) (within : i < slot_count old) where
  pub packed_room : bytes_taken (slot_count old) (slots_of old) ≤ PAGE_BYTES → 0 < length (slot_bytes old i) → MayPlace new i (slot_bytes old i)
  packed_room room some = record {
    page = to.page;
    slot_is = omega (arith, to.count, within);
    some = some;
    gap = omega (arith, to.count, within, to.in_front, room, taken_more old i, taken_le old (i + 1) (slot_count old) (omega arith));
  }

  pub packed_skip : slot_bytes old i ≡ [] → IsPackedTo old new (i + 1)
  packed_skip none = record {
    page = to.page;
    count = to.count;
    in_front = omega (arith, to.in_front, taken_more old i, ap length none);
    done = below_more _ _ to.done (to.rest i (omega arith) ∙ sym none);
    rest = λ k h. to.rest k (omega arith);
  }

  pub packed_more : (next : List ℕ) → IsPage next → low next + length (slot_bytes old i) ≡ low new → IsPut new next i (slot_bytes old i) → IsPackedTo old next (i + 1)
  packed_more next page in_front put = record {
    page = page;
    count = put.count ∙ omega (arith, to.count, within);
    in_front = omega (arith, to.in_front, taken_more old i, in_front);
    done = below_more _ _ (λ k h. put.others k (omega arith) ∙ to.done k h) put.here;
    rest = λ k h. put.others k (omega arith) ∙ to.rest k (omega arith);
  }

pub packed_end : (old new : List ℕ) (i : ℕ) → IsPackedTo old new i → slot_count old ≤ i → i ≤ slot_count old → IsPacked old new (taken old (slot_count old))
packed_end old new i to from below =
    let all : i ≡ slot_count old = omega arith in
    record {
      count = to.count;
      in_front = omega (arith, to.in_front, ap (taken old) all, to.page.size);
      same = λ k. elim (cases_lt k i) [ inl h ↦ to.done k h | inr h ↦ to.rest k h ∙ sym (slot_bytes_beyond old k (omega (arith, h, from))) ];
    }

pub some_bytes : (row : List ℕ) → length row == 0 ≡ false → 0 < length row
some_bytes row h = let ne : length row ≢ 0 = eqb-false (length row) 0 h in omega arith

pub no_bytes : (row : List ℕ) → length row == 0 ≡ true → row ≡ []
no_bytes [] h = refl
no_bytes (x ∷ xs) h = absurd (omega (arith, eqb-true (length (x ∷ xs)) 0 h))
