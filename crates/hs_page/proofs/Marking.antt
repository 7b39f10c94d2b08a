-- The steps in which the bytes of rows are marked.
use Rattle.std.proofs.Common.{◌≡◌, ◌≢◌, ◌⊎◌, ℕ, ◌+◌, ◌*◌, ◌<◌, ◌≤◌, Bool, true, false, List, length, get_or, refl, sym, subst, ◌∙◌, ap, arith, inl, inr, below_more}
use Rattle.std.proofs.lemmas.Bool.{cases_eq, cases_lt}
use Rattle.hs_page.specs.declared.TheConstants.{PAGE_BYTES}
use Rattle.hs_page.specs.Pages.{slot_count, low, offset_of, length_of, IsFree, HasRow, IsIn, SomeRowAt, IsPage}
use Rattle.hs_page.specs.Marks.{IsMarked, HasMark, IsWhole, AreApart, IsTakenBelow, AreMarked}
use Rattle.hs_page.proofs.PageFacts.{low_end}

-- a slot of no bytes has none
empty_in : (bytes : List ℕ) (i p : ℕ) → length_of bytes i ≡ 0 → IsIn bytes i p → ⊥
empty_in bytes i p none inside = absurd (omega (arith, none, inside.from, inside.below))

-- no marks are as the start
pub none_marked : (bytes : List ℕ) (marks : List Bool) → ((p : ℕ) → get_or marks p false ≡ false) → AreMarked bytes marks 0
none_marked bytes marks none = record {
  whole = λ i h. absurd (omega arith);
  apart = λ p i j hi hj in_i in_j. absurd (omega arith);
  rows = λ p i h inside. absurd (omega arith);
  only = λ p is. let wrong : false ≡ true = sym (none p) ∙ is in (cc);
}

-- two lists of slots that hold for those below i and for i
apart_more : (bytes : List ℕ) (i : ℕ) → AreApart bytes i → ((p k : ℕ) → k < i → IsIn bytes k p → IsIn bytes i p → ⊥) → AreApart bytes (i + 1)
apart_more bytes i before alone p a b ha hb in_a in_b = elim (cases_eq a i) [
  | inl is_a ↦ elim (cases_eq b i) [
    | inl is_b ↦ is_a ∙ sym is_b
    | inr other ↦ absurd (alone p b (omega arith) in_b (subst (λ (k : ℕ). IsIn bytes k p) is_a in_a))
  ]
  | inr other_a ↦ elim (cases_eq b i) [
    | inl is_b ↦ absurd (alone p a (omega arith) in_a (subst (λ (k : ℕ). IsIn bytes k p) is_b in_b))
    | inr other_b ↦ before p a b (omega arith) (omega arith) in_a in_b
  ]
]

module _ (bytes : List ℕ) (marks : List Bool) (i : ℕ) (before : AreMarked bytes marks i) where
  pub mark_free : offset_of bytes i ≡ 0 → length_of bytes i ≡ 0 → AreMarked bytes marks (i + 1)
  mark_free offset len = record {
    whole = below_more _ _ before.whole (inl (offset, len));
    apart = apart_more bytes i before.apart (λ p k h in_k in_i. empty_in bytes i p len in_i);
    rows = λ p k h inside. elim (cases_eq k i) [
      | inl is ↦ absurd (empty_in bytes i p len (subst (λ (n : ℕ). IsIn bytes n p) is inside))
      | inr other ↦ before.rows p k (omega arith) inside
    ];
    only = λ p is. let taken : IsTakenBelow bytes i p = before.only p is in record { slot = taken.slot; within = omega (arith, taken.within); inside = taken.inside };
  }

  pub mark_meets : HasMark marks (offset_of bytes i) (offset_of bytes i + length_of bytes i) → AreApart bytes (i + 1) → ⊥
  mark_meets has apart =
      let taken : IsTakenBelow bytes i has.place = before.only has.place has.is in
      let same : taken.slot ≡ i = apart has.place taken.slot i (omega (arith, taken.within)) (omega arith) taken.inside (record { from = has.from; below = has.below }) in
      absurd (omega (arith, same, taken.within))

  module _ (new : List Bool) (some : 0 < length_of bytes i) (end : offset_of bytes i + length_of bytes i ≤ PAGE_BYTES)
      (free : (p : ℕ) → offset_of bytes i ≤ p → p < offset_of bytes i + length_of bytes i → get_or marks p false ≡ false)
      (marked : (p : ℕ) → offset_of bytes i ≤ p → p < offset_of bytes i + length_of bytes i → IsMarked new p)
      (others : (p : ℕ) → (p < offset_of bytes i) ⊎ (offset_of bytes i + length_of bytes i ≤ p) → get_or new p false ≡ get_or marks p false) where
    -- what had a mark has one
    still : (p : ℕ) → IsMarked marks p → IsMarked new p
    still p is = elim (cases_lt p (offset_of bytes i)) [
      | inl before_it ↦ others p (inl before_it) ∙ is
      | inr from ↦ elim (cases_lt p (offset_of bytes i + length_of bytes i)) [
        | inl below ↦ marked p from below
        | inr behind ↦ others p (inr behind) ∙ is
      ]
    ]

    only : (p : ℕ) → IsMarked new p → IsTakenBelow bytes (i + 1) p
    only p is =
        let old : IsMarked marks p → IsTakenBelow bytes (i + 1) p = λ was. let taken : IsTakenBelow bytes i p = before.only p was in record { slot = taken.slot; within = omega (arith, taken.within); inside = taken.inside } in
        elim (cases_lt p (offset_of bytes i)) [
          | inl before_it ↦ old (sym (others p (inl before_it)) ∙ is)
          | inr from ↦ elim (cases_lt p (offset_of bytes i + length_of bytes i)) [
            | inl below ↦ record { slot = i; within = omega arith; inside = record { from = from; below = below } }
            | inr behind ↦ old (sym (others p (inr behind)) ∙ is)
          ]
        ]

    pub mark_row : AreMarked bytes new (i + 1)
    mark_row = record {
      whole = below_more _ _ before.whole (inr (some, end));
      apart = apart_more bytes i before.apart (λ p k h in_k in_i. let wrong : false ≡ true = sym (free p in_i.from in_i.below) ∙ before.rows p k h in_k in (cc));
      rows = λ p k h inside. elim (cases_eq k i) [
        | inl is ↦ let here : IsIn bytes i p = subst (λ (n : ℕ). IsIn bytes n p) is inside in marked p here.from here.below
        | inr other ↦ still p (before.rows p k (omega arith) inside)
      ];
      only = only;
    }

-- what is left to say of a page
pub page_is : (bytes : List ℕ) → length bytes ≡ PAGE_BYTES → 4 + 4 * slot_count bytes ≤ low bytes → ((i : ℕ) → i < slot_count bytes → 0 < length_of bytes i → low bytes ≤ offset_of bytes i)
    → ((low bytes ≡ PAGE_BYTES) ⊎ SomeRowAt bytes (low bytes)) → ((i : ℕ) → i < slot_count bytes → IsWhole bytes i) → AreApart bytes (slot_count bytes) → IsPage bytes
page_is bytes size slots_end lower least whole apart = record {
  size = size;
  slots_end = slots_end;
  each = λ i h. elim (whole i h) [ inl free ↦ inl free | inr row ↦ inr (lower i h row.0, row.0, row.1) ];
  least = least;
  apart = apart;
}
