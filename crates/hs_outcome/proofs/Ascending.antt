-- Ascending tables are told by which they are.
use Rattle.std.proofs.Common.{◌≡◌, ◌↔◌, inl, inr, ℕ, zero, suc, ◌<◌, List, [], ◌∷◌, length, map, slice_index_or, refl, sym, ap, ◌∙◌, arith}
use Rattle.std.specs.List.{AllPairs, Contains}
use Rattle.std.proofs.lemmas.List.{length-map}
use Rattle.std.proofs.lemmas.List.Kept.{AllPairs-from_increasing}
use Rattle.hs_base.specs.declared.numbers.TableNo.{TableNo}
use Rattle.hs_rel.proofs.Selecting.{at_head, head_or_tail, in_tail, nothing_in}
use Rattle.hs_outcome.specs.Same.{Ascend}

abbrev number : TableNo → ℕ
number t = t.0

abbrev Pairs : List TableNo → Type 0
Pairs tables = AllPairs (λ x y. x < y) (map number tables)

at_map : (xs : List TableNo) (k : ℕ) (t : TableNo) → slice_index_or (map number xs) k t.0 ≡ (slice_index_or xs k t).0
at_map [] k t = refl
at_map (x ∷ xs) zero t = refl
at_map (x ∷ xs) (suc k) t = at_map xs k t

-- the first is below each one behind it
above : (x : TableNo) (xs : List TableNo) → Pairs (x ∷ xs) → (t : TableNo) → Contains xs t → x.0 < t.0
above x xs pairs t h =
    let low : suc h.0 < length (map number (x ∷ xs)) = omega (arith, h.1, length-map xs number) in
    let less : x.0 < slice_index_or (map number xs) h.0 t.0 = pairs 0 (suc h.0) t.0 (omega arith) low in
    let same : slice_index_or (map number xs) h.0 t.0 ≡ t.0 = at_map xs h.0 t ∙ ap number h.2 in
    omega (arith, less, same)

behind : (x : TableNo) (xs : List TableNo) → Pairs (x ∷ xs) → Pairs xs
behind x xs pairs i j d lt low = pairs (suc i) (suc j) d (omega (arith, lt)) (omega (arith, low))

same_table : (x y : TableNo) → x.0 ≡ y.0 → x ≡ y
same_table x y h = λ i. record { 0 = h i }

module _ (x y : TableNo) (xs ys : List TableNo) (p : Pairs (x ∷ xs)) (q : Pairs (y ∷ ys))
    (to : (t : TableNo) → Contains (x ∷ xs) t → Contains (y ∷ ys) t) (from : (t : TableNo) → Contains (y ∷ ys) t → Contains (x ∷ xs) t) where
  heads : x ≡ y
  heads =
      elim (head_or_tail y ys x (to x (at_head x xs))) [
        | inl is ↦ sym is
        | inr later ↦
            elim (head_or_tail x xs y (from y (at_head y ys))) [
              | inl is ↦ is
              | inr more ↦ let down = above y ys q x later in let up = above x xs p y more in absurd (omega (arith, down, up))
            ]
      ]

  into : (t : TableNo) → Contains xs t → Contains ys t
  into t h =
      elim (head_or_tail y ys t (to t (in_tail x xs t h))) [
        | inl is ↦ let up = above x xs p t h in let level : x.0 ≡ t.0 = ap number (heads ∙ is) in absurd (omega (arith, up, level))
        | inr later ↦ later
      ]

  back : (t : TableNo) → Contains ys t → Contains xs t
  back t h =
      elim (head_or_tail x xs t (from t (in_tail y ys t h))) [
        | inl is ↦ let up = above y ys q t h in let level : y.0 ≡ t.0 = ap number (sym heads ∙ is) in absurd (omega (arith, up, level))
        | inr later ↦ later
      ]

same_pairs : (xs ys : List TableNo) → Pairs xs → Pairs ys → ((t : TableNo) → Contains xs t → Contains ys t) → ((t : TableNo) → Contains ys t → Contains xs t) → xs ≡ ys
same_pairs [] [] p q to from = refl
same_pairs [] (y ∷ ys) p q to from = absurd (nothing_in y (from y (at_head y ys)))
same_pairs (x ∷ xs) [] p q to from = absurd (nothing_in x (to x (at_head x xs)))
same_pairs (x ∷ xs) (y ∷ ys) p q to from =
    let head = heads x y xs ys p q to from in
    let tail = same_pairs xs ys (behind x xs p) (behind y ys q) (into x y xs ys p q to from) (back x y xs ys p q to from) in
    λ i. head i ∷ tail i

pub same_tables : (xs ys : List TableNo) → Ascend xs → Ascend ys → ((t : TableNo) → Contains xs t ↔ Contains ys t) → xs ≡ ys
same_tables xs ys p q is = same_pairs xs ys (AllPairs-from_increasing (map number xs) p) (AllPairs-from_increasing (map number ys) q) (λ t. (is t).0) (λ t. (is t).1)
