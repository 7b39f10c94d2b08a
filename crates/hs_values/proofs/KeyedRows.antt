-- The order of rows by keys, column by column.
use Rattle.std.proofs.Common.{◌≡◌, ◌⊎◌, ◌↔◌, inl, inr, ℕ, zero, suc, ◌+◌, ◌-◌, ◌<◌, ◌≤◌, Bool, true, false, List, [], ◌∷◌, length, take, drop, get_or, min, nat_le, refl, sym, ap, ◌∙◌, arith, drop-cons, length-drop, add-one}
use Rattle.std.proofs.lemmas.List.{take_all}
use Rattle.std.proofs.lemmas.Bool.{cases_Bool, leb-true, leb-false}
use Rattle.std.specs.declared.cmp.Ordering.{Ordering}
use Rattle.std.specs.declared.cmp.Ordering.TheVariants.{Less, Equal, Greater}
use Rattle.std.specs.Ordering.{ordering_then, bool_cmp}
use Rattle.std.specs.Cmp.{tied_back}
use Rattle.hs_values.specs.declared.value.Value.{Value}
use Rattle.hs_values.specs.declared.value.Value.TheVariants as v
use Rattle.hs_values.specs.Order.{order_of, row_order_of, is_there, column_order, keyed_order_of}
use Rattle.hs_values.specs.TotalOrder.{order_of_total}
use Rattle.hs_values.proofs.Keys.{then_Equal}

-- the first columns that are left decide, and else those behind them
pub keyed_at : (flags : List Bool) (xs ys : List Value) (i : ℕ) (d : Bool) (v w : Value) → i < length flags → i < length xs → i < length ys → keyed_order_of (drop i flags) (drop i xs) (drop i ys) ≡ ordering_then (column_order (get_or flags i d) (get_or xs i v) (get_or ys i w)) (keyed_order_of (drop (i + 1) flags) (drop (i + 1) xs) (drop (i + 1) ys))
keyed_at flags xs ys i d v w h k l = rw (add-one, drop-cons flags i d, drop-cons xs i v, drop-cons ys i w)

-- without a flag or a column left the order is that of rows
pub keyed_ended : (flags : List Bool) (xs ys : List Value) → (length flags ≡ 0) ⊎ ((length xs ≡ 0) ⊎ (length ys ≡ 0)) → keyed_order_of flags xs ys ≡ row_order_of xs ys
keyed_ended [] xs ys h = refl
keyed_ended (f ∷ flags) [] [] h = refl
keyed_ended (f ∷ flags) [] (y ∷ ys) h = refl
keyed_ended (f ∷ flags) (x ∷ xs) [] h = refl
keyed_ended (f ∷ flags) (x ∷ xs) (y ∷ ys) h = absurd (elim h [ inl e ↦ omega arith | inr more ↦ elim more [ inl e ↦ omega arith | inr e ↦ omega arith ] ])

rest_whole : {X : Type 0} (xs : List X) (k : ℕ) → take (length xs - k) (drop k xs) ≡ drop k xs
rest_whole xs k = let long : length (drop k xs) ≤ length xs - k = omega (arith, length-drop k xs) in take_all (length xs - k) (drop k xs) long

-- so it is where the loop over the first columns has ended
pub keyed_done : (flags : List Bool) (xs ys : List Value) (i k m : ℕ) → m ≡ min (length flags) (length xs) → k ≡ min m (length ys) → i ≤ k → k ≤ i → keyed_order_of (drop i flags) (drop i xs) (drop i ys) ≡ row_order_of (take (length xs - k) (drop k xs)) (take (length ys - k) (drop k ys))
keyed_done flags xs ys i k m least last up down =
    let same : i ≡ k = omega arith in
    let by_flags : length (drop k flags) ≡ length flags - k = length-drop k flags in
    let by_xs : length (drop k xs) ≡ length xs - k = length-drop k xs in
    let by_ys : length (drop k ys) ≡ length ys - k = length-drop k ys in
    let done : (length (drop k flags) ≡ 0) ⊎ ((length (drop k xs) ≡ 0) ⊎ (length (drop k ys) ≡ 0)) = elim (cases_Bool (nat_le (length flags) k)) [
      | inl h ↦ let le = leb-true (length flags) k h in inl (omega arith)
      | inr h ↦
          let lt = leb-false (length flags) k h in
          elim (cases_Bool (nat_le (length xs) k)) [
            | inl h2 ↦ let le2 = leb-true (length xs) k h2 in inr (inl (omega arith))
            | inr h2 ↦ let lt2 = leb-false (length xs) k h2 in inr (inr (omega arith))
          ]
    ] in
    ap (λ n. keyed_order_of (drop n flags) (drop n xs) (drop n ys)) same ∙ keyed_ended (drop k flags) (drop k xs) (drop k ys) done ∙ (λ j. row_order_of (sym (rest_whole xs k) j) (sym (rest_whole ys k) j))

-- ---- ties and NULL

there_alike : (a b : Value) → order_of a b ≡ Equal → bool_cmp (is_there a) (is_there b) ≡ Equal
there_alike v.Null v.Null h = refl
there_alike v.Null b h = cc
there_alike a v.Null h = cc
there_alike a b h = refl

column_ties : (descending : Bool) (a b : Value) → (column_order descending a b ≡ Equal) ↔ (order_of a b ≡ Equal)
column_ties false a b = (λ h. h, λ h. h)
column_ties true a b = (
  λ h. tied_back order_of_total b a (then_Equal _ _ h).1,
  λ h. ap (λ r. ordering_then r (order_of b a)) (there_alike a b h) ∙ tied_back order_of_total a b h,
)

both_Equal : (r s : Ordering) → r ≡ Equal → s ≡ Equal → ordering_then r s ≡ Equal
both_Equal r s h k = (λ i. ordering_then (h i) (k i))

-- rows that tie by keys tie in all columns
pub keyed_ties : (flags : List Bool) (xs ys : List Value) → (keyed_order_of flags xs ys ≡ Equal) ↔ (row_order_of xs ys ≡ Equal)
keyed_ties [] xs ys = (λ h. h, λ h. h)
keyed_ties (f ∷ flags) [] [] = (λ h. refl, λ h. refl)
keyed_ties (f ∷ flags) [] (y ∷ ys) = (λ h. cc, λ h. cc)
keyed_ties (f ∷ flags) (x ∷ xs) [] = (λ h. cc, λ h. cc)
keyed_ties (f ∷ flags) (x ∷ xs) (y ∷ ys) =
    let first = column_ties f x y in
    let rest = keyed_ties flags xs ys in (
      λ h. let both = then_Equal (column_order f x y) (keyed_order_of flags xs ys) h in both_Equal (order_of x y) (row_order_of xs ys) (first.0 both.0) (rest.0 both.1),
      λ h. let both = then_Equal (order_of x y) (row_order_of xs ys) h in both_Equal (column_order f x y) (keyed_order_of flags xs ys) (first.1 both.0) (rest.1 both.1),
    )

pub null_first : (descending : Bool) (a : Value) → ¬ (a ≡ v.Null) → column_order descending v.Null a ≡ Less
null_first descending v.Null h = absurd (h refl)
null_first false a h = refl
null_first true a h = refl

pub descending_turned : (a b : Value) → ¬ (a ≡ v.Null) → ¬ (b ≡ v.Null) → column_order true a b ≡ order_of b a
descending_turned v.Null b h k = absurd (h refl)
descending_turned a v.Null h k = absurd (k refl)
descending_turned a b h k = refl
