-- Keys that are compared value by value.
use Rattle.std.proofs.Common.{◌≡◌, true, false, List, ◌∷◌, refl}
use Rattle.std.specs.Ordering.{is_eq, ordering_then}
use Rattle.std.specs.declared.cmp.Ordering.{Ordering}
use Rattle.std.specs.declared.cmp.Ordering.TheVariants.{Less, Equal, Greater}
use Rattle.hs_values.specs.declared.value.Value.{Value}
use Rattle.hs_values.specs.Order.{order_of, row_order_of}
use Rattle.hs_index.specs.Keys.{same_key}

then_same : (o rest : Ordering) → is_eq o ≡ true → is_eq (ordering_then o rest) ≡ is_eq rest
then_same Less rest h = absurd (let no : false ≡ true = h in cc)
then_same Equal rest h = refl
then_same Greater rest h = absurd (let no : false ≡ true = h in cc)

then_other : (o rest : Ordering) → is_eq o ≡ false → is_eq (ordering_then o rest) ≡ false
then_other Less rest h = refl
then_other Equal rest h = absurd (let no : true ≡ false = h in cc)
then_other Greater rest h = refl

-- where the first values are equal, the rest decides
pub alike : (a b : Value) (xs ys : List Value) → is_eq (order_of a b) ≡ true → same_key (a ∷ xs) (b ∷ ys) ≡ same_key xs ys
alike a b xs ys h = then_same (order_of a b) (row_order_of xs ys) h

pub unlike : (a b : Value) (xs ys : List Value) → is_eq (order_of a b) ≡ false → same_key (a ∷ xs) (b ∷ ys) ≡ false
unlike a b xs ys h = then_other (order_of a b) (row_order_of xs ys) h
