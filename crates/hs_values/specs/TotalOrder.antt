-- The orders of values and of rows are total orders, as `Ord` asks for.
use Rattle.std.proofs.Common.{◌≡◌, ℕ, ℤ, pos, ◌*ℤ◌, Bool, true, false, List, [], ◌∷◌, Option, Some, None, refl, ap, subst, ◌∙◌}
use Rattle.std.proofs.Math.IntN.{one, *ℤ-one}
use Rattle.std.specs.declared.cmp.Ordering.{Ordering}
use Rattle.std.specs.declared.cmp.Ordering.TheVariants.{Less, Equal, Greater}
use Rattle.std.specs.Ordering.{nat_cmp, int_cmp, bool_cmp, ordering_then, then_cmp, on, flip_args}
use Rattle.std.specs.Cmp.{IsTotalOrder, int_cmp_total, nat_cmp_total, bool_cmp_total, then_total, on_total, back_total}
use Rattle.std.specs.Cmp.Lexicographic.{slice_cmp, nat_list_cmp_total, lists_total, options_total}
use Rattle.std.specs.Option.{option_cmp}
use Rattle.hs_values.specs.declared.value.Dec.{Dec}
use Rattle.hs_values.specs.declared.value.Value.{Value}
use Rattle.hs_values.specs.declared.value.Value.TheVariants as v
use Rattle.hs_values.specs.Order.{whole, number_cmp, kind_of, order_of, row_order_of, is_there, column_order, first_then, keyed_order_of}
use Rattle.hs_values.specs.NumberOrder.{number_cmp_total}

-- what a value of each kind is, and the same for all values of another kind
abbrev number_in : Value → Dec
number_in (v.Int n) = whole n
number_in (v.Dec d) = d
number_in _ = whole (pos 0)

abbrev text_in : Value → List ℕ
text_in (v.Text t) = t
text_in _ = []

abbrev truth_in : Value → Bool
truth_in (v.Bool b) = b
truth_in _ = false

abbrev count_in : Value → ℤ
count_in (v.Day d) = d
count_in (v.Micros m) = m
count_in _ = pos 0

abbrev by_parts : Value → Value → Ordering
by_parts = then_cmp (on kind_of nat_cmp) (then_cmp (on number_in number_cmp) (then_cmp (on text_in (slice_cmp nat_cmp)) (then_cmp (on truth_in bool_cmp) (on count_in int_cmp))))

by_parts_total : IsTotalOrder by_parts
by_parts_total = then_total (on_total kind_of nat_cmp_total) (then_total (on_total number_in number_cmp_total) (then_total (on_total text_in nat_list_cmp_total) (then_total (on_total truth_in bool_cmp_total) (on_total count_in int_cmp_total))))

then_level : (r : Ordering) → ordering_then r Equal ≡ r
then_level Less = refl
then_level Equal = refl
then_level Greater = refl

wholes : (x y : ℤ) → number_cmp (whole x) (whole y) ≡ int_cmp x y
unfolding one
wholes x y = ap (λ n. int_cmp n (y *ℤ pos 1)) (*ℤ-one x) ∙ ap (int_cmp x) (*ℤ-one y)

as_parts : (a b : Value) → by_parts a b ≡ order_of a b
as_parts v.Null v.Null = refl
as_parts (v.Int x) (v.Int y) = then_level _ ∙ wholes x y
as_parts (v.Int x) (v.Dec y) = then_level _
as_parts (v.Dec x) (v.Int y) = then_level _
as_parts (v.Dec x) (v.Dec y) = then_level _
as_parts (v.Text x) (v.Text y) = then_level _
as_parts (v.Bool x) (v.Bool y) = then_level _
as_parts (v.Day x) (v.Day y) = refl
as_parts (v.Micros x) (v.Micros y) = refl
as_parts a b = refl

pub order_of_total : IsTotalOrder order_of
order_of_total = subst IsTotalOrder (λ i a b. as_parts a b i) by_parts_total

pub row_order_of_total : IsTotalOrder row_order_of
row_order_of_total = lists_total order_of_total

pub column_order_total : (descending : Bool) → IsTotalOrder (column_order descending)
column_order_total false = order_of_total
column_order_total true = then_total (on_total is_there bool_cmp_total) (back_total order_of_total)

module _ {X : Type 0} (first : X → X → Ordering) (others : List X → List X → Ordering) where
  -- the first of a list and what follows it
  abbrev parted : List X → Option (X × List X)
  parted [] = None
  parted (x ∷ xs) = Some (x, xs)

  abbrev of_parts : List X → List X → Ordering
  of_parts = on parted (option_cmp (then_cmp (on (λ p. p.0) first) (on (λ p. p.1) others)))

  as_parted : (xs ys : List X) → of_parts xs ys ≡ first_then first others xs ys
  as_parted [] [] = refl
  as_parted [] (y ∷ ys) = refl
  as_parted (x ∷ xs) [] = refl
  as_parted (x ∷ xs) (y ∷ ys) = refl

  pub first_then_total : IsTotalOrder first → IsTotalOrder others → IsTotalOrder (first_then first others)
  first_then_total o p = subst IsTotalOrder (λ i xs ys. as_parted xs ys i) (on_total parted (options_total (then_total (on_total (λ q. q.0) o) (on_total (λ q. q.1) p))))

pub keyed_order_of_total : (flags : List Bool) → IsTotalOrder (keyed_order_of flags)
keyed_order_of_total [] = row_order_of_total
keyed_order_of_total (descending ∷ flags) = first_then_total (column_order descending) (keyed_order_of flags) (column_order_total descending) (keyed_order_of_total flags)
