-- The order of values, and that of rows.
use Rattle.std.specs.Prelude.{ℕ, ◌^◌, Bool, true, false, List, [], ◌∷◌, ℤ, pos, ◌*ℤ◌, Option, Some, None}
use Rattle.std.specs.Cmp.Lexicographic.{slice_cmp}
use Rattle.std.specs.Ordering.{nat_cmp, int_cmp, bool_cmp, ordering_then, then_cmp, on, flip_args}
use Rattle.std.specs.declared.cmp.Ordering.{Ordering}
use Rattle.std.specs.declared.cmp.Ordering.TheVariants.{Less, Equal, Greater}
use Rattle.hs_values.specs.declared.value.Dec.{Dec}
use Rattle.hs_values.specs.declared.value.Value.{Value}
use Rattle.hs_values.specs.declared.value.Value.TheVariants as v
use Rattle.hs_values.specs.declared.value.ValueRef.{ValueRef}
use Rattle.hs_values.specs.declared.value.ValueRef.TheVariants as ref

-- the value that a borrowed one shows
abbrev pub seen : ValueRef → Value
seen ref.Null = v.Null
seen (ref.Int n) = v.Int n
seen (ref.Dec d) = v.Dec d
seen (ref.Text t) = v.Text t.now
seen (ref.Bool b) = v.Bool b
seen (ref.Day d) = v.Day d
seen (ref.Micros m) = v.Micros m

-- a whole number is a decimal without digits behind the point
abbrev pub whole : ℤ → Dec
whole n = record { units = n; scale = 0 }

-- two decimals as the numbers that they are: a / 10^p to b / 10^q is a * 10^q to b * 10^p
abbrev pub number_cmp : Dec → Dec → Ordering
number_cmp a b = int_cmp (a.units *ℤ pos (10 ^ b.scale)) (b.units *ℤ pos (10 ^ a.scale))

-- NULL, then numbers, texts, truth values, dates, timestamps
abbrev pub kind_of : Value → ℕ
kind_of v.Null = 0
kind_of (v.Int n) = 1
kind_of (v.Dec d) = 1
kind_of (v.Text t) = 2
kind_of (v.Bool b) = 3
kind_of (v.Day d) = 4
kind_of (v.Micros m) = 5

-- the order of all values: within a kind by what they are, texts by their bytes, and else by kind
abbrev pub order_of : Value → Value → Ordering
order_of v.Null v.Null = Equal
order_of (v.Int x) (v.Int y) = int_cmp x y
order_of (v.Int x) (v.Dec y) = number_cmp (whole x) y
order_of (v.Dec x) (v.Int y) = number_cmp x (whole y)
order_of (v.Dec x) (v.Dec y) = number_cmp x y
order_of (v.Text x) (v.Text y) = slice_cmp nat_cmp x y
order_of (v.Bool x) (v.Bool y) = bool_cmp x y
order_of (v.Day x) (v.Day y) = int_cmp x y
order_of (v.Micros x) (v.Micros y) = int_cmp x y
order_of a b = nat_cmp (kind_of a) (kind_of b)

-- the order of rows: by the first column in which they differ, and a row before a longer one that it begins
abbrev pub row_order_of : List Value → List Value → Ordering
row_order_of = slice_cmp order_of

-- a value is there, and not NULL
abbrev pub is_there : Value → Bool
is_there v.Null = false
is_there a = true

-- the order of a column: ascending that of all values; descending the other way round, but NULL first too
abbrev pub column_order : Bool → Value → Value → Ordering
column_order false = order_of
column_order true = then_cmp (on is_there bool_cmp) (flip_args order_of)

-- by the first column, and where that ties by the others; a row before a longer one that it begins
abbrev pub first_then : {X : Type 0} → (X → X → Ordering) → (List X → List X → Ordering) → List X → List X → Ordering
first_then first others [] [] = Equal
first_then first others [] (y ∷ ys) = Less
first_then first others (x ∷ xs) [] = Greater
first_then first others (x ∷ xs) (y ∷ ys) = ordering_then (first x y) (others xs ys)

-- the order of rows with a flag for each of the first columns, descending where it is true, and then by all further columns, ascending
abbrev pub keyed_order_of : List Bool → List Value → List Value → Ordering
keyed_order_of [] = row_order_of
keyed_order_of (descending ∷ flags) = first_then (column_order descending) (keyed_order_of flags)

-- the comparison of SQL, which has no answer where there is a NULL
abbrev pub cmp_of : Value → Value → Option Ordering
cmp_of v.Null b = None
cmp_of a v.Null = None
cmp_of a b = Some (order_of a b)
