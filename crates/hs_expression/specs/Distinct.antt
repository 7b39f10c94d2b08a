-- Lists of values in which equal ones are one.
use Rattle.std.specs.Prelude.{Bool, List}
use Rattle.std.specs.Ordering.{eq_by_cmp}
use Rattle.hs_values.specs.declared.value.Value.{Value}
use Rattle.hs_values.specs.Order.{order_of}
use Rattle.hs_values.specs.Sorted.{sorted_by}
use Rattle.hs_rel.specs.Bags.{first_of_each}

abbrev pub same_value : Value → Value → Bool
same_value = eq_by_cmp order_of

-- of equal values the first, in ascending order
abbrev pub distinct_values : List Value → List Value
distinct_values values = sorted_by order_of (first_of_each same_value values)
