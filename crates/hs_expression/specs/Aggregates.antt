-- What the aggregates give of the values of a group. NULL counts in none of them.
use Rattle.std.specs.Prelude.{ℕ, pos, Bool, not, ◌&&◌, ◌||◌, List, count_by, fold, if◌then◌else◌, Ok}
use Rattle.std.specs.Ordering.{is_lt, is_gt}
use Rattle.std.specs.declared.cmp.Ordering.{Ordering}
use Rattle.hs_ast.specs.declared.expression.Aggregate.{Aggregate}
use Rattle.hs_ast.specs.declared.expression.Aggregate.TheVariants as aggregate
use Rattle.hs_values.specs.declared.value.Value.{Value}
use Rattle.hs_values.specs.declared.value.Value.TheVariants as v
use Rattle.hs_values.specs.Order.{order_of}
use Rattle.hs_values.specs.Outcome.{◌>>=◌}
use Rattle.hs_expression.specs.Logic.{is_null}
use Rattle.hs_expression.specs.Numbers.{Outcome, whole_value, sum_value, quotient_value, plus_value, is_below_zero}
use Rattle.hs_expression.specs.Distinct.{distinct_values}

-- ---- COUNT

-- so many, as a whole number
abbrev pub count_value : ℕ → Outcome
count_value n = whole_value (pos n)

abbrev pub is_known : Value → Bool
is_known a = not (is_null a)

abbrev pub counted : List Value → Outcome
counted values = count_value (count_by is_known values)

-- ---- SUM and AVG

-- the sum so far, which is NULL where there is none yet, and one more number
abbrev pub joined_sum : Value → Value → Outcome
joined_sum so_far a = if is_null so_far then Ok (plus_value a) else sum_value so_far a

abbrev pub joined_to : Outcome → Value → Outcome
joined_to so_far a = so_far >>= λ total. joined_sum total a

abbrev pub added : (Value → Bool) → Outcome → Value → Outcome
added test so_far a = if test a then joined_to so_far a else so_far

-- the sum of the numbers that pass a test, from the left; NULL where none does
abbrev pub sum_where : (Value → Bool) → List Value → Outcome
sum_where test values = fold (added test) (Ok v.Null) values

abbrev pub is_from_zero : Value → Bool
is_from_zero a = is_known a && not (is_below_zero a)

abbrev pub both_sums : Value → Value → Outcome
both_sums above below = if is_null below then Ok above else joined_sum above below

-- the numbers from zero on and those below zero are added apart, and then both sums
abbrev pub total_of : List Value → Outcome
total_of values = sum_where is_from_zero values >>= λ above. sum_where is_below_zero values >>= λ below. both_sums above below

-- SUM divided by COUNT
abbrev pub average_of : List Value → Outcome
average_of values = total_of values >>= λ total. counted values >>= λ count. quotient_value total count

-- ---- MIN and MAX

-- whether a value takes the place of the best so far: where there is none yet, or it is there and further on
abbrev pub is_better : (Ordering → Bool) → Value → Value → Bool
is_better is_further best a = is_null best || (is_known a && is_further (order_of a best))

abbrev pub better_of : (Ordering → Bool) → Value → Value → Value
better_of is_further best a = if is_better is_further best a then a else best

abbrev pub least_of : List Value → Value
least_of values = fold (better_of is_lt) v.Null values

abbrev pub greatest_of : List Value → Value
greatest_of values = fold (better_of is_gt) v.Null values

-- ---- all of them

abbrev pub aggregate_of : Aggregate → List Value → Outcome
aggregate_of aggregate.Count values = counted values
aggregate_of aggregate.Sum values = total_of values
aggregate_of aggregate.Avg values = average_of values
aggregate_of aggregate.Min values = Ok (least_of values)
aggregate_of aggregate.Max values = Ok (greatest_of values)

-- of equal values one, where DISTINCT is written
abbrev pub considered : Bool → List Value → List Value
considered distinct values = if distinct then distinct_values values else values

abbrev pub aggregate_value : Aggregate → Bool → List Value → Outcome
aggregate_value function distinct values = aggregate_of function (considered distinct values)
