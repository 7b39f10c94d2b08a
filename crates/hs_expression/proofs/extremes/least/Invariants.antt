use Rattle.std.proofs.Common.{◌≡◌, drop}
use Rattle.std.specs.Ordering.{is_lt}
use Rattle.std.specs.Prelude.{fold}
use Rattle.hs_values.specs.Order.{seen}
use Rattle.hs_expression.specs.Aggregates.{better_of, least_of}
use Rattle.hs_expression.proofs.extremes.least.Given as goal

abbrev pub invariant-loop-a : goal.invariant-loop-a
invariant-loop-a l = least_of l.values ≡ fold (better_of is_lt) (seen l.least) (drop l.a-index l.values)
