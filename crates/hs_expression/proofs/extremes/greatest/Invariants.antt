use Rattle.std.proofs.Common.{◌≡◌, drop}
use Rattle.std.specs.Ordering.{is_gt}
use Rattle.std.specs.Prelude.{fold}
use Rattle.hs_values.specs.Order.{seen}
use Rattle.hs_expression.specs.Aggregates.{better_of, greatest_of}
use Rattle.hs_expression.proofs.extremes.greatest.Given as goal

abbrev pub invariant-loop-a : goal.invariant-loop-a
invariant-loop-a l = greatest_of l.values ≡ fold (better_of is_gt) (seen l.greatest) (drop l.a-index l.values)
