use Rattle.std.proofs.Common.{◌≡◌, drop}
use Rattle.std.specs.Prelude.{fold}
use Rattle.hs_expression.specs.Numbers.{is_below_zero}
use Rattle.hs_expression.specs.Aggregates.{added, sum_where}
use Rattle.hs_expression.proofs.totals.sum_below_zero.Given as goal

abbrev pub invariant-loop-a : goal.invariant-loop-a
invariant-loop-a l = sum_where is_below_zero l.values ≡ fold (added is_below_zero) l.total (drop l.a-index l.values)
