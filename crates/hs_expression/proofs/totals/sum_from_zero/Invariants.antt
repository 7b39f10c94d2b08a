use Rattle.std.proofs.Common.{◌≡◌, drop}
use Rattle.std.specs.Prelude.{fold}
use Rattle.hs_expression.specs.Aggregates.{added, sum_where, is_from_zero}
use Rattle.hs_expression.proofs.totals.sum_from_zero.Given as goal

abbrev pub invariant-loop-a : goal.invariant-loop-a
invariant-loop-a l = sum_where is_from_zero l.values ≡ fold (added is_from_zero) l.total (drop l.a-index l.values)
