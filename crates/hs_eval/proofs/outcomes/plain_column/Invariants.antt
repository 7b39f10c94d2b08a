use Rattle.std.proofs.Common.{◌≡◌, map, take}
use Rattle.hs_expression.specs.Expression.{value_of}
use Rattle.hs_settled.specs.Spots.{spots_seen}
use Rattle.hs_eval.proofs.outcomes.plain_column.Given as goal

abbrev pub invariant-loop-at : goal.invariant-loop-at
invariant-loop-at l = l.column.items ≡ map (value_of l.e) (take l.at (spots_seen l.spots))
