use Rattle.std.proofs.Common.{◌≡◌, drop}
use Rattle.hs_answer.specs.Bodies.{given_row}
use Rattle.hs_settled.proofs.Widening.{given_behind}
use Rattle.hs_settled.proofs.values.given.Given as goal

abbrev pub invariant-loop-i : goal.invariant-loop-i
invariant-loop-i l = given_row l.kinds l.fn.outcomes.items ≡ given_behind l.row (drop l.i l.kinds) (drop l.i l.slot-items)
