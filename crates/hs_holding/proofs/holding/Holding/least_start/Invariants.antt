use Rattle.std.proofs.Common.{◌-◌}
use Rattle.hs_holding.specs.Starts.{IsLeastAmong}
use Rattle.hs_holding.proofs.holding.Holding.least_start.Given as goal

abbrev pub invariant-loop-s : goal.invariant-loop-s
invariant-loop-s l = IsLeastAmong l.kind l.but.0 (l.s - 1) l.self l.least
