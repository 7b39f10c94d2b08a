use Rattle.std.proofs.Common.{false, ◌-◌}
use Rattle.hs_holding.specs.Starts.{IsReadAmong}
use Rattle.hs_holding.proofs.holding.Holding.is_read_from.Given as goal

abbrev pub invariant-loop-s : goal.invariant-loop-s
invariant-loop-s l = IsReadAmong l.kind l.start.0 l.but.0 (l.s - 1) l.self false
