use Rattle.std.proofs.Common.{◌-◌, ◌^◌, ◌<◌}
use Rattle.hs_waits.proofs.Ways.{Leading, Widens}
use Rattle.hs_waits.proofs.leading.leading_to.Given as goal

abbrev pub invariant-loop-wide : goal.invariant-loop-wide
invariant-loop-wide l = record {
  leading : Leading l.waits l.fn.session.0 l.set;
  widens : Widens l.waits l.set l.wide;
  fits : l.wide < 2 ^ 64;
}

abbrev pub decreases-loop-wide : goal.decreases-loop-wide
decreases-loop-wide l = 2 ^ 64 - l.set
