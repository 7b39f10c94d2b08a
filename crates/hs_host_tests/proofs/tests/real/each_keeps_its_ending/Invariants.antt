use Rattle.std.proofs.Common.{◌≡◌}
use Rattle.hs_host_tests.proofs.tests.real.each_keeps_its_ending.Given as goal

abbrev pub invariant-loop-file : goal.invariant-loop-file
invariant-loop-file g l = g.H.Host.standing l.host ≡ g.H.Host.standing l.fn.host
