use Rattle.std.proofs.Common.{◌≡◌}
use Rattle.hs_host_tests.proofs.tests.steps.all_answer.Given as goal

abbrev pub invariant-loop-step : goal.invariant-loop-step
invariant-loop-step g l = g.H.Host.standing l.host ≡ g.H.Host.standing l.fn.host
