use Rattle.hs_host.proofs.Used.{told_back}
use Rattle.hs_gate.proofs.Anew.{stands_ready}
use Rattle.hs_outside_tests.proofs.tests.gates.start_anew.Goals as goal

pub start-requires-clause-ready : goal.start-requires-clause-ready
start-requires-clause-ready g c = λ later. stands_ready _ _ _ (c.in_ok-settle.ensures.stands (told_back c.settle.ensures.changes.uses later))
