use Rattle.std.proofs.Common.{◌≡◌, Ok}
use Rattle.hs_run.specs.Running.{MovesOn}
use Rattle.hs_run.proofs.running.Running.close_all.Given as goal

abbrev pub invariant-loop : goal.invariant-loop
invariant-loop g l = record {
  moved : MovesOn {R = Unit {0}} g.T.Turns g.H.Source g.H.Host l.fn.self l.fn.host l.self l.host (Ok tt);
  reader : l.self.reader ≡ l.fn.self.reader;
  unread : g.H.Source.unread l.host ≡ g.H.Source.unread l.fn.host;
}

abbrev pub decreases-loop : goal.decreases-loop
decreases-loop g l = g.T.Turns.weight l.self.turns
