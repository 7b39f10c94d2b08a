use Rattle.std.proofs.Common.{Ok}
use Rattle.hs_entries.specs.Reader.{room}
use Rattle.hs_run.specs.Running.{IsReading, MovesOn}
use Rattle.hs_run.proofs.running.Running.take_all.Given as goal

abbrev pub invariant-loop : goal.invariant-loop
invariant-loop g l = record {
  moved : MovesOn {R = Unit {0}} g.T.Turns g.H.Source g.H.Host l.fn.self l.fn.host l.self l.host (Ok tt);
  reading : IsReading g.H.Source l.self l.host;
}

abbrev pub decreases-loop : goal.decreases-loop
decreases-loop g l = room l.self.reader
