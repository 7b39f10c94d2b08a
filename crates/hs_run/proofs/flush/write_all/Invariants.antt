use Rattle.std.proofs.Common.{◌≡◌, ◌≤◌, ◌++◌, length}
use Rattle.hs_host.specs.Moments.{Since}
use Rattle.hs_host.specs.Used.{UsesOutput}
use Rattle.hs_run.specs.Holding.{IsHandedOver}
use Rattle.hs_run.specs.Prompt.{AsksNothing}
use Rattle.hs_run.proofs.flush.write_all.Given as goal

abbrev pub invariant-loop-rest : goal.invariant-loop-rest
invariant-loop-rest g l =
    let written = g.H.Host.written in
    record {
      so_far : g.H.Source.tells → written l.host ++ l.rest ≡ written l.fn.host ++ l.bytes;
      grown : g.H.Source.tells → length (written l.fn.host) ≤ length (written l.host);
      moments : g.H.Source.tells → Since (IsHandedOver (g.H.Host.history l.fn.host).now l.bytes) (g.H.Host.history l.fn.host) (g.H.Host.history l.host);
      calm : g.H.Host.output_faults l.host ≡ g.H.Host.output_faults l.fn.host;
      silent : AsksNothing g.H.Source g.H.Host l.fn.host l.host;
      uses : UsesOutput g.H.Source g.H.Host l.fn.host l.host;
    }

abbrev pub decreases-loop-rest : goal.decreases-loop-rest
decreases-loop-rest g l = length l.rest
