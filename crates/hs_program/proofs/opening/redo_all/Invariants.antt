use Rattle.std.proofs.Common.{◌≡◌, ◌-◌}
use Rattle.hs_host.specs.Used.{ReadsFiles}
use Rattle.hs_log.specs.LogReading.{IsReading, count_in, place_in, total_in}
use Rattle.hs_run.specs.Stop.{NoFaults}
use Rattle.hs_program.proofs.Replaying.{IsReplaying}
use Rattle.hs_program.proofs.opening.redo_all.Given as goal

abbrev pub invariant-loop-engine : goal.invariant-loop-engine
invariant-loop-engine g l =
    record {
      reading : IsReading g.H.Source g.H.Host l.reader l.host;
      counted : l.count ≡ count_in l.reader;
      reads : ReadsFiles g.H.Source g.H.Host l.fn.host l.host;
      calm : NoFaults g.H.Source g.H.Host l.fn.host l.host;
      replaying : IsReplaying g.E.Engine.meaning g.E.Engine.stands_for g.H.Source g.H.Host l.fn.reader l.fn.host l.reader l.engine;
    }

abbrev pub decreases-loop-engine : goal.decreases-loop-engine
decreases-loop-engine g l = total_in l.reader - place_in l.reader
