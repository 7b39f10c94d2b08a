use Rattle.std.proofs.Common.{◌≡◌, ◌-◌}
use Rattle.hs_host.specs.Files.{of}
use Rattle.hs_host.specs.Used.{Told, ReadsFiles}
use Rattle.hs_gate.specs.Reading.{IsReady, IsReadTo}
use Rattle.hs_gate.proofs.gated.Gated.read.Given as goal

abbrev pub invariant-groups : goal.invariant-groups
invariant-groups g l =
    record {
      ready : IsReady l.reader;
      file_is : l.reader.file ≡ l.fn.file;
      read : Told g.H.Source g.H.Host l.fn.host → IsReadTo (of (g.H.Host.files l.fn.host) l.fn.file) l.reader;
      reads : ReadsFiles g.H.Source g.H.Host l.fn.host l.host;
      faults : g.H.Host.disk_faults l.host ≡ g.H.Host.disk_faults l.fn.host;
    }

abbrev pub decreases-groups : goal.decreases-groups
decreases-groups g l = l.reader.total - l.reader.end
