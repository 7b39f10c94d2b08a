use Rattle.std.proofs.Common.{◌≡◌, ◌-◌}
use Rattle.hs_host.specs.Files.{of}
use Rattle.hs_host.specs.Used.{Told, ReadsFiles}
use Rattle.hs_gate.specs.Groups.{groups_of}
use Rattle.hs_gate.specs.Reading.{IsReady}
use Rattle.hs_damages.specs.Damages.{judged_groups}
use Rattle.hs_damages.specs.Reading.{IsJudging, left_judged}
use Rattle.hs_damages.proofs.judging.judge_groups.Given as goal

abbrev pub invariant-groups : goal.invariant-groups
invariant-groups g l =
    record {
      ready : IsReady l.reader;
      file_is : l.reader.file ≡ l.fn.file;
      judging : Told g.H.Source g.H.Host l.fn.host → IsJudging l.fn.part (g.J.Judge.taken l.judge) (of (g.H.Host.files l.fn.host) l.fn.file) l.reader;
      judged : Told g.H.Source g.H.Host l.fn.host
          → left_judged g.J.Judge.meaning l.fn.part (of (g.H.Host.files l.fn.host) l.fn.file) (g.J.Judge.taken l.judge) l.reader ≡ judged_groups g.J.Judge.meaning l.fn.part (g.J.Judge.taken l.fn.judge) (groups_of (of (g.H.Host.files l.fn.host) l.fn.file));
      reads : ReadsFiles g.H.Source g.H.Host l.fn.host l.host;
      faults : g.H.Host.disk_faults l.host ≡ g.H.Host.disk_faults l.fn.host;
    }

abbrev pub decreases-groups : goal.decreases-groups
decreases-groups g l = l.reader.total - l.reader.end
