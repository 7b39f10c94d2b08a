use Rattle.std.proofs.Common.{◌≡◌, ℕ, ◌≤◌, ◌^◌, List, ◌++◌, length, take}
use Rattle.hs_host.specs.Files.{of}
use Rattle.hs_host.specs.Moments.{disk_of}
use Rattle.hs_host.specs.Used.{Told, ChangesFile}
use Rattle.hs_gate.specs.Crash.{BeginsWith}
use Rattle.hs_gate.specs.Groups.{spelled}
use Rattle.hs_anew.specs.Staging.{IsStaged}
use Rattle.hs_anew.proofs.staging.stage_groups.Given as goal

abbrev pub invariant-groups : goal.invariant-groups
invariant-groups g l =
    record {
      changes : ChangesFile g.H.Source g.H.Host l.file (BeginsWith 2 (of (g.H.Host.files l.fn.host) l.file)) l.fn.host l.host;
      faults : g.H.Host.disk_faults l.host ≡ g.H.Host.disk_faults l.fn.host;
      room : l.end ≤ 2 ^ 62;
      front : Told g.H.Source g.H.Host l.fn.host → take 2 (of (g.H.Host.files l.host) l.file) ≡ take 2 (of (g.H.Host.files l.fn.host) l.file);
      staged : Told g.H.Source g.H.Host l.fn.host → (text : List ℕ) → IsStaged (disk_of (g.H.Host.history l.fn.host).now l.file) (of (g.H.Host.files l.fn.host) l.file) 10 text
          → (given : List (List ℕ)) × IsStaged (disk_of (g.H.Host.history l.host).now l.file) (of (g.H.Host.files l.host) l.file) l.end (text ++ spelled given) × (given ++ g.S.Stand.groups l.store ≡ g.S.Stand.groups l.fn.store);
    }

abbrev pub decreases-groups : goal.decreases-groups
decreases-groups g l = length (g.S.Stand.groups l.store)
