use Rattle.std.proofs.Common.{◌≡◌, ℕ, ◌≤◌, ◌^◌, List, ◌++◌, length, take}
use Rattle.hs_host.specs.Files.{of}
use Rattle.hs_host.specs.Moments.{disk_of}
use Rattle.hs_host.specs.Used.{Told, ChangesFile}
use Rattle.hs_gate.specs.Crash.{BeginsWith}
use Rattle.hs_anew.specs.Staging.{IsStaged}
use Rattle.hs_anew.proofs.staging.stage_payload.Given as goal

abbrev pub invariant-pieces : goal.invariant-pieces
invariant-pieces g l =
    record {
      changes : ChangesFile g.H.Source g.H.Host l.file (BeginsWith 2 (of (g.H.Host.files l.fn.host) l.file)) l.fn.host l.host;
      faults : g.H.Host.disk_faults l.host ≡ g.H.Host.disk_faults l.fn.host;
      room : l.end ≤ 2 ^ 62;
      after : l.first ≤ l.end;
      others : g.S.Stand.groups l.store ≡ g.S.Stand.groups l.fn.store;
      front : Told g.H.Source g.H.Host l.fn.host → take 2 (of (g.H.Host.files l.host) l.file) ≡ take 2 (of (g.H.Host.files l.fn.host) l.file);
      staged : Told g.H.Source g.H.Host l.fn.host → (text : List ℕ) → IsStaged (disk_of (g.H.Host.history l.fn.host).now l.file) (of (g.H.Host.files l.fn.host) l.file) l.first text
          → (part : List ℕ) × IsStaged (disk_of (g.H.Host.history l.host).now l.file) (of (g.H.Host.files l.host) l.file) l.end (text ++ part) × (part ++ g.S.Stand.rest l.store ≡ g.S.Stand.rest l.fn.store);
    }

abbrev pub decreases-pieces : goal.decreases-pieces
decreases-pieces g l = length (g.S.Stand.rest l.store)
