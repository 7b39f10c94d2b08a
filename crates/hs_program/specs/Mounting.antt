-- What mounting the files of a database does.
use Rattle.std.specs.Prelude.{◌≡◌, Result, OnOk, IfErr}
use Rattle.hs_host.specs.declared.source.Source as source
use Rattle.hs_host.specs.declared.host.Host as host
use Rattle.hs_host.specs.Host.{Rose}
use Rattle.hs_host.specs.Files.{IsForeign}
use Rattle.hs_run.specs.Stop.{NoFaults}
use Rattle.hs_program.specs.declared.damage.Damage.TheVariants.{Foreign, Log, Invalid}
use Rattle.hs_program.specs.declared.status.Status.{Status}
use Rattle.hs_program.specs.declared.status.Status.TheVariants.{Done, Usage, InputFault, OutputFault, DiskFault, NoMemory, Damaged, InputTooLong}

-- A run stops here where the files are those of another program, where the disk failed, and for want of memory. No device
-- failed in the first case and in the last.
abbrev pub MountStops : {H : Type 0} → source.Ghosts H → host.Ghosts H → H → H → Status → Type 0
MountStops s g old new (Damaged Foreign) = (s.tells → IsForeign (g.standing old)) × NoFaults s g old new
MountStops s g old new (Damaged (Log group)) = ⊥
MountStops s g old new (Damaged (Invalid name)) = ⊥
MountStops s g old new DiskFault = Rose (g.disk_faults old) (g.disk_faults new)
MountStops s g old new NoMemory = NoFaults s g old new
MountStops s g old new Done = ⊥
MountStops s g old new Usage = ⊥
MountStops s g old new InputFault = ⊥
MountStops s g old new OutputFault = ⊥
MountStops s g old new InputTooLong = ⊥

-- Only how the host stands is other: it is read as honestly as before, nothing was read, written or changed, and no count of
-- faults fell. Where the run goes on none rose.
pub record Mounts {T H : Type 0} (s : source.Ghosts H) (g : host.Ghosts H) (old new : H) (result : Result T Status) : Type 0 where
  pub honest : (g.standing new).is_honest ≡ (g.standing old).is_honest
  pub files : s.tells → g.files new ≡ g.files old
  pub history : s.tells → g.history new ≡ g.history old
  pub unread : s.unread new ≡ s.unread old
  pub written : g.written new ≡ g.written old
  pub calm : OnOk result (NoFaults s g old new)
  pub stops : IfErr result (MountStops s g old new)
