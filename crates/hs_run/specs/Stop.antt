-- Why a run stops, and for which causes each of its parts may.
use Rattle.std.specs.Prelude.{◌≡◌}
use Rattle.hs_host.specs.declared.source.Source as source
use Rattle.hs_host.specs.declared.host.Host as host
use Rattle.hs_host.specs.Host.{Rose}
use Rattle.hs_log.specs.declared.log_fault.LogFault.{LogFault}
use Rattle.hs_log.specs.declared.log_fault.LogFault.TheVariants as log
use Rattle.hs_run.specs.declared.stop.Stop.{Stop}
use Rattle.hs_run.specs.declared.stop.Stop.TheVariants.{Input, Output, Disk, NoMemory, TooLong}

-- what a fault of the log is for the run
abbrev pub stop_of : LogFault → Stop
stop_of log.Disk = Disk
stop_of (log.Broken group) = Disk
stop_of log.NoMemory = NoMemory

-- No device failed between two states of a host: each count of faults is as it was.
pub record NoFaults {H : Type 0} (s : source.Ghosts H) (g : host.Ghosts H) (old new : H) : Type 0 where
  pub input : s.input_faults new ≡ s.input_faults old
  pub output : g.output_faults new ≡ g.output_faults old
  pub disk : g.disk_faults new ≡ g.disk_faults old

-- A fault stops a part only where the count of its device rose, and anything else only where no device failed. What hands over
-- output stops for a fault of that alone, or for want of memory, which may stop each.
abbrev pub OutputStops : {H : Type 0} → source.Ghosts H → host.Ghosts H → H → H → Stop → Type 0
OutputStops s g old new Input = ⊥
OutputStops s g old new Output = Rose (g.output_faults old) (g.output_faults new)
OutputStops s g old new Disk = ⊥
OutputStops s g old new NoMemory = NoFaults s g old new
OutputStops s g old new TooLong = ⊥

-- what logs stops for a fault of the files alone
abbrev pub DiskStops : {H : Type 0} → source.Ghosts H → host.Ghosts H → H → H → Stop → Type 0
DiskStops s g old new Input = ⊥
DiskStops s g old new Output = ⊥
DiskStops s g old new Disk = Rose (g.disk_faults old) (g.disk_faults new)
DiskStops s g old new NoMemory = NoFaults s g old new
DiskStops s g old new TooLong = ⊥

-- what takes turns stops for a fault of any device, or where the input is too long
abbrev pub RunStops : {H : Type 0} → source.Ghosts H → host.Ghosts H → H → H → Stop → Type 0
RunStops s g old new Input = Rose (s.input_faults old) (s.input_faults new)
RunStops s g old new Output = Rose (g.output_faults old) (g.output_faults new)
RunStops s g old new Disk = Rose (g.disk_faults old) (g.disk_faults new)
RunStops s g old new NoMemory = NoFaults s g old new
RunStops s g old new TooLong = NoFaults s g old new
