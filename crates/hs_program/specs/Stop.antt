-- How a run ends, and for which causes.
use Rattle.std.specs.Prelude.{◌≡◌, ◌⊎◌, ℕ, Bool, true, false}
use Rattle.hs_host.specs.declared.source.Source as source
use Rattle.hs_host.specs.declared.host.Host as host
use Rattle.hs_host.specs.Host.{Rose}
use Rattle.hs_host.specs.Files.{IsForeign}
use Rattle.hs_log.specs.declared.log_fault.LogFault.{LogFault}
use Rattle.hs_log.specs.declared.log_fault.LogFault.TheVariants as log
use Rattle.hs_run.specs.Stop.{NoFaults}
use Rattle.hs_run.specs.declared.stop.Stop.{Stop}
use Rattle.hs_run.specs.declared.stop.Stop.TheVariants as stop
use Rattle.hs_program.specs.declared.damage.Damage.{Damage}
use Rattle.hs_program.specs.declared.damage.Damage.TheVariants.{Foreign, Log, Invalid}
use Rattle.hs_program.specs.declared.fault.OpenFault.{OpenFault}
use Rattle.hs_program.specs.declared.fault.OpenFault.TheVariants as fault
use Rattle.hs_program.specs.declared.status.Status.{Status}
use Rattle.hs_program.specs.declared.status.Status.TheVariants.{Done, Usage, InputFault, OutputFault, DiskFault, NoMemory, Damaged, InputTooLong}

-- the number that the program ends with
abbrev pub number_of : Status → ℕ
number_of Done = 0
number_of Usage = 1
number_of InputFault = 2
number_of OutputFault = 3
number_of DiskFault = 4
number_of NoMemory = 5
number_of (Damaged damage) = 6
number_of InputTooLong = 7

-- the files are at fault
abbrev pub is_damaged : Status → Bool
is_damaged (Damaged damage) = true
is_damaged Done = false
is_damaged Usage = false
is_damaged InputFault = false
is_damaged OutputFault = false
is_damaged DiskFault = false
is_damaged NoMemory = false
is_damaged InputTooLong = false

-- what a fault of the log is, while it is opened
abbrev pub fault_of : LogFault → OpenFault
fault_of log.Disk = fault.Disk
fault_of (log.Broken number) = fault.Damaged number
fault_of log.NoMemory = fault.NoMemory

-- the status of a run whose log couldn't be opened, and of one that stopped behind that
abbrev pub unopened : OpenFault → Status
unopened fault.Disk = DiskFault
unopened (fault.Damaged number) = Damaged (Log number)
unopened (fault.Invalid name) = Damaged (Invalid name)
unopened fault.NoMemory = NoMemory

abbrev pub stopped : Stop → Status
stopped stop.Input = InputFault
stopped stop.Output = OutputFault
stopped stop.Disk = DiskFault
stopped stop.NoMemory = NoMemory
stopped stop.TooLong = InputTooLong

-- A run over a log with this damage tells it, unless it came not so far: the words aren't those of the command, the files are those of
-- another program, the disk failed, or memory was wanted.
abbrev pub TellsDamage : Damage → Status → Type 0
TellsDamage damage status = (status ≡ Usage) ⊎ ((status ≡ Damaged Foreign) ⊎ ((status ≡ Damaged damage) ⊎ ((status ≡ DiskFault) ⊎ (status ≡ NoMemory))))

-- A log isn't opened for a fault of the files alone, for a damage, or for want of memory.
abbrev pub OpenStops : {H : Type 0} → source.Ghosts H → host.Ghosts H → H → H → OpenFault → Type 0
OpenStops s g old new fault.Disk = Rose (g.disk_faults old) (g.disk_faults new)
OpenStops s g old new (fault.Damaged number) = NoFaults s g old new
OpenStops s g old new (fault.Invalid name) = NoFaults s g old new
OpenStops s g old new fault.NoMemory = NoFaults s g old new

-- nothing was written, and nothing read
pub record IsSilent {H : Type 0} (s : source.Ghosts H) (g : host.Ghosts H) (old new : H) : Type 0 where
  pub written : g.written new ≡ g.written old
  pub unread : s.unread new ≡ s.unread old

-- the files are those of another program, and were left as they are
pub record FindsForeign {H : Type 0} (s : source.Ghosts H) (g : host.Ghosts H) (old new : H) : Type 0 where
  pub foreign : s.tells → IsForeign (g.standing old)
  pub kept : s.tells → g.files new ≡ g.files old
  pub calm : NoFaults s g old new
  pub silent : IsSilent s g old new

-- A run ends with a fault only where the count of its device rose, and with anything else only where no device failed. Where files are
-- at fault it is silent.
abbrev pub Ends : {H : Type 0} → source.Ghosts H → host.Ghosts H → H → H → Status → Type 0
Ends s g old new Done = NoFaults s g old new
Ends s g old new Usage = ⊥
Ends s g old new InputFault = Rose (s.input_faults old) (s.input_faults new)
Ends s g old new OutputFault = Rose (g.output_faults old) (g.output_faults new)
Ends s g old new DiskFault = Rose (g.disk_faults old) (g.disk_faults new)
Ends s g old new NoMemory = NoFaults s g old new
Ends s g old new (Damaged Foreign) = FindsForeign s g old new
Ends s g old new (Damaged (Log number)) = NoFaults s g old new × IsSilent s g old new
Ends s g old new (Damaged (Invalid name)) = NoFaults s g old new × IsSilent s g old new
Ends s g old new InputTooLong = NoFaults s g old new
