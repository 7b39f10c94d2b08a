-- What a call answers that may stop, and why it stopped.
use Rattle.std.specs.Prelude.{◌≡◌, ◌≢◌, ◌<◌, ◌≤◌, ℕ, Option, Some, None, Result, Ok, Err, ⊤}
use Rattle.hs_values.specs.declared.fault.EvalFault.{EvalFault}
use Rattle.hs_values.specs.declared.fault.EvalFault.TheVariants.{NoMemory}
use Rattle.hs_rel.specs.declared.stop.StopKind.{StopKind}
use Rattle.hs_rel.specs.declared.stop.StopKind.TheVariants.{Disk, Damaged}
use Rattle.hs_rel.specs.declared.stop.EvalStop.{EvalStop}
use Rattle.hs_rel.specs.declared.stop.EvalStop.TheVariants.{Fault, Stop}

-- an answer is what is meant, unless the call stopped or memory ran out
abbrev pub Answers : {A : Type 0} → Result A EvalFault → Result A EvalStop → Type 0
Answers means (Ok x) = means ≡ Ok x
Answers means (Err (Fault fault)) = fault ≢ NoMemory → means ≡ Err fault
Answers means (Err (Stop kind)) = ⊤

-- why a call stopped, where it did
abbrev pub stop_of : {A : Type 0} → Result A EvalStop → Option StopKind
stop_of (Err (Stop kind)) = Some kind
stop_of _ = None

-- a stop for the disk comes only where a call of it failed meanwhile, one for a page only where that is no page
abbrev pub IsCaused : Option StopKind → ℕ → ℕ → (ℕ → Type 0) → Type 0
IsCaused None before now is_no_page = before ≤ now
IsCaused (Some Disk) before now is_no_page = before < now
IsCaused (Some (Damaged page)) before now is_no_page = (before ≤ now) × is_no_page page.0

-- an error that isn't a fault that a row has
abbrev pub IsNoVerdict : {A : Type 0} → Result A EvalStop → Type 0
IsNoVerdict (Err (Fault fault)) = fault ≡ NoMemory
IsNoVerdict _ = ⊤

-- no error but want of memory
abbrev pub IsMemoryAlone : {A : Type 0} → Result A EvalStop → Type 0
IsMemoryAlone (Ok x) = ⊤
IsMemoryAlone (Err stop) = stop ≡ Fault NoMemory
