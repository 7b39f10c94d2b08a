-- Faults of the log.
use Rattle.std.specs.Prelude.{◌≡◌, ℕ, Result, Ok, Err}
use Rattle.hs_host.specs.Host.{Rose}
use Rattle.hs_gate.specs.declared.gate_fault.GateFault.{GateFault}
use Rattle.hs_gate.specs.declared.gate_fault.GateFault.TheVariants as gate
use Rattle.hs_log.specs.declared.log_fault.LogFault.{LogFault}
use Rattle.hs_log.specs.declared.log_fault.LogFault.TheVariants.{Disk, Broken, NoMemory}

-- what a fault of its file is for the log
abbrev pub log_fault_of : GateFault → LogFault
log_fault_of gate.Disk = Disk
log_fault_of (gate.Broken number) = Broken number
log_fault_of gate.NoMemory = NoMemory

-- A call answers `Disk` only where the count of faults rose, and at every other answer it is as before.
abbrev pub HasLogCause : {T : Type 0} → ℕ → ℕ → Result T LogFault → Type 0
HasLogCause before now (Ok _) = now ≡ before
HasLogCause before now (Err Disk) = Rose before now
HasLogCause before now (Err (Broken _)) = now ≡ before
HasLogCause before now (Err NoMemory) = now ≡ before

-- The same of a call that reads no text, and so never answers `Broken`.
abbrev pub FailsWith : {T : Type 0} → ℕ → ℕ → Result T LogFault → Type 0
FailsWith before now (Ok _) = now ≡ before
FailsWith before now (Err Disk) = Rose before now
FailsWith before now (Err (Broken _)) = ⊥
FailsWith before now (Err NoMemory) = now ≡ before
