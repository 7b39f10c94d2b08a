-- Faults of gated files.
use Rattle.std.specs.Prelude.{◌≡◌, ℕ, Result, Ok, Err}
use Rattle.hs_host.specs.declared.host_fault.HostFault.{HostFault}
use Rattle.hs_host.specs.declared.host_fault.HostFault.TheVariants as host
use Rattle.hs_host.specs.Host.{Rose}
use Rattle.hs_gate.specs.declared.gate_fault.GateFault.{GateFault}
use Rattle.hs_gate.specs.declared.gate_fault.GateFault.TheVariants.{Disk, Broken, NoMemory}

abbrev pub gate_fault_of : HostFault → GateFault
gate_fault_of host.Fault = Disk
gate_fault_of host.NoMemory = NoMemory

-- A call answers `Disk` only where the count of faults rose, and at every other answer it is as before.
abbrev pub HasGateCause : {T : Type 0} → ℕ → ℕ → Result T GateFault → Type 0
HasGateCause before now (Ok _) = now ≡ before
HasGateCause before now (Err Disk) = Rose before now
HasGateCause before now (Err (Broken _)) = now ≡ before
HasGateCause before now (Err NoMemory) = now ≡ before

-- The same of a call that reads no group, and so never answers `Broken`.
abbrev pub FailsWith : {T : Type 0} → ℕ → ℕ → Result T GateFault → Type 0
FailsWith before now (Ok _) = now ≡ before
FailsWith before now (Err Disk) = Rose before now
FailsWith before now (Err (Broken _)) = ⊥
FailsWith before now (Err NoMemory) = now ≡ before
