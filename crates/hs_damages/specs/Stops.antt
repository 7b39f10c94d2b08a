-- Why files weren't read.
use Rattle.std.specs.Prelude.{◌≡◌, ℕ, Result, Ok, Err}
use Rattle.hs_host.specs.declared.host_fault.HostFault.{HostFault}
use Rattle.hs_host.specs.declared.host_fault.HostFault.TheVariants as host
use Rattle.hs_host.specs.Host.{Rose}
use Rattle.hs_gate.specs.declared.gate_fault.GateFault.{GateFault}
use Rattle.hs_gate.specs.declared.gate_fault.GateFault.TheVariants as gate
use Rattle.hs_damages.specs.declared.damage.Damage.{Damage}
use Rattle.hs_damages.specs.declared.part.Part.{Part}
use Rattle.hs_damages.specs.Damages.{damage_in}
use Rattle.hs_damages.specs.declared.damage.Stop.{Stop}
use Rattle.hs_damages.specs.declared.damage.Stop.TheVariants.{Damaged, Disk, NoMemory}

abbrev pub stop_of : HostFault → Stop
stop_of host.Fault = Disk
stop_of host.NoMemory = NoMemory

-- why a file of a part isn't read on
abbrev pub stop_at : Part → GateFault → Stop
stop_at part gate.Disk = Disk
stop_at part (gate.Broken group) = Damaged (damage_in part group)
stop_at part gate.NoMemory = NoMemory

-- A call answers `Disk` only where the count of faults rose, and at every other answer it is as before.
abbrev pub HasCause : {T : Type 0} → ℕ → ℕ → Result T Stop → Type 0
HasCause before now (Ok _) = now ≡ before
HasCause before now (Err (Damaged _)) = now ≡ before
HasCause before now (Err Disk) = Rose before now
HasCause before now (Err NoMemory) = now ≡ before

-- The same of a call that looks at no damage.
abbrev pub FailsWith : {T : Type 0} → ℕ → ℕ → Result T Stop → Type 0
FailsWith before now (Ok _) = now ≡ before
FailsWith before now (Err (Damaged _)) = ⊥
FailsWith before now (Err Disk) = Rose before now
FailsWith before now (Err NoMemory) = now ≡ before

-- an answer other than a fault of the device and want of memory is this one
abbrev pub Answers : {T : Type 0} → Result T Damage → Result T Stop → Type 0
Answers right (Ok x) = right ≡ Ok x
Answers right (Err (Damaged damage)) = right ≡ Err damage
Answers right (Err Disk) = Unit {0}
Answers right (Err NoMemory) = Unit {0}
