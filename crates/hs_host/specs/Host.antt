-- What the calls of a host do.
use Rattle.std.specs.Prelude.{◌≡◌, ℕ, ◌+◌, ◌-◌, ◌^◌, ◌<◌, ◌≤◌, min, List, [], ◌++◌, length, take, Result, MatchResult, IfOk, OnOk, IsErrOf}
use Rattle.hs_host.specs.declared.host_fault.HostFault.{HostFault}
use Rattle.hs_host.specs.declared.host_fault.HostFault.TheVariants.{Fault, NoMemory}
use Rattle.hs_host.specs.declared.mount_fault.MountFault.{MountFault}
use Rattle.hs_host.specs.declared.mount_fault.MountFault.TheVariants as mount

-- A count of faults has risen. One that is kept in 64 bits and stands at their end counts as risen.
abbrev pub Rose : ℕ → ℕ → Type 0
Rose before now = min (before + 1) (2 ^ 64 - 1) ≤ now

-- A count of faults never falls, a call answers `Fault` only where it rose, and no other answer raises it.
pub record HasCause {T : Type 0} (before now : ℕ) (result : Result T HostFault) : Type 0 where
  pub kept : before ≤ now
  pub ok : OnOk result (now ≡ before)
  pub fault : IsErrOf result Fault → Rose before now
  pub memory : IsErrOf result NoMemory → now ≡ before

-- The same of handing over a piece of output, but that taking nothing of a piece that isn't empty raises the count too.
pub record HasOutputCause (before now : ℕ) (piece : List ℕ) (result : Result ℕ HostFault) : Type 0 where
  pub kept : before ≤ now
  pub some : IfOk result (λ n. (n ≡ 0 → piece ≡ []) → now ≡ before)
  pub none : IfOk result (λ n. n ≡ 0 → 0 < length piece → Rose before now)
  pub fault : IsErrOf result Fault → Rose before now
  pub memory : IsErrOf result NoMemory → now ≡ before

-- The same of mounting. That the files are those of another program raises no count either.
pub record HasMountCause {T : Type 0} (before now : ℕ) (result : Result T MountFault) : Type 0 where
  pub kept : before ≤ now
  pub ok : OnOk result (now ≡ before)
  pub fault : IsErrOf result mount.Fault → Rose before now
  pub foreign : IsErrOf result mount.Foreign → now ≡ before
  pub memory : IsErrOf result mount.NoMemory → now ≡ before

-- At `Ok n` the first n bytes of the input that was left are now at the front of the buffer, and n is 0
-- only at the end of the input or where the buffer has no room. After an `Err` nothing was taken.
abbrev pub TakesInput : List ℕ → List ℕ → Result ℕ HostFault → List ℕ → Type 0
TakesInput old new result buffer =
    MatchResult result
    (λ n. (old ≡ take n buffer ++ new) × (n ≡ 0 → 0 < length buffer → new ≡ []))
    (λ _. new ≡ old)

-- At `Ok n` the first n bytes of the piece stand behind the output so far. After an `Err` it is as before.
abbrev pub AddsOutput : List ℕ → List ℕ → List ℕ → Result ℕ HostFault → Type 0
AddsOutput old new piece result =
    MatchResult result (λ n. new ≡ old ++ take n piece) (λ _. new ≡ old)
