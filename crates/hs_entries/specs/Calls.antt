-- What calls do with a source.
use Rattle.std.specs.Prelude.{◌≡◌, ◌≤◌, ℕ, Result, Ok, Err}
use Rattle.hs_host.specs.Host.{Rose}
use Rattle.hs_host.specs.declared.source.Source as source
use Rattle.hs_entries.specs.declared.input_fault.InputFault.{InputFault}
use Rattle.hs_entries.specs.declared.input_fault.InputFault.TheVariants.{Fault, TooLong, NoMemory}

-- Of the outside only the input was used, and its count of faults didn't fall.
pub record UsesSource {S : Type 0} (s : source.Ghosts S) (old new : S) : Type 0 where
  pub only : s.only_input old new
  pub later : s.input_faults old ≤ s.input_faults new

-- A call that reads answers `Fault` only where the count of faults rose, and at every other answer it is as before.
abbrev pub HasInputCause : {T : Type 0} → ℕ → ℕ → Result T InputFault → Type 0
HasInputCause before now (Ok _) = now ≡ before
HasInputCause before now (Err Fault) = Rose before now
HasInputCause before now (Err TooLong) = now ≡ before
HasInputCause before now (Err NoMemory) = now ≡ before

-- The same of one read, which is never too long.
abbrev pub ReadsWith : {T : Type 0} → ℕ → ℕ → Result T InputFault → Type 0
ReadsWith before now (Ok _) = now ≡ before
ReadsWith before now (Err Fault) = Rose before now
ReadsWith before now (Err TooLong) = ⊥
ReadsWith before now (Err NoMemory) = now ≡ before
