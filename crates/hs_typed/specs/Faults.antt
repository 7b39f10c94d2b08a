-- Of the faults of a statement the one that comes before all others is answered.
use Rattle.std.specs.Prelude.{◌≡◌, List, [], ◌∷◌, Option, None, Some, fold, if◌then◌else◌, false, All, Contains, Result, Ok, Err}
use Rattle.hs_plan.specs.declared.fault.Cause.{Cause}
use Rattle.hs_plan.specs.declared.fault.Cause.TheVariants as cause
use Rattle.hs_plan.specs.declared.fault.PlacedFault.{PlacedFault}
use Rattle.hs_plan.specs.Fault.{is_before}
use Rattle.std.specs.Prelude.{ℕ}
use Rattle.hs_typed.specs.declared.typed.RuleFault.{RuleFault}
use Rattle.hs_typed.specs.declared.typed.RuleFault.TheVariants.{Types, Count, NoMemory}
use Rattle.hs_typed.specs.declared.typed.Typed.{Typed}

-- of two faults the one that comes before the other, and the first where neither does
abbrev pub earlier : PlacedFault → PlacedFault → PlacedFault
earlier a b = if is_before b a then b else a

abbrev pub with_fault : Option PlacedFault → PlacedFault → Option PlacedFault
with_fault None b = Some b
with_fault (Some a) b = Some (earlier a b)

-- the least of a fault that is known and of more faults
abbrev pub noted : Option PlacedFault → List PlacedFault → Option PlacedFault
noted = fold with_fault

abbrev pub least : List PlacedFault → Option PlacedFault
least = noted None

-- it is one of the faults, and none of them comes before it
abbrev pub IsLeast : PlacedFault → List PlacedFault → Type 0
IsLeast fault faults = Contains faults fault × All (λ other. is_before other fault ≡ false) faults

-- ---- a rule that a part breaks by itself, at its place

abbrev pub fault_at : ℕ → Cause → List PlacedFault
fault_at at cause = record { at = at; cause = cause } ∷ []

abbrev pub broken_at : ℕ → RuleFault → List PlacedFault
broken_at at Types = fault_at at cause.Types
broken_at at Count = fault_at at cause.Count
broken_at at NoMemory = []

abbrev pub broken_by : ℕ → Result Typed RuleFault → List PlacedFault
broken_by at (Ok part) = []
broken_by at (Err fault) = broken_at at fault
