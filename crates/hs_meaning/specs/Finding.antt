-- What a call finds: what a part means, where that is known, with the part's faults noted.
use Rattle.std.specs.Prelude.{◌≡◌, Option, Result, IfOk}
use Rattle.hs_base.specs.declared.no_memory.NoMemory.{NoMemory}
use Rattle.hs_plan.specs.declared.fault.PlacedFault.{PlacedFault}
use Rattle.hs_typed.specs.Faults.{noted}
use Rattle.hs_meaning.specs.Parts.{Meaning}

-- the least fault that is known, before and after
abbrev pub Least : Type 0
Least = Option PlacedFault

abbrev pub Finds : {A : Type 0} → Meaning A → Least → Least → Result (Option A) NoMemory → Type 0
Finds m old new result = IfOk result (λ part. (part ≡ m.part) × (new ≡ noted old m.faults))
