-- The answer to faults and to what is meant without one.
use Rattle.std.specs.Prelude.{List, Option, Some, None, Result, Ok, Err}
use Rattle.hs_meaning.specs.Parts.{Meaning}
use Rattle.hs_plan.specs.Fault.{fault_of}
use Rattle.hs_plan.specs.declared.fault.BindFault.{BindFault}
use Rattle.hs_plan.specs.declared.fault.BindFault.TheVariants.{NoMemory}
use Rattle.hs_plan.specs.declared.fault.PlacedFault.{PlacedFault}
use Rattle.hs_typed.specs.Faults.{least}

-- the fault that comes before all others; else what is meant
abbrev pub answer_by : {A : Type 0} → Option PlacedFault → Option A → Result A BindFault
answer_by (Some fault) part = Err (fault_of fault)
answer_by None (Some a) = Ok a
answer_by None None = Err NoMemory

abbrev pub answer_of : {A : Type 0} → List PlacedFault → Option A → Result A BindFault
answer_of faults part = answer_by (least faults) part

abbrev pub answer : {A : Type 0} → Meaning A → Result A BindFault
answer m = answer_of m.faults m.part
