-- From the least fault to the answer.
use Rattle.std.proofs.Common.{◌≡◌, Option, None, Some, refl}
use Rattle.std.specs.Option.{option_map}
use Rattle.hs_plan.specs.declared.fault.PlacedFault.{PlacedFault}
use Rattle.hs_plan.specs.Fault.{fault_of}

pub no_answer : (fault : Option PlacedFault) → None ≡ option_map fault_of fault → fault ≡ None
no_answer None is = refl
no_answer (Some fault) is = absurd (cc)
