-- What an answered fault stands for.
use Rattle.std.proofs.Common.{◌≡◌, List, [], Option, None, Some, refl}
use Rattle.std.specs.Option.{option_map}
use Rattle.hs_plan.specs.declared.fault.BindFault.{BindFault}
use Rattle.hs_plan.specs.declared.fault.PlacedFault.{PlacedFault}
use Rattle.hs_plan.specs.Fault.{fault_of}
use Rattle.hs_typed.specs.Faults.{least, IsLeast}
use Rattle.hs_typed.proofs.Least.{is_least}

pub stands_for : (faults : List PlacedFault) (found : Option PlacedFault) → least faults ≡ found → (answer : BindFault) → option_map fault_of found ≡ Some answer → (p : PlacedFault) × IsLeast p faults × (fault_of p ≡ answer)
stands_for faults None is answer says = absurd (cc)
stands_for faults (Some p) is answer says = (p, is_least faults p is, cc)
