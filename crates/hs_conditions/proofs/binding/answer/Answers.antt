use Rattle.std.proofs.Common.{◌≡◌, None, Some}
use Rattle.std.specs.Option.{option_map}
use Rattle.hs_conditions.proofs.Meant.{faultless}
use Rattle.hs_plan.specs.Fault.{fault_of}
use Rattle.hs_conditions.proofs.binding.answer.Goals as goal

pub returns-in-Some-part : goal.returns-in-Some-part
returns-in-Some-part c = λ all is.
    let none : None ≡ option_map fault_of c.args.faults = cc in
    let part : c.args.part ≡ Some c.in-Some-part.a = cc in
    faultless all c.args.faults c.args.part c.in-Some-part.a is none part
