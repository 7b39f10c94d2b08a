-- A step beside stacks that it leaves alone.
use Rattle.std.proofs.Common.{Result, Ok, Err, ap}
use Rattle.hs_builder.specs.declared.build_fault.BuildFault.{BuildFault}
use Rattle.hs_builder.specs.declared.build_fault.BuildFault.TheVariants.{Depth, NoMemory}
use Rattle.hs_builder.specs.Steps.{Step, stands, deep, wrong, IsDeep, Gives, lift}

lifted_deep : {S T : Type 0} (f : S → T) (step : Step S) → IsDeep step → IsDeep (lift step f)
lifted_deep f (stands s) h = absurd h
lifted_deep f (deep s) h = tt
lifted_deep f wrong h = absurd h

pub lifted : {S T : Type 0} (f : S → T) (step : Step S) (result : Result (Unit {0}) BuildFault) (after : S) → Gives step result after → Gives (lift step f) result (f after)
lifted f step (Ok _) after h = ap (λ s. lift s f) h
lifted f step (Err Depth) after h = lifted_deep f step h
lifted f step (Err NoMemory) after h = tt
