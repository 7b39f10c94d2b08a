-- Answers that show what is meant.
use Rattle.std.specs.Prelude.{◌≡◌, ◌≢◌, Result, Ok, Err}
use Rattle.hs_rel.specs.declared.stop.EvalStop.{EvalStop}
use Rattle.hs_rel.specs.declared.stop.EvalStop.TheVariants.{Fault, Stop}
use Rattle.hs_values.specs.declared.fault.EvalFault.{EvalFault}
use Rattle.hs_values.specs.declared.fault.EvalFault.TheVariants.{NoMemory}

-- an answer shows what is meant, or is want of memory
abbrev pub GivesAs : {A B : Type 0} → (A → B) → Result A EvalFault → Result B EvalFault → Type 0
GivesAs shown (Ok a) means = means ≡ Ok (shown a)
GivesAs shown (Err fault) means = fault ≢ NoMemory → means ≡ Err fault

-- the fault of a call that never stops
abbrev pub fault_of : EvalStop → EvalFault
fault_of (Fault fault) = fault
fault_of (Stop kind) = NoMemory
