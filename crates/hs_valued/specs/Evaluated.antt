-- Values as evaluation gives them.
use Rattle.std.specs.Prelude.{◌≡◌, ◌≢◌, Result, Ok, Err}
use Rattle.hs_values.specs.declared.fault.EvalFault.{EvalFault}
use Rattle.hs_values.specs.declared.fault.EvalFault.TheVariants.{NoMemory}
use Rattle.hs_values.specs.declared.value.Value.{Value}
use Rattle.hs_values.specs.Order.{seen}
use Rattle.hs_expression.specs.Numbers.{Outcome}
use Rattle.hs_valued.specs.declared.evaluated.Evaluated.{Evaluated}
use Rattle.hs_valued.specs.declared.evaluated.Evaluated.TheVariants.{Lent, Made}

-- the value, lent or made
abbrev pub shown : Evaluated → Value
shown (Lent value) = seen value
shown (Made value) = value

-- an answer shows the value that is meant, or is want of memory
abbrev pub Shows : Outcome → Result Evaluated EvalFault → Type 0
Shows means (Ok value) = means ≡ Ok (shown value)
Shows means (Err fault) = fault ≢ NoMemory → means ≡ Err fault
