-- The rows for which a condition is TRUE, or the least of its faults.
use Rattle.std.specs.Prelude.{Bool, false, List, filter, fold, Option, Some, None, Result, Ok, Err}
use Rattle.std.specs.List.{filter_map}
use Rattle.hs_values.specs.declared.fault.EvalFault.{EvalFault}
use Rattle.hs_values.specs.declared.value.Value.{Value}
use Rattle.hs_values.specs.declared.value.Value.TheVariants as v
use Rattle.hs_values.specs.Fault.{lesser}

-- what an expression gives of each row
abbrev pub Verdict : Type 0
Verdict = List Value → Result Value EvalFault

-- a condition holds where it is TRUE, and neither where it is FALSE nor where it is NULL
abbrev pub is_true : Result Value EvalFault → Bool
is_true (Ok (v.Bool b)) = b
is_true _ = false

abbrev pub fault_of : Result Value EvalFault → Option EvalFault
fault_of (Ok a) = None
fault_of (Err fault) = Some fault

abbrev pub lesser_of : Option EvalFault → EvalFault → Option EvalFault
lesser_of None b = Some b
lesser_of (Some a) b = Some (lesser a b)

-- of several faults the least, where there is one
abbrev pub least : List EvalFault → Option EvalFault
least = fold lesser_of None

-- the least fault that a row has
abbrev pub least_fault : Verdict → List (List Value) → Option EvalFault
least_fault verdict rows = least (filter_map (λ row. fault_of (verdict row)) rows)

-- the rows for which it is TRUE, in their order
abbrev pub true_rows : Verdict → List (List Value) → List (List Value)
true_rows verdict = filter (λ row. is_true (verdict row))

-- a value, unless there is a fault
abbrev pub unless : {A : Type 0} → Option EvalFault → A → Result A EvalFault
unless None a = Ok a
unless (Some fault) a = Err fault

-- the rows for which a condition is TRUE, unless it has a fault for one of them
abbrev pub selected : Verdict → List (List Value) → Result (List (List Value)) EvalFault
selected verdict rows = unless (least_fault verdict rows) (true_rows verdict rows)
