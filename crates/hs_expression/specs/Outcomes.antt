-- Outcomes of several rows.
use Rattle.std.specs.Prelude.{List, Option, Some, None, Result, Ok, Err}
use Rattle.std.specs.List.{filter_map}
use Rattle.hs_values.specs.declared.fault.EvalFault.{EvalFault}
use Rattle.hs_rel.specs.Selection.{least, unless}

abbrev pub value_in : {A : Type 0} → Result A EvalFault → Option A
value_in (Ok a) = Some a
value_in (Err fault) = None

abbrev pub fault_in : {A : Type 0} → Result A EvalFault → Option EvalFault
fault_in (Ok a) = None
fault_in (Err fault) = Some fault

-- what all give, or the least of their faults
abbrev pub all_or_least : {A : Type 0} → List (Result A EvalFault) → Result (List A) EvalFault
all_or_least outcomes = unless (least (filter_map fault_in outcomes)) (filter_map value_in outcomes)
