-- Causes of faults that name nothing with a line feed.
use Rattle.std.specs.Prelude.{Bool, true, List}
use Rattle.std.specs.List.{list_all}
use Rattle.hs_entries.specs.Parts.{lacks}
use Rattle.hs_plan.specs.declared.fault.Cause.{Cause}
use Rattle.hs_plan.specs.declared.fault.Cause.TheVariants as c
use Rattle.hs_plan.specs.declared.fault.PlacedFault.{PlacedFault}

abbrev pub is_single_cause : Cause → Bool
is_single_cause (c.NoSuchTable name) = lacks 10 name
is_single_cause (c.NoSuchColumn name) = lacks 10 name
is_single_cause (c.Exists name) = lacks 10 name
is_single_cause (c.Ambiguous name) = lacks 10 name
is_single_cause c.Types = true
is_single_cause c.Count = true
is_single_cause (c.Limit which) = true

abbrev pub is_single : PlacedFault → Bool
is_single fault = is_single_cause fault.cause

abbrev pub are_single : List PlacedFault → Bool
are_single faults = list_all is_single faults
