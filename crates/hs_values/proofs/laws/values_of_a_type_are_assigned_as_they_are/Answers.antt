use Rattle.hs_values.proofs.Assigned.{assign_of-fits, assign_of-kept}
use Rattle.hs_values.proofs.laws.values_of_a_type_are_assigned_as_they_are.Goals as goal

pub returns : goal.returns
returns c = record { only = assign_of-fits; kept = assign_of-kept }
