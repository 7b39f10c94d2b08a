use Rattle.hs_values.proofs.Faults.{one_number, lesser_either, lesser_least, lesser_turned, lesser_grouped}
use Rattle.hs_values.proofs.laws.the_least_fault_counts.Goals as goal

pub returns : goal.returns
returns c = record { known = one_number; either = lesser_either; least = lesser_least; turned = lesser_turned; grouped = lesser_grouped }
