use Rattle.hs_values.proofs.OneType.{one_value, one_row}
use Rattle.hs_values.proofs.laws.ties_of_one_type_are_identical.Goals as goal

pub returns : goal.returns
returns c = record { values = one_value; rows = one_row }
