use Rattle.hs_values.proofs.OneType.{fits_lawful, assigned_lawful, row_lawful}
use Rattle.hs_values.proofs.laws.values_of_a_type_are_lawful.Goals as goal

pub returns : goal.returns
returns c = record { fits = fits_lawful; assigned = assigned_lawful; row = row_lawful }
