use Rattle.hs_slots.proofs.Parts.{same_point, born_or_not}
use Rattle.hs_slots.proofs.laws.files_stand_for_one_point.Goals as goal

pub returns-clause-point : goal.returns-clause-point
returns-clause-point c = same_point

pub returns-clause-born : goal.returns-clause-born
returns-clause-born c = born_or_not
