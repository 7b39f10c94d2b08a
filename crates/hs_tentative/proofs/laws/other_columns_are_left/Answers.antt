use Rattle.hs_tentative.proofs.NewRows.{inserted_left, taken_left, updated_left}
use Rattle.hs_tentative.proofs.laws.other_columns_are_left.Goals as goal

pub returns : goal.returns
returns c = record { inserted = inserted_left; taken_in = taken_left; updated = updated_left }
