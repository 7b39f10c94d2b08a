use Rattle.hs_moves.proofs.Worlds.{model_is, own_valid, present_valid}
use Rattle.hs_moves.proofs.laws.open_transactions_leave_a_valid_database.Goals as goal

pub returns-clause-alone : goal.returns-clause-alone
returns-clause-alone c = present_valid

pub returns-clause-with_its_changes : goal.returns-clause-with_its_changes
returns-clause-with_its_changes c = own_valid

pub returns-clause-model : goal.returns-clause-model
returns-clause-model c = model_is
