use Rattle.hs_language.proofs.Accepted.{valid_after}
use Rattle.hs_language.proofs.laws.an_accepted_definition_leaves_a_valid_database.Goals as goal

pub returns : goal.returns
returns c = valid_after
