use Rattle.hs_scope.proofs.Singled.{found_there, only_there, none_there}
use Rattle.hs_scope.proofs.laws.the_column_that_is_found_is_the_only_one.Goals as goal

pub returns : goal.returns
returns c = record { found = found_there; only = only_there; missing = none_there }
