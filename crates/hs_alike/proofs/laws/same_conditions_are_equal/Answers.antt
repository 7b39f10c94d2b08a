use Rattle.hs_alike.proofs.Alike.{complete, sound}
use Rattle.hs_alike.proofs.laws.same_conditions_are_equal.Goals as goal

pub returns : goal.returns
returns c = record { sound = sound; complete = complete }
