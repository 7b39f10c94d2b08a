use Rattle.hs_tied.proofs.Blocking.{blockers_are}
use Rattle.hs_tied.proofs.laws.blockers_are_those_in_the_way.Goals as goal

pub returns : goal.returns
returns c = λ h k holds s wanted set n most is. blockers_are h k holds s wanted set n most is
