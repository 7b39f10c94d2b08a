use Rattle.hs_validity.proofs.Wider.{none, wider}
use Rattle.hs_validity.proofs.laws.a_further_footprint_tells_no_less.Goals as goal

pub returns : goal.returns
returns c = record { none = none; wider = wider }
