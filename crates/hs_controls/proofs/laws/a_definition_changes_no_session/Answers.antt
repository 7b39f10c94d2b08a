use Rattle.hs_controls.proofs.Waiting.{fits_defined}
use Rattle.hs_controls.proofs.laws.a_definition_changes_no_session.Goals as goal

pub returns : goal.returns
returns g c = λ w k old new session definition rests quiet same seated more kind made one_more first claims at. fits_defined g.S.Store.stands w k old new session definition rests quiet same seated more kind made one_more first claims at
