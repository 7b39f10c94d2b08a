use Rattle.hs_controls.proofs.Admitting.{fits_admitted, new_ways}
use Rattle.hs_controls.proofs.laws.a_new_session_has_the_default_level.Goals as goal

pub returns-clause-stands : goal.returns-clause-stands
returns-clause-stands g c = λ w side old new level rests few is i seated commits spans at. fits_admitted g.S.Store.stands w side old new level rests few is i seated commits spans at

pub returns-clause-ways : goal.returns-clause-ways
returns-clause-ways g c = λ w side ways. new_ways w side ways
