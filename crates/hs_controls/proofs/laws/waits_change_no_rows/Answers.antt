use Rattle.hs_controls.proofs.Waiting.{fits_answered, fits_held_up}
use Rattle.hs_controls.proofs.laws.waits_change_no_rows.Goals as goal

pub returns-clause-waits : goal.returns-clause-waits
returns-clause-waits g c = λ w k old new s n set here rests within i seated commits spans at. fits_held_up g.S.Store.stands w k old new seated commits spans rests at s here set n within i

pub returns-clause-answered : goal.returns-clause-answered
returns-clause-answered g c = λ w k old new s here rests i seated commits spans at. fits_answered g.S.Store.stands w k old new seated commits spans rests at s here i
