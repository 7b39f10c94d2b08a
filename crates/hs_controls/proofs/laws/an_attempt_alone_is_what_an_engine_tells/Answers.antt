use Rattle.hs_controls.proofs.Sides.{is_attempted, makes_texts}
use Rattle.hs_controls.proofs.laws.an_attempt_alone_is_what_an_engine_tells.Goals as goal

pub returns-clause-told : goal.returns-clause-told
returns-clause-told g c = λ w names side new r old told old_made made is_first entry moves. is_attempted g.S.Store.stands w names side new r old told old_made made is_first entry moves

pub returns-clause-stands : goal.returns-clause-stands
returns-clause-stands g c = λ w names side new r old told old_made made is_first entry moves. moves.fits

pub returns-clause-texts : goal.returns-clause-texts
returns-clause-texts g c = λ w names side new r old told old_made made is_first entry moves. makes_texts g.S.Store.stands w names side new r old told old_made made is_first entry moves
