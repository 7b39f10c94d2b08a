use Rattle.hs_moves.specs.Fits.{kept_of}
use Rattle.hs_controls.proofs.Sides.{behind_for, behind_ways, unanswered_fits}
use Rattle.hs_controls.proofs.Waiting.{fits_answered}
use Rattle.hs_controls.proofs.laws.a_waiter_that_is_answered_waits_for_nobody.Goals as goal

pub returns-clause-answered : goal.returns-clause-answered
returns-clause-answered g c = λ w side old new s here rests i seated commits spans at. fits_answered g.S.Store.stands w (kept_of side) old new seated commits spans rests at s here i

pub returns-clause-first : goal.returns-clause-first
returns-clause-first g c = λ w side new s final fits. fits

pub returns-clause-unanswered : goal.returns-clause-unanswered
returns-clause-unanswered g c = λ w side new s is_first fits. unanswered_fits g.S.Store.stands w new is_first s side fits

pub returns-clause-ways : goal.returns-clause-ways
returns-clause-ways g c = λ is_first final s n side ways. behind_ways is_first final s n side ways

pub returns-clause-waited_for : goal.returns-clause-waited_for
returns-clause-waited_for g c = λ is_first final s side open_waits. behind_for is_first final s side open_waits
