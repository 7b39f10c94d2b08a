use Rattle.std.proofs.Common.{[]}
use Rattle.std.specs.Prelude.{None, Some}
use Rattle.hs_turns.specs.Attempts.{blockers}
use Rattle.hs_moves.specs.Evaluated.{data_wanted}
use Rattle.hs_moves.specs.Moves.{Moves}
use Rattle.hs_moves.proofs.Attempted.{blocked_waits}
use Rattle.hs_moves.proofs.Outcomes.{deadlocks, waits}
use Rattle.hs_moves.proofs.laws.a_data_statement_that_is_held_up_waits.Goals as goal

pub returns-clause-deadlock : goal.returns-clause-deadlock
returns-clause-deadlock g c = λ w m new r old told entry back accepted blocked e l. blocked_waits w m entry (λ a. Moves g.S.Store.stands w m a new r old told [] []) accepted blocked (Some back) e (deadlocks g.S.Store.stands w m new r old told entry blocked (blockers m entry.session (data_wanted w m entry)) back l.fits l.final_is l.ended_is l.told_is)

pub returns-clause-waits : goal.returns-clause-waits
returns-clause-waits g c = λ w m new r old told entry set accepted blocked e are l. blocked_waits w m entry (λ a. Moves g.S.Store.stands w m a new r old told [] []) accepted blocked None e (waits g.S.Store.stands w m new r old told entry blocked (blockers m entry.session (data_wanted w m entry)) set l.fits are l.final_is l.ended_is l.told_is)
