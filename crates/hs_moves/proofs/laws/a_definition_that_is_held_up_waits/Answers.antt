use Rattle.hs_moves.proofs.Defining.{held_deadlock, held_waits}
use Rattle.hs_moves.proofs.laws.a_definition_that_is_held_up_waits.Goals as goal

pub returns-clause-deadlock : goal.returns-clause-deadlock
returns-clause-deadlock g c = λ w m new r old told entry back list l. held_deadlock g.S.Store.stands w m new r old told entry back list l.fits l.final_is l.ended_is l.told_is

pub returns-clause-waits : goal.returns-clause-waits
returns-clause-waits g c = λ w m new r old told entry set list are l. held_waits g.S.Store.stands w m new r old told entry set list l.fits are l.final_is l.ended_is l.told_is
