use Rattle.hs_moves.proofs.Ended.{rollback_none, rollback_some}
use Rattle.hs_moves.proofs.laws.rollback_ends_the_transaction.Goals as goal

pub returns-clause-none : goal.returns-clause-none
returns-clause-none g c = λ w m new r old told s shut l. rollback_none g.S.Store.stands w m new r old told s shut l.fits l.final_is l.ended_is l.told_is

pub returns-clause-open_ : goal.returns-clause-open_
returns-clause-open_ g c = λ w m new r old told s opens l. rollback_some g.S.Store.stands w m new r old told s opens l.fits l.final_is l.ended_is l.told_is
