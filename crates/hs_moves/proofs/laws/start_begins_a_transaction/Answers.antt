use Rattle.hs_moves.proofs.Starting.{start_refused, starts}
use Rattle.hs_moves.proofs.laws.start_begins_a_transaction.Goals as goal

pub returns-clause-begins : goal.returns-clause-begins
returns-clause-begins g c = λ w m new r old told entry modes shut l. starts g.S.Store.stands w m new r old told modes entry shut l.fits l.final_is l.ended_is l.told_is

pub returns-clause-refused : goal.returns-clause-refused
returns-clause-refused g c = λ w m new r old told entry modes opens h. start_refused g.S.Store.stands w m new r old told modes entry opens h
