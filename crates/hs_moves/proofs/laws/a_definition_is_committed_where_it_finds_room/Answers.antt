use Rattle.hs_moves.proofs.Defining.{define_done, define_full, define_many, define_refused}
use Rattle.hs_moves.proofs.laws.a_definition_is_committed_where_it_finds_room.Goals as goal

pub returns-clause-refused : goal.returns-clause-refused
returns-clause-refused g c = λ w m new r old told entry made why found l. define_refused g.S.Store.stands w m new r old told entry why made found l.fits l.final_is l.ended_is l.told_is

pub returns-clause-many : goal.returns-clause-many
returns-clause-many g c = λ w m new r old told entry made definition found none l. define_many g.S.Store.stands w m new r old told entry definition found made none l.fits l.final_is l.ended_is l.told_is

pub returns-clause-full : goal.returns-clause-full
returns-clause-full g c = λ w m new r old told entry made definition found room log l. define_full g.S.Store.stands w m new r old told entry definition found made room log l.fits l.final_is l.ended_is l.told_is

pub returns-clause-committed : goal.returns-clause-committed
returns-clause-committed g c = λ w m new r old told entry old_made made number definition found none room log is_next l texts. define_done g.S.Store.stands w m new r old told entry definition found number old_made made none room log l.fits is_next texts l.final_is l.ended_is l.told_is
