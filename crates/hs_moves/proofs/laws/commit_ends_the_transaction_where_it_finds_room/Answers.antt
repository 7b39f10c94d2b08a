use Rattle.hs_moves.proofs.Ended.{commit_none, commit_left, commit_made, commit_many, commit_full}
use Rattle.hs_moves.proofs.laws.commit_ends_the_transaction_where_it_finds_room.Goals as goal

pub returns-clause-none : goal.returns-clause-none
returns-clause-none g c = λ w m new r old told s made shut l. commit_none g.S.Store.stands w m new r old told s made shut l.fits l.final_is l.ended_is l.told_is

pub returns-clause-unchanged : goal.returns-clause-unchanged
returns-clause-unchanged g c = λ w m new r old told old_made made s o found e l same. commit_left g.S.Store.stands w m new r old told s o found old_made made e l.fits same l.final_is l.ended_is l.told_is

pub returns-clause-committed : goal.returns-clause-committed
returns-clause-committed g c = λ w m new r old told old_made made s number o found e is_next l texts. commit_made g.S.Store.stands w m new r old told s o found old_made made number e l.fits is_next texts l.final_is l.ended_is l.told_is

pub returns-clause-many : goal.returns-clause-many
returns-clause-many g c = λ w m new r old told old_made made s o found e l same. commit_many g.S.Store.stands w m new r old told s o found old_made made e l.fits same l.final_is l.ended_is l.told_is

pub returns-clause-full : goal.returns-clause-full
returns-clause-full g c = λ w m new r old told old_made made s o found e l same. commit_full g.S.Store.stands w m new r old told s o found old_made made e l.fits same l.final_is l.ended_is l.told_is
