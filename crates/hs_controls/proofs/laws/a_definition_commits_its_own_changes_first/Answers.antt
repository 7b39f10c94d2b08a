use Rattle.hs_controls.proofs.Committing.{own_done, own_empty, own_full, own_many, own_none}
use Rattle.hs_controls.proofs.laws.a_definition_commits_its_own_changes_first.Goals as goal

pub returns-clause-none : goal.returns-clause-none
returns-clause-none g c = λ w m new r old told old_made made entry none h. own_none g.S.Store.stands w m new r old told entry old_made made none h

pub returns-clause-unchanged : goal.returns-clause-unchanged
returns-clause-unchanged g c = λ w m new r behind old told old_made made entry o found e h final ended. own_empty g.S.Store.stands w m new r old told entry o found behind old_made made e h final ended

pub returns-clause-committed : goal.returns-clause-committed
returns-clause-committed g c = λ w m new r behind old told old_made own_made made entry o number found e is_next texts h final ended. own_done g.S.Store.stands w m new r old told entry o found behind number old_made own_made made e is_next texts h final ended

pub returns-clause-many : goal.returns-clause-many
returns-clause-many g c = λ w m new r old told made entry o found e l. own_many g.S.Store.stands w m new r old told entry o found made e l

pub returns-clause-full : goal.returns-clause-full
returns-clause-full g c = λ w m new r old told made entry o found e l. own_full g.S.Store.stands w m new r old told entry o found made e l

pub returns-clause-later : goal.returns-clause-later
returns-clause-later g c = λ w m new r old told old_made made entry h. h
