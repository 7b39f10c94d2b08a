use Rattle.hs_sides.specs.Sides.{side_of}
use Rattle.hs_moves.specs.Fits.{kept_of}
use Rattle.hs_controls.proofs.Waiting.{deadlocked, goes, quiet_none, waits_by}
use Rattle.hs_controls.proofs.laws.a_definition_waits_for_each_open_transaction.Goals as goal

pub returns-clause-quiet : goal.returns-clause-quiet
returns-clause-quiet g c = λ m h holds quiet. quiet_none h (kept_of (side_of m)) holds quiet

pub returns-clause-goes : goal.returns-clause-goes
returns-clause-goes g c = λ w m new r old told old_made made entry none h. goes g.S.Store.stands w m new r old told entry old_made made none h

pub returns-clause-deadlock : goal.returns-clause-deadlock
returns-clause-deadlock g c = λ w m old new r old_told told made entry set back rests ways named are first l. deadlocked g.S.Store.stands w m new r old_told told entry old.holding rests.holds named ways set are made back first l

pub returns-clause-waits : goal.returns-clause-waits
returns-clause-waits g c = λ w m old new r old_told told made entry set here rests ways named are some first up seated commits spans at final ended is. waits_by g.S.Store.stands w m old new r old_told told made entry set here rests ways named are some first up seated commits spans at final ended is
