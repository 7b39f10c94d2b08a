use Rattle.hs_moves.proofs.Seating.{ended_commit, left_here, left_there}
use Rattle.hs_moves.proofs.laws.an_end_leaves_the_others.Goals as goal

pub returns-clause-own : goal.returns-clause-own
returns-clause-own g c = λ w k old new s here rests ends seated is same spans at. left_here g.S.Store.stands old new w k s here rests ends seated is same spans at

pub returns-clause-other : goal.returns-clause-other
returns-clause-other g c = λ w k old new s here rests ends seated other same spans at. left_there g.S.Store.stands old new w k s here rests ends seated other same spans at

pub returns-clause-committed : goal.returns-clause-committed
returns-clause-committed g c = λ w k old new s here rests ends seated o is mine some more spanned at. ended_commit g.S.Store.stands old new w k s here rests ends seated o is mine some more spanned at
