use Rattle.std.proofs.Common.{refl}
use Rattle.hs_turns.specs.Attempts.{Empty, Fits as HasRoom, TooManyChanges, LogFull}
use Rattle.hs_moves.specs.Evaluated.{data_outcome}
use Rattle.hs_moves.specs.Moves.{Moves}
use Rattle.hs_moves.proofs.Attempted.{free_ends, free_goes}
use Rattle.hs_moves.proofs.Outcomes.{ends_done, ends_empty, ends_full, ends_many, goes}
use Rattle.hs_moves.proofs.laws.a_data_statement_goes_on_where_nobody_is_in_its_way.Goals as goal

pub returns-clause-open_ : goal.returns-clause-open_
returns-clause-open_ g c = λ w m new r old told entry made accepted clear free off l. free_goes w m entry (λ a. Moves g.S.Store.stands w m a new r old told made made) accepted clear free (goes g.S.Store.stands w m new r old told entry clear free (data_outcome w m entry).rows (data_outcome w m entry).reply refl refl made off l.fits l.final_is l.ended_is l.told_is)

pub returns-clause-unchanged : goal.returns-clause-unchanged
returns-clause-unchanged g c = λ w m new r old told entry old_made made accepted clear free on e l same. free_ends w m entry (λ a. Moves g.S.Store.stands w m a new r old told old_made made) accepted clear free on Empty e (ends_empty g.S.Store.stands w m new r old told entry clear free (data_outcome w m entry).rows (data_outcome w m entry).reply refl refl on l.final_is l.ended_is old_made made e l.fits same l.told_is)

pub returns-clause-committed : goal.returns-clause-committed
returns-clause-committed g c = λ w m new r old told entry old_made made number accepted clear free on e is_next l texts. free_ends w m entry (λ a. Moves g.S.Store.stands w m a new r old told old_made made) accepted clear free on HasRoom e (ends_done g.S.Store.stands w m new r old told entry clear free (data_outcome w m entry).rows (data_outcome w m entry).reply refl refl on l.final_is l.ended_is old_made made number e l.fits is_next texts l.told_is)

pub returns-clause-many : goal.returns-clause-many
returns-clause-many g c = λ w m new r old told entry old_made made accepted clear free on e l same. free_ends w m entry (λ a. Moves g.S.Store.stands w m a new r old told old_made made) accepted clear free on TooManyChanges e (ends_many g.S.Store.stands w m new r old told entry clear free (data_outcome w m entry).rows (data_outcome w m entry).reply refl refl on l.final_is l.ended_is old_made made e l.fits same l.told_is)

pub returns-clause-full : goal.returns-clause-full
returns-clause-full g c = λ w m new r old told entry old_made made accepted clear free on e l same. free_ends w m entry (λ a. Moves g.S.Store.stands w m a new r old told old_made made) accepted clear free on LogFull e (ends_full g.S.Store.stands w m new r old told entry clear free (data_outcome w m entry).rows (data_outcome w m entry).reply refl refl on l.final_is l.ended_is old_made made l.fits same l.told_is)
