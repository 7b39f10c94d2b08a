use Rattle.std.proofs.Common.{[]}
use Rattle.hs_turns.specs.Attempts.{conflict_words}
use Rattle.hs_moves.specs.Evaluated.{data_own, data_wanted}
use Rattle.hs_moves.specs.Moves.{Moves}
use Rattle.hs_moves.proofs.Attempted.{free_conflicts}
use Rattle.hs_moves.proofs.Outcomes.{conflicts}
use Rattle.hs_moves.proofs.laws.a_data_statement_is_refused_where_a_commit_conflicts.Goals as goal

pub returns : goal.returns
returns g c = λ w m new r old told entry accepted free none l. free_conflicts w m entry (λ a. Moves g.S.Store.stands w m a new r old told [] []) accepted free none (conflicts g.S.Store.stands w m new r old told entry free none (conflict_words w.run.dialect w.run.opening w.run.made m (data_own w m entry) (data_wanted w m entry)) l.fits l.final_is l.ended_is l.told_is)
