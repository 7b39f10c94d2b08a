use Rattle.std.specs.Prelude.{Some}
use Rattle.hs_moves.specs.Moves.{Moves}
use Rattle.hs_controls.proofs.Seeing.{data_by_refusal, its_own, its_sight}
use Rattle.hs_controls.proofs.laws.a_data_statement_sees_the_changes_of_its_session.Goals as goal

pub returns-clause-own : goal.returns-clause-own
returns-clause-own g c = λ w m old entry here rests. its_own w m old entry here rests

pub returns-clause-seen : goal.returns-clause-seen
returns-clause-seen g c = λ w m old entry read here rests is_read. its_sight w m old entry here rests read is_read

pub returns-clause-refused : goal.returns-clause-refused
returns-clause-refused g c = λ w m old new r old_told told old_made made entry why read here rests is_read e h. data_by_refusal w m old entry here rests read is_read (λ a. Moves g.S.Store.stands w m a new r old_told told old_made made) (Some why) e h
