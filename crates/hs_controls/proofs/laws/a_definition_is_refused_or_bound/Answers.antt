use Rattle.std.specs.Prelude.{None, Some}
use Rattle.hs_moves.specs.Moves.{Moves}
use Rattle.hs_controls.proofs.Seeing.{definition_by_refusal}
use Rattle.hs_controls.proofs.laws.a_definition_is_refused_or_bound.Goals as goal

pub returns-clause-refused : goal.returns-clause-refused
returns-clause-refused g c = λ w m old new r old_told told old_made made is_first entry why read here rests is_read e h. definition_by_refusal w m old entry here rests read is_read (λ a. Moves g.S.Store.stands w m a new r old_told told old_made made) is_first (Some why) e h

pub returns-clause-bound : goal.returns-clause-bound
returns-clause-bound g c = λ w m old new r old_told told old_made made is_first entry read here rests is_read e h. definition_by_refusal w m old entry here rests read is_read (λ a. Moves g.S.Store.stands w m a new r old_told told old_made made) is_first None e h
