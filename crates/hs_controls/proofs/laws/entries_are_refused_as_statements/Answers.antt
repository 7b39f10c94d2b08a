use Rattle.hs_controls.proofs.Seeing.{data_refused, definition_refused, faulty_refused, start_refused}
use Rattle.hs_controls.proofs.laws.entries_are_refused_as_statements.Goals as goal

pub returns-clause-faulty : goal.returns-clause-faulty
returns-clause-faulty g c = λ w m entry why asks. faulty_refused w m entry why asks

pub returns-clause-starts : goal.returns-clause-starts
returns-clause-starts g c = λ w m entry modes asks. start_refused w m entry modes asks

pub returns-clause-data : goal.returns-clause-data
returns-clause-data g c = λ w m old entry why read here rests is_read asks e. data_refused w m old entry here rests read is_read why asks e

pub returns-clause-definition : goal.returns-clause-definition
returns-clause-definition g c = λ w m old entry why read here rests is_read asks e. definition_refused w m old entry here rests read is_read why asks e
