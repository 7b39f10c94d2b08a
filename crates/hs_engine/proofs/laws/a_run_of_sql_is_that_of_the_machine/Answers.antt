use Rattle.hs_engine.proofs.Runs.{answered, replied, told}
use Rattle.hs_engine.proofs.laws.a_run_of_sql_is_that_of_the_machine.Goals as goal

pub returns-clause-told : goal.returns-clause-told
returns-clause-told c = told

pub returns-clause-replied : goal.returns-clause-replied
returns-clause-replied c = replied

pub returns-clause-answered : goal.returns-clause-answered
returns-clause-answered c = λ opened size items number s are. answered opened size items s are number
