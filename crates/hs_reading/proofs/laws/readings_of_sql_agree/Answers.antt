use Rattle.hs_reading.proofs.Readings.{same_plan, same_request}
use Rattle.hs_reading.proofs.laws.readings_of_sql_agree.Goals as goal

pub returns-clause-request : goal.returns-clause-request
returns-clause-request c = same_request

pub returns-clause-plan : goal.returns-clause-plan
returns-clause-plan c = same_plan
