use Rattle.hs_reading.proofs.SingleTrees.{expression_faults, query_faults}
use Rattle.hs_reading.proofs.plain.faults_name_no_line_feed.Goals as goal

pub returns-clause-expression : goal.returns-clause-expression
returns-clause-expression c = expression_faults

pub returns-clause-query : goal.returns-clause-query
returns-clause-query c = query_faults
