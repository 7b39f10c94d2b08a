use Rattle.hs_statements.proofs.Alone.{alone}
use Rattle.hs_statements.proofs.Answered.{statement_answer}
use Rattle.hs_statements.proofs.laws.statements_have_one_answer.Goals as goal

pub returns-clause-answered : goal.returns-clause-answered
returns-clause-answered c = statement_answer

pub returns-clause-only : goal.returns-clause-only
returns-clause-only c = alone
