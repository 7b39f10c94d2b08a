use Rattle.hs_requests.proofs.Behind.{place, statement}
use Rattle.hs_requests.proofs.laws.statements_stand_behind_their_session.Goals as goal

pub returns-clause-statement : goal.returns-clause-statement
returns-clause-statement c = statement

pub returns-clause-place : goal.returns-clause-place
returns-clause-place c = place
