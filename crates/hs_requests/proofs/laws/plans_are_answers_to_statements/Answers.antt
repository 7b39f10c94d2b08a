use Rattle.hs_requests.proofs.Told.{answered, kind, meant, unread}
use Rattle.hs_requests.proofs.laws.plans_are_answers_to_statements.Goals as goal

pub returns-clause-answered : goal.returns-clause-answered
returns-clause-answered c = answered

pub returns-clause-unread : goal.returns-clause-unread
returns-clause-unread c = unread

pub returns-clause-meant : goal.returns-clause-meant
returns-clause-meant c = meant

pub returns-clause-kind : goal.returns-clause-kind
returns-clause-kind c = kind
