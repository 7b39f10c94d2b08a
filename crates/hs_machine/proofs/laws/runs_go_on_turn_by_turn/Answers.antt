use Rattle.hs_machine.proofs.Machine.{whole_some, front, rest_some}
use Rattle.hs_machine.proofs.laws.runs_go_on_turn_by_turn.Goals as goal

pub returns-clause-one : goal.returns-clause-one
returns-clause-one g c = λ m s t law. whole_some m law s t

pub returns-clause-several : goal.returns-clause-several
returns-clause-several g c = λ m s n law. front m law n s

pub returns-clause-rest : goal.returns-clause-rest
returns-clause-rest g c = λ m s t law. rest_some m law s t
