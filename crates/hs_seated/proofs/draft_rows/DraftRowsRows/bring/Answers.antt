use Rattle.std.proofs.Common.{is_some, sym, ap}
use Rattle.hs_seated.proofs.draft_rows.DraftRowsRows.bring.Goals as goal

pub returns-in-Some-clause-found : goal.returns-in-Some-clause-found
returns-in-Some-clause-found c = λ told. ap is_some c.in-Some.ensures

pub returns-in-Some-clause-ready : goal.returns-in-Some-clause-ready
returns-in-Some-clause-ready c = sym c.in-Some.ensures

pub returns-in-None-clause-found : goal.returns-in-None-clause-found
returns-in-None-clause-found c = λ told. ap is_some c.in-None.ensures
