use Rattle.hs_moves.proofs.Seating.{begun_changes, begun_rests, seated_fits}
use Rattle.hs_moves.proofs.laws.a_beginning_changes_no_rows.Goals as goal

pub returns-clause-begins : goal.returns-clause-begins
returns-clause-begins g c = λ w k old new s auto start here shut begins rests at seated count spans. begun_rests old new w k s here auto start shut begins rests at seated count spans

pub returns-clause-changes : goal.returns-clause-changes
returns-clause-changes g c = λ w k old new s auto start here shut begins holds first b at. begun_changes old new w k s here auto start shut begins holds first b at

pub returns-clause-seated : goal.returns-clause-seated
returns-clause-seated g c = λ w k old new rests same count spans session at. seated_fits g.S.Store.stands old new w k rests same count spans session at
