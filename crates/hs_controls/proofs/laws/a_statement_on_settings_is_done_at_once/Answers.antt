use Rattle.hs_controls.proofs.Controlling.{at_once, begins_before}
use Rattle.hs_controls.proofs.laws.a_statement_on_settings_is_done_at_once.Goals as goal

pub returns-clause-at_once : goal.returns-clause-at_once
returns-clause-at_once g c = λ w m old new r old_told told control s made here rests none is. at_once g.S.Store.stands w m old new r old_told told control s made here rests none is

pub returns-clause-begins : goal.returns-clause-begins
returns-clause-begins g c = λ w m old new begun start r old_told told control s made here rests some begins first is. begins_before g.S.Store.stands w m old new r old_told told control s made here rests begun start some begins first is
