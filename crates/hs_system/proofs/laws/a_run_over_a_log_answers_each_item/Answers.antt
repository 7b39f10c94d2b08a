use Rattle.hs_system.proofs.Ahead.{answered}
use Rattle.hs_system.proofs.laws.a_run_over_a_log_answers_each_item.Goals as goal

pub returns : goal.returns
returns g c = λ texts at made size items number sound are. answered g.S.Governed.is_named g.S.Governed.regular g.S.Governed.system g.S.Governed.governed texts at made size sound items are number
