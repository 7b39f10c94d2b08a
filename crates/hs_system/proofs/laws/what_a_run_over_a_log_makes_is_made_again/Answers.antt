use Rattle.hs_system.proofs.Remade.{remade_so}
use Rattle.hs_system.proofs.laws.what_a_run_over_a_log_makes_is_made_again.Goals as goal

pub returns : goal.returns
returns g c = λ texts at made size items front rest sound is. remade_so g.S.Governed.is_named g.S.Governed.regular g.S.Governed.system g.S.Governed.governed at made size texts items front rest sound is
