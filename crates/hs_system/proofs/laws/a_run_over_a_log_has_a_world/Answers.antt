use Rattle.hs_system.proofs.Grounded.{world_is}
use Rattle.hs_system.proofs.laws.a_run_over_a_log_has_a_world.Goals as goal

pub returns : goal.returns
returns g c = λ texts at made size sound. world_is g.S.Governed.is_named g.S.Governed.regular g.S.Governed.system g.S.Governed.governed texts at made size sound
