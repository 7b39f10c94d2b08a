use Rattle.hs_system.proofs.Lawful.{counted, world_opened}
use Rattle.hs_system.proofs.running.what_is_opened_has_a_world.Goals as goal

pub returns-clause-counted : goal.returns-clause-counted
returns-clause-counted g c = λ opened reached. counted g.S.Governed.is_named g.S.Governed.regular g.S.Governed.system g.S.Governed.governed opened reached

pub returns-clause-world : goal.returns-clause-world
returns-clause-world g c = λ opened size sound. world_opened g.S.Governed.is_named g.S.Governed.regular g.S.Governed.system g.S.Governed.governed opened size sound
