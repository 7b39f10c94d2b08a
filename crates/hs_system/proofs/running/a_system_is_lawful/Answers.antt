use Rattle.hs_system.proofs.Lawful.{lawful}
use Rattle.hs_system.proofs.running.a_system_is_lawful.Goals as goal

pub returns : goal.returns
returns g c = lawful g.S.Governed.is_named g.S.Governed.regular g.S.Governed.system g.S.Governed.governed
