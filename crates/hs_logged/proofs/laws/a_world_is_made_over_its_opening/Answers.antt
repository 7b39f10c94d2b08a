use Rattle.hs_logged.proofs.Over.{made}
use Rattle.hs_logged.proofs.laws.a_world_is_made_over_its_opening.Goals as goal

pub returns : goal.returns
returns g c = made (g.C.Conditions.wording c.args.conditions.now)
