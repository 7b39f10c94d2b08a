use Rattle.hs_logged.proofs.Worlds.{entered}
use Rattle.hs_logged.proofs.laws.a_commit_is_entered_as_its_world_says.Goals as goal

pub returns : goal.returns
returns g c = λ start old new w commits k old_made made is_made logged behind enters. entered (g.C.Conditions.wording c.args.conditions.now) start old w commits k logged behind new old_made made is_made enters
