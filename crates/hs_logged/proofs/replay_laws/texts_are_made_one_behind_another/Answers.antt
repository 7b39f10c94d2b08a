use Rattle.hs_logged.proofs.Replaying.{behind}
use Rattle.hs_logged.proofs.replay_laws.texts_are_made_one_behind_another.Goals as goal

pub returns : goal.returns
returns g c = behind (g.C.Conditions.wording c.args.conditions.now) g.D.Restored.takes
