use Rattle.hs_logged.proofs.Replaying.{kept}
use Rattle.hs_logged.proofs.replay_laws.what_commits_keep_is_kept.Goals as goal

pub returns : goal.returns
returns g c = kept (g.C.Conditions.wording c.args.conditions.now) g.D.Restored.takes
