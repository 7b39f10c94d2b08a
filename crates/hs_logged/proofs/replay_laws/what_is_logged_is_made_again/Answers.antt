use Rattle.std.proofs.Common.{[]}
use Rattle.hs_logged.proofs.Kept.{kept_redone}
use Rattle.hs_logged.proofs.replay_laws.what_is_logged_is_made_again.Goals as goal

pub returns : goal.returns
returns g c = λ start w commits logged all. kept_redone (g.C.Conditions.wording c.args.conditions.now) g.D.Restored.takes start w logged [] commits all
