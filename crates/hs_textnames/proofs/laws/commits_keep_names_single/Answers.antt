use Rattle.hs_textnames.proofs.Names.{commit_named}
use Rattle.hs_textnames.proofs.laws.commits_keep_names_single.Goals as goal

pub returns : goal.returns
returns g c = commit_named (g.C.Conditions.wording c.args.conditions.now)
