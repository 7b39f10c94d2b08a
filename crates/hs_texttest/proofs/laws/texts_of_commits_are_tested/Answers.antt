use Rattle.hs_texttest.proofs.Commits.{texts_tested}
use Rattle.hs_texttest.proofs.laws.texts_of_commits_are_tested.Goals as goal

pub returns : goal.returns
returns g c = texts_tested (g.C.Conditions.wording c.args.conditions.now)
