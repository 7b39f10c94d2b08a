use Rattle.hs_engine.specs.Tested.{commits_tested, conditions_tested}
use Rattle.hs_engine.proofs.laws.texts_of_sql_are_tested.Goals as goal

pub returns : goal.returns
returns c = record { conditions = conditions_tested; commits = commits_tested }
