-- What a data statement comes to, and leaves.
use Rattle.std.specs.Prelude.{◌≡◌, List, ◌++◌}
use Rattle.hs_changes.specs.Changes.{count_all_inserted}
use Rattle.hs_turns.specs.Database.{Database, view}
use Rattle.hs_language.specs.Outcomes.{of_plan}
use Rattle.hs_language.specs.Reading.{Reading}
use Rattle.hs_plan.specs.declared.change.Change.{Change}
use Rattle.hs_plan.specs.declared.plan.Plan.{Plan}
use Rattle.hs_seams.specs.Stores.{outcome_of}
use Rattle.hs_seams.specs.declared.outcome.Outcome.{Outcome}
use Rattle.hs_seated.specs.declared.seated.Seated.{Seated}
use Rattle.hs_seated.specs.Seated.{IsSeated}

-- It comes to what the language says over the database that a transaction with these changes sees, and its own
-- changes are made behind them.
pub record IsEvaluated (r : Reading) (db : Database) (behind : List Change) (plan : Plan) (o : Outcome) (s : Seated) : Type 0 where
  pub outcome : outcome_of o ≡ of_plan r (count_all_inserted behind) (view db behind) plan
  pub seated : IsSeated db.rows (behind ++ o.changes) s
