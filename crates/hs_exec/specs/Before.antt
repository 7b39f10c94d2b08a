-- The rows before a writing statement.
use Rattle.std.specs.Prelude.{ℕ, Bool}
use Rattle.hs_plan.specs.declared.plan.Plan.{Plan}
use Rattle.hs_changes.specs.Settings.{Maps}
use Rattle.hs_actions.specs.Referencing.{Keys}
use Rattle.hs_effects.specs.Effects.{AgreeOn}
use Rattle.hs_exec.specs.Needed.{AreChanged}

-- they are those of the tables that the statement changes, and of those whose rows actions look at
pub record AreBefore (tables : Maps) (keys : Keys) (plan : Plan) (before : Maps) : Type 0 where
  pub changed : ℕ → Bool
  pub are : AreChanged keys plan changed
  pub agree : AgreeOn before tables changed
