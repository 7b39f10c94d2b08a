-- A database in memory on which commits are made again.
use Rattle.std.specs.Prelude.{◌≡◌, ℕ, ◌+◌, ◌^◌, nat_le, Bool, true, List, []}
use Rattle.hs_applicable.specs.Applicable.{may_make_all, may_make_each}
use Rattle.hs_applicable.specs.SoundDatabase.{IsSoundDatabase}
use Rattle.hs_turns.specs.Database.{Database}
use Rattle.hs_instance.specs.Instance.{IsInstance}
use Rattle.hs_instance.specs.declared.instance.Instance.{Instance}
use Rattle.hs_plan.specs.declared.change.Change.{Change}
use Rattle.hs_logged.specs.Redone.{Takes}
use Rattle.hs_instance.specs.declared.restoring.Restoring.{Restoring}

-- it is this sound database, with these changes of an open transaction on it
pub record IsLawful (changes : List Change) (i : Instance) (db : Database) : Type 0 where
  pub is : IsInstance db changes i
  pub sound : IsSoundDatabase db

-- it is this sound database, with no changes on it
abbrev pub stands_for : Restoring → Database → Type 0
stands_for r = IsLawful [] r.instance

-- which changes it takes as those of a commit
abbrev pub takes : Takes
takes db changes = may_make_all db changes ≡ true

-- and which where there is room for them
abbrev pub takes_each : Takes
takes_each db changes = may_make_each db changes ≡ true

-- so many changes, and so many behind them, keep within those that a database has in its life
abbrev pub has_room_for : ℕ → ℕ → Bool
has_room_for count more = nat_le (count + more) (2 ^ 48)
