-- What stands for a side of a machine.
use Rattle.std.specs.Prelude.{◌≡◌, ◌≤◌, ◌+◌, ℕ, List, length}
use Rattle.hs_claims.specs.Session.{IsSession}
use Rattle.hs_turns.specs.Histories.{Commit}
use Rattle.hs_plan.specs.declared.change.Change.{Change}
use Rattle.hs_seams.specs.Stores.{present}
use Rattle.hs_seams.specs.World.{World}
use Rattle.hs_sides.specs.Sides.{Side}
use Rattle.hs_holding.specs.Held.{IsSeat, seat_of}
use Rattle.hs_tied.specs.Holds.{Holds}
use Rattle.hs_tied.specs.Kept.{Kept}
use Rattle.hs_moves.specs.Parts.{Parts}
use Rattle.hs_moves.specs.Spanned.{IsSpanned}

-- the changes of a session's open transaction
abbrev pub changes_of : {S : Type 0} → Parts S → ℕ → List Change
changes_of t s = (seat_of t.holding s).session.changes

abbrev pub kept_of : Side → Kept
kept_of side = record { kind = side.history.kind; commits = side.history.commits; open_ = side.history.open_; settings = side.settings; waits = side.waits }

-- a session has this number
pub record IsHere {S : Type 0} (t : Parts S) (s : ℕ) : Type 0 where
  pub seat : IsSeat t.holding s
  pub session : IsSession s

-- all but the store stands for what is kept: each commit of the run has a change at least, as those before it have
pub record Rests {S : Type 0} (t : Parts S) (w : World) (k : Kept) : Type 0 where
  pub holds : Holds t.holding k
  pub seat : IsSession t.seated.0
  pub count : t.commits ≡ w.run.made + length k.commits
  pub few : w.run.made + length k.commits ≤ (present w k.commits).count
  pub spanned : IsSpanned t.spans w.run.made k.kind k.commits k.open_

-- so does the store, with the changes of the seated session
pub record Fits {S : Type 0} (At : S → World → List Commit → List Change → Type 0) (t : Parts S) (w : World) (k : Kept) : Type 0 where
  pub store : At t.store w k.commits (changes_of t t.seated.0)
  pub rests : Rests t w k
