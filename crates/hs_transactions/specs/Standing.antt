-- What an engine stands for.
use Rattle.std.specs.Prelude.{◌≡◌, ℕ, Bool, true, Option, List, [], length}
use Rattle.hs_turns.specs.Events.{begun}
use Rattle.hs_turns.specs.Histories.{Commit}
use Rattle.hs_plan.specs.declared.change.Change.{Change}
use Rattle.hs_seams.specs.Stores.{IsWorld}
use Rattle.hs_seams.specs.World.{World}
use Rattle.hs_sides.specs.Sides.{Side, side_of}
use Rattle.hs_turns.specs.Laws.{IsHistory}
use Rattle.hs_turns.specs.Machine.{Machine}
use Rattle.hs_turns.specs.Waiting.{nobody}
use Rattle.hs_turns.proofs.Opened.{has}
use Rattle.hs_tied.specs.Waiting.{Ways}
use Rattle.hs_moves.specs.Fits.{Fits, kept_of}
use Rattle.hs_moves.specs.Parts.{Parts}
use Rattle.hs_moves.specs.Spanned.{read_by}
use Rattle.hs_snapshots.specs.Places.{commits_at}
use Rattle.hs_tied.specs.Kept.{Kept, own_for}

-- at a place statements of a session find what they read
abbrev pub IsPlaced : Option ℕ → ℕ → Kept → Type 0
IsPlaced place s k = (auto : Bool) → commits_at place k.commits ≡ read_by k.kind k.commits (own_for s auto k)

-- events lead to the history; sessions wait for open transactions alone, and never in a circle
pub record IsSane (w : World) (side : Side) : Type 0 where
  pub history : IsHistory w.run.dialect w.run.opening side.history
  pub ways : Ways (length side.settings) side.waits
  pub open_waits : (a b : ℕ) → side.waits a b ≡ true → has b side.history.open_ ≡ true

-- an engine with these parts stands for a side, in a world over which runs keep what their model promises
pub record Stands {S : Type 0} (At : S → World → List Commit → List Change → Type 0) (t : Parts S) (w : World) (side : Side) : Type 0 where
  pub world : IsWorld w
  pub fits : Fits At t w (kept_of side)
  pub sane : IsSane w side

-- it stands for that of a machine in which each session has a name
pub record IsAt {S : Type 0} (At : S → World → List Commit → List Change → Type 0) (t : Parts S) (w : World) (m : Machine) : Type 0 where
  pub stands : Stands At t w (side_of m)
  pub named : length m.settings ≡ length m.names

-- a side before any session
abbrev pub begun_side : World → Side
begun_side w = record { history = begun w.run.opening; settings = []; waits = nobody }
