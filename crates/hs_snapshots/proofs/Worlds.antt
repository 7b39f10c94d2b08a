-- The world in which stores stand.
use Rattle.std.proofs.Common.{List}
use Rattle.hs_plan.specs.declared.change.Change.{Change}
use Rattle.hs_seams.specs.Stores.{IsWorld}
use Rattle.hs_seams.specs.World.{World}
use Rattle.hs_turns.specs.Histories.{Commit}
use Rattle.hs_snapshots.specs.declared.stores.Stores.{Stores}
use Rattle.hs_snapshots.specs.Places.{on_present}
use Rattle.hs_snapshots.specs.Stores.{IsStores}

-- it is one over which runs keep what their model promises, as each store says of it
pub stores_world : {S : Type 0} (At : S → World → List Commit → List Change → Type 0) → ((s : S) (w : World) (commits : List Commit) (seated : List Change) → At s w commits seated → IsWorld w)
    → (t : Stores S) (w : World) (commits : List Commit) (seated : List Change) → IsStores At t w commits seated → IsWorld w
stores_world At world t w commits seated is = world t.present w commits (on_present t.place seated) is.present
