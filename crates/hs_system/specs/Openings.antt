-- What a run is over what the texts of a log made, in a system.
use Rattle.std.specs.Prelude.{◌≡◌, ℕ, ◌&&◌, Bool, true, List, [], None, take}
use Rattle.hs_turns.specs.Numbers.{numbered}
use Rattle.hs_entries.specs.declared.item.Item.{Item}
use Rattle.hs_futures.specs.Futures.{future_of}
use Rattle.hs_turns.specs.Histories.{Commit, History, now}
use Rattle.hs_logged.specs.Over.{room_over, text_over}
use Rattle.hs_logged.specs.declared.logbook.Logbook.{Logbook}
use Rattle.hs_logged.specs.Kept.{left_by}
use Rattle.hs_logged.specs.Redone.{AreRedone, State, Takes}
use Rattle.hs_run.specs.Future.{Future}
use Rattle.hs_run.specs.Pieces.{made_by}
use Rattle.hs_run.specs.Running.{pieces}
use Rattle.hs_seams.specs.World.{World}
use Rattle.hs_turns.specs.Laws.{history_after}
use Rattle.hs_turns.specs.Machine.{start}
use Rattle.hs_turns.specs.Turns.{weight}
use Rattle.hs_system.specs.System.{System}

module _ (y : System) where
  -- ---- what texts make

  abbrev pub may : Takes
  may db changes = y.may_make db changes ≡ true

  -- texts make this of what those before them made, one behind another
  abbrev pub Make : State → List (List ℕ) → State → Type 0
  Make at texts next = AreRedone y.wording may at texts next

  -- before any text
  abbrev pub first : State
  first = record { database = y.empty; last = None }

  -- A run may begin with this: these texts of a log made it, and it violates no constraint.
  pub record IsSound (texts : List (List ℕ)) (at : State) : Type 0 where
    pub made : Make first texts at
    pub clean : y.violated at.database ≡ None

  -- ---- a run

  -- the log, where it has so many bytes before the one that ends it
  abbrev pub log_at : State → ℕ → Logbook
  log_at at size = record { last = at.last; size = size; limit = y.limit }

  -- Behind commits of a run there is room for a commit: it has a text, which isn't too long for the log, and it may be made again
  -- where it is made.
  abbrev pub room_behind : State → ℕ → List Commit → Commit → Bool
  room_behind at size commits k =
      room_over y.wording y.has_text (log_at at size) at.database commits k
      && y.may_make (now at.database commits) (numbered (now at.database commits).count k.changes)

  -- so many commits were made before
  abbrev pub world_of : State → ℕ → ℕ → World
  world_of at made size = record {
    run = record { dialect = y.dialect (room_behind at size); opening = at.database; made = made };
    text = text_over y.wording (log_at at size) at.database;
  }

  abbrev pub future_at : State → ℕ → ℕ → Future
  future_at at made size = future_of (world_of at made size) (start at.database [])

  -- the history of a whole run over these items
  abbrev pub history_of : State → ℕ → ℕ → List Item → History
  history_of at made size items =
      let w = world_of at made size in history_after w.run.dialect w.run.opening w.run.made items (weight (start w.run.opening items))

  -- the texts of its commits
  abbrev pub texts_of : State → ℕ → ℕ → List Item → List (List ℕ)
  texts_of at made size items = made_by (pieces (future_at at made size) items)

  -- the first so many of its commits, and what they left
  abbrev pub first_of : State → ℕ → ℕ → List Item → ℕ → List Commit
  first_of at made size items count = take count (history_of at made size items).commits

  abbrev pub behind_at : State → ℕ → ℕ → List Item → ℕ → State
  behind_at at made size items count = left_by (log_at at size) (world_of at made size) (first_of at made size items count)
