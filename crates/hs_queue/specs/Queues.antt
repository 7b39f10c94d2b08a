-- The queue, as entries stand in it.
use Rattle.std.specs.Prelude.{◌≡◌, ℕ, List, [], ◌∷◌, ◌++◌, map, Some}
use Rattle.hs_turns.specs.Turns.{ready_among}
use Rattle.hs_turns.specs.Waiting.{Entry}
use Rattle.hs_queue.specs.declared.backlogs.Backlogs.{Backlogs}
use Rattle.hs_queue.specs.Lanes.{AreLanes, Ascends, Queued, count_in, entry_in, ticket_of}

-- its entries stand in the order in which they were queued
pub record IsQueue (b : Backlogs) (queue : List Entry) : Type 0 where
  pub tickets : List Queued
  pub entries : map entry_in tickets ≡ queue
  pub lanes : AreLanes b.lanes tickets
  pub ascends : Ascends (map ticket_of tickets ++ b.next ∷ [])

-- how many entries are queued
abbrev pub count_of : Backlogs → ℕ
count_of b = count_in b.lanes

-- the first queued entry whose session doesn't wait, and the others
pub record IsTaken (waiters queue : List Entry) (entry : Entry) (left : Backlogs) : Type 0 where
  pub rest : List Entry
  pub is : ready_among waiters queue ≡ Some (entry, rest)
  pub kept : IsQueue left rest
