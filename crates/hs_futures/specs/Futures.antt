-- What is ahead of a run, as the pieces that its turns come to.
use Rattle.std.specs.Prelude.{◌≡◌, ◌++◌, ℕ, zero, suc, ◌+◌, Bool, true, false, if◌then◌else◌, List, [], ◌∷◌, length, Option, None, Some}
use Rattle.hs_entries.specs.declared.item.Item.{Item}
use Rattle.hs_turns.specs.Histories.{Commit}
use Rattle.hs_run.specs.declared.gathered.Gathered.{Gathered}
use Rattle.hs_run.specs.Future.{Future}
use Rattle.hs_run.specs.Pieces.{Piece}
use Rattle.hs_seams.specs.World.{World, texts_since}
use Rattle.hs_turns.specs.Lines.{printed}
use Rattle.hs_turns.specs.Machine.{Machine}
use Rattle.hs_turns.specs.Turns.{Turned, begins, closes_next, closing, ready_among, reads, retries, turn, weight}
use Rattle.hs_turns.specs.Waiting.{Entry}

-- ---- pieces

-- the lines that a turn tells, and the texts of the commits that it makes
abbrev pub piece_of : World → Machine → Turned → Piece
piece_of w m t = record { told = printed t.lines; made = texts_since w m.history.commits t.next.history.commits }

-- it was gathered, and its commits stand behind those that there were
pub record Gathers (w : World) (m : Machine) (t : Turned) (old new : Gathered) : Type 0 where
  pub told : new.told ≡ old.told ++ printed t.lines
  pub made : new.made ≡ old.made ++ texts_since w m.history.commits t.next.history.commits
  pub more : List Commit
  pub commits : t.next.history.commits ≡ m.history.commits ++ more

-- the pieces of so many turns, as far as there are turns
unfoldable pub pieces_by : (Machine → Option Turned) → World → ℕ → Machine → List Piece
pieces_by next w zero m = []
pieces_by next w (suc n) m = elim (next m) [ None ↦ [] | Some t ↦ piece_of w m t ∷ pieces_by next w n t.next ]

-- the machine behind them
unfoldable pub gone_by : (Machine → Option Turned) → ℕ → Machine → Machine
gone_by next zero m = m
gone_by next (suc n) m = elim (next m) [ None ↦ m | Some t ↦ gone_by next n t.next ]

-- ---- rest

-- a machine with these items left
abbrev pub over : List Item → Machine → Machine
over items m = record m { unread = items }

abbrev pub over_turned : List Item → Turned → Turned
over_turned items t = record t { next = over items t.next }

abbrev pub is_empty : {X : Type 0} → List X → Bool
is_empty [] = true
is_empty (x ∷ xs) = false

abbrev pub rests_by : Option (Entry × List Entry) → Machine → Bool
rests_by None m = is_empty m.unread
rests_by (Some found) m = false

abbrev pub rests_after : Bool → Machine → Bool
rests_after true m = false
rests_after false m = rests_by (ready_among m.seen m.queue) m

abbrev pub rests_in : List Entry → Machine → Bool
rests_in [] m = rests_after m.again m
rests_in (e ∷ es) m = false

-- No turn is due without more of the input: no pass over the waiters is, no queued entry is ready, and no item is left.
abbrev pub rests : Machine → Bool
rests m = rests_in m.pass m

-- ---- turns in a world

module _ (w : World) where
  unfoldable pub turns : Machine → Option Turned
  turns m = turn w.run.dialect w.run.opening w.run.made m

  -- a turn that needs no more of the input
  unfoldable pub stirs : Machine → Option Turned
  stirs m = if rests m then None else turns m

  -- the first attempt of an entry, or a later one
  unfoldable pub attempts : Bool → Entry → Machine → Turned
  attempts true entry m = begins w.run.dialect w.run.opening w.run.made entry m
  attempts false entry m = retries w.run.dialect w.run.opening w.run.made entry m

  -- what an item comes to
  unfoldable pub takes : Item → Machine → Turned
  takes item m = reads w.run.dialect w.run.opening w.run.made item m

  -- what the end of the input comes to
  unfoldable pub ends : Machine → Option Turned
  ends m = closing w.run.dialect w.run.opening w.run.made (closes_next m) m

  -- ---- what is ahead

  -- all pieces to the end of a run
  abbrev pub ahead : Machine → List Piece
  ahead m = pieces_by turns w (weight m) m

  -- those until more of the input is needed, and the machine there
  abbrev pub ahead_to_rest : Machine → List Piece
  ahead_to_rest m = pieces_by stirs w (weight m) m

  abbrev pub at_rest : Machine → Machine
  at_rest m = gone_by stirs (weight m) m

  -- what is ahead of a machine over any items
  unfoldable pub future_of : Machine → Future
  future_of m = record {
    taken = λ items. ahead_to_rest (over items m);
    closing = λ items. ahead (at_rest (over items m));
    commits = w.run.made + length m.history.commits;
  }

-- ---- which turn comes next

-- whatever items come, a turn comes before one is read
pub record Stirs (w : World) (m : Machine) (t : Turned) : Type 0 where
  pub goes : (items : List Item) → rests (over items m) ≡ false
  pub is : (items : List Item) → turns w (over items m) ≡ Some (over_turned items t)

-- an item is read next, or the input is at its end
pub record Rests (w : World) (m : Machine) : Type 0 where
  pub rests_ : rests (over [] m) ≡ true
  pub goes : (i : Item) (items : List Item) → rests (over (i ∷ items) m) ≡ false
  pub taken : (i : Item) (items : List Item) → turns w (over (i ∷ items) m) ≡ Some (over_turned items (takes w i m))
  pub ended : turns w (over [] m) ≡ ends w (over [] m)
