-- What is ahead of a run, and how a turn goes on with it.
use Rattle.std.specs.Prelude.{◌≡◌, ◌+◌, ℕ, List, [], ◌∷◌, ◌++◌, length}
use Rattle.hs_entries.specs.declared.item.Item.{Item}
use Rattle.hs_run.specs.declared.gathered.Gathered.{Gathered}
use Rattle.hs_run.specs.Pieces.{Piece, Gives}

-- The pieces that come with some items, until more of the input is needed; those that come behind them, where the input ends
-- there; and how many commits are made by now.
pub record Future : Type 0 where
  pub taken : List Item → List Piece
  pub closing : List Item → List Piece
  pub commits : ℕ

-- so many commits more are made as there are texts more
abbrev pub Counts : Future → Future → Gathered → Gathered → Type 0
Counts f next old new = next.commits + length old.made ≡ f.commits + length new.made

-- a piece was gathered that needs no more of the input
pub record StepsOn (At : Future → Type 0) (f : Future) (old new : Gathered) : Type 0 where
  pub next : Future
  pub at : At next
  pub piece : (items : List Item) → Gives (f.taken items) (next.taken items) old new
  pub closing : (items : List Item) → next.closing items ≡ f.closing items
  pub commits : Counts f next old new

-- the first piece was gathered that comes with an item
pub record TakesOn (At : Future → Type 0) (f : Future) (item : Item) (old new : Gathered) : Type 0 where
  pub next : Future
  pub at : At next
  pub piece : (items : List Item) → Gives (f.taken (item ∷ items)) (next.taken items) old new
  pub closing : (items : List Item) → next.closing items ≡ f.closing (item ∷ items)
  pub commits : Counts f next old new

-- a piece was gathered that comes at the end of the input
pub record ClosesOn (At : Future → Type 0) (f : Future) (old new : Gathered) : Type 0 where
  pub next : Future
  pub at : At next
  pub piece : Gives (f.closing []) (next.taken [] ++ next.closing []) old new
  pub commits : Counts f next old new
