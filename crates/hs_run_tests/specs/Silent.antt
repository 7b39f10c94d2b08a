-- What a machine does that makes a commit of each entry, and tells nothing.
use Rattle.std.specs.Prelude.{◌≡◌, ℕ, List, [], ◌∷◌}
use Rattle.hs_entries.specs.declared.item.Item.{Item}
use Rattle.hs_entries.specs.declared.item.Item.TheVariants.{Entry, Bad, TooLong, End}
use Rattle.hs_run.specs.Future.{Future}
use Rattle.hs_run.specs.Pieces.{Piece}

abbrev pub nothing : Piece
nothing = record { told = []; made = [] }

abbrev pub piece_of : Item → Piece
piece_of (Entry number name text at) = record { told = []; made = text ∷ [] }
piece_of (Bad number) = nothing
piece_of (TooLong number) = nothing
piece_of End = nothing

abbrev pub pieces_of : List Item → List Piece
pieces_of [] = []
pieces_of (item ∷ items) = piece_of item ∷ pieces_of items

-- this is ahead of one that has made so many commits
pub record IsSilent (made : ℕ) (f : Future) : Type 0 where
  pub taken : (items : List Item) → f.taken items ≡ pieces_of items
  pub closing : (items : List Item) → f.closing items ≡ []
  pub commits : f.commits ≡ made

abbrev pub silent_future : ℕ → Future
silent_future made = record { taken = pieces_of; closing = λ items. []; commits = made }
