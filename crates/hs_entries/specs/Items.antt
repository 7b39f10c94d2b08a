-- The items of the input, as a function of its bytes: in whatever pieces they come, the items are the same.
use Rattle.std.specs.Prelude.{ℕ, ◌+◌, Bool, true, false, List, [], ◌∷◌, ◌++◌, if◌then◌else◌}
use Rattle.hs_entries.specs.declared.item.Item.{Item}
use Rattle.hs_entries.specs.declared.place.Place.{Place}
use Rattle.hs_entries.specs.declared.place.Place.TheVariants.{Between}
use Rattle.hs_entries.specs.Place.{next_place, ends, is_between, is_entry}
use Rattle.hs_entries.specs.Entry.{item_of, cut_item_of}

-- The items of the bytes, numbered from n, where the bytes that were begun before them lead to a place,
-- and `last` says what is left at the end. Where a byte leads between two entries, it is white space or
-- ends a comment, and what was begun is skipped.
module _ (last : ℕ → Place → List ℕ → List Item) where
  abbrev pub items_from : ℕ → Place → List ℕ → List ℕ → List Item
  items_from n place begun [] = last n place begun
  items_from n place begun (b ∷ bytes) =
      if ends place b then item_of n (begun ++ b ∷ []) ∷ items_from (n + 1) Between [] bytes
      else if is_between (next_place place b) then items_from n Between [] bytes
      else items_from n (next_place place b) (begun ++ b ∷ []) bytes

-- an entry that the input ends before its `;` is an item too
abbrev pub cut_items : ℕ → Place → List ℕ → List Item
cut_items n place begun = if is_entry place then cut_item_of n begun ∷ [] else []

abbrev pub no_items : ℕ → Place → List ℕ → List Item
no_items n place begun = []

-- the items of an input, numbered from n
abbrev pub items : ℕ → List ℕ → List Item
items n bytes = items_from cut_items n Between [] bytes

-- those of them that are whole, up to their `;`
abbrev pub whole_items : ℕ → List ℕ → List Item
whole_items n bytes = items_from no_items n Between [] bytes

abbrev pub has_item : List Item → Bool
has_item [] = false
has_item (i ∷ is) = true
