-- That what the silent machine tells is true, and how it goes on.
use Rattle.std.proofs.Common.{◌≡◌, ℕ, ◌+◌, List, [], ◌∷◌, ◌++◌, length, refl, sym, subst, arith, append-nil}
use Rattle.hs_entries.specs.declared.item.Item.{Item}
use Rattle.hs_entries.specs.declared.item.Item.TheVariants.{Entry, Bad, TooLong, End}
use Rattle.hs_machine.proofs.Acknowledged.{nothing_tells}
use Rattle.hs_run.specs.declared.gathered.Gathered.{Gathered}
use Rattle.hs_run.specs.Future.{Future, TakesOn}
use Rattle.hs_run.specs.Pieces.{AreTrue}
use Rattle.hs_run_tests.specs.Silent.{IsSilent, piece_of, pieces_of, silent_future}

pub silent : (made : ℕ) (items : List Item) → AreTrue made (pieces_of items)
silent made [] = tt
silent made (Entry number name text at ∷ items) = (nothing_tells (made + 1), silent (made + 1) items)
silent made (Bad number ∷ items) = (nothing_tells (made + 0), silent (made + 0) items)
silent made (TooLong number ∷ items) = (nothing_tells (made + 0), silent (made + 0) items)
silent made (End ∷ items) = (nothing_tells (made + 0), silent (made + 0) items)

-- also with nothing that comes at the end of the input
pub silent_true : (made : ℕ) (items : List Item) → AreTrue made (pieces_of items ++ [])
silent_true made items = subst (AreTrue made) (sym (append-nil (pieces_of items))) (silent made items)

-- with an item its piece is gathered
pub takes_silent : (made after : ℕ) (f : Future) (item : Item) (old new : Gathered) → IsSilent made f → new.told ≡ old.told ++ (piece_of item).told → new.made ≡ old.made ++ (piece_of item).made → after + length old.made ≡ made + length new.made → TakesOn (IsSilent after) f item old new
takes_silent made after f item old new ahead told texts count = record {
  next = silent_future after;
  at = record { taken = λ items. refl; closing = λ items. refl; commits = refl };
  piece = λ items. record { piece = piece_of item; is = ahead.taken (item ∷ items); told = told; made = texts };
  closing = λ items. sym (ahead.closing (item ∷ items));
  commits = omega (arith, ahead.commits, count);
}
