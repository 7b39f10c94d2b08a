-- Columns one above the other, where the lists differ in length.
use Rattle.std.proofs.Common.{◌≡◌, ℕ, ◌++◌, ◌∷◌, [], List, length, take, drop, refl, ap, arith}
use Rattle.std.proofs.lemmas.Grind.{common_steps}
use Rattle.hs_meaning.specs.declared.placed.PlacedColumn.{PlacedColumn}
use Rattle.hs_meaning.specs.Queries.{common_kind, paired}

-- what has nothing below it is left out
pub paired_cut : (above below : List PlacedColumn) → paired (take (length below) above) below ≡ paired above below
paired_cut [] [] = refl
paired_cut [] (b ∷ bs) = refl
paired_cut (a ∷ above) [] = refl
paired_cut (a ∷ above) (b ∷ below) = ap (λ (cs : List PlacedColumn). record { at = a.at; column = record { name = a.column.name; kind = common_kind a.column.kind b.column.kind } } ∷ cs) (paired_cut above below)

-- a list of which each element was written
pub whole_written : (n : ℕ) (made old : List PlacedColumn) → n ≡ length made → take n (made ++ drop (length made) old) ≡ made
whole_written n made old is = grind (arith, common_steps)
