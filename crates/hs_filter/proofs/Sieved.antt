-- What a condition lets through of all rows is their selection.
use Rattle.std.proofs.Common.{◌≡◌, [], ◌∷◌, fold, refl, ap, ◌∙◌}
use Rattle.hs_expression.specs.Surroundings.{Rows}
use Rattle.hs_rel.specs.Selection.{selected, unless}
use Rattle.hs_stages.specs.declared.gathered.Gathered.{Gathered}
use Rattle.hs_stages.specs.Gathering.{judged, nothing}
use Rattle.hs_stages.proofs.Gathering.{true_gathered}
use Rattle.hs_filter.specs.declared.sieve.Sieve.{Sieve}
use Rattle.hs_filter.specs.Sieving.{verdict_of, with_row}

all_sieved : (sieve : Sieve) (rows : Rows) → (fold with_row sieve rows).so_far ≡ fold (judged (verdict_of sieve)) sieve.so_far rows
all_sieved sieve [] = refl
all_sieved sieve (row ∷ rows) = all_sieved (with_row sieve row) rows

-- from a sieve with nothing in it
pub selected_rows : (first last : Sieve) (rows : Rows) → first.so_far ≡ nothing → last ≡ fold with_row first rows → unless last.so_far.fault last.so_far.rows ≡ selected (verdict_of first) rows
selected_rows first last rows empty is =
    ap (λ (s : Sieve). unless s.so_far.fault s.so_far.rows) is
    ∙ ap (λ (s : Gathered). unless s.fault s.rows) (all_sieved first rows)
    ∙ ap (λ (s : Gathered). unless (fold (judged (verdict_of first)) s rows).fault (fold (judged (verdict_of first)) s rows).rows) empty
    ∙ true_gathered (verdict_of first) rows
