-- Rows behind their keys, and rows beside rows.
use Rattle.std.proofs.Common.{◌≡◌, [], ◌∷◌, refl, ap, ◌∙◌}
use Rattle.std.proofs.lemmas.List.{append-nil}
use Rattle.hs_answer.specs.From.{empty_row}
use Rattle.hs_expression.specs.Surroundings.{Rows}
use Rattle.hs_rel.specs.Join.{pairs_of, product}

same_pairs : (rows : Rows) → pairs_of rows [] ≡ rows
same_pairs [] = refl
same_pairs (row ∷ rows) = ap (λ l. row ∷ l) (same_pairs rows)

-- beside the one row without columns rows are as they are
pub beside_one : (rows : Rows) → product empty_row rows ≡ rows
beside_one rows = append-nil (pairs_of rows []) ∙ same_pairs rows
