-- Copies of rows, one after another, are copies of all rows.
use Rattle.std.proofs.Common.{◌≡◌, List, [], ◌∷◌, ◌++◌, fold, sym, ap, ◌∙◌, append_assoc}
use Rattle.std.proofs.lemmas.List.{append-nil}
use Rattle.hs_values.specs.declared.value.Value.{Value}
use Rattle.hs_rows.specs.declared.copies.Copies.{Copies}
use Rattle.hs_rows.specs.Copies.{with_copy}

copied_behind : (copies : Copies) (rows : List (List Value)) → (fold with_copy copies rows).rows ≡ copies.rows ++ rows
copied_behind copies [] = sym (append-nil copies.rows)
copied_behind copies (row ∷ rows) = copied_behind (with_copy copies row) rows ∙ append_assoc copies.rows (row ∷ []) rows

pub all_copied : (none copies : Copies) (rows : List (List Value)) → none.rows ≡ [] → copies ≡ fold with_copy none rows → copies.rows ≡ rows
all_copied none copies rows empty is =
    ap (λ (c : Copies). c.rows) is ∙ copied_behind none rows ∙ ap (λ l. l ++ rows) empty
