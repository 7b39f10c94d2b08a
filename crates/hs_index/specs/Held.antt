-- How the rows of one key are kept.
use Rattle.std.specs.Prelude.{List, [], ◌∷◌}
use Rattle.hs_base.specs.declared.numbers.RowNo.{RowNo}
use Rattle.hs_index.specs.declared.row_set.Held.{Held}
use Rattle.hs_index.specs.declared.row_set.Held.TheVariants as held

abbrev pub rows_of : Held → List RowNo
rows_of (held.One row) = row ∷ []
rows_of (held.Listed rows) = rows.items
