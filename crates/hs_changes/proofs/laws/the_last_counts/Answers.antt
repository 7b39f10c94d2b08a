use Rattle.std.proofs.Common.{◌∷◌, ◌++◌, ◌∙◌}
use Rattle.std.specs.FinMap.{get}
use Rattle.hs_changes.proofs.Set.{get-set_row, get-set_rows, last_values-unset, last_values-last, same_tables, swapped_tables}
use Rattle.hs_changes.proofs.laws.the_last_counts.Goals as goal

pub returns : goal.returns
returns c = record {
  one = get-set_row;
  each = get-set_rows;
  stays = λ maps settings table row unset. get-set_rows maps settings table row ∙ last_values-unset table row (get (maps table) row) settings unset;
  last = λ maps front setting rest table row sets unset. get-set_rows maps (front ++ setting ∷ rest) table row ∙ last_values-last table row (get (maps table) row) front setting rest sets unset;
  alike = same_tables;
  order = swapped_tables;
}
