use Rattle.hs_index.proofs.RowSets.{has_row-with_row, has_row-without_row, ascending_with, ascending_without}
use Rattle.hs_index.proofs.laws.sets_have_their_rows.Goals as goal

pub returns : goal.returns
returns c = record {
  more = λ rows row other. has_row-with_row row rows other;
  less = λ rows row other ascends. has_row-without_row row rows other ascends;
  more_ascends = λ rows row ascends. ascending_with row rows ascends;
  less_ascends = λ rows row ascends. ascending_without row rows ascends;
}
