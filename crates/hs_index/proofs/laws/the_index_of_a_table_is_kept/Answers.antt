use Rattle.hs_index.proofs.Indexed.{index_empty, index_exchange, index_exchange_null, index_put, index_put_null, index_take, index_take_null}
use Rattle.hs_index.proofs.laws.the_index_of_a_table_is_kept.Goals as goal

pub returns : goal.returns
returns c = record {
  none = index_empty;
  put = λ columns table old new row r is none full puts. index_put columns table old is row r new none full puts;
  put_null = λ columns table keyed row r is none null. index_put_null columns table keyed is row r none null;
  taken = λ columns table old new row r is there ascending takes. index_take columns table old is row r there new ascending takes;
  taken_null = λ columns table keyed row r is there null. index_take_null columns table keyed is row r there null;
  exchanged = λ columns table old new row from to is there none ascending full exchanges. index_exchange columns table old is row from to there none new ascending full exchanges;
  exchanged_null = λ columns table keyed row from to is there none null. index_exchange_null columns table keyed is row from to there none null;
}
