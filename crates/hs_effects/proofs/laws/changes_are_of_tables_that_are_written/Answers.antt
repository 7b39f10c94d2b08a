use Rattle.hs_effects.proofs.Edited.{delete_written, insert_written, update_written}
use Rattle.hs_effects.proofs.laws.changes_are_of_tables_that_are_written.Goals as goal

pub returns : goal.returns
returns c = record {
  insert = λ things around insert are. insert_written things around are insert;
  update = λ things around update are. update_written things around are update;
  delete = λ things around delete are. delete_written things around are delete;
}
