use Rattle.hs_effects.proofs.Statements.{delete_same, insert_same, update_same}
use Rattle.hs_effects.proofs.laws.changes_depend_on_the_tables_that_are_read.Goals as goal

pub returns : goal.returns
returns c = record {
  insert = insert_same;
  update = λ things a b columns keys update are agree. update_same a b columns keys things are update agree;
  delete = λ things a b columns keys delete are agree. delete_same a b columns keys things are delete agree;
}
