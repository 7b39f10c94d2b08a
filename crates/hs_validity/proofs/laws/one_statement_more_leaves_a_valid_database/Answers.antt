use Rattle.hs_validity.proofs.Behind.{more_sql}
use Rattle.hs_validity.proofs.laws.one_statement_more_leaves_a_valid_database.Goals as goal

pub returns : goal.returns
returns c = more_sql
