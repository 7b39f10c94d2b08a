use Rattle.hs_expression.proofs.OfNull.{unary_null, left_null, right_null}
use Rattle.hs_expression.proofs.laws.an_operation_on_null_gives_null.Goals as goal

pub returns : goal.returns
returns c = record { unary = unary_null; left = left_null; right = right_null }
