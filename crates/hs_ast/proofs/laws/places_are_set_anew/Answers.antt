use Rattle.hs_ast.proofs.Placing.{expression_again, query_again, statement_again}
use Rattle.hs_ast.proofs.laws.places_are_set_anew.Goals as goal

pub returns : goal.returns
returns c = record { expressions = expression_again; queries = query_again; statements = statement_again }
