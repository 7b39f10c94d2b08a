use Rattle.hs_ast.proofs.Placing.{expressions_exactly, queries_exactly, statements_exactly}
use Rattle.hs_ast.proofs.laws.alike_trees_differ_in_places_alone.Goals as goal

pub returns : goal.returns
returns c = record { expressions = expressions_exactly; queries = queries_exactly; statements = statements_exactly }
