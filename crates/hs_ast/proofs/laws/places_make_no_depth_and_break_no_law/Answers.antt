use Rattle.hs_ast.proofs.Placing.{alike_depth, alike_query_depth, alike_lawful, alike_lawful_query}
use Rattle.hs_ast.proofs.laws.places_make_no_depth_and_break_no_law.Goals as goal

pub returns : goal.returns
returns c = record { depth = alike_depth; query_depth = alike_query_depth; lawful = alike_lawful; lawful_query = alike_lawful_query }
