use Rattle.hs_grammar.proofs.ExpressionTable.{table_of}
use Rattle.hs_grammar.proofs.tests.read_expression.Given as goal

abbrev pub ghost-recognise : goal.ghost-recognise
ghost-recognise a = table_of a.tables.now.rows.now
