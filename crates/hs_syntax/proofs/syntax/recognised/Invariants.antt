use Rattle.hs_syntax.specs.Rows.{table_of}
use Rattle.hs_syntax.proofs.syntax.recognised.Given as goal

abbrev pub ghost-recognise : goal.ghost-recognise
ghost-recognise a = table_of a.tables.now.rows.now
