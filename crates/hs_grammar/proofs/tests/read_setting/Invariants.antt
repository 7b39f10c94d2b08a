use Rattle.hs_grammar.proofs.SettingsTable.{table_of}
use Rattle.hs_grammar.proofs.tests.read_setting.Given as goal

abbrev pub ghost-recognise : goal.ghost-recognise
ghost-recognise a = table_of a.tables.now.rows.now
