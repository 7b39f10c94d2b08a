use Rattle.hs_grammar.proofs.recogniser.recognise.Given as goal

abbrev pub ghost-run : goal.ghost-run
ghost-run g a = g.table

abbrev pub ghost-exact : goal.ghost-exact
ghost-exact g a = g.table
