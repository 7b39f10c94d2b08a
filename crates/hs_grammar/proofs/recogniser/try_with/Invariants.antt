use Rattle.hs_grammar.proofs.recogniser.try_with.Given as goal

abbrev pub ghost-run : goal.ghost-run
ghost-run g a = g.table
