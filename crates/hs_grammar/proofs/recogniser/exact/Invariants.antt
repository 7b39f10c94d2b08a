use Rattle.hs_grammar.proofs.recogniser.exact.Given as goal

abbrev pub ghost-try_with : goal.ghost-try_with
ghost-try_with g a = g.table
