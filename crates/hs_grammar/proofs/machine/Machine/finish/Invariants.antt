use Rattle.hs_grammar.proofs.machine.Machine.finish.Given as goal

abbrev pub ghost-settle : goal.ghost-settle
ghost-settle g a = g.table
