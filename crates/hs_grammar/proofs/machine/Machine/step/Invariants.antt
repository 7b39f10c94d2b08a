use Rattle.hs_grammar.proofs.machine.Machine.step.Given as goal

abbrev pub ghost-settle : goal.ghost-settle
ghost-settle g a = g.table
