use Rattle.hs_grammar.specs.Grammar.{grammar}
use Rattle.hs_grammar.specs.Machine.{StandsAt}
use Rattle.hs_grammar.proofs.machine.run.Given as goal

abbrev pub ghost-step : goal.ghost-step
ghost-step g a = g.table

abbrev pub ghost-finish : goal.ghost-finish
ghost-finish g a = g.table

abbrev pub invariant-loop-at : goal.invariant-loop-at
invariant-loop-at g l = StandsAt (grammar l.tables) g.table l.machine l.classes l.at
