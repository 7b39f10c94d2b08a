use Rattle.hs_grammar.specs.Grammar.{grammar}
use Rattle.hs_grammar.proofs.Memory.{now_first}
use Rattle.hs_grammar.proofs.machine.run.Goals as goal

pub loop-at-init : goal.loop-at-init
loop-at-init g c = now_first (grammar c.args.tables.now) c.args.tables.now.rows.now g.table c.requires c.args.classes.now c.in_ok-machine.machine.stack.items c.in_ok-machine.machine.state c.in_ok-machine.machine.out.items c.in_ok-machine.ensures
