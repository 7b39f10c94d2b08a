use Rattle.std.proofs.Common.{arith}
use Rattle.hs_grammar.specs.Grammar.{grammar}
use Rattle.hs_grammar.proofs.Memory.{now_whole, now_last}
use Rattle.hs_grammar.proofs.machine.Machine.finish.Goals as goal

pub returns-in-Ok-None : goal.returns-in-Ok-None
returns-in-Ok-None g c = now_whole (grammar c.args.tables.now) c.args.tables.now.rows.now g.table c.requires.0 c.args.classes.now c.settle.new.self.state c.settle.new.self.out.items (rw c.in-Ok-None.field-0-is at c.in-Ok-None.ensures)

pub returns-in-Ok-Some : goal.returns-in-Ok-Some
returns-in-Ok-Some g c =
    let h = rw c.in-Ok-Some.field-0-is at c.in-Ok-Some.ensures in
    (omega arith, now_last (grammar c.args.tables.now) c.args.tables.now.rows.now g.table c.requires.0 c.args.classes.now c.in-Ok-Some.field-0-0 c.settle.new.self.stack.items c.settle.new.self.state c.settle.new.self.out.items h.1 h.0)
