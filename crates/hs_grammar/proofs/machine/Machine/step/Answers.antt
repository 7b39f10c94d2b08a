use Rattle.std.proofs.Common.{sym, arith}
use Rattle.hs_grammar.specs.Grammar.{grammar}
use Rattle.hs_grammar.proofs.Memory.{now_token, now_none, now_end}
use Rattle.hs_grammar.proofs.machine.Machine.step.Goals as goal

pub returns-in-Ok : goal.returns-in-Ok
returns-in-Ok g c =
    let h = rw c.in-Ok-Some.field-0-is at c.in-Ok-Some.ensures in
    rw c.in-Ok.ensures (now_token (grammar c.args.tables.now) c.args.tables.now.rows.now g.table c.requires.0 c.args.classes.now c.args.at c.in-Ok-Some.symbol c.settle.new.self.stack.items c.settle.new.self.state c.in-Some.state c.settle.new.self.out.items c.requires.1.0 h.1 (sym c.in-Some.ensures) h.0)

pub returns-in-None : goal.returns-in-None
returns-in-None g c =
    let h = rw c.in-Ok-Some.field-0-is at c.in-Ok-Some.ensures in
    (omega arith, now_none (grammar c.args.tables.now) c.args.tables.now.rows.now g.table c.requires.0 c.args.classes.now c.args.at c.in-Ok-Some.symbol c.settle.new.self.stack.items c.settle.new.self.state c.settle.new.self.out.items c.requires.1.0 h.1 (sym c.in-None.ensures) h.0)

pub returns-in-Ok-None : goal.returns-in-Ok-None
returns-in-Ok-None g c =
    let h = rw c.in-Ok-None.field-0-is at c.in-Ok-None.ensures in
    (omega arith, now_end (grammar c.args.tables.now) c.args.tables.now.rows.now g.table c.requires.0 c.args.classes.now c.args.at c.settle.new.self.state c.settle.new.self.out.items c.requires.1.0 h)
