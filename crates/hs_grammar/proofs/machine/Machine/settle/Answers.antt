use Rattle.hs_grammar.specs.Grammar.{grammar}
use Rattle.hs_grammar.proofs.Memory.{all_within, now_mark, now_state, now_rule, now_turn, less_rule, less_turn, halted_rule, halted_turn, halted_refusal}
use Rattle.hs_grammar.proofs.machine.Machine.settle.Goals as goal

pub grow-requires : goal.grow-requires
grow-requires g c = all_within (grammar c.args.tables.now) c.args.tables.now.rows.now g.table c.requires.0

pub grow-requires-in-Turn : goal.grow-requires-in-Turn
grow-requires-in-Turn g c = all_within (grammar c.args.tables.now) c.args.tables.now.rows.now g.table c.requires.0

pub returns-in-Refuse : goal.returns-in-Refuse
returns-in-Refuse g c = halted_refusal (grammar c.args.tables.now) c.args.tables.now.rows.now g.table c.requires.0 c.args.classes.now c.args.at c.loop-next.self.stack.items c.pop.new.self.items c.in-Some.next c.in-Refuse.from c.in-Refuse.to c.loop-next.self.state c.loop-next.self.out.items c.refuse.result
    c.loop-next.invariant c.in-Some.ensures.items c.in-Refuse.is c.refuse.ensures

pub loop-next-preserved-in-Keep : goal.loop-next-preserved-in-Keep
loop-next-preserved-in-Keep g c = now_state (grammar c.args.tables.now) c.args.tables.now.rows.now g.table c.requires.0 c.args.classes.now c.args.at c.loop-next.self.stack.items c.pop.new.self.items c.in-Some.next c.in-Keep.state c.loop-next.self.state c.loop-next.self.out.items
    c.loop-next.invariant c.in-Some.ensures.items c.in-Keep.is

pub loop-next-preserved-in_default-put : goal.loop-next-preserved-in_default-put
loop-next-preserved-in_default-put g c = rw c.in_default-put.ensures (now_mark (grammar c.args.tables.now) c.args.tables.now.rows.now g.table c.requires.0 c.args.classes.now c.args.at c.loop-next.self.stack.items c.pop.new.self.items c.in-Some.next c.in-Mark.mark c.loop-next.self.state c.loop-next.self.out.items
    c.loop-next.invariant c.in-Some.ensures.items c.in-Mark.is)

pub returns-in-Err-grow : goal.returns-in-Err-grow
returns-in-Err-grow g c = halted_rule (grammar c.args.tables.now) c.args.tables.now.rows.now g.table c.requires.0 c.args.classes.now c.args.at c.loop-next.self.stack.items c.pop.new.self.items c.grow.new.stack.items c.in-Some.next c.in-Rule.rule c.loop-next.self.state c.column_at-column.result c.loop-next.self.out.items c.in-Err-grow.stop
    c.loop-next.invariant c.in-Some.ensures.items c.in-Rule.is c.column_at-column.ensures c.in-Err-grow.ensures

pub loop-next-smaller-in_default-grow : goal.loop-next-smaller-in_default-grow
loop-next-smaller-in_default-grow g c = less_rule (grammar c.args.tables.now) c.args.tables.now.rows.now g.table c.requires.0 c.args.classes.now c.args.at c.loop-next.self.stack.items c.pop.new.self.items c.grow.new.stack.items c.in-Some.next c.in-Rule.rule c.column_at-column.result
    c.in-Some.ensures.items c.in-Rule.is c.in_default-grow.ensures

pub loop-next-preserved-in_default-grow : goal.loop-next-preserved-in_default-grow
loop-next-preserved-in_default-grow g c = now_rule (grammar c.args.tables.now) c.args.tables.now.rows.now g.table c.requires.0 c.args.classes.now c.args.at c.loop-next.self.stack.items c.pop.new.self.items c.grow.new.stack.items c.in-Some.next c.in-Rule.rule c.loop-next.self.state c.column_at-column.result c.loop-next.self.out.items
    c.loop-next.invariant c.in-Some.ensures.items c.in-Rule.is c.column_at-column.ensures c.in_default-grow.ensures

pub returns-in-Err-grow-2 : goal.returns-in-Err-grow-2
returns-in-Err-grow-2 g c = halted_turn (grammar c.args.tables.now) c.args.tables.now.rows.now g.table c.requires.0 c.args.classes.now c.args.at c.loop-next.self.stack.items c.pop.new.self.items c.grow-in-Turn.new.stack.items c.in-Some.next c.in-Turn.rule c.loop-next.self.state c.turn_in.result c.column_at-column.result c.loop-next.self.out.items c.in-Err-grow-2.stop c.turn_in.ensures
    c.loop-next.invariant c.in-Some.ensures.items c.in-Turn.is c.column_at-column.ensures
    c.in-Err-grow-2.ensures

pub loop-next-smaller : goal.loop-next-smaller
loop-next-smaller g c = less_turn (grammar c.args.tables.now) c.args.tables.now.rows.now g.table c.requires.0 c.args.classes.now c.args.at c.loop-next.self.stack.items c.pop.new.self.items c.grow-in-Turn.new.stack.items c.in-Some.next c.in-Turn.rule c.loop-next.self.state c.turn_in.result c.column_at-column.result c.turn_in.ensures
    c.in-Some.ensures.items c.in-Turn.is c.in_default-grow-2.ensures

pub loop-next-preserved : goal.loop-next-preserved
loop-next-preserved g c = now_turn (grammar c.args.tables.now) c.args.tables.now.rows.now g.table c.requires.0 c.args.classes.now c.args.at c.loop-next.self.stack.items c.pop.new.self.items c.grow-in-Turn.new.stack.items c.in-Some.next c.in-Turn.rule c.loop-next.self.state c.turn_in.result c.column_at-column.result c.loop-next.self.out.items c.turn_in.ensures
    c.loop-next.invariant c.in-Some.ensures.items c.in-Turn.is c.column_at-column.ensures c.in_default-grow-2.ensures
