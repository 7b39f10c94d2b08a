use Rattle.std.proofs.lemmas.Map.Iter.{rest_more}
use Rattle.std.specs.Map.Iter.{deref_pair}
use Rattle.hs_schema.proofs.Copied.{put_more}
use Rattle.hs_schema.proofs.copies.copy_tables.Goals as goal

pub loop-number-preserved-in_ok-insert : goal.loop-number-preserved-in_ok-insert
loop-number-preserved-in_ok-insert c =
    let left = rest_more deref_pair c.loop-number.number-iterator c.next.new.self c.next.result (c.in-Some.number, c.in-Some.table) c.in-Some.is c.next.ensures.steps in
    put_more c.args.tables.now.entries c.loop-number.copied.entries c.loop-number.number-iterator c.next.new.self c.insert.new.self.entries c.in-Some.number.now c.in-Some.table.now c.in_ok-copy.field-0
    c.loop-number.invariant left c.into_iter-number-iterator.ensures.into_iter_gives.4 c.in_ok-copy.ensures c.in_ok-insert.ensures.entries

pub loop-number-preserved : goal.loop-number-preserved
loop-number-preserved c =
    let left = rest_more deref_pair c.loop-number.number-iterator c.next.new.self c.next.result (c.in-Some.number, c.in-Some.table) c.in-Some.is c.next.ensures.steps in
    put_more c.args.tables.now.entries c.loop-number.copied.entries c.loop-number.number-iterator c.next.new.self c.insert.new.self.entries c.in-Some.number.now c.in-Some.table.now c.in_ok-copy.field-0
    c.loop-number.invariant left c.into_iter-number-iterator.ensures.into_iter_gives.4 c.in_ok-copy.ensures c.in_ok-insert.ensures.entries
