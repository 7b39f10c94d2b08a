use Rattle.std.proofs.Common.{◌+◌, length, take, drop, sym, ap, ◌∙◌, subst, arith}
use Rattle.hs_scope.specs.Index.{IsIndexOf}
use Rattle.hs_scope.specs.Names.{offers}
use Rattle.hs_scope.proofs.Seeking.{item, front_item, width-step, width-more}
use Rattle.hs_scope.proofs.index.TableIndex.of.Goals as goal

pub loop-table-preserved : goal.loop-table-preserved
loop-table-preserved c =
    let i = c.loop-table.table-index in
    let ts = c.args.tables.now in
    let t = c.table-item.result in
    let next = item ts i t c.loop-table-test.true c.table-item.is in
    let more = front_item ts i t c.loop-table-test.true c.table-item.is in
    let was = c.loop-table.invariant in
    record {
      index = subst (IsIndexOf c.add.new.self.names.names.entries c.add.new.self.by_table.entries) (sym more) (c.in_ok-add.ensures (take i ts) was.first was.index);
      first = ap (λ n. c.loop-table.first + n) c.len.ensures ∙ ap (λ k. k + length t.columns) was.first ∙ sym (width-more (take i ts) t) ∙ ap (λ l. length (offers l)) (sym more);
      rest = omega (arith, c.len.ensures, width-step (drop i ts) (drop (i + 1) ts) t next, was.rest);
    }
