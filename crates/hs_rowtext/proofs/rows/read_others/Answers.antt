use Rattle.std.proofs.Common.{rules}
use Rattle.std.specs.Prelude.{codes}
use Rattle.hs_valuetext.proofs.Splits.{same_texts, other_texts}
use Rattle.hs_rowtext.specs.Rows.{types_of}
use Rattle.hs_rowtext.proofs.RowLemmas.{column_read, column_unread, columns_read, columns_unclosed}
use Rattle.hs_rowtext.proofs.rows.read_others.Goals as goal

pub returns-in-Ok-None : goal.returns-in-Ok-None
returns-in-Ok-None c =
    column_unread c.args.values.items (types_of c.args.columns.now) c.args.text.now c.loop-column.values.items c.args.columns.now c.loop-column.column-index c.column-item.result c.loop-column.rest.now c.loop-column-test.true c.column-item.is c.loop-column.invariant.1
    (rw c.in-Ok-None.field-0-is at c.in-Ok-None.ensures)

pub loop-column-preserved : goal.loop-column-preserved
loop-column-preserved c = (
  search rules,
  column_read c.args.values.items (types_of c.args.columns.now) c.args.text.now c.loop-column.values.items c.push.new.self.items c.args.columns.now c.loop-column.column-index c.column-item.result c.loop-column.rest.now c.in-Ok-Some.more.now c.in-Ok-Some.value c.loop-column-test.true c.column-item.is c.loop-column.invariant.1
      (rw c.in-Ok-Some.field-0-is at c.in-Ok-Some.ensures)
      c.in_ok-push-in-Ok-Some.ensures.items,
)

pub returns-then-eq : goal.returns-then-eq
returns-then-eq c =
    columns_read c.args.values.items (types_of c.args.columns.now) c.args.text.now c.loop-column.values.items c.args.columns.now c.loop-column.column-index c.loop-column.rest.now c.loop-column-test.false c.loop-column.invariant.1
    (same_texts c.loop-column.rest.now (codes ")") c.eq.result c.eq.ensures c.if-eq.true)

pub returns-else-eq : goal.returns-else-eq
returns-else-eq c =
    columns_unclosed c.args.values.items (types_of c.args.columns.now) c.args.text.now c.loop-column.values.items c.args.columns.now c.loop-column.column-index c.loop-column.rest.now c.loop-column-test.false c.loop-column.invariant.1
    (other_texts c.loop-column.rest.now (codes ")") c.eq.result c.eq.ensures c.if-eq.false)
