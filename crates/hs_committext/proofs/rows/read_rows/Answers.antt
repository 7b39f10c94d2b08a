use Rattle.std.proofs.Common.{rules}
use Rattle.hs_valuetext.proofs.Splits.{empty_from, nonempty_from}
use Rattle.hs_rowtext.specs.Lines.{IsRowLine}
use Rattle.hs_committext.proofs.LineLemmas.{line_read, line_missing, lines_read, shorter}
use Rattle.hs_committext.proofs.rows.read_rows.Goals as goal

pub loop-rest-preserved : goal.loop-rest-preserved
loop-rest-preserved c = (
  search rules,
  line_read (IsRowLine c.args.catalog.now) c.args.text.now c.loop-rest.changes.items c.push.new.self.items c.loop-rest.rest.now c.in-Ok-Some.more.now c.in-Ok-Some.change c.loop-rest.invariant.1
      (rw c.in-Ok-Some.field-0-is at c.in-Ok-Some.ensures) c.in_ok-push-in-Ok-Some.ensures.items,
)

pub loop-rest-smaller : goal.loop-rest-smaller
loop-rest-smaller c =
    let found = rw c.in-Ok-Some.field-0-is at c.in-Ok-Some.ensures in
    shorter (IsRowLine c.args.catalog.now) c.loop-rest.rest.now c.in-Ok-Some.change c.in-Ok-Some.more.now found.0

pub returns-in-Ok-None : goal.returns-in-Ok-None
returns-in-Ok-None c =
    line_missing (IsRowLine c.args.catalog.now) c.args.text.now c.loop-rest.changes.items c.loop-rest.rest.now c.loop-rest.invariant.1
    (nonempty_from c.loop-rest.rest.now c.is_empty.result c.is_empty.ensures c.loop-rest-test.true)
    (rw c.in-Ok-None.field-0-is at c.in-Ok-None.ensures)

pub returns : goal.returns
returns c =
    rw c.from_vec.ensures
    (lines_read (IsRowLine c.args.catalog.now) c.args.text.now c.loop-rest.changes.items c.loop-rest.rest.now c.loop-rest.invariant.1
    (empty_from c.loop-rest.rest.now c.is_empty.result c.is_empty.ensures c.loop-rest-test.false))
