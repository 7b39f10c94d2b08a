use Rattle.std.proofs.Common.{rules}
use Rattle.hs_valuetext.proofs.Splits.{empty_from, nonempty_from}
use Rattle.hs_committext.proofs.LineLemmas.{line_read, line_missing, lines_read, shorter}
use Rattle.hs_script.specs.Rows.{seen, IsStoredLine}
use Rattle.hs_script.proofs.row_reading.read_lines.Goals as goal

pub loop-rest-preserved : goal.loop-rest-preserved
loop-rest-preserved c = (
  search rules,
  line_read (IsStoredLine (seen c.args.shelf.now)) c.args.text.now c.loop-rest.rows.items c.push.new.self.items c.loop-rest.rest.now c.in-Ok-Some.more.now c.in-Ok-Some.row c.loop-rest.invariant.1
      (rw c.in-Ok-Some.field-0-is at c.in-Ok-Some.ensures) c.in_ok-push-in-Ok-Some.ensures.items,
)

pub loop-rest-smaller : goal.loop-rest-smaller
loop-rest-smaller c =
    let found = rw c.in-Ok-Some.field-0-is at c.in-Ok-Some.ensures in
    shorter (IsStoredLine (seen c.args.shelf.now)) c.loop-rest.rest.now c.in-Ok-Some.row c.in-Ok-Some.more.now found.0

pub returns-in-Ok-None : goal.returns-in-Ok-None
returns-in-Ok-None c =
    line_missing (IsStoredLine (seen c.args.shelf.now)) c.args.text.now c.loop-rest.rows.items c.loop-rest.rest.now c.loop-rest.invariant.1
    (nonempty_from c.loop-rest.rest.now c.is_empty.result c.is_empty.ensures c.loop-rest-test.true)
    (rw c.in-Ok-None.field-0-is at c.in-Ok-None.ensures)

pub returns : goal.returns
returns c =
    lines_read (IsStoredLine (seen c.args.shelf.now)) c.args.text.now c.loop-rest.rows.items c.loop-rest.rest.now c.loop-rest.invariant.1
    (empty_from c.loop-rest.rest.now c.is_empty.result c.is_empty.ensures c.loop-rest-test.false)
