use Rattle.std.proofs.Common.{List, get_or, sym, subst}
use Rattle.hs_base.specs.declared.numbers.TableNo.{TableNo}
use Rattle.hs_draft.specs.Drafted.{after}
use Rattle.hs_redefining.specs.Effects.{rows_by}
use Rattle.hs_redefining.proofs.Copied.{copied_all, copied_step, none_copied, same_at, within_copied}
use Rattle.hs_redefining.proofs.TablesOf.{AreIn}
use Rattle.hs_redefining.proofs.copying.copied.Goals as goal

pub loop-table-init : goal.loop-table-init
loop-table-init c = λ maps are. none_copied (rows_by c.args.effect.now maps) c.as_slice-table-items.result.now (after c.new-draft.result) c.new-draft.ensures.after

pub loop-table-preserved : goal.loop-table-preserved
loop-table-preserved c = λ maps are.
    let target = rows_by c.args.effect.now maps in
    let held = after c.loop-table.draft in
    let copied = c.loop-table.invariant maps are in
    let tables = c.as_slice-table-items.result.now in
    let table = get_or tables c.loop-table.table-index (record { 0 = 0 }) in
    copied_step target tables c.loop-table.table-index held (after c.copy_by.new.into) table c.loop-table-test.true (same_at tables c.loop-table.table-index (record { 0 = 0 }) table c.loop-table-test.true)
    (c.in_ok-copy_by.ensures maps are (within_copied target tables c.loop-table.table-index held table.0 copied)) copied

pub returns : goal.returns
returns c = λ maps are.
    let among = subst (λ (l : List TableNo). AreIn l c.args.things.now) (sym c.as_slice-table-items.ensures) c.in_ok-tables.ensures in
    copied_all (rows_by c.args.effect.now maps) c.as_slice-table-items.result.now c.loop-table.table-index (after c.loop-table.draft) c.args.things.now c.loop-table-test.false among (c.loop-table.invariant maps are)
