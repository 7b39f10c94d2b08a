use Rattle.std.proofs.Common.{◌+◌, length, drop, ap, ◌∙◌, ◌++◌}
use Rattle.std.specs.List.{enumerate_from}
use Rattle.hs_meaning.specs.Selects.{stars}
use Rattle.hs_scope.proofs.Seeking.{item}
use Rattle.hs_meaning.specs.Around.{seen}
use Rattle.hs_typed.specs.Faults.{noted}
use Rattle.hs_clauses.proofs.Stars.{faults_of, faults_step, shown_of, shown_step}
use Rattle.hs_clauses.proofs.items.show_tables.Goals as goal

pub loop-table-preserved : goal.loop-table-preserved
loop-table-preserved c =
    let at = c.args.at in
    let s = seen c.args.around.now in
    let p = c.loop-table.place in
    let i = c.loop-table.table-index in
    let tables = c.args.tables.now in
    let t = c.table-item.result in
    let next = item tables i t c.loop-table-test.true c.table-item.is in
    let place = c.in_ok-behind.ensures ∙ ap (λ l. p + length l) c.as_slice-columns.ensures in
    record {
      shown = shown_step at s p c.in_ok-behind.behind t (drop i tables) (drop (i + 1) tables) c.loop-table.shown.items c.show_columns.new.shown.items _ next place
          (c.in_ok-show_columns.ensures.shown ∙ ap (λ l. c.loop-table.shown.items ++ shown_of at s p l) c.as_slice-columns.ensures) c.loop-table.invariant.shown;
      noted = faults_step at s p c.in_ok-behind.behind t (drop i tables) (drop (i + 1) tables) c.loop-table.faults c.show_columns.new.faults _ next place
          (c.in_ok-show_columns.ensures.noted ∙ ap (λ l. noted c.loop-table.faults (faults_of at s p l)) c.as_slice-columns.ensures) c.loop-table.invariant.noted;
    }
