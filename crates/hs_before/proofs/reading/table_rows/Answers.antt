use Rattle.std.proofs.Common.{◌≡◌, Some, None, sym, ap, subst, ◌∙◌}
use Rattle.hs_changes.specs.Settings.{Maps}
use Rattle.hs_expression.specs.Surroundings.{row_seen}
use Rattle.hs_index.specs.Table.{Rows}
use Rattle.hs_rows.specs.Looks.{Looks}
use Rattle.hs_rows.specs.Numbers.{start}
use Rattle.hs_rows.proofs.Looking.{looked_on, not_looked}
use Rattle.hs_rows.proofs.Numbers.{never_missing}
use Rattle.hs_before.proofs.Read.{AreBelow, all_read, none_yet, one_more}
use Rattle.hs_before.proofs.reading.table_rows.Goals as goal

pub loop-row-init : goal.loop-row-init
loop-row-init g c = record {
  looks = not_looked g.R.Rows g.met.R.Rows.not_looked c.args.rows.now c.requires;
  read = λ t. subst (λ (held : Rows). AreBelow (g.R.Rows.tables c.args.rows.now c.args.table.0) (start None) held) (sym c.new-held.ensures) (none_yet (g.R.Rows.tables c.args.rows.now c.args.table.0));
}

pub loop-row-preserved-in_ok-keep : goal.loop-row-preserved-in_ok-keep
loop-row-preserved-in_ok-keep g c =
    let rows = g.R.Rows in
    let inv = c.loop-row.invariant in
    let brought = c.in_ok-bring.ensures in
    let here : Looks rows None c.loop-row.rows c.bring.new.self = record { ready = brought.ready; tables = brought.tables; borrows = brought.borrows; caused = brought.caused; looked = brought.looked } in
    record {
      looks = looked_on rows g.met.R.Rows.looked_on None c.args.rows.now c.loop-row.rows c.bring.new.self inv.looks here;
      read = λ t.
          let m : Rows = rows.tables c.args.rows.now c.args.table.0 in
          let loop_m : rows.tables c.loop-row.rows c.args.table.0 ≡ m = ap (λ (f : Maps). f c.args.table.0) inv.looks.tables in
          let then_m : rows.tables c.bring.new.self c.args.table.0 ≡ m = ap (λ (f : Maps). f c.args.table.0) (brought.tables ∙ inv.looks.tables) in
          let told = g.met.R.Rows.tells_on c.args.rows.now c.loop-row.rows inv.looks.looked t in
          let told_on = g.met.R.Rows.tells_on c.loop-row.rows c.bring.new.self brought.looked told in
          let next = rw loop_m at (c.in-Some.ensures.row told) in
          let there = rw then_m at (c.look.ensures told_on) in
          subst (λ (held : Rows). AreBelow m (start (Some c.in-Some.row)) held) (sym c.in_ok-keep.ensures.ok)
          (one_more m c.loop-row.held c.loop-row.after c.in-Some.row (row_seen c.look.result) next there (inv.read t));
    }

pub loop-row-preserved : goal.loop-row-preserved
loop-row-preserved g c =
    let rows = g.R.Rows in
    let inv = c.loop-row.invariant in
    let brought = c.in_ok-bring.ensures in
    let here : Looks rows None c.loop-row.rows c.bring.new.self = record { ready = brought.ready; tables = brought.tables; borrows = brought.borrows; caused = brought.caused; looked = brought.looked } in
    record {
      looks = looked_on rows g.met.R.Rows.looked_on None c.args.rows.now c.loop-row.rows c.bring.new.self inv.looks here;
      read = λ t.
          let told = g.met.R.Rows.tells_on c.args.rows.now c.loop-row.rows inv.looks.looked t in
          never_missing (rows.tables c.loop-row.rows c.args.table.0) c.loop-row.after c.in-Some.row (c.in-Some.ensures.row told) (sym c.if-branch.false ∙ brought.found told);
    }

pub returns-clause-rows : goal.returns-clause-rows
returns-clause-rows g c = λ t.
    let rows = g.R.Rows in
    let inv = c.loop-row.invariant in
    let m : Rows = rows.tables c.args.rows.now c.args.table.0 in
    let loop_m : rows.tables c.loop-row.rows c.args.table.0 ≡ m = ap (λ (f : Maps). f c.args.table.0) inv.looks.tables in
    let told = g.met.R.Rows.tells_on c.args.rows.now c.loop-row.rows inv.looks.looked t in
    let none = rw loop_m at (c.in_default.ensures.row told) in
    all_read m c.loop-row.held c.loop-row.after none (inv.read t)
