use Rattle.std.proofs.Common.{◌≡◌, Some, None, fold, sym, ap, ◌∙◌}
use Rattle.hs_changes.specs.Settings.{Maps}
use Rattle.hs_expression.specs.Surroundings.{row_seen}
use Rattle.hs_index.specs.Table.{Rows}
use Rattle.hs_rows.specs.Looks.{Looks}
use Rattle.hs_rows.specs.Numbers.{rows_from, start}
use Rattle.hs_rows.proofs.Looking.{looked_on, not_looked}
use Rattle.hs_rows.proofs.Numbers.{all_taken, never_missing, one_taken, taken_from_the_first}
use Rattle.hs_rows.proofs.scanning.scan.Goals as goal

pub loop-row-init : goal.loop-row-init
loop-row-init g c = record {
  looks = not_looked g.R.Rows g.met.R.Rows.not_looked c.args.rows.now c.requires;
  left = λ t. taken_from_the_first g.T.Takes.taken (g.R.Rows.tables c.args.rows.now c.args.table.0) c.args.taker.now;
}

pub loop-row-preserved-in_ok-take : goal.loop-row-preserved-in_ok-take
loop-row-preserved-in_ok-take g c =
    let rows = g.R.Rows in
    let inv = c.loop-row.invariant in
    let brought = c.in_ok-bring.ensures in
    let here : Looks rows None c.loop-row.rows c.bring.new.self = record { ready = brought.ready; tables = brought.tables; borrows = brought.borrows; caused = brought.caused; looked = brought.looked } in
    record {
      looks = looked_on rows g.met.R.Rows.looked_on None c.args.rows.now c.loop-row.rows c.bring.new.self inv.looks here;
      left = λ t.
          let m : Rows = rows.tables c.args.rows.now c.args.table.0 in
          let loop_m : rows.tables c.loop-row.rows c.args.table.0 ≡ m = ap (λ (f : Maps). f c.args.table.0) inv.looks.tables in
          let then_m : rows.tables c.bring.new.self c.args.table.0 ≡ m = ap (λ (f : Maps). f c.args.table.0) (brought.tables ∙ inv.looks.tables) in
          let told = g.met.R.Rows.tells_on c.args.rows.now c.loop-row.rows inv.looks.looked t in
          let told_on = g.met.R.Rows.tells_on c.loop-row.rows c.bring.new.self brought.looked told in
          let next = rw loop_m at (c.in-Some.ensures.row told) in
          let there = rw then_m at (c.look.ensures told_on) in
          ap (λ x. fold g.T.Takes.taken x (rows_from m (start (Some c.in-Some.row)))) c.in_ok-take.ensures.ok
          ∙ sym (one_taken g.T.Takes.taken m c.loop-row.after c.in-Some.row c.loop-row.taker (row_seen c.look.result) next there)
          ∙ inv.left t;
    }

pub loop-row-preserved : goal.loop-row-preserved
loop-row-preserved g c =
    let rows = g.R.Rows in
    let inv = c.loop-row.invariant in
    let brought = c.in_ok-bring.ensures in
    let here : Looks rows None c.loop-row.rows c.bring.new.self = record { ready = brought.ready; tables = brought.tables; borrows = brought.borrows; caused = brought.caused; looked = brought.looked } in
    record {
      looks = looked_on rows g.met.R.Rows.looked_on None c.args.rows.now c.loop-row.rows c.bring.new.self inv.looks here;
      left = λ t.
          let told = g.met.R.Rows.tells_on c.args.rows.now c.loop-row.rows inv.looks.looked t in
          never_missing (rows.tables c.loop-row.rows c.args.table.0) c.loop-row.after c.in-Some.row (c.in-Some.ensures.row told) (sym c.if-branch.false ∙ brought.found told);
    }

pub returns-clause-ok : goal.returns-clause-ok
returns-clause-ok g c = λ t.
    let rows = g.R.Rows in
    let inv = c.loop-row.invariant in
    let m : Rows = rows.tables c.args.rows.now c.args.table.0 in
    let loop_m : rows.tables c.loop-row.rows c.args.table.0 ≡ m = ap (λ (f : Maps). f c.args.table.0) inv.looks.tables in
    let told = g.met.R.Rows.tells_on c.args.rows.now c.loop-row.rows inv.looks.looked t in
    let none = rw loop_m at (c.in_default.ensures.row told) in
    sym (all_taken g.T.Takes.taken m c.loop-row.after c.loop-row.taker none) ∙ inv.left t
