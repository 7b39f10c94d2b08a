use Rattle.std.proofs.Common.{◌≡◌, None, sym, ap, ◌∙◌, ◌++◌, ◌∷◌, []}
use Rattle.hs_changes.specs.Settings.{Maps}
use Rattle.hs_expression.specs.Surroundings.{row_seen}
use Rattle.hs_index.specs.Table.{Rows}
use Rattle.hs_rows.specs.Looks.{Looks}
use Rattle.hs_rows.proofs.Keys.{one_missing, one_there}
use Rattle.hs_rows.proofs.Looking.{looked_on}
use Rattle.hs_rows.proofs.copies.numbered_rows.Goals.{then-branch+in_ok-copied+in_ok-push, else-branch}
use Rattle.hs_rows.proofs.copies.numbered_rows.Goals as goal

pub loop-number-preserved : goal.loop-number-preserved
loop-number-preserved g c =
    let rows = g.R.Rows in
    let inv = c.loop-number.invariant in
    let brought = c.in_ok-bring.ensures in
    let here : Looks rows None c.loop-number.rows c.bring.new.self = record { ready = brought.ready; tables = brought.tables; borrows = brought.borrows; caused = brought.caused; looked = brought.looked } in
    let now : Looks rows None c.args.rows.now c.bring.new.self = looked_on rows g.met.R.Rows.looked_on None c.args.rows.now c.loop-number.rows c.bring.new.self inv.looks here in
    let numbers = c.as_slice-number-items.result.now in
    let i = c.loop-number.number-index in
    let table = c.args.table.0 in
    let m : Rows = rows.tables c.args.rows.now table in
    let loop_m : rows.tables c.loop-number.rows table ≡ m = ap (λ (f : Maps). f table) inv.looks.tables in
    let then_m : rows.tables c.bring.new.self table ≡ m = ap (λ (f : Maps). f table) now.tables in
    elim c.if-branch.branch [
      | then-branch+in_ok-copied+in_ok-push w ↦ record {
        looks = now;
        copied = λ t.
            let told = g.met.R.Rows.tells_on c.args.rows.now c.bring.new.self now.looked t in
            let there = rw then_m at (w.look.ensures told) in
            w.copies-is ∙ w.in_ok-push.ensures.ok
            ∙ (λ j. inv.copied t j ++ w.in_ok-copied.ensures j ∷ [])
            ∙ one_there m numbers i (row_seen w.look.result) c.loop-number-test.true there;
      }
      | else-branch w ↦ record {
        looks = now;
        copied = λ t.
            let told = g.met.R.Rows.tells_on c.args.rows.now c.loop-number.rows inv.looks.looked t in
            let found = rw loop_m at (brought.found told) in
            w.copies-is ∙ inv.copied t ∙ one_missing m numbers i c.loop-number-test.true (sym found ∙ w.if-branch.false);
      }
    ]
