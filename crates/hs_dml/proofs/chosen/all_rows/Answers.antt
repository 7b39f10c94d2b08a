use Rattle.std.proofs.Common.{[], ap, ◌∙◌}
use Rattle.hs_cascade.specs.Working.{numbers_with}
use Rattle.hs_dml.proofs.Standing.{all_numbers}
use Rattle.hs_dml.proofs.chosen.all_rows.Goals as goal

pub returns : goal.returns
returns g c =
    let rows = g.B.RowsBefore.maps c.args.before.now c.args.table.0 in
    all_numbers rows c.in_ok-rows.rows (c.in_ok-rows.ensures ∙ ap (λ key. numbers_with [] key rows) c.new.ensures)
