use Rattle.std.proofs.Common.{ap, ◌∙◌}
use Rattle.hs_rows.specs.Numbers.{row_in}
use Rattle.hs_plainrows.specs.Held.{rows_among}
use Rattle.hs_plainrows.proofs.Ordered.{no-row}
use Rattle.hs_plainrows.proofs.held.row_at.Goals as goal

pub returns-in-None : goal.returns-in-None
returns-in-None c = no-row c.args.row.0 ∙ ap (λ o. row_in (rows_among o) c.args.row.0) c.in-None.ensures.value
