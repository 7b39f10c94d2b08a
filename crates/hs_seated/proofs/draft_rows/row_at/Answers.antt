use Rattle.std.proofs.Common.{ap, ◌∙◌}
use Rattle.std.specs.FinMap.{get}
use Rattle.hs_index.specs.Table.{Rows}
use Rattle.hs_draft.specs.Drafted.{after}
use Rattle.hs_seated.proofs.Looking.{row_there}
use Rattle.hs_seated.proofs.draft_rows.row_at.Goals as goal

pub returns : goal.returns
returns c = c.get.ensures ∙ ap (λ (m : Rows). get m c.args.row.0) c.rows.ensures ∙ row_there (after c.args.draft.now c.args.table.0) c.args.row.0
