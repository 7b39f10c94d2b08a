use Rattle.std.proofs.Common.{◌∙◌}
use Rattle.hs_plainrows.proofs.Ordered.{row-of}
use Rattle.hs_plainrows.proofs.held.row_of.Goals as goal

pub returns : goal.returns
returns c = c.get.ensures.value ∙ row-of c.args.rows.now.entries c.args.row.0
