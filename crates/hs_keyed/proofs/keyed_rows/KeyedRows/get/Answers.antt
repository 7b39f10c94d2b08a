use Rattle.std.proofs.Common.{sym, ap, ◌∙◌}
use Rattle.std.specs.FinMap.{get}
use Rattle.hs_index.specs.Table.{Rows}
use Rattle.hs_keyed.proofs.Stored.{get-rows_of}
use Rattle.hs_keyed.proofs.keyed_rows.KeyedRows.get.Goals as goal

pub returns : goal.returns
returns c = c.get.ensures.value ∙ sym (get-rows_of c.self.inside.rows.entries c.args.row.0) ∙ ap (λ (m : Rows). get m c.args.row.0) c.self.view_is
