use Rattle.std.proofs.Common.{ap, ◌∙◌}
use Rattle.std.proofs.lemmas.Result.{on_ok_weaker}
use Rattle.hs_index.specs.Table.{Rows}
use Rattle.hs_keyed.specs.Kept.{moved}
use Rattle.hs_keyed.proofs.keyed_rows.KeyedRows.renumber.Goals as goal

pub returns : goal.returns
returns c = on_ok_weaker c.move_entry.result (λ is. is ∙ ap (λ (m : Rows). moved m c.args.from.0 c.args.to.0) c.self.view_is) c.move_entry.ensures.ok
