use Rattle.std.proofs.Common.{ap, ◌∙◌}
use Rattle.std.proofs.lemmas.Result.{on_ok_weaker, on_err_weaker}
use Rattle.std.specs.FinMap.{remove}
use Rattle.hs_index.specs.Table.{Rows}
use Rattle.hs_keyed.specs.Kept.{rows_of}
use Rattle.hs_keyed.proofs.keyed_rows.KeyedRows.take.Goals as goal

pub returns-clause-ok : goal.returns-clause-ok
returns-clause-ok c = on_ok_weaker c.take_entry.result (λ is. is ∙ ap (λ (m : Rows). remove m c.args.row.0) c.self.view_is) c.take_entry.ensures.ok

pub returns-clause-err : goal.returns-clause-err
returns-clause-err c = on_err_weaker c.take_entry.result (λ same. ap rows_of same ∙ c.self.view_is) c.take_entry.ensures.err
