use Rattle.std.proofs.Common.{ap, ◌∙◌}
use Rattle.std.proofs.lemmas.Result.{IfOk-weaker}
use Rattle.hs_sentences.specs.Asking.{any_row}
use Rattle.hs_keyed.proofs.Stored.{any-rows_of}
use Rattle.hs_keyed.proofs.keyed_rows.KeyedRows.any.Goals as goal

pub returns : goal.returns
returns g c =
    let test = g.T.RowTest.test c.args.test.now in
    IfOk-weaker c.any_entry.result _ _
    (λ is told. told ∙ any-rows_of test c.self.inside.rows.entries c.any_entry.ensures.ordered ∙ ap (any_row test) c.self.view_is)
    c.any_entry.ensures.answer
