use Rattle.std.proofs.Common.{ap, ◌∙◌}
use Rattle.std.proofs.lemmas.Result.{IfOk-weaker}
use Rattle.std.specs.Map.{keys_of}
use Rattle.hs_sentences.specs.Asking.{any_of}
use Rattle.hs_draft.specs.Drafted.{rows_at, with_olds}
use Rattle.hs_draft.proofs.Drafted.{entries_of, tested}
use Rattle.hs_draft.proofs.draft.Draft.any_old.Goals as goal

pub returns-in-Some : goal.returns-in-Some
returns-in-Some g c =
    let test = g.T.RowTest.test c.args.test.now in
    let rows = rows_at c.args.self.now.tables.entries c.args.table.0 in
    let olds = c.in-Some.olds.now.entries in
    IfOk-weaker c.any_then.result _ _
    (λ is told. told
    ∙ tested test olds rows olds c.any_then.ensures.found
    ∙ ap (λ o. any_of (keys_of (entries_of o)) test (with_olds (entries_of o) rows)) c.in-Some.ensures.value)
    c.any_then.ensures.answer
