use Rattle.std.proofs.Common.{◌≡◌, Ok, Err, sym, ◌∙◌}
use Rattle.std.proofs.lemmas.Result.{IfOk-weaker}
use Rattle.hs_read.specs.Read.{statement_in}
use Rattle.hs_requested.specs.Asked.{told}
use Rattle.hs_requested.proofs.Telling.{asked_for, faulty_for, of_entry}
use Rattle.hs_requested.proofs.reading.read_request.Goals as goal

pub returns-in-Ok-clause-entry : goal.returns-in-Ok-clause-entry
returns-in-Ok-clause-entry c = λ name session here.
    let e : told c.args.at (statement_in c.args.text.now) ≡ Ok c.in-Ok.statement = sym c.in_ok-statement.ensures ∙ c.in-Ok.is in
    IfOk-weaker c.request_for.result _ _
    (λ request is. is ∙ (sym (asked_for c.args.at (statement_in c.args.text.now) c.in-Ok.statement e) ∙ of_entry c.args.at name c.args.text.now session here))
    c.request_for.ensures.asked

pub returns-in-Err-clause-entry : goal.returns-in-Err-clause-entry
returns-in-Err-clause-entry c = λ name session here.
    let e : told c.args.at (statement_in c.args.text.now) ≡ Err c.in-Err.why = sym c.in_ok-statement.ensures ∙ c.in-Err.is in
    sym (faulty_for c.args.at (statement_in c.args.text.now) c.in-Err.why e) ∙ of_entry c.args.at name c.args.text.now session here
