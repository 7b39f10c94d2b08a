use Rattle.std.proofs.Common.{List, Option, Ok, Some, ap, ◌∙◌}
use Rattle.std.proofs.lemmas.Result.{on_ok_weaker}
use Rattle.std.specs.Option.{option_map_or}
use Rattle.hs_values.specs.declared.value.Value.{Value}
use Rattle.hs_values.specs.Outcome.{◌>>=◌}
use Rattle.hs_tentative.specs.NewRows.{updated}
use Rattle.hs_dml.specs.Rows.{Becoming, edited_by, name_of, with_edit}
use Rattle.hs_dml.proofs.updating.edit.Goals as goal

pub returns-in-Some : goal.returns-in-Some
returns-in-Some g c =
    let becomes : List Value → Becoming = λ old. updated (g.E.Evaluates.evaluate c.args.evaluator.now) c.args.columns.now c.args.update.now.assignments old >>= λ made. Ok (Some made) in
    let begun = edited_by c.args.editing.now in
    on_ok_weaker c.take.result
    (λ is. is (becomes c.in-Some.old.now) c.becomes.ensures
    ∙ ap (λ (o : Option (List Value)). option_map_or (λ values. with_edit begun (name_of c.args.update.now.table c.args.row) (becomes values)) o begun) c.in-Some.ensures)
    c.take.ensures

pub returns-in-None : goal.returns-in-None
returns-in-None g c =
    let becomes : List Value → Becoming = λ old. updated (g.E.Evaluates.evaluate c.args.evaluator.now) c.args.columns.now c.args.update.now.assignments old >>= λ made. Ok (Some made) in
    let begun = edited_by c.args.editing.now in
    ap (λ (o : Option (List Value)). option_map_or (λ values. with_edit begun (name_of c.args.update.now.table c.args.row) (becomes values)) o begun) c.in-None.ensures
