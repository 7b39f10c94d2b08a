use Rattle.std.proofs.Common.{List, Option, ap, ◌∙◌}
use Rattle.std.proofs.lemmas.Result.{on_ok_weaker}
use Rattle.std.specs.Option.{option_map_or}
use Rattle.hs_values.specs.declared.value.Value.{Value}
use Rattle.hs_dml.specs.Rows.{with_verdict}
use Rattle.hs_dml.proofs.chosen.judge.Goals as goal

pub returns-in-Some : goal.returns-in-Some
returns-in-Some g c =
    let verdict = g.E.Evaluates.evaluate c.args.evaluator.now c.args.condition.now in
    on_ok_weaker c.take.result
    (λ is. is (verdict c.in-Some.row.now) c.value.ensures
    ∙ ap (λ (o : Option (List Value)). option_map_or (λ values. with_verdict c.args.chosen.now c.args.name.row (verdict values)) o c.args.chosen.now) c.in-Some.ensures)
    c.take.ensures

pub returns-in-None : goal.returns-in-None
returns-in-None g c =
    let verdict = g.E.Evaluates.evaluate c.args.evaluator.now c.args.condition.now in
    ap (λ (o : Option (List Value)). option_map_or (λ values. with_verdict c.args.chosen.now c.args.name.row (verdict values)) o c.args.chosen.now) c.in-None.ensures
