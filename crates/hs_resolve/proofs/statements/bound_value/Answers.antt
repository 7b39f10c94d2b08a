use Rattle.std.proofs.Common.{◌≡◌, sym, ap, ◌∙◌}
use Rattle.hs_clauses.proofs.Forms.{at_is}
use Rattle.hs_meaning.specs.Layers.{means}
use Rattle.hs_meaning.specs.Statements.{over}
use Rattle.hs_meaning.specs.Surroundings.{Surroundings, over_rows}
use Rattle.hs_meaning.specs.Trees.{part_of}
use Rattle.hs_meaning.specs.Around.{seen}
use Rattle.hs_typed.specs.Rules.{assigned_typed}
use Rattle.hs_resolve.proofs.Answered.{judged_answered}
use Rattle.hs_resolve.proofs.statements.bound_value.Goals as goal

pub returns : goal.returns
returns c =
    let things = c.args.catalog.now in
    let tables = c.args.tables.now in
    let e = c.args.e.now in
    let around : seen c.over_rows-around.result ≡ over tables = c.over_rows-around.ensures ∙ ap (over_rows tables) c.outermost-outside.ensures in
    let same : means (part_of things e) (seen c.over_rows-around.result) ≡ means (part_of things e) (over tables) =
    ap (λ (r : Surroundings). means (part_of things e) r) around in
    judged_answered (assigned_typed c.args.column.now) (part_of things e).at _ (means (part_of things e) (over tables)) (means (part_of things e) (seen c.over_rows-around.result))
    c.new-faults.result c.bind_expression.new.faults c.assigned-bound.new.faults c.in_ok-bound.bound c.assigned-bound.result c.answer.result
    c.answer.ensures same (sym (at_is things e)) c.new-faults.ensures c.in_ok-bound.ensures.0 c.in_ok-bound.ensures.1 c.assigned-bound.ensures.part c.assigned-bound.ensures.noted
