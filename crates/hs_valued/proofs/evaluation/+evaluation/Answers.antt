use Rattle.std.proofs.Common.{◌≡◌, List, sym, subst, take, ◌∙◌, arith}
use Rattle.std.proofs.lemmas.List.{take_all}
use Rattle.hs_values.specs.declared.value.Value.{Value}
use Rattle.hs_values.specs.Outcome.{Gives}
use Rattle.hs_expression.specs.Expression.{value_of}
use Rattle.hs_expression.specs.Surroundings.{surroundings_of}
use Rattle.hs_valued.proofs.InGroup.{in_group_gathered, given_as}
use Rattle.hs_valued.proofs.evaluation.+evaluation.Goals as goal

pub in_group-returns : goal.in_group-returns
in_group-returns t c =
    let value = value_of c.args.e.now in
    let s = surroundings_of c.args.place.now in
    let rows : List (List Value) = c.args.place.now.group.now in
    let whole : take c.loop-row.row-index rows ≡ rows = take_all c.loop-row.row-index rows (omega arith) in
    given_as c.ended.result _ (c.ended.ensures ∙ in_group_gathered value s (take c.loop-row.row-index rows) whole c.loop-row.so_far c.loop-row.invariant)
