use Rattle.std.proofs.Common.{sym, ◌∙◌}
use Rattle.std.proofs.lemmas.List.{nil_from_length}
use Rattle.std.specs.Slice.Iter.{iter_rest}
use Rattle.hs_newrows.proofs.Each.{no_values}
use Rattle.hs_newrows.proofs.tuples.values_for.Goals as goal

pub returns-in-None : goal.returns-in-None
returns-in-None g c =
    let left = iter_rest c.loop-place.given in
    rw c.from_vec.ensures (
    sym c.loop-place.invariant
    ∙ no_values (g.E.Evaluates.evaluate c.args.evaluator.now) c.args.columns.now c.args.row.now c.loop-place.made.items _ left (nil_from_length left c.in-None.ensures.steps.0))
