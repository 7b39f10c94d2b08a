use Rattle.std.proofs.Common.{sym, ◌∙◌}
use Rattle.std.proofs.lemmas.List.{nil_from_length}
use Rattle.std.specs.Slice.Iter.{iter_rest}
use Rattle.hs_newrows.proofs.Each.{none_stored}
use Rattle.hs_newrows.proofs.storing.all_stored.Goals as goal

pub returns-in-None : goal.returns-in-None
returns-in-None c =
    let left = iter_rest c.loop-place.given in
    rw c.from_vec.ensures (
    sym c.loop-place.invariant
    ∙ none_stored c.args.columns.now c.loop-place.row.items _ left (nil_from_length left c.in-None.ensures.steps.0))
