use Rattle.std.proofs.Common.{sym, ◌∙◌, drop}
use Rattle.std.proofs.lemmas.List.{nil_from_length}
use Rattle.std.specs.Vec.Iter.{into_iter_items}
use Rattle.hs_acting.proofs.Put.{no_values}
use Rattle.hs_acting.proofs.columns.with_columns.Goals as goal

pub returns-in-None : goal.returns-in-None
returns-in-None c =
    let made = c.loop-column.made.items in
    let left = drop c.loop-column.column-index c.args.columns.now in
    c.from_vec.ensures
    ∙ sym (no_values made left (into_iter_items c.loop-column.given) (nil_from_length (into_iter_items c.loop-column.given) (sym c.loop-column.given.rest.ok.0 ∙ c.in-None.ensures.cases.0)))
    ∙ c.loop-column.invariant
