use Rattle.std.proofs.Common.{map, sym, ap, ◌∙◌}
use Rattle.std.proofs.lemmas.List.{nil_from_length}
use Rattle.std.specs.Slice.Iter.{iter_rest}
use Rattle.hs_index.specs.Keys.{key_in, value_at}
use Rattle.hs_acting.proofs.Storing.{none_left}
use Rattle.hs_acting.proofs.new_keys.assigned.Goals as goal

pub returns-in-None : goal.returns-in-None
returns-in-None c = rw c.from_vec.ensures (
    sym c.loop-sql_type.invariant
    ∙ none_left c.loop-sql_type.made.items _ (key_in (iter_rest c.loop-sql_type.places) c.args.row.now) (ap (map (value_at c.args.row.now)) (nil_from_length (iter_rest c.loop-sql_type.places) c.in-None.ensures.steps.0)))
