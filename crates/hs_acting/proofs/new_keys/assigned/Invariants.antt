use Rattle.std.proofs.Common.{◌≡◌, drop}
use Rattle.std.specs.Slice.Iter.{iter_rest}
use Rattle.hs_index.specs.Keys.{key_in}
use Rattle.hs_actions.specs.Acting.{assigned}
use Rattle.hs_acting.proofs.Storing.{behind}
use Rattle.hs_acting.proofs.new_keys.assigned.Given as goal

abbrev pub invariant-loop-sql_type : goal.invariant-loop-sql_type
invariant-loop-sql_type l =
    behind l.made.items (assigned (drop l.sql_type-index l.types) (key_in (iter_rest l.places) l.row)) ≡ assigned l.types (key_in l.columns l.row)
