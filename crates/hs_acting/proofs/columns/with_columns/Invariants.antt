use Rattle.std.proofs.Common.{◌≡◌, drop}
use Rattle.std.specs.Vec.Iter.{into_iter_items}
use Rattle.hs_actions.specs.Acting.{with_columns}
use Rattle.hs_acting.proofs.columns.with_columns.Given as goal

abbrev pub invariant-loop-column : goal.invariant-loop-column
invariant-loop-column l = with_columns l.made.items (drop l.column-index l.columns) (into_iter_items l.given) ≡ with_columns l.fn.row l.columns l.fn.values
