use Rattle.std.proofs.Common.{◌≡◌, drop, None}
use Rattle.hs_constraints.specs.Asking.{Asks}
use Rattle.hs_constraints.proofs.Steps.{first_among}
use Rattle.hs_constraints.proofs.violated.first_of.Given as goal

abbrev pub invariant-loop-thing : goal.invariant-loop-thing
invariant-loop-thing g l =
    let rows = g.R.ChangedRows in
    record {
      asks : Asks rows None l.fn.rows l.rows;
      found : rows.tells l.fn.rows → first_among (rows.changed l.fn.rows) l.things ≡ first_among (rows.changed l.fn.rows) (drop l.thing-index l.things);
    }
