use Rattle.std.proofs.Common.{◌≡◌, false, drop}
use Rattle.hs_values.specs.declared.value.Value.TheVariants as v
use Rattle.hs_values.specs.Order.{seen}
use Rattle.hs_expression.specs.Forms.{found_in, values_of}
use Rattle.hs_places.proofs.subqueries.found_in.Given as goal

abbrev pub invariant-loop-row : goal.invariant-loop-row
invariant-loop-row l = found_in (seen l.x) (v.Bool false) (values_of l.rows) ≡ found_in (seen l.x) l.so_far (values_of (drop l.row-index l.rows))
