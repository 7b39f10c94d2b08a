use Rattle.std.proofs.Common.{◌≡◌, false, fold, take, drop}
use Rattle.hs_values.specs.declared.value.Value.TheVariants as v
use Rattle.hs_values.specs.Order.{seen}
use Rattle.hs_expression.specs.Expression.{value_of, value_in_group}
use Rattle.hs_expression.specs.Surroundings.{surroundings_of}
use Rattle.hs_valued.specs.Gathering.{nothing, gathered}
use Rattle.hs_valued.specs.Parts.{found_by, chosen_by, known_by}
use Rattle.hs_valued.proofs.evaluation.+evaluation.Given as goal

abbrev pub invariant-found_in-loop-item : goal.invariant-found_in-loop-item
invariant-found_in-loop-item l = found_by (surroundings_of l.place) (seen l.x) (v.Bool false) l.list ≡ found_by (surroundings_of l.place) (seen l.x) l.so_far (drop l.item-index l.list)

abbrev pub invariant-chosen-loop-arm : goal.invariant-chosen-loop-arm
invariant-chosen-loop-arm l = chosen_by (surroundings_of l.place) l.arms ≡ chosen_by (surroundings_of l.place) (drop l.arm-index l.arms)

abbrev pub invariant-first_known-loop-e : goal.invariant-first_known-loop-e
invariant-first_known-loop-e l = known_by (surroundings_of l.place) l.operands ≡ known_by (surroundings_of l.place) (drop l.e-index l.operands)

abbrev pub invariant-in_group-loop-row : goal.invariant-in_group-loop-row
invariant-in_group-loop-row l = l.so_far ≡ fold (λ so_far row. gathered so_far (value_in_group (value_of l.e) (surroundings_of l.place) row)) nothing (take l.row-index l.place.group.now)
