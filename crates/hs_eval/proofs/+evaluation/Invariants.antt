use Rattle.std.proofs.Common.{◌≡◌, false, length, map, take, drop, fold}
use Rattle.hs_values.specs.declared.value.Value.TheVariants as v
use Rattle.hs_values.specs.Order.{seen}
use Rattle.hs_expression.specs.Surroundings.{rows_around, surroundings_of}
use Rattle.hs_answer.specs.Answer.{element_in, join_in, row_in, sort_key_in, value_in}
use Rattle.hs_answer.specs.Bodies.{values_row}
use Rattle.hs_answer.specs.From.{beside, from_rows, joined_to}
use Rattle.hs_answer.specs.Places.{value_over}
use Rattle.hs_copied.specs.Copies.{maps_of}
use Rattle.hs_matching.specs.Sides.{side_rows, sides_rows}
use Rattle.hs_places.specs.Lines.{lines_seen}
use Rattle.hs_settled.specs.Columns.{no_columns, with_column}
use Rattle.hs_settled.specs.Joins.{with_row}
use Rattle.hs_settled.specs.Spots.{spots_seen}
use Rattle.hs_stages.specs.Gathering.{nothing}
use Rattle.hs_eval.specs.Parts.{chosen_by, found_by, known_by}
use Rattle.hs_eval.proofs.+evaluation.Given as goal

abbrev pub invariant-columns::column-loop-at : goal.invariant-columns::column-loop-at
invariant-columns::column-loop-at l = l.column.items ≡ map (value_in (maps_of l.copies) l.e) (take l.at (spots_seen l.spots))

abbrev pub invariant-columns::row_columns-loop-e : goal.invariant-columns::row_columns-loop-e
invariant-columns::row_columns-loop-e l = l.rows.items ≡ fold (λ rows e. with_column rows (map (value_in (maps_of l.copies) e) (spots_seen l.spots))) (no_columns (length (spots_seen l.spots))) (take l.e-index l.items)

abbrev pub invariant-columns::outcomes-loop-e : goal.invariant-columns::outcomes-loop-e
invariant-columns::outcomes-loop-e l = l.outcomes.items ≡ map (λ e. value_in (maps_of l.copies) e (surroundings_of l.place)) (take l.e-index l.all)

abbrev pub invariant-lists::found_in-loop-item : goal.invariant-lists::found_in-loop-item
invariant-lists::found_in-loop-item l = found_by (maps_of l.copies) (surroundings_of l.place) (seen l.x) (v.Bool false) l.list ≡ found_by (maps_of l.copies) (surroundings_of l.place) (seen l.x) l.so_far (drop l.item-index l.list)

abbrev pub invariant-lists::chosen-loop-arm : goal.invariant-lists::chosen-loop-arm
invariant-lists::chosen-loop-arm l = chosen_by (maps_of l.copies) (surroundings_of l.place) l.arms ≡ chosen_by (maps_of l.copies) (surroundings_of l.place) (drop l.arm-index l.arms)

abbrev pub invariant-lists::first_known-loop-e : goal.invariant-lists::first_known-loop-e
invariant-lists::first_known-loop-e l = known_by (maps_of l.copies) (surroundings_of l.place) l.operands ≡ known_by (maps_of l.copies) (surroundings_of l.place) (drop l.e-index l.operands)

abbrev pub invariant-from::from_sides-loop-element : goal.invariant-from::from_sides-loop-element
invariant-from::from_sides-loop-element l = beside (rows_around l.outer) (map (element_in (maps_of l.copies)) (drop l.element-index l.elements)) (sides_rows l.sides) ≡ from_rows (rows_around l.outer) (map (element_in (maps_of l.copies)) l.elements)

abbrev pub invariant-from::joined_rows-loop-join : goal.invariant-from::joined_rows-loop-join
invariant-from::joined_rows-loop-join l = joined_to (rows_around l.outer) (map (join_in (maps_of l.copies)) (drop l.join-index l.joins)) (side_rows l.rows) ≡ joined_to (rows_around l.outer) (map (join_in (maps_of l.copies)) l.joins) (side_rows l.fn.left)

abbrev pub invariant-from::matched_rows-loop-row : goal.invariant-from::matched_rows-loop-row
invariant-from::matched_rows-loop-row l = l.so_far ≡ fold (with_row l.width (value_over (value_in (maps_of l.copies) l.on) (rows_around l.outer)) l.right) nothing (take l.row-index l.left)

abbrev pub invariant-bodies::values_rows-loop-row : goal.invariant-bodies::values_rows-loop-row
invariant-bodies::values_rows-loop-row l = l.all.items ≡ map (λ row. values_row l.kinds (rows_around l.outer) (row_in (maps_of l.copies) row)) (take l.row-index l.rows)

abbrev pub invariant-queries::sort_keys-loop-by : goal.invariant-queries::sort_keys-loop-by
invariant-queries::sort_keys-loop-by l = l.keys.items ≡ fold (λ keys by. with_column keys (map (sort_key_in (maps_of l.copies) by).key (lines_seen (rows_around l.outer) l.lines))) (no_columns (length (lines_seen (rows_around l.outer) l.lines))) (take l.by-index l.order_by)
