use Rattle.std.proofs.Common.{◌≡◌, [], ◌++◌, drop, fold, map}
use Rattle.std.specs.List.{flat_map}
use Rattle.std.specs.Option.{option_map}
use Rattle.hs_meaning.specs.Expressions.{all_in, arms_in, arm_meaning}
use Rattle.hs_meaning.specs.From.{elements, joined}
use Rattle.hs_meaning.specs.Layers.{means}
use Rattle.hs_meaning.specs.Parts.{known, with_part}
use Rattle.hs_meaning.specs.Queries.{key_over, keys_over, row_in, rows_below}
use Rattle.hs_meaning.specs.Selects.{items_in}
use Rattle.hs_meaning.specs.Trees.{arm_of, element_of, item_of, join_of, key_of, part_of, row_of}
use Rattle.hs_meaning.specs.Around.{seen}
use Rattle.hs_typed.specs.Faults.{noted}
use Rattle.hs_resolve.proofs.Behind.{parts_behind}
use Rattle.hs_resolve.proofs.+binding.Given as goal

abbrev pub invariant-lists::bind_all-loop-e : goal.invariant-lists::bind_all-loop-e
invariant-lists::bind_all-loop-e l = record {
  part : parts_behind (option_map (λ v. v.items) l.parts) (map (λ p. means p (seen l.around)) (map (part_of l.catalog) (drop l.e-index l.all))) ≡ (all_in (seen l.around) (map (part_of l.catalog) l.all)).part;
  noted : noted l.faults (all_in (seen l.around) (map (part_of l.catalog) (drop l.e-index l.all))).faults ≡ noted l.fn.faults (all_in (seen l.around) (map (part_of l.catalog) l.all)).faults;
}

abbrev pub invariant-lists::bind_arms-loop-one : goal.invariant-lists::bind_arms-loop-one
invariant-lists::bind_arms-loop-one l = record {
  part : parts_behind (option_map (λ v. v.items) l.parts) (map (arm_meaning (seen l.around)) (map (arm_of l.catalog) (drop l.one-index l.arms))) ≡ (arms_in (seen l.around) (map (arm_of l.catalog) l.arms)).part;
  noted : noted l.faults (arms_in (seen l.around) (map (arm_of l.catalog) (drop l.one-index l.arms))).faults ≡ noted l.fn.faults (arms_in (seen l.around) (map (arm_of l.catalog) l.arms)).faults;
}

abbrev pub invariant-queries::bind_keys-loop-key : goal.invariant-queries::bind_keys-loop-key
invariant-queries::bind_keys-loop-key l = record {
  part : parts_behind l.bound (map (key_over l.outputs l.plain (seen l.around)) (map (key_of l.catalog) (drop l.key-index l.keys))) ≡ (keys_over l.outputs l.plain (seen l.around) (map (key_of l.catalog) l.keys)).part;
  noted : noted l.faults (keys_over l.outputs l.plain (seen l.around) (map (key_of l.catalog) (drop l.key-index l.keys))).faults ≡ noted l.fn.faults (keys_over l.outputs l.plain (seen l.around) (map (key_of l.catalog) l.keys)).faults;
}

abbrev pub invariant-values::bind_rows-loop-row : goal.invariant-values::bind_rows-loop-row
invariant-values::bind_rows-loop-row l = record {
  columns : (rows_below (seen l.around) l.bound.columns.items (map (row_of l.catalog) (drop l.row-index l.rows))).columns ≡ (rows_below (seen l.around) l.fn.above.columns.items (map (row_of l.catalog) l.rows)).columns;
  rows : fold with_part l.bound.rows (rows_below (seen l.around) l.bound.columns.items (map (row_of l.catalog) (drop l.row-index l.rows))).rows ≡ fold with_part l.fn.above.rows (rows_below (seen l.around) l.fn.above.columns.items (map (row_of l.catalog) l.rows)).rows;
  noted : noted l.faults (rows_below (seen l.around) l.bound.columns.items (map (row_of l.catalog) (drop l.row-index l.rows))).faults ≡ noted l.fn.faults (rows_below (seen l.around) l.fn.above.columns.items (map (row_of l.catalog) l.rows)).faults;
}

abbrev pub invariant-values::note_rows-loop-row : goal.invariant-values::note_rows-loop-row
invariant-values::note_rows-loop-row l = noted l.faults (flat_map (λ row. (row_in (seen l.around) row).faults) (map (row_of l.catalog) (drop l.row-index l.rows))) ≡ noted l.fn.faults (flat_map (λ row. (row_in (seen l.around) row).faults) (map (row_of l.catalog) l.rows))

abbrev pub invariant-values::bind_row-loop-e : goal.invariant-values::bind_row-loop-e
invariant-values::bind_row-loop-e l = record {
  shown : l.shown.items ++ (row_in (seen l.around) (map (part_of l.catalog) (drop l.e-index l.values))).shown ≡ (row_in (seen l.around) (map (part_of l.catalog) l.values)).shown;
  noted : noted l.faults (row_in (seen l.around) (map (part_of l.catalog) (drop l.e-index l.values))).faults ≡ noted l.fn.faults (row_in (seen l.around) (map (part_of l.catalog) l.values)).faults;
}

abbrev pub invariant-from::bind_from-loop-item : goal.invariant-from::bind_from-loop-item
invariant-from::bind_from-loop-item l = record {
  tables : (elements (seen l.around) l.tables (map (element_of l.catalog) (drop l.item-index l.items))).tables ≡ (elements (seen l.around) [] (map (element_of l.catalog) l.items)).tables;
  items : fold with_part l.bound (elements (seen l.around) l.tables (map (element_of l.catalog) (drop l.item-index l.items))).items ≡ known (elements (seen l.around) [] (map (element_of l.catalog) l.items)).items;
  noted : noted l.faults (elements (seen l.around) l.tables (map (element_of l.catalog) (drop l.item-index l.items))).faults ≡ noted l.fn.faults (elements (seen l.around) [] (map (element_of l.catalog) l.items)).faults;
}

abbrev pub invariant-from::bind_joins-loop-join : goal.invariant-from::bind_joins-loop-join
invariant-from::bind_joins-loop-join l = record {
  joins : fold with_part l.bound (joined (seen l.around) l.before l.own (map (join_of l.catalog) (drop l.join-index l.joins))).joins ≡ known (joined (seen l.around) l.before l.fn.own (map (join_of l.catalog) l.joins)).joins;
  own : (joined (seen l.around) l.before l.own (map (join_of l.catalog) (drop l.join-index l.joins))).tables ≡ (joined (seen l.around) l.before l.fn.own (map (join_of l.catalog) l.joins)).tables;
  noted : noted l.faults (joined (seen l.around) l.before l.own (map (join_of l.catalog) (drop l.join-index l.joins))).faults ≡ noted l.fn.faults (joined (seen l.around) l.before l.fn.own (map (join_of l.catalog) l.joins)).faults;
}

abbrev pub invariant-select::bind_items-loop-item : goal.invariant-select::bind_items-loop-item
invariant-select::bind_items-loop-item l = record {
  shown : l.shown.items ++ (items_in (seen l.around) (map (item_of l.catalog) (drop l.item-index l.items))).shown ≡ (items_in (seen l.around) (map (item_of l.catalog) l.items)).shown;
  noted : noted l.faults (items_in (seen l.around) (map (item_of l.catalog) (drop l.item-index l.items))).faults ≡ noted l.fn.faults (items_in (seen l.around) (map (item_of l.catalog) l.items)).faults;
}
