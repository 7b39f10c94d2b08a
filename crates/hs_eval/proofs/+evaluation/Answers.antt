use Rattle.std.proofs.Common.{ℕ, List, [], ◌∷◌, ◌++◌, map, length, fold, take, Option, Some, Result, Ok, sym, ap, subst, ◌∙◌, arith}
use Rattle.std.proofs.lemmas.List.{length-map, take_all}
use Rattle.std.proofs.lemmas.List.Folds.{fold-map}
use Rattle.std.proofs.lemmas.List.Sums.{fold_more}
use Rattle.std.specs.Option.{option_map}
use Rattle.hs_plan.specs.declared.expression.Expr.{Expr}
use Rattle.hs_plan.specs.declared.query.Join.{Join}
use Rattle.hs_plan.specs.declared.query.Key.{Key}
use Rattle.hs_plan.specs.declared.query.Query.{out-Query}
use Rattle.hs_plan.specs.declared.query.QueryBody.{QueryBody}
use Rattle.hs_plan.specs.declared.query.SortKey.{SortKey}
use Rattle.hs_plan.specs.declared.query.ValuesRow.{ValuesRow}
use Rattle.hs_values.specs.declared.fault.EvalFault.{EvalFault}
use Rattle.hs_values.specs.declared.value.Value.{Value}
use Rattle.hs_values.specs.Outcome.{Gives, ◌>>=◌}
use Rattle.hs_expression.specs.Expression.{valued_at, value_of}
use Rattle.hs_expression.specs.Outcomes.{all_or_least}
use Rattle.hs_expression.specs.Surroundings.{Rows, Valued, rows_around, surroundings_of}
use Rattle.hs_answer.specs.Answer.{body_in, join_in, key_in, row_in, sort_key_in, source_in, value_in}
use Rattle.hs_answer.specs.Bodies.{sides_combined, values_row}
use Rattle.hs_answer.specs.Layers.{Line, SelectLayer, SortBy}
use Rattle.hs_answer.specs.Order.{keys_at}
use Rattle.hs_answer.specs.Places.{over_row, value_over, values_at}
use Rattle.hs_answer.specs.Selects.{having_true, where_true}
use Rattle.hs_copied.specs.Copies.{maps_of}
use Rattle.hs_matching.specs.Sides.{side_rows, sides_rows}
use Rattle.hs_matching.specs.Ties.{RightSide, partners}
use Rattle.hs_matching.proofs.LeftOut.{partners_suffice}
use Rattle.hs_places.specs.Keyed.{descends}
use Rattle.hs_places.specs.Lines.{lines_seen}
use Rattle.hs_places.specs.Places.{places_over}
use Rattle.hs_rel.specs.Join.{joined, left_joined, product}
use Rattle.hs_rel.specs.Selection.{Verdict, selected}
use Rattle.hs_settled.specs.Columns.{column_of, no_columns, with_column}
use Rattle.hs_settled.specs.Joins.{with_row}
use Rattle.hs_settled.specs.Parts.{RowOutcome, sorted_given}
use Rattle.hs_settled.specs.Spots.{key_place, spots_seen}
use Rattle.hs_settled.proofs.AtSpots.{in_group}
use Rattle.hs_settled.proofs.Clauses.{over_rows, query_is as query_sorted}
use Rattle.hs_stages.specs.declared.gathered.Gathered.{Gathered}
use Rattle.hs_stages.specs.Gathering.{nothing}
use Rattle.hs_eval.specs.Parts.{aggregate_by, aggregate_of}
use Rattle.hs_eval.proofs.AtEach.{columns_all, flags_are, keys_all, many_seen, output_at, place_next, plain_column, value_at_lines}
use Rattle.hs_eval.proofs.Gathered.{mapped_twice}
use Rattle.hs_eval.proofs.Layers.{aggregate_is, inner_is, layer_over, left_is, output_is, query_is, query_layer, select_over, sides_is, sort_key_is, value_key_is}
use Rattle.hs_eval.proofs.Steps.{after_having, behind_having, given_too, groups_given, having_given, lines_shown, made_too, shown_too, sides_shown, where_given}
use Rattle.hs_eval.proofs.+evaluation.Goals as goal

-- ---- columns

pub columns::column-returns-then-is_plain : goal.columns::column-returns-then-is_plain
columns::column-returns-then-is_plain t c =
    let tables = maps_of c.args.copies.now in
    let e = c.args.e.now in
    let places = spots_seen c.args.spots.now in
    made_too c.plain_column.result (λ column. column.items) (map (value_of e) places) (map (value_in tables e) places) c.plain_column.ensures
    (sym (plain_column tables e places (sym c.is_plain.ensures ∙ c.if-is_plain.true)))

pub columns::column-loop-at-preserved : goal.columns::column-loop-at-preserved
columns::column-loop-at-preserved t c =
    let a : Valued = value_in (maps_of c.args.copies.now) c.args.e.now in
    let next = place_next a (spots_seen c.args.spots.now) c.loop-at.at (omega arith) in
    c.in_ok-push.ensures.items ∙ (λ i. c.loop-at.invariant i ++ c.in_ok-outcome_at.ensures i ∷ []) ∙ sym next

pub columns::column_over-returns : goal.columns::column_over-returns
columns::column_over-returns t c =
    let a : Valued = value_in (maps_of c.args.copies.now) c.args.e.now in
    let outer = rows_around c.args.outer.now in
    made_too c.column.result (λ column. column.items) (map a (spots_seen c.row_spots-spots.result)) (map (value_over a outer) c.args.rows.now) c.column.ensures
    (ap (map a) c.row_spots-spots.ensures ∙ over_rows a outer c.args.rows.now)

pub columns::outcomes-returns : goal.columns::outcomes-returns
columns::outcomes-returns t c =
    let tables = maps_of c.args.copies.now in
    let s = surroundings_of c.args.place.now in
    let all : List Expr = c.args.all.now in
    c.loop-e.invariant
    ∙ ap (map (λ (e : Expr). value_in tables e s)) (take_all c.loop-e.e-index all (omega arith))
    ∙ mapped_twice (value_in tables) (valued_at s) all

pub columns::row_columns-loop-e-preserved : goal.columns::row_columns-loop-e-preserved
columns::row_columns-loop-e-preserved t c =
    let tables = maps_of c.args.copies.now in
    let places = spots_seen c.args.spots.now in
    let with_one : List RowOutcome → Expr → List RowOutcome = λ rows e. with_column rows (map (value_in tables e) places) in
    let none = no_columns (length places) in
    c.in_ok-rows-2.ensures
    ∙ (λ i. with_column (c.loop-e.invariant i) (c.in_ok-column.ensures i))
    ∙ ap (with_one (fold with_one none (take c.loop-e.e-index c.args.items.now))) c.e-item.is
    ∙ sym (fold_more with_one none c.args.items.now c.loop-e.e-index c.e-item.result c.loop-e-test.true)

pub columns::row_columns-returns : goal.columns::row_columns-returns
columns::row_columns-returns t c =
    let tables = maps_of c.args.copies.now in
    let places = spots_seen c.args.spots.now in
    let items : List Expr = c.args.items.now in
    let with_one : List RowOutcome → Expr → List RowOutcome = λ rows e. with_column rows (map (value_in tables e) places) in
    let none = no_columns (length places) in
    c.loop-e.invariant
    ∙ ap (fold with_one none) (take_all c.loop-e.e-index items (omega arith))
    ∙ sym (fold-map (λ (rows : List RowOutcome) (item : Valued). with_column rows (map item places)) (value_in tables) none items)
    ∙ columns_all places (map (value_in tables) items)

-- ---- aggregates

pub expressions::aggregate-returns : goal.expressions::aggregate-returns
expressions::aggregate-returns t c =
    let a : Valued = value_in (maps_of c.args.copies.now) c.args.operand.now in
    let s = surroundings_of c.args.place.now in
    given_too c.aggregated.result (aggregate_by c.args.function c.args.distinct c.in_ok-outcomes.outcomes.items) (aggregate_of c.args.function c.args.distinct a s) c.aggregated.ensures
    (ap (aggregate_by c.args.function c.args.distinct) (sym (c.in_ok-outcomes.ensures ∙ ap (map a) c.group_spots-spots.ensures ∙ in_group a s)))

pub expressions::value-returns-in-Aggregate : goal.expressions::value-returns-in-Aggregate
expressions::value-returns-in-Aggregate t c =
    let tables = maps_of c.args.copies.now in
    let s = surroundings_of c.args.place.now in
    let f = c.in-Aggregate.function in
    let d = c.in-Aggregate.distinct in
    given_too c.aggregate.result (aggregate_of f d (value_in tables c.get-in-Aggregate.result.now) s) (value_in tables c.args.e.now s) c.aggregate.ensures
    (ap (λ (x : Expr). value_in tables x s) c.in-Aggregate.is
    ∙ aggregate_is tables f d c.in-Aggregate.operand s
    ∙ ap (λ (x : Expr). aggregate_of f d (value_in tables x) s) (sym c.get-in-Aggregate.ensures))

-- ---- FROM

pub from::join_rows-returns-in_ok-right-in-Inner : goal.from::join_rows-returns-in_ok-right-in-Inner
from::join_rows-returns-in_ok-right-in-Inner t c =
    let tables = maps_of c.args.copies.now in
    let outer = rows_around c.args.outer.now in
    let verdict : Verdict = value_over (value_in tables c.in-Inner.on) outer in
    let left : Rows = side_rows c.args.left in
    let right : Rows = side_rows c.in_ok-right-in-Inner.right in
    given_too c.matched_rows.result (joined verdict left right) (join_in tables c.args.join.now outer left)
    (subst (λ (two : Rows × Rows). Gives c.matched_rows.result (joined verdict two.0 two.1)) (λ i. (c.as_slice.ensures i, c.as_slice-in-Inner.ensures i)) c.matched_rows.ensures)
    (ap (λ (j : Join). join_in tables j outer left) c.in-Inner.is
    ∙ ap (λ g. g outer left) (inner_is tables c.in-Inner.source c.in-Inner.on)
    ∙ ap (λ (r : Result Rows EvalFault). r >>= λ right. joined verdict left right) c.in_ok-right-in-Inner.ensures)

pub from::join_rows-returns-in_ok-right-in-Left : goal.from::join_rows-returns-in_ok-right-in-Left
from::join_rows-returns-in_ok-right-in-Left t c =
    let tables = maps_of c.args.copies.now in
    let outer = rows_around c.args.outer.now in
    let verdict : Verdict = value_over (value_in tables c.in-Left.on) outer in
    let left : Rows = side_rows c.args.left in
    let right : Rows = side_rows c.in_ok-right-in-Left.right in
    given_too c.matched_rows-in-Left.result (left_joined verdict c.width_of.result left right) (join_in tables c.args.join.now outer left)
    (subst (λ (two : Rows × Rows). Gives c.matched_rows-in-Left.result (left_joined verdict c.width_of.result two.0 two.1)) (λ i. (c.as_slice-in-Left.ensures i, c.as_slice-in-Left-2.ensures i)) c.matched_rows-in-Left.ensures)
    (ap (λ (j : Join). join_in tables j outer left) c.in-Left.is
    ∙ ap (λ g. g outer left) (left_is tables c.in-Left.source c.in-Left.on)
    ∙ ap (λ (r : Result Rows EvalFault). r >>= λ right. left_joined verdict (source_in tables c.in-Left.source).width left right) c.in_ok-right-in-Left.ensures
    ∙ ap (λ (n : ℕ). left_joined verdict n left right) (sym (c.width_of.ensures tables)))

pub from::matched_rows-loop-row-preserved : goal.from::matched_rows-loop-row-preserved
from::matched_rows-loop-row-preserved t c =
    let tables = maps_of c.args.copies.now in
    let outer = rows_around c.args.outer.now in
    let verdict : Verdict = value_over (value_in tables c.args.on.now) outer in
    let p : RightSide = c.in_ok-partners.partners in
    let row = c.row-item.result in
    let so_far = c.loop-row.so_far in
    let gather : Gathered → List Value → Gathered = with_row c.args.width verdict c.args.right.now in
    c.in_ok-take_pairs.ensures verdict (partners p row) c.in_ok-pairs.ensures (c.deref.ensures.value ∙ c.in_ok-outcomes.ensures ∙ ap (map verdict) c.as_slice.ensures)
    ∙ partners_suffice verdict p (c.in_ok-partners.ensures.tie tables outer) c.args.width so_far row
    ∙ ap (λ (rows : Rows). with_row c.args.width verdict rows so_far row) c.in_ok-partners.ensures.rows
    ∙ (λ i. gather (c.loop-row.invariant i) (c.row-item.is i))
    ∙ sym (fold_more gather nothing c.args.left.now c.loop-row.row-index row c.loop-row-test.true)

-- ---- SELECT, in the order of its clauses

pub select::chosen_rows-returns-in-Two : goal.select::chosen_rows-returns-in-Two
select::chosen_rows-returns-in-Two t c =
    let verdict : Verdict = value_over (value_in (maps_of c.args.copies.now) c.args.condition.now) (rows_around c.args.outer.now) in
    subst (λ (rows : Rows). Gives c.matched_rows.result (selected verdict rows))
    ((λ i. product (c.as_slice.ensures i) (c.as_slice-in-Two.ensures i)) ∙ sym (ap sides_rows c.in-Two.is))
    c.matched_rows.ensures

pub select::chosen_rows-returns-in_ok-outcomes-in_default : goal.select::chosen_rows-returns-in_ok-outcomes-in_default
select::chosen_rows-returns-in_ok-outcomes-in_default t c =
    let a : Valued = value_in (maps_of c.args.copies.now) c.args.condition.now in
    let outer = rows_around c.args.outer.now in
    subst (λ (rows : Rows). Gives c.true_rows.result (selected (value_over a outer) rows)) c.in_ok-rows-in_default.ensures
    (where_given a outer c.in_ok-rows-in_default.rows c.deref.result.now c.true_rows.result
    (c.deref.ensures.value ∙ c.in_ok-outcomes-in_default.ensures ∙ ap (map (value_over a outer)) c.as_slice-in_default.ensures)
    c.true_rows.ensures)

pub select::where_rows-returns-in-Some : goal.select::where_rows-returns-in-Some
select::where_rows-returns-in-Some t c =
    let tables = maps_of c.args.copies.now in
    let outer = rows_around c.args.outer.now in
    let rows : Rows = sides_rows c.args.sides in
    given_too c.chosen_rows.result (where_true outer (Some (value_in tables c.get.result.now)) rows) (where_true outer (option_map (value_in tables) c.args.condition.now) rows) c.chosen_rows.ensures
    (ap (λ (o : Option Expr). where_true outer (option_map (value_in tables) o) rows) c.in-Some.is
    ∙ ap (λ (x : Expr). where_true outer (Some (value_in tables x)) rows) (sym c.get.ensures))

pub select::grouped_over-returns : goal.select::grouped_over-returns
select::grouped_over-returns t c =
    let outer = rows_around c.args.outer.now in
    let group_by : List Valued = map (value_in (maps_of c.args.copies.now)) c.args.group_by.now in
    groups_given c.args.is_grouped outer group_by (length c.args.group_by.now) c.args.rows c.in_ok-keys.keys.items c.grouped.result
    (sym (length-map c.args.group_by.now (value_in (maps_of c.args.copies.now))))
    (c.in_ok-keys.ensures ∙ ap (map (values_at group_by)) (c.row_spots.ensures ∙ ap (map (over_row outer)) c.as_slice.ensures))
    c.grouped.ensures

pub select::having_over-returns-in_ok-outcomes-in-Some : goal.select::having_over-returns-in_ok-outcomes-in-Some
select::having_over-returns-in_ok-outcomes-in-Some t c =
    let tables = maps_of c.args.copies.now in
    let outer = rows_around c.args.outer.now in
    let a : Valued = value_in tables c.get.result.now in
    let places = places_over outer c.args.over in
    shown_too (places_over outer) c.kept.result (having_true (Some a) places) (having_true (option_map (value_in tables) c.args.condition.now) places)
    (having_given outer a c.args.over c.deref.result.now c.kept.result
    (c.deref.ensures.value ∙ c.in_ok-outcomes-in-Some.ensures ∙ ap (map a) c.over_spots.ensures)
    c.kept.ensures)
    (ap (λ (o : Option Expr). having_true (option_map (value_in tables) o) places) c.in-Some.is
    ∙ ap (λ (x : Expr). having_true (Some (value_in tables x)) places) (sym c.get.ensures))

pub select::item_lines-returns : goal.select::item_lines-returns
select::item_lines-returns t c =
    let outer = rows_around c.args.outer.now in
    let items : List Valued = map (value_in (maps_of c.args.copies.now)) c.args.items.now in
    lines_shown c.args.is_distinct outer items c.args.over c.in_ok-rows.rows.items c.lines.result
    (c.in_ok-rows.ensures ∙ ap (map (values_at items)) c.over_spots.ensures)
    c.lines.ensures

pub select::select_lines-returns : goal.select::select_lines-returns
select::select_lines-returns t c =
    let tables = maps_of c.args.copies.now in
    let x = c.args.select.now in
    let outer = rows_around c.args.outer.now in
    let from = c.as_slice.result.now in
    let group_by = c.as_slice-2.result.now in
    let items = c.as_slice-3.result.now in
    let y : SelectLayer = layer_over tables x from group_by items in
    let groups = places_over outer c.in_ok-over.over in
    let kept = places_over outer c.in_ok-kept.kept in
    shown_too (lines_seen outer) c.item_lines.result (behind_having y outer kept) _ c.item_lines.ensures
    (select_over tables x outer from group_by items c.as_slice.ensures c.as_slice-2.ensures c.as_slice-3.ensures
    ∙ after_having y outer (sides_rows c.in_ok-sides.sides) c.in_ok-rows.rows groups (Ok kept) c.in_ok-sides.ensures c.in_ok-rows.ensures c.in_ok-over.ensures c.in_ok-kept.ensures)

-- ---- bodies

pub bodies::values_rows-returns : goal.bodies::values_rows-returns
bodies::values_rows-returns t c =
    let tables = maps_of c.args.copies.now in
    let rows : List ValuesRow = c.args.rows.now in
    let one : List Valued → RowOutcome = values_row c.args.kinds.now (rows_around c.args.outer.now) in
    given_too c.all_rows.result (all_or_least c.loop-row.all.items) (all_or_least (map one (map (row_in tables) rows))) c.all_rows.ensures
    (ap all_or_least (sym (c.loop-row.invariant
    ∙ ap (map (λ (row : ValuesRow). one (row_in tables row))) (take_all c.loop-row.row-index rows (omega arith))
    ∙ mapped_twice (row_in tables) one rows)))

pub bodies::body_lines-returns-in_ok-below-in-SetOperation : goal.bodies::body_lines-returns-in_ok-below-in-SetOperation
bodies::body_lines-returns-in_ok-below-in-SetOperation t c =
    let tables = maps_of c.args.copies.now in
    let outer = rows_around c.args.outer.now in
    let operator = c.in-SetOperation.operator in
    let kinds = c.as_slice-in-SetOperation.result.now in
    let left = c.get-in-SetOperation.result.now in
    let right = c.get-in-SetOperation-2.result.now in
    shown_too (lines_seen outer) c.combined_lines.result (sides_combined operator kinds (body_in tables left) (body_in tables right) outer) (body_in tables c.args.body.now outer)
    (sides_shown operator kinds (body_in tables left) (body_in tables right) outer c.in_ok-above-in-SetOperation.above c.in_ok-below-in-SetOperation.below c.combined_lines.result
    c.in_ok-above-in-SetOperation.ensures c.in_ok-below-in-SetOperation.ensures c.combined_lines.ensures)
    (ap (λ (b : QueryBody). body_in tables b outer) c.in-SetOperation.is
    ∙ ap (λ g. g outer) (sides_is tables operator c.in-SetOperation.kinds c.in-SetOperation.left c.in-SetOperation.right)
    ∙ (λ i. sides_combined operator (sym c.as_slice-in-SetOperation.ensures i) (body_in tables (sym c.get-in-SetOperation.ensures i)) (body_in tables (sym c.get-in-SetOperation-2.ensures i)) outer))

-- ---- queries

pub queries::key_column-returns-in-Output : goal.queries::key_column-returns-in-Output
queries::key_column-returns-in-Output t c =
    let tables = maps_of c.args.copies.now in
    let outer = rows_around c.args.outer.now in
    let lines = c.args.lines.now in
    let at = c.in-Output.at in
    made_too c.output_column.result (λ column. column.items) (column_of lines.rows at) (map (key_in tables c.args.key.now) (lines_seen outer lines)) c.output_column.ensures
    (output_at outer lines at
    ∙ ap (λ g. map g (lines_seen outer lines)) (sym (output_is tables at))
    ∙ ap (λ (k : Key). map (key_in tables k) (lines_seen outer lines)) (sym c.in-Output.is))

pub queries::key_column-returns-in-Value : goal.queries::key_column-returns-in-Value
queries::key_column-returns-in-Value t c =
    let tables = maps_of c.args.copies.now in
    let outer = rows_around c.args.outer.now in
    let lines = c.args.lines.now in
    let a : Valued = value_in tables c.in-Value.e in
    made_too c.column.result (λ column. column.items) (map a (map key_place (lines_seen outer lines))) (map (key_in tables c.args.key.now) (lines_seen outer lines)) c.column.ensures
    (value_at_lines a (lines_seen outer lines)
    ∙ ap (λ g. map g (lines_seen outer lines)) (sym (value_key_is tables c.in-Value.e))
    ∙ ap (λ (k : Key). map (key_in tables k) (lines_seen outer lines)) (sym c.in-Value.is))

pub queries::query_rows-returns : goal.queries::query_rows-returns
queries::query_rows-returns t c =
    let tables = maps_of c.args.copies.now in
    let x = c.args.query.now in
    let outer = rows_around c.args.outer.now in
    let lines = c.in_ok-lines.lines in
    let flags = map descends c.as_slice-2.result.now in
    let keys = c.in_ok-keys.keys.items in
    given_too c.sorted.result (sorted_given (out-Query x).limit flags keys lines.rows) _ c.sorted.ensures
    (ap (λ f. f outer) (query_is tables x)
    ∙ query_sorted (query_layer tables x) outer lines flags keys c.in_ok-lines.ensures
    (ap (map descends) c.as_slice-2.ensures ∙ flags_are tables (out-Query x).order_by)
    (c.in_ok-keys.ensures ∙ ap (λ (l : List SortKey). map (keys_at (map (sort_key_in tables) l)) (lines_seen outer lines)) c.as_slice.ensures))

pub queries::sort_keys-loop-by-init : goal.queries::sort_keys-loop-by-init
queries::sort_keys-loop-by-init t c =
    c.in_ok-keys.ensures ∙ ap no_columns (c.len.ensures ∙ sym (many_seen (rows_around c.args.outer.now) c.args.lines.now))

pub queries::sort_keys-loop-by-preserved : goal.queries::sort_keys-loop-by-preserved
queries::sort_keys-loop-by-preserved t c =
    let tables = maps_of c.args.copies.now in
    let seen : List Line = lines_seen (rows_around c.args.outer.now) c.args.lines.now in
    let with_one : List RowOutcome → SortKey → List RowOutcome = λ keys by. with_column keys (map (sort_key_in tables by).key seen) in
    let none = no_columns (length seen) in
    let by = c.by-item.result in
    c.in_ok-keys-2.ensures
    ∙ (λ i. with_column (c.loop-by.invariant i) ((c.in_ok-key_column.ensures ∙ ap (λ (k : SortBy). map k.key seen) (sym (sort_key_is tables by))) i))
    ∙ ap (with_one (fold with_one none (take c.loop-by.by-index c.args.order_by.now))) c.by-item.is
    ∙ sym (fold_more with_one none c.args.order_by.now c.loop-by.by-index by c.loop-by-test.true)

pub queries::sort_keys-returns : goal.queries::sort_keys-returns
queries::sort_keys-returns t c =
    let tables = maps_of c.args.copies.now in
    let seen : List Line = lines_seen (rows_around c.args.outer.now) c.args.lines.now in
    let order_by : List SortKey = c.args.order_by.now in
    let with_one : List RowOutcome → SortKey → List RowOutcome = λ keys by. with_column keys (map (sort_key_in tables by).key seen) in
    let none = no_columns (length seen) in
    c.loop-by.invariant
    ∙ ap (fold with_one none) (take_all c.loop-by.by-index order_by (omega arith))
    ∙ sym (fold-map (λ (keys : List RowOutcome) (by : SortBy). with_column keys (map by.key seen)) (sort_key_in tables) none order_by)
    ∙ keys_all seen (map (sort_key_in tables) order_by)
