use Rattle.std.proofs.Common.{◌≡◌, ℕ, if◌then◌else◌, List, map, Option, Some, None, Bor, sym, ap, ◌∙◌}
use Rattle.std.specs.Option.{option_map}
use Rattle.hs_ast.specs.declared.expression.Expression.{Expression}
use Rattle.hs_ast.specs.declared.query.SelectItem.{SelectItem}
use Rattle.hs_clauses.specs.declared.bound.BoundFrom.{BoundFrom}
use Rattle.hs_meaning.specs.Expressions.{all_in}
use Rattle.hs_meaning.specs.Layers.{SelectLayer, means}
use Rattle.hs_meaning.specs.Parts.{Meaning}
use Rattle.hs_meaning.specs.Selects.{grouped_columns, items_in}
use Rattle.hs_meaning.specs.Surroundings.{Surroundings, in_aggregate, over_groups, over_rows}
use Rattle.hs_meaning.specs.Trees.{item_of, layer_of, part_of, row_of}
use Rattle.hs_meaning.specs.Around.{seen}
use Rattle.hs_typed.specs.declared.typed.Typed.{Typed}
use Rattle.hs_typed.specs.Faults.{noted}
use Rattle.hs_resolve.proofs.Concluded.{aggregate_found}
use Rattle.hs_resolve.proofs.Selecting.{Parts, faults_found, over_found, whole_found}
use Rattle.hs_resolve.proofs.Uneven.{uneven_found}
use Rattle.hs_resolve.proofs.+binding.Goals as goal

pub expressions::bind_aggregate-returns : goal.expressions::bind_aggregate-returns
expressions::bind_aggregate-returns t c =
    let things = c.args.catalog.now in
    let s = seen c.args.around.now in
    let f0 = c.args.faults.now in
    let m : Meaning Typed = means (part_of things c.args.e.now) (in_aggregate s) in
    let same : means (part_of things c.args.e.now) (seen c.in_aggregate-inside.result) ≡ m = ap (λ (r : Surroundings). means (part_of things c.args.e.now) r) c.in_aggregate-inside.ensures in
    aggregate_found c.args.function c.args.distinct c.args.at s m c.in_ok-a.a f0 c.bind_expression.new.faults c.aggregate.new.faults c.aggregate.result
    (c.in_ok-a.ensures.0 ∙ ap (λ (x : Meaning Typed). x.part) same)
    (c.in_ok-a.ensures.1 ∙ ap (λ (x : Meaning Typed). noted f0 x.faults) same)
    c.aggregate.ensures.found

pub select::bind_over-returns : goal.select::bind_over-returns
select::bind_over-returns t c =
    let things = c.args.catalog.now in
    let select = c.args.select.now in
    let s = seen c.args.around.now in
    let tables = c.args.from.tables in
    let x : SelectLayer = layer_of things select in
    let rows = seen c.over_rows-rows.result in
    let groups = seen c.over_groups-groups.result in
    let f0 = c.args.faults.now in
    let f1 = c.bind_if_written.new.faults in
    let f2 = c.bind_all.new.faults in
    let f3 = c.bind_if_written-2.new.faults in
    let f4 = c.bind_items.new.faults in
    let grouped = c.is_grouped-grouped.result in
    let found : Parts x s tables = record {
      grouped = grouped;
      places = c.in_ok-places.places;
      rows = rows;
      groups = groups;
      condition = c.in_ok-condition.condition;
      group_by = option_map (λ l. l.items) c.in_ok-group_by.group_by;
      having = c.in_ok-having.having;
      shown = c.in_ok-shown.shown.items;
      by_grouped = c.is_grouped-grouped.ensures;
      by_places =
          c.in_ok-places.ensures
          ∙ ap (λ (b : BoundFrom). if grouped then Some (grouped_columns b.tables (map (part_of things) c.as_slice.result.now)) else None) c.get.ensures
          ∙ ap (λ (l : List Expression). if grouped then Some (grouped_columns tables (map (part_of things) l)) else None) c.as_slice.ensures;
      by_rows = c.over_rows-rows.ensures ∙ ap (λ (b : BoundFrom). over_rows b.tables s) c.get-2.ensures;
      by_groups =
          c.over_groups-groups.ensures
          ∙ ap (λ (b : BoundFrom). over_groups b.tables (option_map (λ (p : Bor (List ℕ)). p.now) c.lent.result) s) c.get-3.ensures
          ∙ ap (λ (l : Option (List ℕ)). over_groups tables l s) c.lent.ensures;
      by_condition = c.in_ok-condition.ensures.0;
      by_group_by = c.in_ok-group_by.ensures.0 ∙ ap (λ (l : List Expression). (all_in rows (map (part_of things) l)).part) c.as_slice-2.ensures;
      by_having = c.in_ok-having.ensures.0;
      by_shown = c.in_ok-shown.ensures.0 ∙ ap (λ (l : List SelectItem). (items_in groups (map (item_of things) l)).shown) c.as_slice-3.ensures;
    } in
    over_found x s tables found c.args.from.items f0 f4 c.selected.result
    (faults_found x s tables found c.args.from.items f0 f1 f2 f3 f4
    c.in_ok-condition.ensures.1
    (c.in_ok-group_by.ensures.1 ∙ ap (λ (l : List Expression). noted f1 (all_in rows (map (part_of things) l)).faults) c.as_slice-2.ensures)
    c.in_ok-having.ensures.1
    (c.in_ok-shown.ensures.1 ∙ ap (λ (l : List SelectItem). noted f3 (items_in groups (map (item_of things) l)).faults) c.as_slice-3.ensures))
    c.selected.ensures.columns c.selected.ensures.plan c.selected.ensures.plain c.selected.ensures.over

pub select::bind_select-returns : goal.select::bind_select-returns
select::bind_select-returns t c =
    let found = c.in_ok-from.ensures in
    whole_found c.args.catalog.now c.args.select.now (seen c.args.around.now) c.as_slice.result.now c.in_ok-from.from.tables c.in_ok-from.from.items
    c.args.faults.now c.bind_from.new.faults c.bind_over.new.faults c.bind_over.result c.as_slice.ensures found.0 found.1 found.2 c.bind_over.ensures

pub values::bind_values-returns : goal.values::bind_values-returns
values::bind_values-returns t c =
    uneven_found (map (row_of c.args.catalog.now) c.args.rows.now) (seen c.args.around.now) (seen c.in_values-inside.result)
    c.args.faults.now c.note_uneven.new.faults c.note_rows.new.faults c.uneven_values.result
    (sym c.are_even.ensures ∙ c.if-are_even.false) c.in_values-inside.ensures c.note_uneven.ensures c.in_ok-note_rows.ensures
    c.uneven_values.ensures.columns c.uneven_values.ensures.plan c.uneven_values.ensures.plain c.uneven_values.ensures.over
