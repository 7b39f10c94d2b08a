-- A SELECT whose parts are found one after another.
use Rattle.std.proofs.Common.{◌≡◌, Bool, not, ◌||◌, if◌then◌else◌, ℕ, List, [], map, Option, Some, None, Result, Ok, Err, IfOk, sym, ap, ◌∙◌, subst}
use Rattle.hs_ast.specs.declared.query.FromItem.{FromItem as Element}
use Rattle.hs_ast.specs.declared.query.Select.{Select, out-Select}
use Rattle.hs_base.specs.declared.no_memory.NoMemory.{NoMemory}
use Rattle.hs_clauses.specs.declared.bound.BoundBody.{BoundBody}
use Rattle.hs_clauses.specs.declared.bound.KeysOver.{KeysOver}
use Rattle.hs_clauses.specs.declared.bound.KeysOver.TheVariants as over
use Rattle.hs_clauses.specs.Bound.{FindsBody, keys_in}
use Rattle.hs_meaning.specs.declared.placed.Shown.{Shown}
use Rattle.hs_meaning.specs.Expressions.{all_in}
use Rattle.hs_meaning.specs.From.{From, elements}
use Rattle.hs_meaning.specs.Layers.{BodyPart, SelectLayer}
use Rattle.hs_meaning.specs.Parts.{known}
use Rattle.hs_meaning.specs.Selects.{columns_of, condition_in, grouped_columns, groups_in, is_grouped, items_in, plan_by, select_over, trees_of}
use Rattle.hs_meaning.specs.Surroundings.{Surroundings, over_groups, over_rows}
use Rattle.hs_meaning.specs.Trees.{element_of, layer_of, select_of}
use Rattle.hs_plan.specs.declared.query.FromItem.{FromItem}
use Rattle.hs_schema.specs.Catalogue.{Things}
use Rattle.hs_scope.specs.declared.from_table.FromTable.{FromTable}
use Rattle.hs_meaning.specs.Finding.{Least}
use Rattle.hs_typed.specs.declared.typed.Typed.{Typed}
use Rattle.hs_typed.specs.Faults.{noted}
use Rattle.hs_resolve.proofs.Layers.{select_is}
use Rattle.hs_resolve.proofs.Noting.{body_behind, four_noted}

-- what was found of the parts, in their surroundings
pub record Parts (x : SelectLayer) (s : Surroundings) (tables : List FromTable) : Type 0 where
  pub grouped : Bool
  pub places : Option (List ℕ)
  pub rows : Surroundings
  pub groups : Surroundings
  pub condition : Option (Option Typed)
  pub group_by : Option (List Typed)
  pub having : Option (Option Typed)
  pub shown : List Shown
  pub by_grouped : grouped ≡ is_grouped x
  pub by_places : places ≡ (if grouped then Some (grouped_columns tables x.group_by) else None)
  pub by_rows : rows ≡ over_rows tables s
  pub by_groups : groups ≡ over_groups tables places s
  pub by_condition : condition ≡ (condition_in rows x.filter).part
  pub by_group_by : group_by ≡ (all_in rows x.group_by).part
  pub by_having : having ≡ (condition_in groups x.having).part
  pub by_shown : shown ≡ (items_in groups x.items).shown

module _ (x : SelectLayer) (s : Surroundings) (tables : List FromTable) where
  abbrev over_all : Surroundings
  over_all = over_rows tables s

  abbrev over_own : Surroundings
  over_own = over_groups tables (groups_in tables x) s

  groups_are : (p : Parts x s tables) → p.groups ≡ over_own
  groups_are p = p.by_groups ∙ ap (λ (l : Option (List ℕ)). over_groups tables l s) (p.by_places ∙ ap (λ (g : Bool). if g then Some (grouped_columns tables x.group_by) else None) p.by_grouped)

  condition_is : (p : Parts x s tables) → p.condition ≡ (condition_in over_all x.filter).part
  condition_is p = p.by_condition ∙ ap (λ (r : Surroundings). (condition_in r x.filter).part) p.by_rows

  group_by_is : (p : Parts x s tables) → p.group_by ≡ (all_in over_all x.group_by).part
  group_by_is p = p.by_group_by ∙ ap (λ (r : Surroundings). (all_in r x.group_by).part) p.by_rows

  having_is : (p : Parts x s tables) → p.having ≡ (condition_in over_own x.having).part
  having_is p = p.by_having ∙ ap (λ (g : Surroundings). (condition_in g x.having).part) (groups_are p)

  shown_is : (p : Parts x s tables) → p.shown ≡ (items_in over_own x.items).shown
  shown_is p = p.by_shown ∙ ap (λ (g : Surroundings). (items_in g x.items).shown) (groups_are p)

  pub columns_found : (p : Parts x s tables) → columns_of p.shown ≡ columns_of (items_in over_own x.items).shown
  columns_found p = ap columns_of (shown_is p)

  pub plan_found : (p : Parts x s tables) (from : Option (List FromItem)) → plan_by x.distinct p.grouped (trees_of p.shown) from p.condition p.group_by p.having ≡ (select_over x s tables from).plan
  plan_found p from =
      ap (λ (g : Bool). plan_by x.distinct g (trees_of p.shown) from p.condition p.group_by p.having) p.by_grouped
      ∙ ap (λ (l : List Shown). plan_by x.distinct (is_grouped x) (trees_of l) from p.condition p.group_by p.having) (shown_is p)
      ∙ ap (λ (c : Option (Option Typed)). plan_by x.distinct (is_grouped x) (trees_of (items_in over_own x.items).shown) from c p.group_by p.having) (condition_is p)
      ∙ ap (λ (g : Option (List Typed)). plan_by x.distinct (is_grouped x) (trees_of (items_in over_own x.items).shown) from (condition_in over_all x.filter).part g p.having) (group_by_is p)
      ∙ ap (λ (h : Option (Option Typed)). plan_by x.distinct (is_grouped x) (trees_of (items_in over_own x.items).shown) from (condition_in over_all x.filter).part (all_in over_all x.group_by).part h) (having_is p)

  pub faults_found : (p : Parts x s tables) (from : Option (List FromItem)) (f0 f1 f2 f3 f4 : Least)
      → f1 ≡ noted f0 (condition_in p.rows x.filter).faults → f2 ≡ noted f1 (all_in p.rows x.group_by).faults → f3 ≡ noted f2 (condition_in p.groups x.having).faults → f4 ≡ noted f3 (items_in p.groups x.items).faults
      → f4 ≡ noted f0 (select_over x s tables from).faults
  faults_found p from f0 f1 f2 f3 f4 first second third fourth =
      four_noted f0 f1 f2 f3 f4 (condition_in over_all x.filter).faults (all_in over_all x.group_by).faults (condition_in over_own x.having).faults (items_in over_own x.items).faults
      (first ∙ ap (λ (r : Surroundings). noted f0 (condition_in r x.filter).faults) p.by_rows)
      (second ∙ ap (λ (r : Surroundings). noted f1 (all_in r x.group_by).faults) p.by_rows)
      (third ∙ ap (λ (g : Surroundings). noted f2 (condition_in g x.having).faults) (groups_are p))
      (fourth ∙ ap (λ (g : Surroundings). noted f3 (items_in g x.items).faults) (groups_are p))

  -- the whole, from what its parts give
  pub over_found : (p : Parts x s tables) (from : Option (List FromItem)) (f0 f4 : Least) (result : Result BoundBody NoMemory)
      → f4 ≡ noted f0 (select_over x s tables from).faults
      → IfOk result (λ b. b.columns.items ≡ columns_of p.shown)
      → IfOk result (λ b. b.plan ≡ plan_by x.distinct p.grouped (trees_of p.shown) from p.condition p.group_by p.having)
      → IfOk result (λ b. b.plain ≡ not (x.distinct || p.grouped))
      → IfOk result (λ b. b.over ≡ over.Rows tables)
      → FindsBody (select_over x s tables from) s f0 f4 result
  over_found p from f0 f4 (Ok b) faults columns plan plain keys = (
    columns ∙ columns_found p,
    plan ∙ plan_found p from,
    plain ∙ ap (λ (g : Bool). not (x.distinct || g)) p.by_grouped,
    ap (λ (o : KeysOver). keys_in o s) keys,
    faults,
  )
  over_found p from f0 f4 (Err e) faults columns plan plain keys = tt

-- behind its FROM
pub whole_found : (things : Things) (select : Select) (s : Surroundings) (list : List Element) (tables : List FromTable) (items : Option (List FromItem)) (f0 f1 f2 : Least) (result : Result BoundBody NoMemory)
    → list ≡ (out-Select select).from
    → tables ≡ (elements s [] (map (element_of things) list)).tables
    → items ≡ known (elements s [] (map (element_of things) list)).items
    → f1 ≡ noted f0 (elements s [] (map (element_of things) list)).faults
    → FindsBody (select_over (layer_of things select) s tables items) s f1 f2 result
    → FindsBody (select_of things select s) s f0 f2 result
whole_found things select s list tables items f0 f1 f2 result same are_tables are_items first found =
    let x : SelectLayer = layer_of things select in
    let from : From = elements s [] x.from in
    let is : elements s [] (map (element_of things) list) ≡ from = ap (λ (l : List Element). elements s [] (map (element_of things) l)) same in
    let over_tables : FindsBody (select_over x s from.tables items) s f1 f2 result =
    subst (λ (l : List FromTable). FindsBody (select_over x s l items) s f1 f2 result) (are_tables ∙ ap (λ (m : From). m.tables) is) found in
    let over_items : FindsBody (select_over x s from.tables (known from.items)) s f1 f2 result =
    subst (λ (l : Option (List FromItem)). FindsBody (select_over x s from.tables l) s f1 f2 result) (are_items ∙ ap (λ (m : From). known m.items) is) over_tables in
    subst (λ (b : BodyPart). FindsBody (b s) s f0 f2 result) (sym (select_is things select))
    (body_behind (select_over x s from.tables (known from.items)) s from.faults f0 f1 f2 result (first ∙ ap (λ (m : From). noted f0 m.faults) is) over_items)
