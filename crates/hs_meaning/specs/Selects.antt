-- What a SELECT means.
use Rattle.std.specs.Prelude.{ℕ, Bool, true, false, not, ◌||◌, if◌then◌else◌, List, [], ◌∷◌, ◌++◌, map, Option, Some, None, option_map, is_some}
use Rattle.std.specs.List.{enumerate_from, flat_map, list_any, filter_map}
use Rattle.hs_ast.specs.declared.expression.ColumnName.{ColumnName}
use Rattle.hs_ast.specs.declared.expression.ExpressionKind.TheOpen.{SelectItem-F}
use Rattle.hs_ast.specs.declared.word.Identifier.{Identifier}
use Rattle.hs_plan.specs.declared.expression.Expr.{Expr}
use Rattle.hs_plan.specs.declared.fault.PlacedFault.{PlacedFault}
use Rattle.hs_plan.specs.declared.kind.Kind.{Kind}
use Rattle.hs_plan.specs.declared.query.FromItem.{FromItem}
use Rattle.hs_plan.specs.declared.query.QueryBody.{QueryBody}
use Rattle.hs_plan.specs.declared.query.QueryBody.TheVariants as body
use Rattle.hs_plan.specs.declared.query.Select.{roll-Select}
use Rattle.hs_scope.specs.declared.column.OutputColumn.{OutputColumn}
use Rattle.hs_scope.specs.declared.from_table.FromTable.{FromTable}
use Rattle.hs_scope.specs.declared.sought.Sought.{Sought}
use Rattle.hs_scope.specs.declared.sought.Sought.TheVariants as sought
use Rattle.hs_scope.specs.Names.{Text, every_column, sought_in}
use Rattle.hs_typed.specs.declared.typed.Typed.{Typed}
use Rattle.hs_meaning.specs.declared.placed.PlacedColumn.{PlacedColumn}
use Rattle.hs_meaning.specs.declared.placed.Shown.{Shown}
use Rattle.hs_meaning.specs.Expressions.{all_in, condition, place_meaning}
use Rattle.hs_meaning.specs.From.{From, elements}
use Rattle.hs_meaning.specs.Layers.{BodyMeaning, ItemLayer, ItemMeaning, ItemPart, Part, SelectLayer, means}
use Rattle.hs_meaning.specs.Parts.{Meaning, known, if_written, tree_of}
use Rattle.hs_meaning.specs.Surroundings.{Surroundings, innermost, over_groups, over_rows}

-- ---- items

-- an item's output name: its alias, else its column's name, else none
abbrev pub name_by : Option ColumnName → Option Identifier → Option Text
name_by column (Some alias) = Some alias.name
name_by column None = option_map (λ c. c.column) column

-- a column of `*`, with its place among all
abbrev pub star : ℕ → Surroundings → ℕ × OutputColumn → Meaning Typed
star at s c = place_meaning at s 0 c.0 c.1.kind

abbrev pub shown_star : ℕ → Surroundings → ℕ × OutputColumn → Shown
shown_star at s c = record { at = at; name = c.1.name; part = (star at s c).part }

abbrev pub stars : ℕ → Surroundings → List (ℕ × OutputColumn) → ItemMeaning
stars at s columns = record { faults = flat_map (λ c. (star at s c).faults) columns; shown = map (shown_star at s) columns }

-- `*` stands for all columns of FROM, in order
abbrev pub every_meaning : ℕ → Surroundings → ItemMeaning
every_meaning at s = stars at s (enumerate_from 0 (every_column (innermost s.scopes)))

abbrev pub one_meaning : ℕ → Part → Option Identifier → Surroundings → ItemMeaning
one_meaning at p alias s = record { faults = (means p s).faults; shown = record { at = at; name = name_by p.form.column alias; part = (means p s).part } ∷ [] }

abbrev pub item_step : ItemLayer → ItemPart
item_step (SelectItem-F.Every at) = record { aggregate = false; item = every_meaning at }
item_step (SelectItem-F.One at p alias) = record { aggregate = p.form.aggregate; item = one_meaning at p alias }

abbrev pub items_in : Surroundings → List ItemPart → ItemMeaning
items_in s items = record { faults = flat_map (λ i. (i.item s).faults) items; shown = flat_map (λ i. (i.item s).shown) items }

-- ---- what is shown

abbrev pub kind_of : Option Typed → Option Kind
kind_of part = option_map (λ t. t.kind) part

abbrev pub placed_of : Shown → PlacedColumn
placed_of x = record { at = x.at; column = record { name = x.name; kind = kind_of x.part } }

abbrev pub columns_of : List Shown → List PlacedColumn
columns_of = map placed_of

abbrev pub trees_of : List Shown → Option (List Expr)
trees_of shown = known (map (λ x. tree_of x.part) shown)

-- ---- groups

abbrev pub place_by : Sought → Option ℕ
place_by sought.Missing = None
place_by (sought.One at kind) = Some at
place_by sought.Several = None

abbrev pub place_named : List FromTable → Option ColumnName → Option ℕ
place_named tables None = None
place_named tables (Some name) = place_by (sought_in tables name.table name.column)

-- the columns of FROM that are GROUP BY expressions, by their places
abbrev pub grouped_columns : List FromTable → List Part → List ℕ
grouped_columns tables group_by = filter_map (λ p. place_named tables p.form.column) group_by

abbrev pub is_written : {A : Type 0} → List A → Bool
is_written [] = false
is_written (x ∷ xs) = true

-- there is GROUP BY, HAVING or an aggregate among the items
abbrev pub is_grouped : SelectLayer → Bool
is_grouped x = is_written x.group_by || is_some x.having || list_any (λ i. i.aggregate) x.items

-- a column outside an aggregate must be a GROUP BY expression where rows are grouped
abbrev pub groups_in : List FromTable → SelectLayer → Option (List ℕ)
groups_in tables x = if is_grouped x then Some (grouped_columns tables x.group_by) else None

-- ---- the whole

abbrev pub condition_in : Surroundings → Option Part → Meaning (Option Typed)
condition_in s part = if_written (option_map (condition s) part)

abbrev pub plan_by : Bool → Bool → Option (List Expr) → Option (List FromItem) → Option (Option Typed) → Option (List Typed) → Option (Option Typed) → Option QueryBody
plan_by distinct grouped (Some items) (Some from) (Some condition) (Some group_by) (Some having) =
    Some (body.Select (roll-Select (record {
      distinct = distinct;
      items = items;
      from = from;
      filter = tree_of condition;
      grouped = grouped;
      group_by = map (λ t. t.tree) group_by;
      having = tree_of having;
    })))
plan_by distinct grouped _ _ _ _ _ = None

-- after DISTINCT and groups a key of ORDER BY is an output column; else it may be an expression over FROM
abbrev pub select_by : Bool → Bool → Option (List FromItem) → Meaning (Option Typed) → Meaning (List Typed) → Meaning (Option Typed) → ItemMeaning → Surroundings → BodyMeaning
select_by distinct grouped from condition group_by having items keys = record {
  faults = condition.faults ++ group_by.faults ++ having.faults ++ items.faults;
  columns = columns_of items.shown;
  plan = plan_by distinct grouped (trees_of items.shown) from condition.part group_by.part having.part;
  plain = not (distinct || grouped);
  keys = keys;
}

-- WHERE and GROUP BY are over the rows of FROM, HAVING and the items over its groups
abbrev pub select_over : SelectLayer → Surroundings → List FromTable → Option (List FromItem) → BodyMeaning
select_over x s tables from =
    let rows : Surroundings = over_rows tables s in
    let groups : Surroundings = over_groups tables (groups_in tables x) s in
    select_by x.distinct (is_grouped x) from (condition_in rows x.filter) (all_in rows x.group_by) (condition_in groups x.having) (items_in groups x.items) rows

-- a body behind faults that come before its own
abbrev pub behind : List PlacedFault → BodyMeaning → BodyMeaning
behind faults b = record { faults = faults ++ b.faults; columns = b.columns; plan = b.plan; plain = b.plain; keys = b.keys }

abbrev pub select_step : SelectLayer → Surroundings → BodyMeaning
select_step x s =
    let from : From = elements s [] x.from in
    behind from.faults (select_over x s from.tables (known from.items))
