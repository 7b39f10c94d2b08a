-- What a FROM means: its tables from the left, each with the faults of its query or its ON.
use Rattle.std.specs.Prelude.{ℕ, Bool, ◌||◌, if◌then◌else◌, List, [], ◌∷◌, ◌++◌, length, map, Option, Some, None, option_map}
use Rattle.hs_ast.specs.declared.expression.ExpressionKind.TheOpen.{Join-F, TableReference-F}
use Rattle.hs_ast.specs.declared.word.Identifier.{Identifier}
use Rattle.hs_plan.specs.declared.expression.Expr.{Expr}
use Rattle.hs_plan.specs.declared.fault.Cause.TheVariants as cause
use Rattle.hs_plan.specs.declared.fault.PlacedFault.{PlacedFault}
use Rattle.hs_plan.specs.declared.query.FromItem.{FromItem, roll-FromItem}
use Rattle.hs_plan.specs.declared.query.Join.{Join}
use Rattle.hs_plan.specs.declared.query.Join.TheVariants as j
use Rattle.hs_plan.specs.declared.query.Source.{Source}
use Rattle.hs_plan.specs.declared.query.Source.TheVariants as source
use Rattle.hs_schema.specs.declared.table.Table.{Table}
use Rattle.hs_schema.specs.Catalogue.{Things, table_named}
use Rattle.hs_scope.specs.declared.from_table.FromTable.{FromTable}
use Rattle.hs_scope.specs.Names.{column_of, is_offered}
use Rattle.hs_typed.specs.Faults.{fault_at}
use Rattle.hs_meaning.specs.Expressions.{condition}
use Rattle.hs_meaning.specs.Layers.{ElementLayer, ElementPart, JoinLayer, JoinPart, Part, QueryMeaning, TableLayer, TableMeaning, TablePart}
use Rattle.hs_meaning.specs.Parts.{Meaning, known, tree_of}
use Rattle.hs_meaning.specs.Surroundings.{Surroundings, over_rows}

-- ---- tables

-- an alias alone names the table, where there is one
abbrev pub shown_name : Identifier → Option Identifier → Identifier
shown_name name None = name
shown_name name (Some alias) = alias

-- of a table that isn't there no column is known
abbrev pub named_meaning : Identifier → Option Table → TableMeaning
named_meaning name None = record { faults = fault_at name.at (cause.NoSuchTable name.name); columns = []; source = None }
named_meaning name (Some table) = record { faults = []; columns = map column_of table.columns; source = Some (source.Table table.number (length table.columns)) }

abbrev pub derived_meaning : QueryMeaning → TableMeaning
derived_meaning q = record { faults = q.faults; columns = map (λ c. c.column) q.columns; source = option_map (λ plan. source.Derived plan (length q.columns)) q.plan }

-- a query in FROM doesn't see the tables beside it
abbrev pub table_step : Things → TableLayer → TablePart
table_step things (TableReference-F.Named name alias) = record { name = shown_name name alias; table = λ s. named_meaning name (table_named things name.name) }
table_step things (TableReference-F.Derived query alias) = record { name = alias; table = λ s. derived_meaning (query s) }

-- ---- joins

abbrev pub joined_by : (Source → Expr → Join) → Option Source → Option Expr → Option Join
joined_by join (Some source) (Some on) = Some (join source on)
joined_by join (Some source) None = None
joined_by join None on = None

abbrev pub on_meaning : (Source → Expr → Join) → Part → Surroundings → Option Source → Meaning Join
on_meaning join on s source = record { faults = (condition s on).faults; part = joined_by join source (tree_of (condition s on).part) }

abbrev pub cross_meaning : Surroundings → Option Source → Meaning Join
cross_meaning s source = record { faults = []; part = option_map j.Cross source }

abbrev pub join_step : JoinLayer → JoinPart
join_step (Join-F.Inner table on) = record { table = table; join = on_meaning j.Inner on }
join_step (Join-F.Left table on) = record { table = table; join = on_meaning j.Left on }
join_step (Join-F.Cross table) = record { table = table; join = cross_meaning }

-- ---- one element: a table and what is joined to it

-- two tables of one FROM have the same name
abbrev pub doubled : List FromTable → List FromTable → Identifier → List PlacedFault
doubled before own name = if is_offered before name.name || is_offered own name.name then fault_at name.at (cause.Ambiguous name.name) else []

-- the faults of a table behind the elements before it and the tables before it in its own
abbrev pub entry_faults : Surroundings → List FromTable → List FromTable → TablePart → List PlacedFault
entry_faults s before own t = (t.table s).faults ++ doubled before own t.name

abbrev pub entered : Surroundings → List FromTable → TablePart → List FromTable
entered s own t = own ++ record { name = t.name.name; columns = (t.table s).columns } ∷ []

pub record Joined : Type 0 where
  pub faults : List PlacedFault
  pub tables : List FromTable
  pub joins : List (Option Join)

-- ON sees those tables of its own element that stand before it
abbrev pub on_of : Surroundings → List FromTable → JoinPart → Meaning Join
on_of s own join = join.join (over_rows (entered s own join.table) s) (join.table.table s).source

abbrev pub joined : Surroundings → List FromTable → List FromTable → List JoinPart → Joined
joined s before own [] = record { faults = []; tables = own; joins = [] }
joined s before own (join ∷ more) =
    let rest : Joined = joined s before (entered s own join.table) more in
    record {
      faults = entry_faults s before own join.table ++ (on_of s own join).faults ++ rest.faults;
      tables = rest.tables;
      joins = (on_of s own join).part ∷ rest.joins;
    }

pub record Element : Type 0 where
  pub faults : List PlacedFault
  pub tables : List FromTable
  pub item : Option FromItem

abbrev pub item_by : Option Source → Option (List Join) → Option FromItem
item_by (Some source) (Some joins) = Some (roll-FromItem (record { source = source; joins = joins }))
item_by (Some source) None = None
item_by None joins = None

abbrev pub element : Surroundings → List FromTable → ElementPart → Element
element s before x =
    let rest : Joined = joined s before (entered s [] x.table) x.joins in
    record {
      faults = entry_faults s before [] x.table ++ rest.faults;
      tables = rest.tables;
      item = item_by (x.table.table s).source (known rest.joins);
    }

abbrev pub element_step : ElementLayer → ElementPart
element_step x = record { table = x.table; joins = x.joins }

-- ---- the whole

pub record From : Type 0 where
  pub faults : List PlacedFault
  -- all tables, from the left
  pub tables : List FromTable
  pub items : List (Option FromItem)

-- the elements behind these tables
abbrev pub elements : Surroundings → List FromTable → List ElementPart → From
elements s before [] = record { faults = []; tables = before; items = [] }
elements s before (x ∷ more) =
    let rest : From = elements s (before ++ (element s before x).tables) more in
    record {
      faults = (element s before x).faults ++ rest.faults;
      tables = rest.tables;
      items = (element s before x).item ∷ rest.items;
    }
