-- What the layers of a FROM mean is known where there is no fault, and then so are their columns.
use Rattle.std.proofs.Common.{◌≡◌, List, [], ◌∷◌, ◌++◌, length, Option, Some, None}
use Rattle.hs_ast.specs.declared.word.Identifier.{Identifier}
use Rattle.hs_statements.proofs.KnownExpressions.{OnExpression, condition_met}
use Rattle.hs_statements.proofs.KnownParts.{AllKnown, Each, IsKnown, IsMet, all_known, each_append, each_map, each_of, known_map, left_none, right_none, some_fault}
use Rattle.hs_statements.proofs.SeenColumns.{AreSeen, IsKind, IsSeen, IsTableSeen}
use Rattle.hs_meaning.specs.Expressions.{condition}
use Rattle.hs_meaning.specs.From.{Element, From, Joined, cross_meaning, derived_meaning, doubled, element, elements, entered, entry_faults, item_by, joined, joined_by, named_meaning, on_meaning, on_of}
use Rattle.hs_meaning.specs.Layers.{ElementPart, JoinPart, Part, QueryMeaning, TableMeaning, TablePart}
use Rattle.hs_meaning.specs.Parts.{known, tree_of}
use Rattle.hs_meaning.specs.Surroundings.{Surroundings, over_rows}
use Rattle.hs_plan.specs.declared.expression.Expr.{Expr}
use Rattle.hs_plan.specs.declared.fault.Cause.TheVariants as cause
use Rattle.hs_plan.specs.declared.query.Join.{Join}
use Rattle.hs_plan.specs.declared.query.Join.TheVariants as j
use Rattle.hs_plan.specs.declared.query.Source.{Source}
use Rattle.hs_plan.specs.declared.query.Source.TheVariants as source
use Rattle.hs_schema.specs.declared.table.Table.{Table}
use Rattle.hs_scope.specs.Names.{column_of}
use Rattle.hs_scope.specs.declared.from_table.FromTable.{FromTable}
use Rattle.hs_statements.proofs.KnownExpressions.{IsQueryKnown}

-- ---- tables

pub record IsTableKnown (t : TableMeaning) : Type 0 where
  pub source : IsKnown t.source
  pub columns : Each IsKind t.columns

abbrev pub OnTable : TablePart → Type 0
OnTable t = (s : Surroundings) → IsSeen s → (t.table s).faults ≡ [] → IsTableKnown (t.table s)

pub named_known : (name : Identifier) (o : Option Table) → (named_meaning name o).faults ≡ [] → IsTableKnown (named_meaning name o)
named_known name None none = absurd (some_fault name.at (cause.NoSuchTable name.name) none)
named_known name (Some table) none = record { source = tt; columns = each_map IsKind column_of table.columns (each_of (λ c. IsKind (column_of c)) table.columns (λ c. tt)) }

pub derived_known : (q : QueryMeaning) → IsQueryKnown q → IsTableKnown (derived_meaning q)
derived_known q h = record { source = known_map (λ plan. source.Derived plan (length q.columns)) q.plan h.plan; columns = each_map IsKind (λ c. c.column) q.columns h.columns }

-- ---- joins

pub record OnJoin (join : JoinPart) : Type 0 where
  pub table : OnTable join.table
  pub on : (s : Surroundings) (source : Option Source) → IsSeen s → IsKnown source → IsMet (join.join s source)

joined_known : (join : Source → Expr → Join) (source : Option Source) (on : Option Expr) → IsKnown source → IsKnown on → IsKnown (joined_by join source on)
joined_known join (Some source) (Some on) h k = tt
joined_known join (Some source) None h k = absurd k
joined_known join None on h k = absurd h

pub on_met : (join : Source → Expr → Join) (on : Part) (s : Surroundings) (source : Option Source) → OnExpression on → IsSeen s → IsKnown source → IsMet (on_meaning join on s source)
on_met join on s source h seen known_source = λ none.
    joined_known join source (tree_of (condition s on).part) known_source (known_map (λ t. t.tree) (condition s on).part (condition_met s on seen h none))

pub cross_met : (s : Surroundings) (source : Option Source) → IsKnown source → IsMet (cross_meaning s source)
cross_met s source h = λ none. known_map j.Cross source h

-- ---- elements

pub record AreJoined (r : Joined) : Type 0 where
  pub tables : AreSeen r.tables
  pub joins : AllKnown r.joins

abbrev entry : TableMeaning → Identifier → FromTable
entry t name = record { name = name.name; columns = t.columns }

joined_met : (s : Surroundings) (before own : List FromTable) (joins : List JoinPart) → IsSeen s → AreSeen own → Each OnJoin joins → (joined s before own joins).faults ≡ [] → AreJoined (joined s before own joins)
joined_met s before own [] seen own_seen h none = record { tables = own_seen; joins = tt }
joined_met s before own (join ∷ more) seen own_seen h none =
    let first = entry_faults s before own join.table in
    let on = on_of s own join in
    let rest = joined s before (entered s own join.table) more in
    let two : first ++ on.faults ≡ [] = left_none (first ++ on.faults) rest.faults none in
    let its_table = join.table.table s in
    let table = h.0.table s seen (left_none its_table.faults (doubled before own join.table.name) (left_none first on.faults two)) in
    let more_seen : AreSeen (entered s own join.table) = each_append IsTableSeen own (entry its_table join.table.name ∷ []) own_seen (table.columns, tt) in
    let condition = h.0.on (over_rows (entered s own join.table) s) its_table.source (more_seen, seen) table.source (right_none first on.faults two) in
    let others = joined_met s before (entered s own join.table) more seen more_seen h.1 (right_none (first ++ on.faults) rest.faults none) in
    record { tables = others.tables; joins = (condition, others.joins) }

pub record OnElement (x : ElementPart) : Type 0 where
  pub table : OnTable x.table
  pub joins : Each OnJoin x.joins

pub record IsElementKnown (r : Element) : Type 0 where
  pub tables : AreSeen r.tables
  pub item : IsKnown r.item

item_known : (source : Option Source) (joins : Option (List Join)) → IsKnown source → IsKnown joins → IsKnown (item_by source joins)
item_known (Some source) (Some joins) h k = tt
item_known (Some source) None h k = absurd k
item_known None joins h k = absurd h

element_met : (s : Surroundings) (before : List FromTable) (x : ElementPart) → IsSeen s → OnElement x → (element s before x).faults ≡ [] → IsElementKnown (element s before x)
element_met s before x seen h none =
    let first = entry_faults s before [] x.table in
    let rest = joined s before (entered s [] x.table) x.joins in
    let its_table = x.table.table s in
    let table = h.table s seen (left_none its_table.faults (doubled before [] x.table.name) (left_none first rest.faults none)) in
    let others = joined_met s before (entered s [] x.table) x.joins seen (table.columns, tt) h.joins (right_none first rest.faults none) in
    record { tables = others.tables; item = item_known its_table.source (known rest.joins) table.source (all_known rest.joins others.joins) }

pub record IsFromKnown (r : From) : Type 0 where
  pub tables : AreSeen r.tables
  pub items : AllKnown r.items

pub elements_met : (s : Surroundings) (before : List FromTable) (xs : List ElementPart) → IsSeen s → AreSeen before → Each OnElement xs → (elements s before xs).faults ≡ [] → IsFromKnown (elements s before xs)
elements_met s before [] seen before_seen h none = record { tables = before_seen; items = tt }
elements_met s before (x ∷ more) seen before_seen h none =
    let first = element s before x in
    let rest = elements s (before ++ first.tables) more in
    let its = element_met s before x seen h.0 (left_none first.faults rest.faults none) in
    let others = elements_met s (before ++ first.tables) more seen (each_append IsTableSeen before first.tables before_seen its.tables) h.1 (right_none first.faults rest.faults none) in
    record { tables = others.tables; items = (its.item, others.items) }
