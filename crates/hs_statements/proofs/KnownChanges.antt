-- What INSERT, UPDATE, DELETE and LOCK TABLE mean is known where there is no fault.
use Rattle.std.proofs.Common.{◌≡◌, ℕ, ◌==◌, List, [], ◌∷◌, ◌++◌, length, map, Option, Some, None}
use Rattle.hs_ast.specs.declared.change.Assignment.{Assignment as WrittenAssignment}
use Rattle.hs_ast.specs.declared.change.Delete.{Delete as WrittenDelete}
use Rattle.hs_ast.specs.declared.change.Insert.{Insert as WrittenInsert}
use Rattle.hs_ast.specs.declared.change.InsertSource.{InsertSource as WrittenSource}
use Rattle.hs_ast.specs.declared.change.InsertSource.TheVariants as from
use Rattle.hs_ast.specs.declared.change.LockedTable.{LockedTable as WrittenLock}
use Rattle.hs_ast.specs.declared.change.NewValue.{NewValue as WrittenValue}
use Rattle.hs_ast.specs.declared.change.NewValue.TheVariants as written
use Rattle.hs_ast.specs.declared.change.Update.{Update as WrittenUpdate}
use Rattle.hs_ast.specs.declared.expression.Expression.{Expression}
use Rattle.hs_ast.specs.declared.word.Identifier.{Identifier}
use Rattle.hs_base.specs.declared.numbers.TableNo.{TableNo}
use Rattle.hs_statements.proofs.BrokenRules.{assigned_ruled}
use Rattle.hs_statements.proofs.KnownExpressions.{condition_met}
use Rattle.hs_statements.proofs.KnownNames.{each_place, places_known}
use Rattle.hs_statements.proofs.KnownParts.{Each, IsKnown, IsMet, all_met, by_one_met, each_before_map, each_map, each_of, each_to, if_met, if_written_met, known_map, left_none, no_cons, right_none, some_fault}
use Rattle.hs_statements.proofs.KnownTrees.{expression_known, query_known}
use Rattle.hs_statements.proofs.SeenColumns.{AreSeen, IsKind, IsSeen}
use Rattle.hs_elements.specs.Columns.{TypedNames, place_in, typed_as, unknown as not_there}
use Rattle.hs_elements.specs.Faults.{no_such_table_at, repeated}
use Rattle.hs_meaning.specs.Layers.{QueryMeaning, means}
use Rattle.hs_meaning.specs.Parts.{Meaning, all, tree_in}
use Rattle.hs_meaning.specs.Queries.{uneven}
use Rattle.hs_meaning.specs.Statements.{condition_meaning, over, query_meaning}
use Rattle.hs_meaning.specs.Surroundings.{outermost}
use Rattle.hs_meaning.specs.Trees.{part_of}
use Rattle.hs_plan.specs.declared.expression.Expr.{Expr}
use Rattle.hs_plan.specs.declared.fault.Cause.TheVariants as cause
use Rattle.hs_plan.specs.declared.plan.Assignment.{Assignment}
use Rattle.hs_plan.specs.declared.plan.InsertSource.{InsertSource}
use Rattle.hs_plan.specs.declared.plan.InsertSource.TheVariants as source
use Rattle.hs_plan.specs.declared.plan.NewValue.{NewValue}
use Rattle.hs_plan.specs.declared.plan.NewValue.TheVariants as new
use Rattle.hs_schema.specs.Catalogue.{Things, table_named}
use Rattle.hs_schema.specs.declared.table.Table.{Table}
use Rattle.hs_scope.specs.Names.{column_of}
use Rattle.hs_scope.specs.declared.from_table.FromTable.{FromTable}
use Rattle.hs_typed.specs.Rules.{assigned_typed}
use Rattle.hs_typed.specs.declared.typed.Typed.{Typed}
use Rattle.hs_values.specs.declared.sql_type.SqlType.{SqlType}
use Rattle.hs_writing.specs.Statements.{assignment_by, assignment_meaning, assignments_meaning, columns_set, delete_from, delete_meaning, filter_meaning, insert_by, insert_into, insert_meaning, lock_meaning, locked, locks_meaning, misnamed, on_table, update_by, update_meaning, update_of}
use Rattle.hs_writing.specs.Targets.{Types, names_of, places_of, table_as, types_of}
use Rattle.hs_writing.specs.Values.{expression_for, mismatches, rows_of_query, source_meaning, tuple_meaning, tuples_meaning, unpaired, value_for, values_below}

-- ---- what a statement sees

pub over_seen : (tables : List FromTable) → AreSeen tables → IsSeen (over tables)
over_seen tables h = (h, tt)

pub table_seen : (t : Table) (name : Identifier) (alias : Option Identifier) → AreSeen (table_as t name alias ∷ [])
table_seen t name alias = (each_map IsKind column_of t.columns (each_of (λ c. IsKind (column_of c)) t.columns (λ c. tt)), tt)

on_table_met : {A : Type 0} (name : Identifier) (o : Option Table) (means : Table → Meaning A) → ((t : Table) → IsMet (means t)) → IsMet (on_table name o means)
on_table_met name (Some t) means h = h t
on_table_met name None means h = λ none. absurd (no_cons (no_such_table_at name) [] none)

-- ---- values

expression_met : (things : Things) (tables : List FromTable) (column : Option SqlType) (e : Expression) → AreSeen tables → IsMet (expression_for things tables column e)
unfolding expression_for
expression_met things tables (Some column) e seen =
    by_one_met (assigned_typed column) (part_of things e).at (means (part_of things e) (over tables)) (assigned_ruled column) (expression_known things e (over tables) (over_seen tables seen))
expression_met things tables None e seen = expression_known things e (over tables) (over_seen tables seen)

value_met : (things : Things) (tables : List FromTable) (column : Option SqlType) (v : WrittenValue) → AreSeen tables → IsMet (value_for things tables column v)
unfolding value_for
value_met things tables column (written.Expression e) seen = λ none. known_map (λ t. new.Value t.tree) (expression_for things tables column e).part (expression_met things tables column e seen none)
value_met things tables column (written.Default at) seen = λ none. tt

values_met : (things : Things) (tables : List FromTable) (columns : Types) (values : List WrittenValue) → AreSeen tables → Each (λ m. IsMet m) (values_below things tables columns values)
values_met things tables (c ∷ cs) (v ∷ vs) seen = (value_met things tables c v seen, values_met things tables cs vs seen)
values_met things tables (c ∷ cs) [] seen = tt
values_met things tables [] vs seen = tt

abbrev uneven_tuple : Things → List FromTable → List WrittenValue → Meaning (List NewValue)
uneven_tuple things tables values = record { faults = uneven ++ unpaired things tables values; part = None }

uneven_met : (things : Things) (tables : List FromTable) (values : List WrittenValue) → IsMet (uneven_tuple things tables values)
uneven_met things tables values = λ none. absurd (some_fault 0 cause.Count (left_none uneven (unpaired things tables values) none))

tuple_met : (things : Things) (tables : List FromTable) (columns : Types) (values : List WrittenValue) → AreSeen tables → IsMet (tuple_meaning things tables columns values)
unfolding tuple_meaning
tuple_met things tables columns values seen =
    if_met (length columns == length values) (all (values_below things tables columns values)) (uneven_tuple things tables values)
    (all_met (values_below things tables columns values) (values_met things tables columns values seen)) (uneven_met things tables values)

tuples_met : (things : Things) (tables : List FromTable) (columns : Types) (tuples : List (List WrittenValue)) → AreSeen tables → IsMet (tuples_meaning things tables columns tuples)
tuples_met things tables columns tuples seen =
    all_met (map (tuple_meaning things tables columns) tuples)
    (each_map (λ m. IsMet m) (tuple_meaning things tables columns) tuples (each_of (λ t. IsMet (tuple_meaning things tables columns t)) tuples (λ t. tuple_met things tables columns t seen)))

rows_met : (things : Things) (columns : Types) (q : QueryMeaning) → (q.faults ≡ [] → IsKnown q.plan) → IsMet (rows_of_query columns q)
unfolding rows_of_query
rows_met things columns q h = λ none. known_map source.Query q.plan (h (left_none q.faults (mismatches columns q.columns) none))

source_met : (things : Things) (columns : Types) (s : WrittenSource) → IsMet (source_meaning things columns s)
unfolding source_meaning
source_met things columns (from.Tuples tuples) = λ none. known_map source.Tuples (tuples_meaning things [] columns tuples).part (tuples_met things [] columns tuples tt none)
source_met things columns (from.Query query) = rows_met things columns (query_meaning things query) (λ none. (query_known things query outermost tt none).plan)

-- ---- INSERT

columns_known : (t : Table) (list : List Identifier) → misnamed t list ≡ [] → IsKnown (places_of t list)
columns_known t [] none = tt
columns_known t (n ∷ ns) none = places_known (names_of t) (n ∷ ns) (left_none (not_there (names_of t) (n ∷ ns)) (repeated [] (n ∷ ns)) none)

insert_known : (table : TableNo) (columns : Option (List ℕ)) (rows : Option InsertSource) → IsKnown columns → IsKnown rows → IsKnown (insert_by table columns rows)
insert_known table (Some columns) (Some rows) h k = tt
insert_known table (Some columns) None h k = absurd k
insert_known table None rows h k = absurd h

inserted_met : (things : Things) (i : WrittenInsert) (t : Table) → IsMet (insert_into things i t)
unfolding insert_into
inserted_met things i t = λ none.
    let rows = source_meaning things (types_of t i.columns) i.source in
    insert_known t.number (places_of t i.columns) rows.part
    (columns_known t i.columns (left_none (misnamed t i.columns) rows.faults none))
    (source_met things (types_of t i.columns) i.source (right_none (misnamed t i.columns) rows.faults none))

pub insert_met : (things : Things) (i : WrittenInsert) → IsMet (insert_meaning things i)
insert_met things i = on_table_met i.table (table_named things i.table.name) (insert_into things i) (inserted_met things i)

-- ---- UPDATE and DELETE

filter_met : (things : Things) (tables : List FromTable) (filter : Option Expression) → AreSeen tables → IsMet (filter_meaning things tables filter)
unfolding filter_meaning
filter_met things tables None seen = λ none. tt
filter_met things tables (Some e) seen =
    let condition : Meaning Typed = condition_meaning things tables e in
    if_written_met (Some (tree_in condition)) (λ none. known_map (λ t. t.tree) condition.part (condition_met (over tables) (part_of things e) (over_seen tables seen) (expression_known things e) none))

assignment_known : (column : Option ℕ) (value : Option NewValue) → IsKnown column → IsKnown value → IsKnown (assignment_by column value)
assignment_known (Some column) (Some value) h k = tt
assignment_known (Some column) None h k = absurd k
assignment_known None value h k = absurd h

assignment_met : (things : Things) (tables : List FromTable) (names : TypedNames) (a : WrittenAssignment) → AreSeen tables → IsKnown (place_in names a.column.name) → IsMet (assignment_meaning things tables names a)
unfolding assignment_meaning
assignment_met things tables names a seen place = λ none.
    let v = value_for things tables (typed_as names a.column.name) a.value in
    assignment_known (place_in names a.column.name) v.part place (value_met things tables (typed_as names a.column.name) a.value seen none)

assignments_met : (things : Things) (tables : List FromTable) (t : Table) (list : List WrittenAssignment) → AreSeen tables → misnamed t (columns_set list) ≡ [] → IsMet (assignments_meaning things tables (names_of t) list)
assignments_met things tables t list seen right =
    let names : TypedNames = names_of t in
    let places : Each (λ n. IsKnown (place_in names n.name)) (columns_set list) = each_place names (columns_set list) (left_none (not_there names (columns_set list)) (repeated [] (columns_set list)) right) in
    all_met (map (assignment_meaning things tables names) list) (each_map (λ m. IsMet m) (assignment_meaning things tables names) list
    (each_to (λ a. IsKnown (place_in names a.column.name)) (λ a. IsMet (assignment_meaning things tables names a)) list (λ a place. assignment_met things tables names a seen place)
    (each_before_map (λ n. IsKnown (place_in names n.name)) (λ a. a.column) list places)))

update_known : (table : TableNo) (assignments : Option (List Assignment)) (filter : Option (Option Expr)) → IsKnown assignments → IsKnown filter → IsKnown (update_by table assignments filter)
update_known table (Some assignments) (Some filter) h k = tt
update_known table (Some assignments) None h k = absurd k
update_known table None filter h k = absurd h

updated_met : (things : Things) (u : WrittenUpdate) (t : Table) → IsMet (update_of things u t)
unfolding update_of
updated_met things u t = λ none.
    let tables : List FromTable = table_as t u.table u.alias ∷ [] in
    let assignments = assignments_meaning things tables (names_of t) u.assignments in
    let filter = filter_meaning things tables u.filter in
    let wrong = misnamed t (columns_set u.assignments) in
    let seen = table_seen t u.table u.alias in
    let two = left_none (wrong ++ assignments.faults) filter.faults none in
    update_known t.number assignments.part filter.part
    (assignments_met things tables t u.assignments seen (left_none wrong assignments.faults two) (right_none wrong assignments.faults two))
    (filter_met things tables u.filter seen (right_none (wrong ++ assignments.faults) filter.faults none))

pub update_met : (things : Things) (u : WrittenUpdate) → IsMet (update_meaning things u)
update_met things u = on_table_met u.table (table_named things u.table.name) (update_of things u) (updated_met things u)

deleted_met : (things : Things) (d : WrittenDelete) (t : Table) → IsMet (delete_from things d t)
unfolding delete_from
deleted_met things d t = λ none.
    let tables : List FromTable = table_as t d.table d.alias ∷ [] in
    known_map (λ f. record { table = t.number; filter = f }) (filter_meaning things tables d.filter).part (filter_met things tables d.filter (table_seen t d.table d.alias) none)

pub delete_met : (things : Things) (d : WrittenDelete) → IsMet (delete_meaning things d)
delete_met things d = on_table_met d.table (table_named things d.table.name) (delete_from things d) (deleted_met things d)

-- ---- LOCK TABLE

lock_met : (things : Things) (l : WrittenLock) → IsMet (lock_meaning things l)
unfolding lock_meaning
lock_met things l = on_table_met l.table (table_named things l.table.name) (locked l.write) (λ t none. tt)

pub locks_met : (things : Things) (locks : List WrittenLock) → IsMet (locks_meaning things locks)
locks_met things locks = all_met (map (lock_meaning things) locks) (each_map (λ m. IsMet m) (lock_meaning things) locks (each_of (λ l. IsMet (lock_meaning things l)) locks (lock_met things)))
