-- The faults of INSERT, UPDATE, DELETE and LOCK TABLE name nothing with a line feed, where the names in them are lawful.
use Rattle.std.proofs.Common.{◌≡◌, ℕ, true, ◌&&◌, ◌==◌, List, [], ◌∷◌, ◌++◌, length, map, Option, Some, None, refl}
use Rattle.std.specs.List.{list_all}
use Rattle.std.proofs.lemmas.Bool.{and_parts}
use Rattle.hs_ast.specs.Lawful.{if_written as if_there, is_identifier, is_lawful, is_lawful_assignment, is_lawful_lock, is_lawful_source, is_lawful_statement, is_lawful_value}
use Rattle.hs_ast.specs.declared.change.Assignment.{Assignment as WrittenAssignment}
use Rattle.hs_ast.specs.declared.change.Delete.{Delete as WrittenDelete}
use Rattle.hs_ast.specs.declared.change.Insert.{Insert as WrittenInsert}
use Rattle.hs_ast.specs.declared.change.InsertSource.{InsertSource as WrittenSource}
use Rattle.hs_ast.specs.declared.change.InsertSource.TheVariants as from
use Rattle.hs_ast.specs.declared.change.LockedTable.{LockedTable as WrittenLock}
use Rattle.hs_ast.specs.declared.change.NewValue.{NewValue as WrittenValue}
use Rattle.hs_ast.specs.declared.change.NewValue.TheVariants as written
use Rattle.hs_ast.specs.declared.change.Update.{Update as WrittenUpdate}
use Rattle.hs_ast.specs.declared.expression.Expression.{Expression}
use Rattle.hs_ast.specs.declared.statement.Stmt.TheVariants as s
use Rattle.hs_ast.specs.declared.word.Identifier.{Identifier}
use Rattle.hs_elements.specs.Columns.{TypedNames, typed_as, unknown as not_there}
use Rattle.hs_elements.specs.Faults.{no_such_table_at, repeated}
use Rattle.hs_meaning.specs.Layers.{QueryMeaning, means}
use Rattle.hs_meaning.specs.Parts.{Meaning, all}
use Rattle.hs_meaning.specs.Queries.{uneven}
use Rattle.hs_meaning.specs.Statements.{over, query_meaning}
use Rattle.hs_meaning.specs.Surroundings.{outermost}
use Rattle.hs_meaning.specs.Trees.{part_of}
use Rattle.hs_meaning.specs.declared.placed.PlacedColumn.{PlacedColumn}
use Rattle.hs_plan.specs.Typing.{is_assignable}
use Rattle.hs_plan.specs.declared.fault.Cause.TheVariants as cause
use Rattle.hs_plan.specs.declared.kind.Kind.{Kind}
use Rattle.hs_plan.specs.declared.plan.NewValue.{NewValue}
use Rattle.hs_reading.proofs.Lists.{IsNamed, names_are, repeated_single, unknown_single}
use Rattle.hs_reading.proofs.SingleExpressions.{condition_single}
use Rattle.hs_reading.proofs.SingleParts.{AreSingle, Each, all_single, both, by_one_single, each_map, each_passed, either, flat_single, if_single, one}
use Rattle.hs_reading.proofs.SingleTrees.{expression_faults, expression_single, name_single, query_faults}
use Rattle.hs_schema.specs.Catalogue.{Things, table_named}
use Rattle.hs_schema.specs.declared.table.Table.{Table}
use Rattle.hs_scope.specs.declared.from_table.FromTable.{FromTable}
use Rattle.hs_typed.specs.Faults.{fault_at}
use Rattle.hs_typed.specs.Rules.{assigned_typed}
use Rattle.hs_values.specs.declared.sql_type.SqlType.{SqlType}
use Rattle.hs_writing.specs.Statements.{assignment_meaning, assignments_meaning, columns_set, delete_from, delete_meaning, filter_meaning, insert_into, insert_meaning, lock_meaning, locked, locks_meaning, misnamed, on_table, update_meaning, update_of}
use Rattle.hs_writing.specs.Targets.{Types, names_of, table_as, types_of}
use Rattle.hs_writing.specs.Values.{expression_for, mismatches, misfit, misfit_by, misfits, rows_of_query, source_meaning, tuple_meaning, tuples_meaning, unpaired, value_for, values_below}

on_table_single : {A : Type 0} (name : Identifier) (o : Option Table) (means : Table → Meaning A) → IsNamed name → ((t : Table) → AreSingle (means t).faults) → AreSingle (on_table name o means).faults
on_table_single name (Some t) means h k = k t
on_table_single name None means h k = one (no_such_table_at name) h

misnamed_single : (t : Table) (list : List Identifier) → Each IsNamed list → AreSingle (misnamed t list)
misnamed_single t list h = both (not_there (names_of t) list) (repeated [] list) (unknown_single (names_of t) list h) (repeated_single [] list h)

-- ---- values

expression_for_single : (things : Things) (tables : List FromTable) (column : Option SqlType) (e : Expression) → is_lawful e ≡ true → AreSingle (expression_for things tables column e).faults
unfolding expression_for
expression_for_single things tables (Some column) e h = by_one_single (assigned_typed column) (part_of things e).at (means (part_of things e) (over tables)) (expression_faults things e (over tables) h)
expression_for_single things tables None e h = expression_faults things e (over tables) h

value_single : (things : Things) (tables : List FromTable) (column : Option SqlType) (v : WrittenValue) → is_lawful_value v ≡ true → AreSingle (value_for things tables column v).faults
unfolding value_for
value_single things tables column (written.Expression e) h = expression_for_single things tables column e h
value_single things tables column (written.Default at) h = refl

abbrev OnMeaning : {A : Type 0} → Meaning A → Type 0
OnMeaning m = AreSingle m.faults

values_single : (things : Things) (tables : List FromTable) (columns : Types) (values : List WrittenValue) → list_all is_lawful_value values ≡ true → Each (λ m. OnMeaning m) (values_below things tables columns values)
values_single things tables (c ∷ cs) (v ∷ vs) h = let parts = and_parts (is_lawful_value v) (list_all is_lawful_value vs) h in (value_single things tables c v parts.0, values_single things tables cs vs parts.1)
values_single things tables (c ∷ cs) [] h = tt
values_single things tables [] vs h = tt

unpaired_single : (things : Things) (tables : List FromTable) (values : List WrittenValue) → list_all is_lawful_value values ≡ true → AreSingle (unpaired things tables values)
unpaired_single things tables values h =
    flat_single (λ v. (value_for things tables None v).faults) values (each_passed (λ v. AreSingle (value_for things tables None v).faults) is_lawful_value values (λ v is. value_single things tables None v is) h)

abbrev uneven_tuple : Things → List FromTable → List WrittenValue → Meaning (List NewValue)
uneven_tuple things tables values = record { faults = uneven ++ unpaired things tables values; part = None }

tuple_single : (things : Things) (tables : List FromTable) (columns : Types) (values : List WrittenValue) → list_all is_lawful_value values ≡ true → AreSingle (tuple_meaning things tables columns values).faults
unfolding tuple_meaning
tuple_single things tables columns values h =
    if_single (length columns == length values) (all (values_below things tables columns values)) (uneven_tuple things tables values)
    (all_single (values_below things tables columns values) (values_single things tables columns values h))
    (both uneven (unpaired things tables values) refl (unpaired_single things tables values h))

tuples_single : (things : Things) (tables : List FromTable) (columns : Types) (tuples : List (List WrittenValue)) → list_all (list_all is_lawful_value) tuples ≡ true → AreSingle (tuples_meaning things tables columns tuples).faults
tuples_single things tables columns tuples h =
    all_single (map (tuple_meaning things tables columns) tuples)
    (each_map (λ m. OnMeaning m) (tuple_meaning things tables columns) tuples (each_passed (λ t. OnMeaning (tuple_meaning things tables columns t)) (list_all is_lawful_value) tuples (λ t is. tuple_single things tables columns t is) h))

-- ---- rows of a query

misfit_at : (column : SqlType) (at : ℕ) (kind : Option Kind) → AreSingle (misfit_by column at kind)
misfit_at column at (Some kind) = either (is_assignable column kind) [] (fault_at at cause.Types) refl refl
misfit_at column at None = refl

misfit_single : (column : Option SqlType) (c : PlacedColumn) → AreSingle (misfit column c)
misfit_single (Some column) c = misfit_at column c.at c.column.kind
misfit_single None c = refl

misfits_single : (columns : Types) (given : List PlacedColumn) → AreSingle (misfits columns given)
misfits_single (t ∷ ts) (c ∷ cs) = both (misfit t c) (misfits ts cs) (misfit_single t c) (misfits_single ts cs)
misfits_single (t ∷ ts) [] = refl
misfits_single [] cs = refl

mismatches_single : (columns : Types) (given : List PlacedColumn) → AreSingle (mismatches columns given)
mismatches_single columns given = either (length columns == length given) (misfits columns given) uneven (misfits_single columns given) refl

rows_single : (columns : Types) (q : QueryMeaning) → AreSingle q.faults → AreSingle (rows_of_query columns q).faults
unfolding rows_of_query
rows_single columns q h = both q.faults (mismatches columns q.columns) h (mismatches_single columns q.columns)

source_single : (things : Things) (columns : Types) (x : WrittenSource) → is_lawful_source x ≡ true → AreSingle (source_meaning things columns x).faults
unfolding source_meaning
source_single things columns (from.Tuples tuples) h = tuples_single things [] columns tuples h
source_single things columns (from.Query query) h = rows_single columns (query_meaning things query) (query_faults things query outermost h)

-- ---- INSERT

inserted_single : (things : Things) (i : WrittenInsert) (t : Table) → Each IsNamed i.columns → is_lawful_source i.source ≡ true → AreSingle (insert_into things i t).faults
unfolding insert_into
inserted_single things i t h k =
    both (misnamed t i.columns) (source_meaning things (types_of t i.columns) i.source).faults (misnamed_single t i.columns h) (source_single things (types_of t i.columns) i.source k)

pub insert_single : (things : Things) (i : WrittenInsert) → is_lawful_statement (s.Insert i) ≡ true → AreSingle (insert_meaning things i).faults
insert_single things i h =
    let first = and_parts (is_identifier i.table) (list_all is_identifier i.columns && is_lawful_source i.source) h in
    let two = and_parts (list_all is_identifier i.columns) (is_lawful_source i.source) first.1 in
    on_table_single i.table (table_named things i.table.name) (insert_into things i) (name_single i.table.name first.0) (λ t. inserted_single things i t (names_are i.columns two.0) two.1)

-- ---- UPDATE and DELETE

filter_single : (things : Things) (tables : List FromTable) (filter : Option Expression) → if_there is_lawful filter ≡ true → AreSingle (filter_meaning things tables filter).faults
unfolding filter_meaning
filter_single things tables None h = refl
filter_single things tables (Some e) h = condition_single (over tables) (part_of things e) (expression_single things e h)

assignment_single : (things : Things) (tables : List FromTable) (names : TypedNames) (a : WrittenAssignment) → is_lawful_value a.value ≡ true → AreSingle (assignment_meaning things tables names a).faults
unfolding assignment_meaning
assignment_single things tables names a h = value_single things tables (typed_as names a.column.name) a.value h

assignments_single : (things : Things) (tables : List FromTable) (names : TypedNames) (list : List WrittenAssignment) → list_all is_lawful_assignment list ≡ true → AreSingle (assignments_meaning things tables names list).faults
assignments_single things tables names list h =
    all_single (map (assignment_meaning things tables names) list) (each_map (λ m. OnMeaning m) (assignment_meaning things tables names) list
    (each_passed (λ a. OnMeaning (assignment_meaning things tables names a)) is_lawful_assignment list (λ a is. assignment_single things tables names a (and_parts (is_identifier a.column) (is_lawful_value a.value) is).1) h))

columns_named : (list : List WrittenAssignment) → list_all is_lawful_assignment list ≡ true → Each IsNamed (columns_set list)
columns_named list h = each_map IsNamed (λ a. a.column) list (each_passed (λ a. IsNamed a.column) is_lawful_assignment list (λ a is. name_single a.column.name (and_parts (is_identifier a.column) (is_lawful_value a.value) is).0) h)

updated_single : (things : Things) (u : WrittenUpdate) (t : Table) → list_all is_lawful_assignment u.assignments ≡ true → if_there is_lawful u.filter ≡ true → AreSingle (update_of things u t).faults
unfolding update_of
updated_single things u t h k =
    let tables : List FromTable = table_as t u.table u.alias ∷ [] in
    let assignments = assignments_meaning things tables (names_of t) u.assignments in
    let wrong = misnamed t (columns_set u.assignments) in
    both (wrong ++ assignments.faults) (filter_meaning things tables u.filter).faults
    (both wrong assignments.faults (misnamed_single t (columns_set u.assignments) (columns_named u.assignments h)) (assignments_single things tables (names_of t) u.assignments h))
    (filter_single things tables u.filter k)

pub update_single : (things : Things) (u : WrittenUpdate) → is_lawful_statement (s.Update u) ≡ true → AreSingle (update_meaning things u).faults
update_single things u h =
    let first = and_parts (is_identifier u.table) (if_there is_identifier u.alias && (list_all is_lawful_assignment u.assignments && if_there is_lawful u.filter)) h in
    let second = and_parts (if_there is_identifier u.alias) (list_all is_lawful_assignment u.assignments && if_there is_lawful u.filter) first.1 in
    let two = and_parts (list_all is_lawful_assignment u.assignments) (if_there is_lawful u.filter) second.1 in
    on_table_single u.table (table_named things u.table.name) (update_of things u) (name_single u.table.name first.0) (λ t. updated_single things u t two.0 two.1)

deleted_single : (things : Things) (x : WrittenDelete) (t : Table) → if_there is_lawful x.filter ≡ true → AreSingle (delete_from things x t).faults
unfolding delete_from
deleted_single things x t h = filter_single things (table_as t x.table x.alias ∷ []) x.filter h

pub delete_single : (things : Things) (x : WrittenDelete) → is_lawful_statement (s.Delete x) ≡ true → AreSingle (delete_meaning things x).faults
delete_single things x h =
    let first = and_parts (is_identifier x.table) (if_there is_identifier x.alias && if_there is_lawful x.filter) h in
    let two = and_parts (if_there is_identifier x.alias) (if_there is_lawful x.filter) first.1 in
    on_table_single x.table (table_named things x.table.name) (delete_from things x) (name_single x.table.name first.0) (λ t. deleted_single things x t two.1)

-- ---- LOCK TABLE

lock_single : (things : Things) (l : WrittenLock) → is_lawful_lock l ≡ true → AreSingle (lock_meaning things l).faults
unfolding lock_meaning
lock_single things l h = on_table_single l.table (table_named things l.table.name) (locked l.write) (name_single l.table.name h) (λ t. refl)

pub locks_single : (things : Things) (locks : List WrittenLock) → list_all is_lawful_lock locks ≡ true → AreSingle (locks_meaning things locks).faults
locks_single things locks h = all_single (map (lock_meaning things) locks) (each_map (λ m. OnMeaning m) (lock_meaning things) locks (each_passed (λ l. OnMeaning (lock_meaning things l)) is_lawful_lock locks (λ l is. lock_single things l is) h))
