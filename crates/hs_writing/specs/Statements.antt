-- What INSERT, UPDATE, DELETE and LOCK TABLE mean over a catalogue.
use Rattle.std.specs.Prelude.{ℕ, Bool, List, [], ◌∷◌, ◌++◌, map, Option, Some, None}
use Rattle.std.specs.Option.{option_map}
use Rattle.hs_ast.specs.declared.change.Assignment.{Assignment as WrittenAssignment}
use Rattle.hs_ast.specs.declared.change.Delete.{Delete as WrittenDelete}
use Rattle.hs_ast.specs.declared.change.Insert.{Insert as WrittenInsert}
use Rattle.hs_ast.specs.declared.change.LockedTable.{LockedTable as WrittenLock}
use Rattle.hs_ast.specs.declared.change.Update.{Update as WrittenUpdate}
use Rattle.hs_ast.specs.declared.expression.Expression.{Expression}
use Rattle.hs_ast.specs.declared.word.Identifier.{Identifier}
use Rattle.hs_base.specs.declared.numbers.TableNo.{TableNo}
use Rattle.hs_elements.specs.Columns.{TypedNames, place_in, typed_as, unknown}
use Rattle.hs_elements.specs.Faults.{no_such_table_at, repeated}
use Rattle.hs_meaning.specs.Parts.{Meaning, all, if_written, meant, tree_in}
use Rattle.hs_meaning.specs.Statements.{condition_meaning}
use Rattle.hs_plan.specs.declared.expression.Expr.{Expr}
use Rattle.hs_plan.specs.declared.fault.PlacedFault.{PlacedFault}
use Rattle.hs_plan.specs.declared.plan.Assignment.{Assignment}
use Rattle.hs_plan.specs.declared.plan.Delete.{Delete}
use Rattle.hs_plan.specs.declared.plan.Insert.{Insert}
use Rattle.hs_plan.specs.declared.plan.InsertSource.{InsertSource}
use Rattle.hs_plan.specs.declared.plan.LockedTable.{LockedTable}
use Rattle.hs_plan.specs.declared.plan.NewValue.{NewValue}
use Rattle.hs_plan.specs.declared.plan.Update.{Update}
use Rattle.hs_schema.specs.declared.table.Table.{Table}
use Rattle.hs_schema.specs.Catalogue.{Things, table_named}
use Rattle.hs_scope.specs.declared.from_table.FromTable.{FromTable}
use Rattle.hs_writing.specs.Targets.{names_of, places_of, table_as, types_of}
use Rattle.hs_writing.specs.Values.{source_meaning, value_for}

-- ---- the table

-- a statement about a table that isn't there has this fault alone
abbrev pub no_table : {A : Type 0} → Identifier → Meaning A
no_table name = record { faults = no_such_table_at name ∷ []; part = None }

abbrev pub on_table : {A : Type 0} → Identifier → Option Table → (Table → Meaning A) → Meaning A
on_table name (Some t) means = means t
on_table name None means = no_table name

-- a list of columns: each name that is no column's, and each that repeats an earlier one
abbrev pub misnamed : Table → List Identifier → List PlacedFault
misnamed t list = unknown (names_of t) list ++ repeated [] list

-- ---- INSERT

abbrev pub insert_by : TableNo → Option (List ℕ) → Option InsertSource → Option Insert
insert_by table (Some columns) (Some source) = Some (record { table = table; columns = columns; source = source })
insert_by table (Some columns) None = None
insert_by table None source = None

unfoldable pub insert_into : Things → WrittenInsert → Table → Meaning Insert
insert_into things i t =
    let rows : Meaning InsertSource = source_meaning things (types_of t i.columns) i.source in
    record { faults = misnamed t i.columns ++ rows.faults; part = insert_by t.number (places_of t i.columns) rows.part }

abbrev pub insert_meaning : Things → WrittenInsert → Meaning Insert
insert_meaning things i = on_table i.table (table_named things i.table.name) (insert_into things i)

-- ---- WHERE

unfoldable pub filter_meaning : Things → List FromTable → Option Expression → Meaning (Option Expr)
filter_meaning things tables filter = if_written (option_map (λ e. tree_in (condition_meaning things tables e)) filter)

-- ---- UPDATE

abbrev pub assignment_by : Option ℕ → Option NewValue → Option Assignment
assignment_by (Some column) (Some value) = Some (record { column = column; value = value })
assignment_by (Some column) None = None
assignment_by None value = None

-- a value over the row as it was, for the column that it is assigned to
unfoldable pub assignment_meaning : Things → List FromTable → TypedNames → WrittenAssignment → Meaning Assignment
assignment_meaning things tables names a =
    let v : Meaning NewValue = value_for things tables (typed_as names a.column.name) a.value in
    record { faults = v.faults; part = assignment_by (place_in names a.column.name) v.part }

abbrev pub assignments_meaning : Things → List FromTable → TypedNames → List WrittenAssignment → Meaning (List Assignment)
assignments_meaning things tables names assignments = all (map (assignment_meaning things tables names) assignments)

abbrev pub update_by : TableNo → Option (List Assignment) → Option (Option Expr) → Option Update
update_by table (Some assignments) (Some filter) = Some (record { table = table; assignments = assignments; filter = filter })
update_by table (Some assignments) None = None
update_by table None filter = None

abbrev pub columns_set : List WrittenAssignment → List Identifier
columns_set = map (λ a. a.column)

unfoldable pub update_of : Things → WrittenUpdate → Table → Meaning Update
update_of things u t =
    let tables : List FromTable = table_as t u.table u.alias ∷ [] in
    let assignments : Meaning (List Assignment) = assignments_meaning things tables (names_of t) u.assignments in
    let filter : Meaning (Option Expr) = filter_meaning things tables u.filter in
    record { faults = misnamed t (columns_set u.assignments) ++ assignments.faults ++ filter.faults; part = update_by t.number assignments.part filter.part }

abbrev pub update_meaning : Things → WrittenUpdate → Meaning Update
update_meaning things u = on_table u.table (table_named things u.table.name) (update_of things u)

-- ---- DELETE

abbrev pub delete_by : TableNo → Option (Option Expr) → Option Delete
delete_by table filter = option_map (λ f. record { table = table; filter = f }) filter

unfoldable pub delete_from : Things → WrittenDelete → Table → Meaning Delete
delete_from things d t =
    let filter : Meaning (Option Expr) = filter_meaning things (table_as t d.table d.alias ∷ []) d.filter in
    record { faults = filter.faults; part = delete_by t.number filter.part }

abbrev pub delete_meaning : Things → WrittenDelete → Meaning Delete
delete_meaning things d = on_table d.table (table_named things d.table.name) (delete_from things d)

-- ---- LOCK TABLE

abbrev pub locked : Bool → Table → Meaning LockedTable
locked write t = meant (record { table = t.number; write = write })

unfoldable pub lock_meaning : Things → WrittenLock → Meaning LockedTable
lock_meaning things l = on_table l.table (table_named things l.table.name) (locked l.write)

-- each table that isn't there is a fault
abbrev pub locks_meaning : Things → List WrittenLock → Meaning (List LockedTable)
locks_meaning things locks = all (map (lock_meaning things) locks)
