-- The steps that build statements which read or change rows, or lock tables.
use Rattle.std.specs.Prelude.{ℕ, Bool, List, [], ◌∷◌, ◌++◌, map, Option, None, max}
use Rattle.hs_ast.specs.declared.change.Delete.{Delete}
use Rattle.hs_ast.specs.declared.change.InsertSource.TheVariants as source
use Rattle.hs_ast.specs.declared.change.LockedTable.{LockedTable}
use Rattle.hs_ast.specs.declared.change.NewValue.{NewValue}
use Rattle.hs_ast.specs.declared.change.NewValue.TheVariants as value
use Rattle.hs_ast.specs.declared.change.Update.{Update}
use Rattle.hs_ast.specs.declared.expression.Expression.{Expression}
use Rattle.hs_ast.specs.declared.query.QueryBody.TheVariants as body
use Rattle.hs_ast.specs.declared.query.ValuesRow.{ValuesRow, roll-ValuesRow}
use Rattle.hs_ast.specs.declared.statement.Stmt.{Stmt}
use Rattle.hs_ast.specs.declared.statement.Stmt.TheVariants as statement
use Rattle.hs_ast.specs.declared.word.Identifier.{Identifier}
use Rattle.hs_lexer.specs.declared.token.Token.{Token}
use Rattle.hs_builder.specs.declared.part.Built.{Built}
use Rattle.hs_builder.specs.declared.part.BuiltBody.{BuiltBody}
use Rattle.hs_builder.specs.declared.part.BuiltQuery.{BuiltQuery}
use Rattle.hs_builder.specs.declared.part.BuiltOptional.{BuiltOptional}
use Rattle.hs_builder.specs.declared.part.BuiltTuple.{BuiltTuple}
use Rattle.hs_builder.specs.declared.part.BuiltTuples.{BuiltTuples}
use Rattle.hs_builder.specs.declared.part.InsertTarget.{InsertTarget}
use Rattle.hs_builder.specs.Expressions.{query_of}
use Rattle.hs_builder.specs.Queries.{body_at}
use Rattle.hs_builder.specs.Steps.{Step, stands, wrong}

abbrev pub query_statement : List BuiltQuery × List Stmt → Step (List BuiltQuery × List Stmt)
query_statement ((q ∷ queries), below) = stands (queries, statement.Query (query_of q) ∷ below)
query_statement _ = wrong

-- ---- INSERT

abbrev pub begin_insert : List Identifier × List InsertTarget → Step (List Identifier × List InsertTarget)
begin_insert ((table ∷ names), below) = stands (names, record { table = table; columns = [] } ∷ below)
begin_insert _ = wrong

-- the place is that of the parenthesis, which could also have begun a query
abbrev pub insert_columns : List ℕ × List (List Identifier) × List InsertTarget → Step (List ℕ × List (List Identifier) × List InsertTarget)
insert_columns ((at ∷ places), (columns ∷ lists), (t ∷ below)) = stands (places, lists, record { table = t.table; columns = columns } ∷ below)
insert_columns _ = wrong

abbrev pub begin_tuples : Token → List BuiltTuples → Step (List BuiltTuples)
begin_tuples token below = stands (record { tuples = []; depth = 0; at = token.start } ∷ below)

abbrev pub begin_tuple : List BuiltTuple → Step (List BuiltTuple)
begin_tuple below = stands (record { values = []; depth = 0 } ∷ below)

abbrev pub tuple_value : List Built × List BuiltTuple → Step (List Built × List BuiltTuple)
tuple_value ((e ∷ expressions), (t ∷ below)) = stands (expressions, record { values = t.values ++ value.Expression e.tree ∷ []; depth = max t.depth e.depth } ∷ below)
tuple_value _ = wrong

abbrev pub tuple_default : Token → List BuiltTuple → Step (List BuiltTuple)
tuple_default token (t ∷ below) = stands (record { values = t.values ++ value.Default token.start ∷ []; depth = t.depth } ∷ below)
tuple_default _ _ = wrong

abbrev pub add_tuple : List BuiltTuple × List BuiltTuples → Step (List BuiltTuple × List BuiltTuples)
add_tuple ((t ∷ tuples), (list ∷ below)) = stands (tuples, record { tuples = list.tuples ++ t.values ∷ []; depth = max list.depth t.depth; at = list.at } ∷ below)
add_tuple _ = wrong

abbrev pub with_value : NewValue → List Expression → List Expression
with_value (value.Expression e) all = e ∷ all
with_value (value.Default at) all = all

-- the expressions of a tuple; no DEFAULT stands in one that turns out to be a row of a query
abbrev pub expressions_in : List NewValue → List Expression
expressions_in [] = []
expressions_in (v ∷ values) = with_value v (expressions_in values)

abbrev pub row_of : List NewValue → ValuesRow
row_of values = roll-ValuesRow (record { values = expressions_in values })

abbrev pub rows_in : List (List NewValue) → List ValuesRow
rows_in tuples = map row_of tuples

abbrev pub tuples_body : List BuiltTuples × List BuiltBody → Step (List BuiltTuples × List BuiltBody)
tuples_body ((list ∷ lists), below) = stands (lists, body_at list.at (body.Values (rows_in list.tuples)) list.depth ∷ below)
tuples_body _ = wrong

abbrev pub insert_tuples : List InsertTarget × List BuiltTuples × List Stmt → Step (List InsertTarget × List BuiltTuples × List Stmt)
insert_tuples ((t ∷ targets), (list ∷ lists), below) =
    stands (targets, lists, statement.Insert (record { table = t.table; columns = t.columns; source = source.Tuples list.tuples }) ∷ below)
insert_tuples _ = wrong

abbrev pub insert_query : List InsertTarget × List BuiltQuery × List Stmt → Step (List InsertTarget × List BuiltQuery × List Stmt)
insert_query ((t ∷ targets), (q ∷ queries), below) =
    stands (targets, queries, statement.Insert (record { table = t.table; columns = t.columns; source = source.Query (query_of q) }) ∷ below)
insert_query _ = wrong

-- ---- UPDATE

abbrev pub begin_update : List Identifier × List (Option Identifier) × List Update → Step (List Identifier × List (Option Identifier) × List Update)
begin_update ((table ∷ names), (alias ∷ aliases), below) = stands (names, aliases, record { table = table; alias = alias; assignments = []; filter = None } ∷ below)
begin_update _ = wrong

abbrev pub assigned : Update → Identifier → NewValue → Update
assigned u column v = record u { assignments = u.assignments ++ record { column = column; value = v } ∷ [] }

abbrev pub assign : List Identifier × List Built × List Update → Step (List Identifier × List Built × List Update)
assign ((column ∷ names), (e ∷ expressions), (u ∷ below)) = stands (names, expressions, assigned u column (value.Expression e.tree) ∷ below)
assign _ = wrong

abbrev pub assign_default : Token → List Identifier × List Update → Step (List Identifier × List Update)
assign_default token ((column ∷ names), (u ∷ below)) = stands (names, assigned u column (value.Default token.start) ∷ below)
assign_default _ _ = wrong

abbrev pub update_statement : List BuiltOptional × List Update × List Stmt → Step (List BuiltOptional × List Update × List Stmt)
update_statement ((filter ∷ optional), (u ∷ updates), below) =
    stands (optional, updates, statement.Update (record { table = u.table; alias = u.alias; assignments = u.assignments; filter = filter.tree }) ∷ below)
update_statement _ = wrong

-- ---- DELETE

abbrev pub begin_delete : List Identifier × List (Option Identifier) × List Delete → Step (List Identifier × List (Option Identifier) × List Delete)
begin_delete ((table ∷ names), (alias ∷ aliases), below) = stands (names, aliases, record { table = table; alias = alias; filter = None } ∷ below)
begin_delete _ = wrong

abbrev pub delete_statement : List BuiltOptional × List Delete × List Stmt → Step (List BuiltOptional × List Delete × List Stmt)
delete_statement ((filter ∷ optional), (d ∷ deletes), below) =
    stands (optional, deletes, statement.Delete (record { table = d.table; alias = d.alias; filter = filter.tree }) ∷ below)
delete_statement _ = wrong

-- ---- LOCK TABLE

abbrev pub begin_lock : List (List LockedTable) → Step (List (List LockedTable))
begin_lock below = stands ([] ∷ below)

abbrev pub locked : Bool → List Identifier × List (List LockedTable) → Step (List Identifier × List (List LockedTable))
locked write ((table ∷ names), (all ∷ below)) = stands (names, (all ++ record { table = table; write = write } ∷ []) ∷ below)
locked _ _ = wrong

abbrev pub lock_statement : List (List LockedTable) × List Stmt → Step (List (List LockedTable) × List Stmt)
lock_statement ((all ∷ locks), below) = stands (locks, statement.LockTable all ∷ below)
lock_statement _ = wrong
