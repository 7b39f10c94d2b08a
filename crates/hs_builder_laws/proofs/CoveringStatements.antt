-- Each step that builds a statement keeps depths that are those of the trees.
use Rattle.std.proofs.Common.{◌≡◌, List, [], ◌∷◌, map, refl, arith}
use Rattle.std.specs.Prelude.{max}
use Rattle.hs_ast.specs.Depth.{deepest, depth_of, value_depth_of}
use Rattle.hs_ast.specs.declared.change.Delete.{Delete}
use Rattle.hs_ast.specs.declared.change.NewValue.{NewValue}
use Rattle.hs_ast.specs.declared.change.NewValue.TheVariants as value
use Rattle.hs_ast.specs.declared.change.Update.{Update}
use Rattle.hs_ast.specs.declared.definition.ColumnDefinition.{ColumnDefinition}
use Rattle.hs_ast.specs.declared.definition.TableConstraint.{TableConstraint}
use Rattle.hs_ast.specs.declared.expression.Expression.{Expression}
use Rattle.hs_ast.specs.declared.statement.Stmt.{Stmt}
use Rattle.hs_ast.specs.declared.word.Identifier.{Identifier}
use Rattle.hs_lexer.specs.declared.token.Token.{Token}
use Rattle.hs_builder.specs.declared.part.Built.{Built}
use Rattle.hs_builder.specs.declared.part.BuiltBody.{BuiltBody}
use Rattle.hs_builder.specs.declared.part.BuiltOptional.{BuiltOptional}
use Rattle.hs_builder.specs.declared.part.BuiltQuery.{BuiltQuery}
use Rattle.hs_builder.specs.declared.part.BuiltTuple.{BuiltTuple}
use Rattle.hs_builder.specs.declared.part.BuiltTuples.{BuiltTuples}
use Rattle.hs_builder.specs.declared.part.ConstraintHeader.{ConstraintHeader}
use Rattle.hs_builder.specs.declared.part.InsertTarget.{InsertTarget}
use Rattle.hs_builder.specs.Changes as change
use Rattle.hs_builder.specs.Definitions as definition
use Rattle.hs_builder_laws.proofs.Covering.{Every, Then, deepest_first, pushed}
use Rattle.hs_builder_laws.proofs.Covers.{BuiltCovers, OptionalCovers, BodyCovers, QueryCovers, values_depth, TupleCovers, TuplesCover}
use Rattle.hs_builder_laws.proofs.Trees as tree
use Rattle.hs_builder_laws.proofs.Trees.{row_depth}

-- ---- parts that go into a statement

abbrev pub Query : List BuiltQuery × List Stmt → Type 0
Query x = Every QueryCovers x.0

pub query_statement : (x : List BuiltQuery × List Stmt) → Query x → Then (λ (z : List BuiltQuery × List Stmt). Query z) (change.query_statement x)
query_statement ((q ∷ queries), below) (g, gs) = gs
query_statement ([], below) h = tt

abbrev pub InsertsTuples : {A : Type 0} → A × List BuiltTuples × List Stmt → Type 0
InsertsTuples x = Every TuplesCover x.1

pub insert_tuples : (x : List InsertTarget × List BuiltTuples × List Stmt) → InsertsTuples x → Then (λ (z : List InsertTarget × List BuiltTuples × List Stmt). InsertsTuples z) (change.insert_tuples x)
insert_tuples ((t ∷ targets), (list ∷ lists), below) (g, gs) = gs
insert_tuples ((t ∷ targets), [], below) h = tt
insert_tuples ([], lists, below) h = tt

abbrev pub InsertsQuery : {A : Type 0} → A × List BuiltQuery × List Stmt → Type 0
InsertsQuery x = Every QueryCovers x.1

pub insert_query : (x : List InsertTarget × List BuiltQuery × List Stmt) → InsertsQuery x → Then (λ (z : List InsertTarget × List BuiltQuery × List Stmt). InsertsQuery z) (change.insert_query x)
insert_query ((t ∷ targets), (q ∷ queries), below) (g, gs) = gs
insert_query ((t ∷ targets), [], below) h = tt
insert_query ([], queries, below) h = tt

abbrev pub Assigns : {A : Type 0} → A × List Built × List Update → Type 0
Assigns x = Every BuiltCovers x.1

pub assign : (x : List Identifier × List Built × List Update) → Assigns x → Then (λ (z : List Identifier × List Built × List Update). Assigns z) (change.assign x)
assign ((name ∷ names), (e ∷ expressions), (u ∷ below)) (h, hs) = hs
assign ((name ∷ names), (e ∷ expressions), []) h = tt
assign ((name ∷ names), [], updates) h = tt
assign ([], es, updates) h = tt

abbrev pub Filters : {A : Type 0} → List BuiltOptional × A × List Stmt → Type 0
Filters x = Every OptionalCovers x.0

pub update_statement : (x : List BuiltOptional × List Update × List Stmt) → Filters x → Then (λ (z : List BuiltOptional × List Update × List Stmt). Filters z) (change.update_statement x)
update_statement ((o ∷ optional), (u ∷ updates), below) (h, hs) = hs
update_statement ((o ∷ optional), [], below) h = tt
update_statement ([], updates, below) h = tt

pub delete_statement : (x : List BuiltOptional × List Delete × List Stmt) → Filters x → Then (λ (z : List BuiltOptional × List Delete × List Stmt). Filters z) (change.delete_statement x)
delete_statement ((o ∷ optional), (d ∷ deletes), below) (h, hs) = hs
delete_statement ((o ∷ optional), [], below) h = tt
delete_statement ([], deletes, below) h = tt

abbrev pub Checks : {A : Type 0} → List Built × List ConstraintHeader × A → Type 0
Checks x = Every BuiltCovers x.0

pub column_check : (x : List Built × List ConstraintHeader × List ColumnDefinition) → Checks x → Then (λ (z : List Built × List ConstraintHeader × List ColumnDefinition). Checks z) (definition.column_check x)
column_check ((e ∷ expressions), (h ∷ headers), (c ∷ below)) (k, ks) = ks
column_check ((e ∷ expressions), (h ∷ headers), []) k = tt
column_check ((e ∷ expressions), [], columns) k = tt
column_check ([], headers, columns) k = tt

pub table_check : (x : List Built × List ConstraintHeader × List TableConstraint) → Checks x → Then (λ (z : List Built × List ConstraintHeader × List TableConstraint). Checks z) (definition.table_check x)
table_check ((e ∷ expressions), (h ∷ headers), below) (k, ks) = ks
table_check ((e ∷ expressions), [], below) k = tt
table_check ([], headers, below) k = tt

-- ---- rows of an INSERT

pub begin_tuples : (token : Token) (x : List BuiltTuples) → Every TuplesCover x → Then (λ (z : List BuiltTuples). Every TuplesCover z) (change.begin_tuples token x)
begin_tuples token below h = (refl, h)

pub begin_tuple : (x : List BuiltTuple) → Every TupleCovers x → Then (λ (z : List BuiltTuple). Every TupleCovers z) (change.begin_tuple x)
begin_tuple below h = (refl, h)

abbrev pub Valued : List Built × List BuiltTuple → Type 0
Valued x = Every BuiltCovers x.0 × Every TupleCovers x.1

pub tuple_value : (x : List Built × List BuiltTuple) → Valued x → Then (λ (z : List Built × List BuiltTuple). Valued z) (change.tuple_value x)
tuple_value ((e ∷ expressions), (t ∷ below)) ((h, hs), (g, gs)) = (hs, (omega (arith, g, h, pushed value_depth_of t.values (value.Expression e.tree)), gs))
tuple_value ((e ∷ expressions), []) h = tt
tuple_value ([], tuples) h = tt

pub tuple_default : (token : Token) (x : List BuiltTuple) → Every TupleCovers x → Then (λ (z : List BuiltTuple). Every TupleCovers z) (change.tuple_default token x)
tuple_default token (t ∷ below) (g, gs) = (omega (arith, g, pushed value_depth_of t.values (value.Default token.start)), gs)
tuple_default token [] h = tt

abbrev pub Tuples : List BuiltTuple × List BuiltTuples → Type 0
Tuples x = Every TupleCovers x.0 × Every TuplesCover x.1

pub add_tuple : (x : List BuiltTuple × List BuiltTuples) → Tuples x → Then (λ (z : List BuiltTuple × List BuiltTuples). Tuples z) (change.add_tuple x)
add_tuple ((t ∷ tuples), (list ∷ below)) ((h, hs), (g, gs)) = (hs, (omega (arith, g, h, pushed values_depth list.tuples t.values), gs))
add_tuple ((t ∷ tuples), []) h = tt
add_tuple ([], lists) h = tt

-- a value counts in a row as in a tuple, and DEFAULT not at all
values_in_row : (v : NewValue) (all : List Expression) → deepest (map depth_of (change.with_value v all)) ≡ max (value_depth_of v) (deepest (map depth_of all))
values_in_row (value.Expression e) all = deepest_first (depth_of e) (map depth_of all)
values_in_row (value.Default at) all = omega arith

row_in_tuple : (values : List NewValue) → deepest (map depth_of (change.expressions_in values)) ≡ values_depth values
row_in_tuple [] = refl
row_in_tuple (v ∷ values) = omega (arith, values_in_row v (change.expressions_in values), row_in_tuple values, deepest_first (value_depth_of v) (map value_depth_of values))

row_of_tuple : (values : List NewValue) → row_depth (change.row_of values) ≡ values_depth values
row_of_tuple values = omega (arith, tree.row_is (change.expressions_in values), row_in_tuple values)

rows_in_tuples : (tuples : List (List NewValue)) → deepest (map row_depth (change.rows_in tuples)) ≡ deepest (map values_depth tuples)
rows_in_tuples [] = refl
rows_in_tuples (t ∷ tuples) =
    omega (arith, row_of_tuple t, rows_in_tuples tuples, deepest_first (row_depth (change.row_of t)) (map row_depth (change.rows_in tuples)), deepest_first (values_depth t) (map values_depth tuples))

abbrev pub TupleBodies : List BuiltTuples × List BuiltBody → Type 0
TupleBodies x = Every TuplesCover x.0 × Every BodyCovers x.1

pub tuples_body : (x : List BuiltTuples × List BuiltBody) → TupleBodies x → Then (λ (z : List BuiltTuples × List BuiltBody). TupleBodies z) (change.tuples_body x)
tuples_body ((list ∷ lists), below) ((g, gs), hs) =
    let e = tree.values_body_is (change.rows_in list.tuples) in (gs, (omega (arith, g, rows_in_tuples list.tuples), hs))
tuples_body ([], below) h = tt
