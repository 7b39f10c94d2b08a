-- Places that are set twice are those set last, and places make no depth and break no law.
use Rattle.std.proofs.Common.{◌≡◌, ℕ, Bool, ◌&&◌, List, [], ◌∷◌, map, Option, Some, None, refl, ap, sym, ◌∙◌}
use Rattle.std.specs.Prelude.{◌↔◌}
use Rattle.hs_ast.specs.Places.{placed_name, placed_if_named, placed_names, of_expression, of_query, of_key, of_item, of_table, placed, placed_query, placed_if_written, placed_value, placed_source, placed_insert, placed_assignment, placed_update, placed_delete, placed_lock, placed_default, placed_foreign_key, placed_column_rule, placed_column_constraint, placed_column, placed_table_rule, placed_constraint, placed_element, placed_create, placed_index, placed_action, placed_alter, placed_statement, AreAlike, AreAlikeQueries, AreAlikeStatements}
use Rattle.hs_ast.specs.declared.expression.ExpressionKind.TheOpen.{SelectItem-F, TableReference-F}
use Rattle.hs_ast.specs.declared.expression.ExpressionKind.{ExpressionKind, roll-ExpressionKind}
use Rattle.hs_ast.specs.declared.query.Join.{Join, roll-Join}
use Rattle.hs_ast.specs.declared.query.QueryBody.{QueryBody, roll-QueryBody}
use Rattle.hs_ast.specs.declared.query.SelectItem.{SelectItem, roll-SelectItem}
use Rattle.hs_ast.specs.declared.query.TableReference.{TableReference, roll-TableReference}
use Rattle.hs_ast.specs.declared.expression.CaseArm.{CaseArm, roll-CaseArm}
use Rattle.hs_ast.specs.declared.expression.Expression.{Expression}
use Rattle.hs_ast.specs.declared.query.FromItem.{FromItem, roll-FromItem}
use Rattle.hs_ast.specs.declared.query.Query.{Query}
use Rattle.hs_ast.specs.declared.query.Select.{Select, roll-Select}
use Rattle.hs_ast.specs.declared.query.SortKey.{SortKey}
use Rattle.hs_ast.specs.declared.query.ValuesRow.{ValuesRow, roll-ValuesRow}
use Rattle.hs_ast.proofs.PlaceFolds as folds
use Rattle.hs_ast.specs.Depth as depth
use Rattle.hs_ast.specs.Lawful as lawful
use Rattle.hs_ast.specs.declared.change.Assignment.{Assignment}
use Rattle.hs_ast.specs.declared.change.Delete.{Delete}
use Rattle.hs_ast.specs.declared.change.Insert.{Insert}
use Rattle.hs_ast.specs.declared.change.InsertSource.{InsertSource}
use Rattle.hs_ast.specs.declared.change.InsertSource.TheVariants as source
use Rattle.hs_ast.specs.declared.change.NewValue.{NewValue}
use Rattle.hs_ast.specs.declared.change.NewValue.TheVariants as value
use Rattle.hs_ast.specs.declared.change.Update.{Update}
use Rattle.hs_ast.specs.declared.definition.AlterAction.{AlterAction}
use Rattle.hs_ast.specs.declared.definition.AlterAction.TheVariants as action
use Rattle.hs_ast.specs.declared.definition.AlterTable.{AlterTable}
use Rattle.hs_ast.specs.declared.definition.ColumnConstraint.{ColumnConstraint}
use Rattle.hs_ast.specs.declared.definition.ColumnDefinition.{ColumnDefinition}
use Rattle.hs_ast.specs.declared.definition.ColumnRule.{ColumnRule}
use Rattle.hs_ast.specs.declared.definition.ColumnRule.TheVariants as column
use Rattle.hs_ast.specs.declared.definition.CreateIndex.{CreateIndex}
use Rattle.hs_ast.specs.declared.definition.CreateTable.{CreateTable}
use Rattle.hs_ast.specs.declared.definition.DataType.{DataType}
use Rattle.hs_ast.specs.declared.definition.DefaultValue.{DefaultValue}
use Rattle.hs_ast.specs.declared.definition.ForeignKey.{ForeignKey}
use Rattle.hs_ast.specs.declared.definition.Storage.{Storage}
use Rattle.hs_ast.specs.declared.definition.TableConstraint.{TableConstraint}
use Rattle.hs_ast.specs.declared.definition.TableElement.{TableElement}
use Rattle.hs_ast.specs.declared.definition.TableElement.TheVariants as element
use Rattle.hs_ast.specs.declared.definition.TableRule.{TableRule}
use Rattle.hs_ast.specs.declared.definition.TableRule.TheVariants as table
use Rattle.hs_ast.specs.declared.statement.Stmt.{Stmt}
use Rattle.hs_ast.specs.declared.statement.Stmt.TheVariants as s
use Rattle.hs_ast.specs.declared.word.Identifier.{Identifier}

-- ---- lists

maps_again : {A : Type 0} (f g : A → A) → ((a : A) → f (g a) ≡ f a) → (xs : List A) → map f (map g xs) ≡ map f xs
maps_again f g h [] = refl
maps_again f g h (x ∷ xs) = ap (λ z. z ∷ map f (map g xs)) (h x) ∙ ap (λ z. f x ∷ z) (maps_again f g h xs)

if_named_again : (p q : ℕ) (name : Option Identifier) → placed_if_named p (placed_if_named q name) ≡ placed_if_named p name
if_named_again p q None = refl
if_named_again p q (Some name) = refl

names_again : (p q : ℕ) (names : List Identifier) → placed_names p (placed_names q names) ≡ placed_names p names
names_again p q = maps_again (placed_name p) (placed_name q) (λ name. refl)

-- ---- expressions and queries, with places set to q and then to p

module _ (p q : ℕ) where
  abbrev steps_look : folds.LooksAtNoPlace ExpressionKind Join QueryBody SelectItem TableReference CaseArm Expression FromItem Query Select SortKey ValuesRow roll-ExpressionKind roll-Join roll-QueryBody (of_item p) (of_table p) roll-CaseArm (of_expression p) roll-FromItem (of_query p) roll-Select (of_key p) roll-ValuesRow
  steps_look = record {
    tree = λ a b k. refl;
    query = λ a b body keys l. refl;
    key = λ a b e descending. refl;
    every = λ a b. refl;
    one = λ a b e alias. ap (λ z. roll-SelectItem (SelectItem-F.One p e z)) (if_named_again p a alias);
    named = λ a name alias. ap (λ z. roll-TableReference (TableReference-F.Named (placed_name p name) z)) (if_named_again p a alias);
    derived = λ a query alias. refl;
  }

  pub expression_again : (e : Expression) → placed p (placed q e) ≡ placed p e
  expression_again = folds.expressions_same ExpressionKind Join QueryBody SelectItem TableReference CaseArm Expression FromItem Query Select SortKey ValuesRow roll-ExpressionKind roll-Join roll-QueryBody (of_item p) (of_table p) roll-CaseArm (of_expression p) roll-FromItem (of_query p) roll-Select (of_key p) roll-ValuesRow q steps_look

  pub query_again : (e : Query) → placed_query p (placed_query q e) ≡ placed_query p e
  query_again = folds.queries_same ExpressionKind Join QueryBody SelectItem TableReference CaseArm Expression FromItem Query Select SortKey ValuesRow roll-ExpressionKind roll-Join roll-QueryBody (of_item p) (of_table p) roll-CaseArm (of_expression p) roll-FromItem (of_query p) roll-Select (of_key p) roll-ValuesRow q steps_look

  -- ---- statements

  if_written_again : (e : Option Expression) → placed_if_written p (placed_if_written q e) ≡ placed_if_written p e
  if_written_again None = refl
  if_written_again (Some e) = ap (λ z. Some z) (expression_again e)

  value_again : (v : NewValue) → placed_value p (placed_value q v) ≡ placed_value p v
  value_again (value.Expression e) = ap (λ z. value.Expression z) (expression_again e)
  value_again (value.Default at) = refl

  source_again : (i : InsertSource) → placed_source p (placed_source q i) ≡ placed_source p i
  source_again (source.Tuples tuples) = ap (λ z. source.Tuples z) (maps_again (map (placed_value p)) (map (placed_value q)) (λ tuple. maps_again (placed_value p) (placed_value q) value_again tuple) tuples)
  source_again (source.Query query) = ap (λ z. source.Query z) (query_again query)

  abbrev insert_of : Identifier → List Identifier → InsertSource → Insert
  insert_of t c i = record { table = t; columns = c; source = i }

  insert_again : (i : Insert) → placed_insert p (placed_insert q i) ≡ placed_insert p i
  insert_again i = ap (λ z. insert_of (placed_name p i.table) z (placed_source p (placed_source q i.source))) (names_again p q i.columns) ∙ ap (λ z. insert_of (placed_name p i.table) (placed_names p i.columns) z) (source_again i.source)

  abbrev assignment_of : Identifier → NewValue → Assignment
  assignment_of c v = record { column = c; value = v }

  assignment_again : (a : Assignment) → placed_assignment p (placed_assignment q a) ≡ placed_assignment p a
  assignment_again a = ap (λ z. assignment_of (placed_name p a.column) z) (value_again a.value)

  abbrev update_of : Identifier → Option Identifier → List Assignment → Option Expression → Update
  update_of t n a w = record { table = t; alias = n; assignments = a; filter = w }

  update_again : (u : Update) → placed_update p (placed_update q u) ≡ placed_update p u
  update_again u =
      ap (λ z. update_of (placed_name p u.table) z (map (placed_assignment p) (map (placed_assignment q) u.assignments)) (placed_if_written p (placed_if_written q u.filter))) (if_named_again p q u.alias)
      ∙ ap (λ z. update_of (placed_name p u.table) (placed_if_named p u.alias) z (placed_if_written p (placed_if_written q u.filter))) (maps_again (placed_assignment p) (placed_assignment q) assignment_again u.assignments)
      ∙ ap (λ z. update_of (placed_name p u.table) (placed_if_named p u.alias) (map (placed_assignment p) u.assignments) z) (if_written_again u.filter)

  abbrev delete_of : Identifier → Option Identifier → Option Expression → Delete
  delete_of t n w = record { table = t; alias = n; filter = w }

  delete_again : (d : Delete) → placed_delete p (placed_delete q d) ≡ placed_delete p d
  delete_again d =
      ap (λ z. delete_of (placed_name p d.table) z (placed_if_written p (placed_if_written q d.filter))) (if_named_again p q d.alias)
      ∙ ap (λ z. delete_of (placed_name p d.table) (placed_if_named p d.alias) z) (if_written_again d.filter)

  default_again : (d : Option DefaultValue) → placed_default p (placed_default q d) ≡ placed_default p d
  default_again None = refl
  default_again (Some d) = refl

  foreign_key_again : (k : ForeignKey) → placed_foreign_key p (placed_foreign_key q k) ≡ placed_foreign_key p k
  foreign_key_again k =
      let f : List Identifier → ForeignKey = λ z. record { parent = placed_name p k.parent; parent_columns = z; on_delete = k.on_delete; on_update = k.on_update } in
      ap f (names_again p q k.parent_columns)

  column_rule_again : (r : ColumnRule) → placed_column_rule p (placed_column_rule q r) ≡ placed_column_rule p r
  column_rule_again column.NotNull = refl
  column_rule_again column.PrimaryKey = refl
  column_rule_again column.Unique = refl
  column_rule_again (column.Check e) = ap (λ z. column.Check z) (expression_again e)
  column_rule_again (column.References key) = ap (λ z. column.References z) (foreign_key_again key)

  abbrev column_constraint_of : Option Identifier → ColumnRule → ColumnConstraint
  column_constraint_of n r = record { at = p; name = n; rule = r }

  column_constraint_again : (c : ColumnConstraint) → placed_column_constraint p (placed_column_constraint q c) ≡ placed_column_constraint p c
  column_constraint_again c =
      ap (λ z. column_constraint_of z (placed_column_rule p (placed_column_rule q c.rule))) (if_named_again p q c.name)
      ∙ ap (λ z. column_constraint_of (placed_if_named p c.name) z) (column_rule_again c.rule)

  abbrev column_of : Identifier → DataType → Option DefaultValue → List ColumnConstraint → ColumnDefinition
  column_of n t d c = record { name = n; data_type = t; default = d; constraints = c }

  column_again : (c : ColumnDefinition) → placed_column p (placed_column q c) ≡ placed_column p c
  column_again c =
      ap (λ z. column_of (placed_name p c.name) c.data_type z (map (placed_column_constraint p) (map (placed_column_constraint q) c.constraints))) (default_again c.default)
      ∙ ap (λ z. column_of (placed_name p c.name) c.data_type (placed_default p c.default) z) (maps_again (placed_column_constraint p) (placed_column_constraint q) column_constraint_again c.constraints)

  table_rule_again : (r : TableRule) → placed_table_rule p (placed_table_rule q r) ≡ placed_table_rule p r
  table_rule_again (table.PrimaryKey columns) = ap (λ z. table.PrimaryKey z) (names_again p q columns)
  table_rule_again (table.Unique columns) = ap (λ z. table.Unique z) (names_again p q columns)
  table_rule_again (table.Check e) = ap (λ z. table.Check z) (expression_again e)
  table_rule_again (table.ForeignKey columns key) =
      ap (λ z. table.ForeignKey z (placed_foreign_key p (placed_foreign_key q key))) (names_again p q columns) ∙ ap (λ z. table.ForeignKey (placed_names p columns) z) (foreign_key_again key)

  abbrev constraint_of : Option Identifier → TableRule → TableConstraint
  constraint_of n r = record { at = p; name = n; rule = r }

  constraint_again : (c : TableConstraint) → placed_constraint p (placed_constraint q c) ≡ placed_constraint p c
  constraint_again c =
      ap (λ z. constraint_of z (placed_table_rule p (placed_table_rule q c.rule))) (if_named_again p q c.name)
      ∙ ap (λ z. constraint_of (placed_if_named p c.name) z) (table_rule_again c.rule)

  element_again : (e : TableElement) → placed_element p (placed_element q e) ≡ placed_element p e
  element_again (element.Column c) = ap (λ z. element.Column z) (column_again c)
  element_again (element.Constraint c) = ap (λ z. element.Constraint z) (constraint_again c)

  abbrev create_of : Storage → Identifier → List TableElement → CreateTable
  create_of k n e = record { storage = k; name = n; elements = e }

  create_again : (t : CreateTable) → placed_create p (placed_create q t) ≡ placed_create p t
  create_again t = ap (λ z. create_of t.storage (placed_name p t.name) z) (maps_again (placed_element p) (placed_element q) element_again t.elements)

  abbrev index_of : Identifier → Identifier → List Identifier → CreateIndex
  index_of n t c = record { name = n; table = t; columns = c }

  index_again : (i : CreateIndex) → placed_index p (placed_index q i) ≡ placed_index p i
  index_again i = ap (λ z. index_of (placed_name p i.name) (placed_name p i.table) z) (names_again p q i.columns)

  action_again : (a : AlterAction) → placed_action p (placed_action q a) ≡ placed_action p a
  action_again (action.AddColumn c) = ap (λ z. action.AddColumn z) (column_again c)
  action_again (action.AddConstraint c) = ap (λ z. action.AddConstraint z) (constraint_again c)
  action_again (action.DropConstraint name) = refl

  abbrev alter_of : Identifier → AlterAction → AlterTable
  alter_of t a = record { table = t; action = a }

  alter_again : (a : AlterTable) → placed_alter p (placed_alter q a) ≡ placed_alter p a
  alter_again a = ap (λ z. alter_of (placed_name p a.table) z) (action_again a.action)

  pub statement_again : (s : Stmt) → placed_statement p (placed_statement q s) ≡ placed_statement p s
  statement_again (s.Query query) = ap (λ z. s.Query z) (query_again query)
  statement_again (s.Insert insert) = ap (λ z. s.Insert z) (insert_again insert)
  statement_again (s.Update update) = ap (λ z. s.Update z) (update_again update)
  statement_again (s.Delete delete) = ap (λ z. s.Delete z) (delete_again delete)
  statement_again (s.LockTable tables) = ap (λ z. s.LockTable z) (maps_again (placed_lock p) (placed_lock q) (λ l. refl) tables)
  statement_again (s.CreateTable create) = ap (λ z. s.CreateTable z) (create_again create)
  statement_again (s.CreateIndex create) = ap (λ z. s.CreateIndex z) (index_again create)
  statement_again (s.AlterTable alter) = ap (λ z. s.AlterTable z) (alter_again alter)
  statement_again (s.DropTable name) = refl
  statement_again (s.DropIndex name) = refl
  statement_again (s.SetControl control) = refl
  statement_again (s.SetDefaultLevel level) = refl
  statement_again (s.SetAutocommit on) = refl
  statement_again (s.SetCharacteristics modes) = refl
  statement_again (s.SetTransaction modes) = refl
  statement_again (s.StartTransaction modes) = refl
  statement_again s.Commit = refl
  statement_again s.Rollback = refl
  statement_again (s.Savepoint name) = refl
  statement_again (s.RollbackTo name) = refl
  statement_again (s.ReleaseSavepoint name) = refl
  statement_again s.WriteDelayFalse = refl
  statement_again s.Checkpoint = refl
  statement_again s.Shutdown = refl

-- ---- equal with one place is equal with any other

along : {A : Type 0} (f : ℕ → A → A) → ((p q : ℕ) (a : A) → f p (f q a) ≡ f p a) → (p q : ℕ) (a b : A) → f q a ≡ f q b → f p a ≡ f p b
along f h p q a b e = sym (h p q a) ∙ ap (f p) e ∙ h p q b

exactly : {A : Type 0} (f : ℕ → A → A) → ((p q : ℕ) (a : A) → f p (f q a) ≡ f p a) → (p : ℕ) (a b : A) → (f 0 a ≡ f 0 b) ↔ (f p a ≡ f p b)
exactly f h p a b = (λ e. along f h p 0 a b e, λ e. along f h 0 p a b e)

pub expressions_exactly : (p : ℕ) (a b : Expression) → AreAlike a b ↔ (placed p a ≡ placed p b)
expressions_exactly = exactly placed expression_again

pub queries_exactly : (p : ℕ) (a b : Query) → AreAlikeQueries a b ↔ (placed_query p a ≡ placed_query p b)
queries_exactly = exactly placed_query query_again

pub statements_exactly : (p : ℕ) (a b : Stmt) → AreAlikeStatements a b ↔ (placed_statement p a ≡ placed_statement p b)
statements_exactly = exactly placed_statement statement_again

-- ---- depths and lawful trees

abbrev depths_look : folds.LooksAtNoPlace ℕ ℕ ℕ ℕ ℕ ℕ ℕ ℕ ℕ ℕ ℕ ℕ depth.of_kind depth.of_join depth.of_body depth.of_item depth.of_table depth.of_arm depth.of_expression depth.of_from depth.of_query depth.of_select depth.of_key depth.of_row
depths_look = record {
  tree = λ a b k. refl;
  query = λ a b body keys l. refl;
  key = λ a b e descending. refl;
  every = λ a b. refl;
  one = λ a b e alias. refl;
  named = λ a name alias. refl;
  derived = λ a query alias. refl;
}

pub depth_kept : (p : ℕ) (e : Expression) → depth.depth_of (placed p e) ≡ depth.depth_of e
depth_kept p = folds.expressions_same ℕ ℕ ℕ ℕ ℕ ℕ ℕ ℕ ℕ ℕ ℕ ℕ depth.of_kind depth.of_join depth.of_body depth.of_item depth.of_table depth.of_arm depth.of_expression depth.of_from depth.of_query depth.of_select depth.of_key depth.of_row p depths_look

pub query_depth_kept : (p : ℕ) (e : Query) → depth.query_depth_of (placed_query p e) ≡ depth.query_depth_of e
query_depth_kept p = folds.queries_same ℕ ℕ ℕ ℕ ℕ ℕ ℕ ℕ ℕ ℕ ℕ ℕ depth.of_kind depth.of_join depth.of_body depth.of_item depth.of_table depth.of_arm depth.of_expression depth.of_from depth.of_query depth.of_select depth.of_key depth.of_row p depths_look

is_named : (p : ℕ) (alias : Option Identifier) → lawful.if_written lawful.is_identifier (placed_if_named p alias) ≡ lawful.if_written lawful.is_identifier alias
is_named p None = refl
is_named p (Some alias) = refl

abbrev laws_look : folds.LooksAtNoPlace Bool Bool Bool Bool Bool Bool Bool Bool Bool Bool Bool Bool lawful.of_kind lawful.of_join lawful.of_body lawful.of_item lawful.of_table lawful.of_arm lawful.of_expression lawful.of_from lawful.of_query lawful.of_select lawful.of_key lawful.of_row
laws_look = record {
  tree = λ a b k. refl;
  query = λ a b body keys l. refl;
  key = λ a b e descending. refl;
  every = λ a b. refl;
  one = λ a b e alias. ap (λ z. e && z) (is_named a alias);
  named = λ a name alias. ap (λ z. lawful.is_identifier name && z) (is_named a alias);
  derived = λ a query alias. refl;
}

pub lawful_kept : (p : ℕ) (e : Expression) → lawful.is_lawful (placed p e) ≡ lawful.is_lawful e
lawful_kept p = folds.expressions_same Bool Bool Bool Bool Bool Bool Bool Bool Bool Bool Bool Bool lawful.of_kind lawful.of_join lawful.of_body lawful.of_item lawful.of_table lawful.of_arm lawful.of_expression lawful.of_from lawful.of_query lawful.of_select lawful.of_key lawful.of_row p laws_look

pub lawful_query_kept : (p : ℕ) (e : Query) → lawful.is_lawful_query (placed_query p e) ≡ lawful.is_lawful_query e
lawful_query_kept p = folds.queries_same Bool Bool Bool Bool Bool Bool Bool Bool Bool Bool Bool Bool lawful.of_kind lawful.of_join lawful.of_body lawful.of_item lawful.of_table lawful.of_arm lawful.of_expression lawful.of_from lawful.of_query lawful.of_select lawful.of_key lawful.of_row p laws_look

-- what a fold gives of two trees that are equal but for places
same : {A X : Type 0} (f : ℕ → A → A) (g : A → X) → ((p : ℕ) (a : A) → g (f p a) ≡ g a) → (a b : A) → f 0 a ≡ f 0 b → g a ≡ g b
same f g h a b e = sym (h 0 a) ∙ ap g e ∙ h 0 b

pub alike_depth : (a b : Expression) → AreAlike a b → depth.depth_of a ≡ depth.depth_of b
alike_depth = same placed depth.depth_of depth_kept

pub alike_query_depth : (a b : Query) → AreAlikeQueries a b → depth.query_depth_of a ≡ depth.query_depth_of b
alike_query_depth = same placed_query depth.query_depth_of query_depth_kept

pub alike_lawful : (a b : Expression) → AreAlike a b → lawful.is_lawful a ≡ lawful.is_lawful b
alike_lawful = same placed lawful.is_lawful lawful_kept

pub alike_lawful_query : (a b : Query) → AreAlikeQueries a b → lawful.is_lawful_query a ≡ lawful.is_lawful_query b
alike_lawful_query = same placed_query lawful.is_lawful_query lawful_query_kept
