-- Which tokens spell a statement.
use Rattle.std.specs.Prelude.{◌≡◌, ◌≢◌, ℕ, Bool, true, false, List, [], ◌∷◌, ◌++◌, Option, Some, None}
use Rattle.hs_ast.specs.declared.change.Assignment.{Assignment}
use Rattle.hs_ast.specs.declared.change.InsertSource.{InsertSource}
use Rattle.hs_ast.specs.declared.change.InsertSource.TheVariants as source
use Rattle.hs_ast.specs.declared.change.LockedTable.{LockedTable}
use Rattle.hs_ast.specs.declared.change.NewValue.{NewValue}
use Rattle.hs_ast.specs.declared.change.NewValue.TheVariants as value
use Rattle.hs_ast.specs.declared.definition.AlterAction.{AlterAction}
use Rattle.hs_ast.specs.declared.definition.AlterAction.TheVariants as alter
use Rattle.hs_ast.specs.declared.definition.ColumnConstraint.{ColumnConstraint}
use Rattle.hs_ast.specs.declared.definition.ColumnDefinition.{ColumnDefinition}
use Rattle.hs_ast.specs.declared.definition.ColumnRule.{ColumnRule}
use Rattle.hs_ast.specs.declared.definition.ColumnRule.TheVariants as column
use Rattle.hs_ast.specs.declared.definition.DataType.{DataType}
use Rattle.hs_ast.specs.declared.definition.DefaultValue.{DefaultValue}
use Rattle.hs_ast.specs.declared.definition.ForeignKey.{ForeignKey}
use Rattle.hs_ast.specs.declared.definition.ReferentialAction.{ReferentialAction}
use Rattle.hs_ast.specs.declared.definition.ReferentialAction.TheVariants as r
use Rattle.hs_ast.specs.declared.definition.Storage.TheVariants as storage
use Rattle.hs_ast.specs.declared.definition.TableConstraint.{TableConstraint}
use Rattle.hs_ast.specs.declared.definition.TableElement.{TableElement}
use Rattle.hs_ast.specs.declared.definition.TableElement.TheVariants as element
use Rattle.hs_ast.specs.declared.definition.TableRule.{TableRule}
use Rattle.hs_ast.specs.declared.definition.TableRule.TheVariants as table
use Rattle.hs_ast.specs.declared.expression.Expression.{Expression}
use Rattle.hs_ast.specs.declared.literal.Literal.{Literal}
use Rattle.hs_ast.specs.declared.query.Limit.{Limit}
use Rattle.hs_ast.specs.declared.query.Query.{Query, roll-Query}
use Rattle.hs_ast.specs.declared.query.QueryBody.{QueryBody}
use Rattle.hs_ast.specs.declared.query.QueryBody.TheVariants as body
use Rattle.hs_ast.specs.declared.query.SetOperator.{SetOperator}
use Rattle.hs_ast.specs.declared.query.SortKey.{SortKey}
use Rattle.hs_ast.specs.declared.session.Access.TheVariants as access
use Rattle.hs_ast.specs.declared.session.Isolation.{Isolation}
use Rattle.hs_ast.specs.declared.session.Isolation.TheVariants as isolation
use Rattle.hs_ast.specs.declared.session.Modes.{Modes}
use Rattle.hs_ast.specs.declared.session.TransactionControl.TheVariants as control
use Rattle.hs_ast.specs.declared.statement.Stmt.{Stmt}
use Rattle.hs_ast.specs.declared.statement.Stmt.TheVariants as s
use Rattle.hs_ast.specs.declared.word.Identifier.{Identifier}
use Rattle.hs_lexer.specs.declared.token.Token.{Token}
use Rattle.hs_syntax.specs.Classes.{class_of}
use Rattle.hs_syntax.specs.Names as class
use Rattle.hs_spelling.specs.Expressions.{disjunction, any, SpellsExpression, SpellsBehind, SpellsQuery, SpellsBody, SpellsEnd}
use Rattle.hs_spelling.specs.Literals.{SpellsNames, SpellsAlias, SpellsSigned, SpellsType}
use Rattle.hs_spelling.specs.Tokens.{start_of, Word, Maybe, Name}

-- ---- rows that are written

pub data SpellsValue (text : List ℕ) : NewValue → List Token → List Token → Type 0 where
  of_expression : {x : Expression} {a b : List Token} → SpellsExpression text disjunction x a b → SpellsValue text (value.Expression x) a b
  default_value : {at : ℕ} {a b : List Token} → at ≡ start_of a → Word text class.DEFAULT a b → SpellsValue text (value.Default at) a b

pub data SpellsValues (text : List ℕ) : List (NewValue) → List Token → List Token → Type 0 where
  one_value : {x : NewValue} {a b : List Token} → SpellsValue text x a b → SpellsValues text (x ∷ []) a b
  more_values : {xs : List (NewValue)} {x : NewValue} {a b c d : List Token} → SpellsValues text xs a b → Word text class.comma b c → SpellsValue text x c d → SpellsValues text (xs ++ x ∷ []) a d

pub data SpellsTuple (text : List ℕ) : List NewValue → List Token → List Token → Type 0 where
  tuple : {vs : List NewValue} {a b c d : List Token} → Word text class.left_parenthesis a b → SpellsValues text vs b c → Word text class.right_parenthesis c d → SpellsTuple text vs a d

pub data SpellsTuples (text : List ℕ) : List (List NewValue) → List Token → List Token → Type 0 where
  one_tuple : {x : List NewValue} {a b : List Token} → SpellsTuple text x a b → SpellsTuples text (x ∷ []) a b
  more_tuples : {xs : List (List NewValue)} {x : List NewValue} {a b c d : List Token} → SpellsTuples text xs a b → Word text class.comma b c → SpellsTuple text x c d → SpellsTuples text (xs ++ x ∷ []) a d

-- Names in parentheses, or nothing.
pub data SpellsColumns (text : List ℕ) : List Identifier → List Token → List Token → Type 0 where
  no_columns : {a : List Token} → SpellsColumns text [] a a
  columns : {ns : List Identifier} {a b c d : List Token} → Word text class.left_parenthesis a b → SpellsNames text ns b c → Word text class.right_parenthesis c d → SpellsColumns text ns a d

-- A body that isn't VALUES and rows alone: those are tuples behind INSERT, where they could be either.
pub data IsNoTuples (text : List ℕ) : QueryBody → List Token → Type 0 where
  other_word : {x : QueryBody} {t : Token} {a : List Token} → class_of text t ≢ class.VALUES → IsNoTuples text x (t ∷ a)
  set_operation : (operator : SetOperator) (x y : QueryBody) {a : List Token} → IsNoTuples text (body.SetOperation operator x y) a

pub data SpellsSource (text : List ℕ) : InsertSource → List Token → List Token → Type 0 where
  tuples : {ts : List (List NewValue)} {a b c : List Token} → Word text class.VALUES a b → SpellsTuples text ts b c → SpellsSource text (source.Tuples ts) a c
  of_body : {at : ℕ} {x : QueryBody} {a b : List Token} → SpellsBody text any at x a b → IsNoTuples text x a → SpellsSource text (source.Query (roll-Query (record { at = at; body = x; order_by = []; limit = None }))) a b
  of_ordered : {at : ℕ} {x : QueryBody} {ks : List SortKey} {l : Option Limit} {a b c : List Token} → SpellsBody text any at x a b → SpellsEnd text ks l b c → SpellsSource text (source.Query (roll-Query (record { at = at; body = x; order_by = ks; limit = l }))) a c

pub data SpellsAssignment (text : List ℕ) : Assignment → List Token → List Token → Type 0 where
  assignment : {n : Identifier} {v : NewValue} {a b c d : List Token} → Name text n a b → Word text class.equal b c → SpellsValue text v c d → SpellsAssignment text (record { column = n; value = v }) a d

pub data SpellsAssignments (text : List ℕ) : List (Assignment) → List Token → List Token → Type 0 where
  one_assignment : {x : Assignment} {a b : List Token} → SpellsAssignment text x a b → SpellsAssignments text (x ∷ []) a b
  more_assignments : {xs : List (Assignment)} {x : Assignment} {a b c d : List Token} → SpellsAssignments text xs a b → Word text class.comma b c → SpellsAssignment text x c d → SpellsAssignments text (xs ++ x ∷ []) a d

pub data SpellsClaim (text : List ℕ) : LockedTable → List Token → List Token → Type 0 where
  read_claim : {n : Identifier} {a b c : List Token} → Name text n a b → Word text class.READ b c → SpellsClaim text (record { table = n; write = false }) a c
  write_claim : {n : Identifier} {a b c : List Token} → Name text n a b → Word text class.WRITE b c → SpellsClaim text (record { table = n; write = true }) a c

pub data SpellsClaims (text : List ℕ) : List (LockedTable) → List Token → List Token → Type 0 where
  one_claim : {x : LockedTable} {a b : List Token} → SpellsClaim text x a b → SpellsClaims text (x ∷ []) a b
  more_claims : {xs : List (LockedTable)} {x : LockedTable} {a b c d : List Token} → SpellsClaims text xs a b → Word text class.comma b c → SpellsClaim text x c d → SpellsClaims text (xs ++ x ∷ []) a d

-- ---- definitions

pub data SpellsAction (text : List ℕ) : ReferentialAction → List Token → List Token → Type 0 where
  cascade : {a b : List Token} → Word text class.CASCADE a b → SpellsAction text r.Cascade a b
  set_null : {a b c : List Token} → Word text class.SET a b → Word text class.NULL b c → SpellsAction text r.SetNull a c
  set_default : {a b c : List Token} → Word text class.SET a b → Word text class.DEFAULT b c → SpellsAction text r.SetDefault a c
  restrict : {a b : List Token} → Word text class.RESTRICT a b → SpellsAction text r.Restrict a b
  no_action : {a b c : List Token} → Word text class.NO a b → Word text class.ACTION b c → SpellsAction text r.NoAction a c

-- What an ON makes of a foreign key.
pub data SpellsChange (text : List ℕ) : ForeignKey → ForeignKey → List Token → List Token → Type 0 where
  on_delete : {k : ForeignKey} {act : ReferentialAction} {a b c d : List Token} → Word text class.ON a b → Word text class.DELETE b c → SpellsAction text act c d → SpellsChange text k (record k { on_delete = act }) a d
  on_update : {k : ForeignKey} {act : ReferentialAction} {a b c d : List Token} → Word text class.ON a b → Word text class.UPDATE b c → SpellsAction text act c d → SpellsChange text k (record k { on_update = act }) a d

-- Of several of one kind the last one holds.
pub data SpellsChanges (text : List ℕ) : ForeignKey → ForeignKey → List Token → List Token → Type 0 where
  no_changes : {k : ForeignKey} {a : List Token} → SpellsChanges text k k a a
  more_changes : {k l m : ForeignKey} {a b c : List Token} → SpellsChanges text k l a b → SpellsChange text l m b c → SpellsChanges text k m a c

-- The column that a column references, or nothing.
pub data SpellsParent (text : List ℕ) : List Identifier → List Token → List Token → Type 0 where
  primary_key : {a : List Token} → SpellsParent text [] a a
  one_parent : {n : Identifier} {a b c d : List Token} → Word text class.left_parenthesis a b → Name text n b c → Word text class.right_parenthesis c d → SpellsParent text (n ∷ []) a d

pub data SpellsColumnRule (text : List ℕ) : ColumnRule → List Token → List Token → Type 0 where
  not_null : {a b c : List Token} → Word text class.NOT a b → Word text class.NULL b c → SpellsColumnRule text column.NotNull a c
  column_primary : {a b c : List Token} → Word text class.PRIMARY a b → Word text class.KEY b c → SpellsColumnRule text column.PrimaryKey a c
  column_unique : {a b : List Token} → Word text class.UNIQUE a b → SpellsColumnRule text column.Unique a b
  column_check : {x : Expression} {a b c d e : List Token} → Word text class.CHECK a b → Word text class.left_parenthesis b c → SpellsExpression text disjunction x c d → Word text class.right_parenthesis d e → SpellsColumnRule text (column.Check x) a e
  references : {n : Identifier} {cs : List Identifier} {k : ForeignKey} {a b c d e : List Token} → Word text class.REFERENCES a b → Name text n b c → SpellsParent text cs c d → SpellsChanges text (record { parent = n; parent_columns = cs; on_delete = r.NoAction; on_update = r.NoAction }) k d e → SpellsColumnRule text (column.References k) a e

pub data SpellsTableRule (text : List ℕ) : TableRule → List Token → List Token → Type 0 where
  table_primary : {ns : List Identifier} {a b c d e f : List Token} → Word text class.PRIMARY a b → Word text class.KEY b c → Word text class.left_parenthesis c d → SpellsNames text ns d e → Word text class.right_parenthesis e f → SpellsTableRule text (table.PrimaryKey ns) a f
  table_unique : {ns : List Identifier} {a b c d e : List Token} → Word text class.UNIQUE a b → Word text class.left_parenthesis b c → SpellsNames text ns c d → Word text class.right_parenthesis d e → SpellsTableRule text (table.Unique ns) a e
  table_check : {x : Expression} {a b c d e : List Token} → Word text class.CHECK a b → Word text class.left_parenthesis b c → SpellsExpression text disjunction x c d → Word text class.right_parenthesis d e → SpellsTableRule text (table.Check x) a e
  foreign_key : {ns cs : List Identifier} {n : Identifier} {k : ForeignKey} {a b c d e f g h i j : List Token} → Word text class.FOREIGN a b → Word text class.KEY b c → Word text class.left_parenthesis c d → SpellsNames text ns d e → Word text class.right_parenthesis e f → Word text class.REFERENCES f g → Name text n g h → SpellsColumns text cs h i → SpellsChanges text (record { parent = n; parent_columns = cs; on_delete = r.NoAction; on_update = r.NoAction }) k i j → SpellsTableRule text (table.ForeignKey ns k) a j

-- CONSTRAINT and a name, or nothing.
pub data SpellsHeader (text : List ℕ) : Option Identifier → List Token → List Token → Type 0 where
  unnamed : {a : List Token} → SpellsHeader text None a a
  named : {n : Identifier} {a b c : List Token} → Word text class.CONSTRAINT a b → Name text n b c → SpellsHeader text (Some n) a c

pub data SpellsColumnConstraint (text : List ℕ) : ColumnConstraint → List Token → List Token → Type 0 where
  column_constraint : {at : ℕ} {n : Option Identifier} {rule : ColumnRule} {a b c : List Token} → at ≡ start_of a → SpellsHeader text n a b → SpellsColumnRule text rule b c → SpellsColumnConstraint text (record { at = at; name = n; rule = rule }) a c

pub data SpellsColumnConstraints (text : List ℕ) : List (ColumnConstraint) → List Token → List Token → Type 0 where
  no_constraints : {a : List Token} → SpellsColumnConstraints text [] a a
  more_constraints : {xs : List (ColumnConstraint)} {x : ColumnConstraint} {a b c : List Token} → SpellsColumnConstraints text xs a b → SpellsColumnConstraint text x b c → SpellsColumnConstraints text (xs ++ x ∷ []) a c

pub data SpellsTableConstraint (text : List ℕ) : TableConstraint → List Token → List Token → Type 0 where
  table_constraint : {at : ℕ} {n : Option Identifier} {rule : TableRule} {a b c : List Token} → at ≡ start_of a → SpellsHeader text n a b → SpellsTableRule text rule b c → SpellsTableConstraint text (record { at = at; name = n; rule = rule }) a c

pub data SpellsDefault (text : List ℕ) : Option DefaultValue → List Token → List Token → Type 0 where
  no_default : {a : List Token} → SpellsDefault text None a a
  a_default : {at : ℕ} {x : Literal} {a b c : List Token} → Word text class.DEFAULT a b → at ≡ start_of b → SpellsSigned text x b c → SpellsDefault text (Some (record { at = at; literal = x })) a c

pub data SpellsColumn (text : List ℕ) : ColumnDefinition → List Token → List Token → Type 0 where
  column_of : {n : Identifier} {type : DataType} {default : Option DefaultValue} {cs : List ColumnConstraint} {a b c d e : List Token} → Name text n a b → SpellsType text type b c → SpellsDefault text default c d → SpellsColumnConstraints text cs d e → SpellsColumn text (record { name = n; data_type = type; default = default; constraints = cs }) a e

pub data SpellsElement (text : List ℕ) : TableElement → List Token → List Token → Type 0 where
  column_element : {x : ColumnDefinition} {a b : List Token} → SpellsColumn text x a b → SpellsElement text (element.Column x) a b
  constraint_element : {x : TableConstraint} {a b : List Token} → SpellsTableConstraint text x a b → SpellsElement text (element.Constraint x) a b

pub data SpellsElements (text : List ℕ) : List (TableElement) → List Token → List Token → Type 0 where
  one_element : {x : TableElement} {a b : List Token} → SpellsElement text x a b → SpellsElements text (x ∷ []) a b
  more_elements : {xs : List (TableElement)} {x : TableElement} {a b c d : List Token} → SpellsElements text xs a b → Word text class.comma b c → SpellsElement text x c d → SpellsElements text (xs ++ x ∷ []) a d

pub data SpellsAlteration (text : List ℕ) : AlterAction → List Token → List Token → Type 0 where
  add_column : {x : ColumnDefinition} {a b c d : List Token} → Word text class.ADD a b → Word text class.COLUMN b c → SpellsColumn text x c d → SpellsAlteration text (alter.AddColumn x) a d
  add_constraint : {x : TableConstraint} {a b c : List Token} → Word text class.ADD a b → SpellsTableConstraint text x b c → SpellsAlteration text (alter.AddConstraint x) a c
  drop_constraint : {n : Identifier} {a b c d : List Token} → Word text class.DROP a b → Word text class.CONSTRAINT b c → Name text n c d → SpellsAlteration text (alter.DropConstraint n) a d

-- ---- sessions

-- What a mode makes of the modes before it.
pub data SpellsMode (text : List ℕ) : Modes → Modes → List Token → List Token → Type 0 where
  read_committed : {m : Modes} {a b c d e : List Token} → Word text class.ISOLATION a b → Word text class.LEVEL b c → Word text class.READ c d → Word text class.COMMITTED d e → SpellsMode text m (record m { isolation = Some isolation.ReadCommitted }) a e
  repeatable_read : {m : Modes} {a b c d e : List Token} → Word text class.ISOLATION a b → Word text class.LEVEL b c → Word text class.REPEATABLE c d → Word text class.READ d e → SpellsMode text m (record m { isolation = Some isolation.RepeatableRead }) a e
  serializable : {m : Modes} {a b c d : List Token} → Word text class.ISOLATION a b → Word text class.LEVEL b c → Word text class.SERIALIZABLE c d → SpellsMode text m (record m { isolation = Some isolation.Serializable }) a d
  read_only : {m : Modes} {a b c : List Token} → Word text class.READ a b → Word text class.ONLY b c → SpellsMode text m (record m { access = Some access.ReadOnly }) a c
  read_write : {m : Modes} {a b c : List Token} → Word text class.READ a b → Word text class.WRITE b c → SpellsMode text m (record m { access = Some access.ReadWrite }) a c

-- no level and no access
abbrev pub no_modes : Modes
no_modes = record { isolation = None; access = None }

pub data SpellsModes (text : List ℕ) : Modes → List Token → List Token → Type 0 where
  one_mode : {m : Modes} {a b : List Token} → SpellsMode text no_modes m a b → SpellsModes text m a b
  more_modes : {m n : Modes} {a b c d : List Token} → SpellsModes text m a b → Word text class.comma b c → SpellsMode text m n c d → SpellsModes text n a d

pub data SpellsStart (text : List ℕ) : Modes → List Token → List Token → Type 0 where
  without_modes : {a : List Token} → SpellsStart text no_modes a a
  with_modes : {m : Modes} {a b : List Token} → SpellsModes text m a b → SpellsStart text m a b

-- ---- statements

pub data SpellsStatement (text : List ℕ) : Stmt → List Token → List Token → Type 0 where
  query : {q : Query} {a b : List Token} → SpellsQuery text q a b → SpellsStatement text (s.Query q) a b
  insert : {n : Identifier} {cs : List Identifier} {x : InsertSource} {a b c d e f : List Token} → Word text class.INSERT a b → Word text class.INTO b c → Name text n c d → SpellsColumns text cs d e → SpellsSource text x e f → SpellsStatement text (s.Insert (record { table = n; columns = cs; source = x })) a f
  update : {n : Identifier} {alias : Option Identifier} {xs : List Assignment} {filter : Option Expression} {a b c d e f g : List Token} → Word text class.UPDATE a b → Name text n b c → SpellsAlias text alias c d → Word text class.SET d e → SpellsAssignments text xs e f → SpellsBehind text class.WHERE filter f g → SpellsStatement text (s.Update (record { table = n; alias = alias; assignments = xs; filter = filter })) a g
  delete : {n : Identifier} {alias : Option Identifier} {filter : Option Expression} {a b c d e f : List Token} → Word text class.DELETE a b → Word text class.FROM b c → Name text n c d → SpellsAlias text alias d e → SpellsBehind text class.WHERE filter e f → SpellsStatement text (s.Delete (record { table = n; alias = alias; filter = filter })) a f
  lock : {xs : List LockedTable} {a b c d : List Token} → Word text class.LOCK a b → Word text class.TABLE b c → SpellsClaims text xs c d → SpellsStatement text (s.LockTable xs) a d
  create_table : {n : Identifier} {xs : List TableElement} {a b c d e f g h : List Token} → Word text class.CREATE a b → Maybe text class.MEMORY b c → Word text class.TABLE c d → Name text n d e → Word text class.left_parenthesis e f → SpellsElements text xs f g → Word text class.right_parenthesis g h → SpellsStatement text (s.CreateTable (record { storage = storage.Memory; name = n; elements = xs })) a h
  create_index : {n t : Identifier} {ns : List Identifier} {a b c d e f g h i : List Token} → Word text class.CREATE a b → Word text class.INDEX b c → Name text n c d → Word text class.ON d e → Name text t e f → Word text class.left_parenthesis f g → SpellsNames text ns g h → Word text class.right_parenthesis h i → SpellsStatement text (s.CreateIndex (record { name = n; table = t; columns = ns })) a i
  alter_table : {n : Identifier} {x : AlterAction} {a b c d e : List Token} → Word text class.ALTER a b → Word text class.TABLE b c → Name text n c d → SpellsAlteration text x d e → SpellsStatement text (s.AlterTable (record { table = n; action = x })) a e
  drop_table : {n : Identifier} {a b c d : List Token} → Word text class.DROP a b → Word text class.TABLE b c → Name text n c d → SpellsStatement text (s.DropTable n) a d
  drop_index : {n : Identifier} {a b c d : List Token} → Word text class.DROP a b → Word text class.INDEX b c → Name text n c d → SpellsStatement text (s.DropIndex n) a d
  set_locks : {a b c d e f : List Token} → Word text class.SET a b → Word text class.DATABASE b c → Word text class.TRANSACTION c d → Word text class.CONTROL d e → Word text class.LOCKS e f → SpellsStatement text (s.SetControl control.Locks) a f
  set_mvlocks : {a b c d e f : List Token} → Word text class.SET a b → Word text class.DATABASE b c → Word text class.TRANSACTION c d → Word text class.CONTROL d e → Word text class.MVLOCKS e f → SpellsStatement text (s.SetControl control.MvLocks) a f
  set_mvcc : {a b c d e f : List Token} → Word text class.SET a b → Word text class.DATABASE b c → Word text class.TRANSACTION c d → Word text class.CONTROL d e → Word text class.MVCC e f → SpellsStatement text (s.SetControl control.Mvcc) a f
  default_read_committed : {a b c d e f g h : List Token} → Word text class.SET a b → Word text class.DATABASE b c → Word text class.DEFAULT c d → Word text class.ISOLATION d e → Word text class.LEVEL e f → Word text class.READ f g → Word text class.COMMITTED g h → SpellsStatement text (s.SetDefaultLevel isolation.ReadCommitted) a h
  default_serializable : {a b c d e f g : List Token} → Word text class.SET a b → Word text class.DATABASE b c → Word text class.DEFAULT c d → Word text class.ISOLATION d e → Word text class.LEVEL e f → Word text class.SERIALIZABLE f g → SpellsStatement text (s.SetDefaultLevel isolation.Serializable) a g
  autocommit_on : {a b c d : List Token} → Word text class.SET a b → Word text class.AUTOCOMMIT b c → Word text class.TRUE c d → SpellsStatement text (s.SetAutocommit true) a d
  autocommit_off : {a b c d : List Token} → Word text class.SET a b → Word text class.AUTOCOMMIT b c → Word text class.FALSE c d → SpellsStatement text (s.SetAutocommit false) a d
  set_transaction : {m : Modes} {a b c d : List Token} → Word text class.SET a b → Word text class.TRANSACTION b c → SpellsModes text m c d → SpellsStatement text (s.SetTransaction m) a d
  set_characteristics : {m : Modes} {a b c d e f g : List Token} → Word text class.SET a b → Word text class.SESSION b c → Word text class.CHARACTERISTICS c d → Word text class.AS d e → Word text class.TRANSACTION e f → SpellsModes text m f g → SpellsStatement text (s.SetCharacteristics m) a g
  write_delay_false : {a b c d e f : List Token} → Word text class.SET a b → Word text class.FILES b c → Word text class.WRITE c d → Word text class.DELAY d e → Word text class.FALSE e f → SpellsStatement text s.WriteDelayFalse a f
  start_transaction : {m : Modes} {a b c d : List Token} → Word text class.START a b → Word text class.TRANSACTION b c → SpellsStart text m c d → SpellsStatement text (s.StartTransaction m) a d
  commit : {a b c : List Token} → Word text class.COMMIT a b → Maybe text class.WORK b c → SpellsStatement text s.Commit a c
  rollback : {a b c : List Token} → Word text class.ROLLBACK a b → Maybe text class.WORK b c → SpellsStatement text s.Rollback a c
  savepoint : {n : Identifier} {a b c : List Token} → Word text class.SAVEPOINT a b → Name text n b c → SpellsStatement text (s.Savepoint n.name) a c
  rollback_to : {n : Identifier} {a b c d e : List Token} → Word text class.ROLLBACK a b → Word text class.TO b c → Word text class.SAVEPOINT c d → Name text n d e → SpellsStatement text (s.RollbackTo n.name) a e
  release_savepoint : {n : Identifier} {a b c d : List Token} → Word text class.RELEASE a b → Word text class.SAVEPOINT b c → Name text n c d → SpellsStatement text (s.ReleaseSavepoint n.name) a d

-- These tokens spell this statement: all of them, or all but a semicolon at the end.
pub data IsSpelledBy (text : List ℕ) : Stmt → List Token → Type 0 where
  spelled : {x : Stmt} {a b : List Token} → SpellsStatement text x a b → Maybe text class.semicolon_mark b [] → IsSpelledBy text x a
