-- The steps that build trees, by their numbers, made by grammar/make_literal.py.
use Rattle.std.specs.Prelude.{true, false, List, [], ◌∷◌}
use Rattle.hs_ast.specs.declared.session.Access.TheVariants as Access
use Rattle.hs_ast.specs.declared.expression.Aggregate.TheVariants as Aggregate
use Rattle.hs_ast.specs.declared.expression.BinaryOperator.TheVariants as BinaryOperator
use Rattle.hs_ast.specs.declared.definition.DataType.TheVariants as DataType
use Rattle.hs_ast.specs.declared.expression.DateField.TheVariants as DateField
use Rattle.hs_ast.specs.declared.expression.Function.TheVariants as Function
use Rattle.hs_ast.specs.declared.expression.IntervalUnit.TheVariants as IntervalUnit
use Rattle.hs_ast.specs.declared.session.Isolation.TheVariants as Isolation
use Rattle.hs_ast.specs.declared.definition.ReferentialAction.TheVariants as ReferentialAction
use Rattle.hs_ast.specs.declared.query.SetOperator.TheVariants as SetOperator
use Rattle.hs_ast.specs.declared.expression.Sign.TheVariants as Sign
use Rattle.hs_ast.specs.declared.definition.Storage.TheVariants as Storage
use Rattle.hs_ast.specs.declared.session.TransactionControl.TheVariants as TransactionControl
use Rattle.hs_ast.specs.declared.expression.TrimForm.TheVariants as TrimForm
use Rattle.hs_builder.specs.declared.mark.Mark.{Mark}
use Rattle.hs_builder.specs.declared.mark.Mark.TheVariants as mark
use Rattle.hs_builder.specs.declared.mark.LeafMark.TheVariants as leaf
use Rattle.hs_builder.specs.declared.mark.ExpressionMark.TheVariants as e
use Rattle.hs_builder.specs.declared.mark.FunctionMark.TheVariants as f
use Rattle.hs_builder.specs.declared.mark.QueryMark.TheVariants as q
use Rattle.hs_builder.specs.declared.mark.ChangeMark.TheVariants as c
use Rattle.hs_builder.specs.declared.mark.DefinitionMark.TheVariants as d
use Rattle.hs_builder.specs.declared.mark.SessionMark.TheVariants as s

abbrev pub steps : List Mark
steps =
    mark.Change c.QueryStatement ∷  -- query_statement
    mark.Session s.Modes ∷  -- modes
    mark.Session s.Start ∷  -- start_transaction
    mark.Session s.Commit ∷  -- commit
    mark.Session s.Savepoint ∷  -- savepoint
    mark.Session s.Release ∷  -- release_savepoint
    mark.Session s.Rollback ∷  -- rollback
    mark.Session s.RollbackTo ∷  -- rollback_to
    mark.Session (s.Access Access.ReadOnly) ∷  -- read_only
    mark.Session (s.Access Access.ReadWrite) ∷  -- read_write
    mark.Session (s.Level Isolation.RepeatableRead) ∷  -- repeatable_read
    mark.Session (s.Level Isolation.Serializable) ∷  -- serializable
    mark.Session (s.Level Isolation.ReadCommitted) ∷  -- read_committed
    mark.Leaf leaf.Name ∷  -- name
    mark.Leaf leaf.FirstName ∷  -- first_name
    mark.Leaf leaf.NextName ∷  -- next_name
    mark.Leaf leaf.Number ∷  -- number
    mark.Leaf leaf.Text ∷  -- text
    mark.Leaf leaf.NumberLiteral ∷  -- number_literal
    mark.Leaf leaf.TextLiteral ∷  -- text_literal
    mark.Leaf (leaf.Boolean true) ∷  -- true_mark
    mark.Leaf (leaf.Boolean false) ∷  -- false_mark
    mark.Leaf leaf.Null ∷  -- null
    mark.Leaf leaf.Place ∷  -- at
    mark.Leaf leaf.Date ∷  -- date
    mark.Leaf leaf.Timestamp ∷  -- timestamp
    mark.Query q.Query ∷  -- query
    mark.Query (q.SetOperation SetOperator.Except) ∷  -- except
    mark.Query (q.SetOperation SetOperator.UnionAll) ∷  -- union_all
    mark.Query (q.SetOperation SetOperator.Union) ∷  -- union
    mark.Query (q.SetOperation SetOperator.Intersect) ∷  -- intersect
    mark.Query q.Values ∷  -- values
    mark.Query q.ValuesBody ∷  -- values_body
    mark.Query q.BracketBody ∷  -- bracket_body
    mark.Query q.Select ∷  -- select
    mark.Query q.SelectBody ∷  -- select_body
    mark.Leaf (leaf.Flag true) ∷  -- yes
    mark.Leaf (leaf.Flag false) ∷  -- no
    mark.Query q.Every ∷  -- every
    mark.Query q.Item ∷  -- item
    mark.Leaf leaf.Alias ∷  -- alias
    mark.Leaf leaf.NoAlias ∷  -- no_alias
    mark.Query q.From ∷  -- from
    mark.Query q.AddFrom ∷  -- add_from
    mark.Query (q.Join false) ∷  -- inner_join
    mark.Query (q.Join true) ∷  -- left_join
    mark.Query q.CrossJoin ∷  -- cross_join
    mark.Query q.Table ∷  -- table
    mark.Query q.Derived ∷  -- derived
    mark.Expression e.Written ∷  -- written
    mark.Query q.Group ∷  -- group
    mark.Expression e.Unwritten ∷  -- unwritten
    mark.Expression e.First ∷  -- first
    mark.Expression e.Next ∷  -- next
    mark.Query q.Row ∷  -- row
    mark.Query (q.Key false) ∷  -- ascending
    mark.Query (q.Key true) ∷  -- descending
    mark.Query q.Limit ∷  -- limit
    mark.Query q.Offset ∷  -- offset
    mark.Change c.Insert ∷  -- insert
    mark.Change c.InsertColumns ∷  -- insert_columns
    mark.Change c.InsertQuery ∷  -- insert_query
    mark.Change c.Tuples ∷  -- tuples
    mark.Change c.Tuple ∷  -- tuple
    mark.Change c.TupleValue ∷  -- tuple_value
    mark.Change c.TupleDefault ∷  -- tuple_default
    mark.Change c.AddTuple ∷  -- add_tuple
    mark.Change c.TuplesBody ∷  -- tuples_body
    mark.Change c.InsertTuples ∷  -- insert_tuples
    mark.Change c.Update ∷  -- update
    mark.Change c.UpdateStatement ∷  -- update_statement
    mark.Expression e.InList ∷  -- in_list
    mark.Change c.Assign ∷  -- assign
    mark.Change c.AssignDefault ∷  -- assign_default
    mark.Change c.Delete ∷  -- delete
    mark.Change c.DeleteStatement ∷  -- delete_statement
    mark.Expression e.InQuery ∷  -- in_query
    mark.Change c.Lock ∷  -- lock
    mark.Change c.LockStatement ∷  -- lock_statement
    mark.Change (c.Locked false) ∷  -- lock_read
    mark.Change (c.Locked true) ∷  -- lock_write
    mark.Definition (d.Create Storage.Memory) ∷  -- memory
    mark.Definition d.CreateIndex ∷  -- create_index
    mark.Definition d.CreateStatement ∷  -- create_statement
    mark.Definition d.ColumnElement ∷  -- column_element
    mark.Definition d.ConstraintElement ∷  -- constraint_element
    mark.Definition d.Define ∷  -- define
    mark.Definition d.Default ∷  -- default
    mark.Leaf (leaf.SignedLiteral Sign.Plus) ∷  -- plus_number
    mark.Leaf (leaf.SignedLiteral Sign.Minus) ∷  -- minus_number
    mark.Definition d.Named ∷  -- named
    mark.Leaf leaf.Here ∷  -- here
    mark.Definition d.Unnamed ∷  -- unnamed
    mark.Definition d.NotNull ∷  -- not_null
    mark.Definition d.ColumnPrimary ∷  -- column_primary
    mark.Definition d.ColumnUnique ∷  -- column_unique
    mark.Definition d.ColumnCheck ∷  -- column_check
    mark.Definition d.References ∷  -- references
    mark.Definition d.ColumnReferences ∷  -- column_references
    mark.Definition d.ParentColumns ∷  -- parent_columns
    mark.Definition d.OnDelete ∷  -- on_delete
    mark.Definition d.OnUpdate ∷  -- on_update
    mark.Definition (d.Action ReferentialAction.Cascade) ∷  -- cascade
    mark.Definition (d.Action ReferentialAction.Restrict) ∷  -- restrict
    mark.Definition (d.Action ReferentialAction.NoAction) ∷  -- no_action
    mark.Definition (d.Action ReferentialAction.SetNull) ∷  -- set_null
    mark.Definition (d.Action ReferentialAction.SetDefault) ∷  -- set_default
    mark.Definition d.TablePrimary ∷  -- table_primary
    mark.Definition d.TableUnique ∷  -- table_unique
    mark.Definition d.TableCheck ∷  -- table_check
    mark.Definition d.TableForeign ∷  -- table_foreign
    mark.Leaf (leaf.Type DataType.SmallInt) ∷  -- smallint
    mark.Leaf (leaf.Type DataType.Integer) ∷  -- integer
    mark.Leaf (leaf.Type DataType.BigInt) ∷  -- bigint
    mark.Leaf leaf.Varchar ∷  -- varchar
    mark.Leaf (leaf.Type DataType.Boolean) ∷  -- boolean
    mark.Leaf (leaf.Type DataType.Date) ∷  -- date_type
    mark.Leaf (leaf.Type DataType.Timestamp) ∷  -- timestamp_type
    mark.Leaf leaf.PlainDecimal ∷  -- decimal_default
    mark.Leaf leaf.DecimalScale ∷  -- decimal_scale
    mark.Leaf leaf.Decimal ∷  -- decimal
    mark.Definition d.DropConstraint ∷  -- drop_constraint
    mark.Definition d.AddColumn ∷  -- add_column
    mark.Definition d.AddConstraint ∷  -- add_constraint
    mark.Definition d.DropTable ∷  -- drop_table
    mark.Definition d.DropIndex ∷  -- drop_index
    mark.Session s.SetTransaction ∷  -- set_transaction
    mark.Session s.SetCharacteristics ∷  -- set_characteristics
    mark.Session (s.Control TransactionControl.Locks) ∷  -- control_locks
    mark.Session (s.DefaultLevel Isolation.Serializable) ∷  -- default_serializable
    mark.Session (s.DefaultLevel Isolation.ReadCommitted) ∷  -- default_read_committed
    mark.Session (s.Autocommit true) ∷  -- autocommit_true
    mark.Session (s.Autocommit false) ∷  -- autocommit_false
    mark.Session s.WriteDelayFalse ∷  -- write_delay_false
    mark.Expression (e.Binary BinaryOperator.Or) ∷  -- or
    mark.Expression (e.Binary BinaryOperator.And) ∷  -- and
    mark.Expression e.Not ∷  -- not
    mark.Expression e.Exists ∷  -- exists
    mark.Expression (e.Binary BinaryOperator.Equal) ∷  -- equal
    mark.Expression (e.Binary BinaryOperator.NotEqual) ∷  -- not_equal
    mark.Expression (e.Binary BinaryOperator.Less) ∷  -- less
    mark.Expression (e.Binary BinaryOperator.LessOrEqual) ∷  -- less_or_equal
    mark.Expression (e.Binary BinaryOperator.Greater) ∷  -- greater
    mark.Expression (e.Binary BinaryOperator.GreaterOrEqual) ∷  -- greater_or_equal
    mark.Expression (e.IsNull false) ∷  -- is_null
    mark.Expression (e.IsNull true) ∷  -- is_not_null
    mark.Expression e.Between ∷  -- between
    mark.Expression e.LikeEscape ∷  -- like_escape
    mark.Expression e.Like ∷  -- like
    mark.Expression (e.Binary BinaryOperator.Add) ∷  -- add
    mark.Expression (e.Binary BinaryOperator.Subtract) ∷  -- subtract
    mark.Expression (e.Binary BinaryOperator.Concatenate) ∷  -- concatenate
    mark.Expression (e.Binary BinaryOperator.Multiply) ∷  -- multiply
    mark.Expression (e.Binary BinaryOperator.Divide) ∷  -- divide
    mark.Expression (e.Signed Sign.Minus) ∷  -- minus
    mark.Expression (e.Signed Sign.Plus) ∷  -- plus
    mark.Expression e.Digits ∷  -- digits
    mark.Expression (e.Interval Sign.Plus IntervalUnit.Day) ∷  -- plus_days
    mark.Expression (e.Interval Sign.Plus IntervalUnit.Month) ∷  -- plus_months
    mark.Expression (e.Interval Sign.Minus IntervalUnit.Day) ∷  -- minus_days
    mark.Expression (e.Interval Sign.Minus IntervalUnit.Month) ∷  -- minus_months
    mark.Expression e.Literal ∷  -- literal
    mark.Function f.Cast ∷  -- cast
    mark.Function f.Case ∷  -- case
    mark.Function f.End ∷  -- end
    mark.Function (f.Call Function.Coalesce) ∷  -- coalesce
    mark.Function (f.Call Function.NullIf) ∷  -- nullif
    mark.Function (f.Call Function.Abs) ∷  -- abs
    mark.Function (f.Call Function.Mod) ∷  -- mod_mark
    mark.Function (f.Call Function.Upper) ∷  -- upper
    mark.Function (f.Call Function.Lower) ∷  -- lower
    mark.Function (f.Call Function.CharLength) ∷  -- char_length
    mark.Function f.Extract ∷  -- extract
    mark.Function (f.Aggregate Aggregate.Sum) ∷  -- sum
    mark.Function (f.Aggregate Aggregate.Avg) ∷  -- avg
    mark.Function (f.Aggregate Aggregate.Min) ∷  -- min
    mark.Function (f.Aggregate Aggregate.Max) ∷  -- max
    mark.Expression e.Qualified ∷  -- qualified
    mark.Expression e.Column ∷  -- column
    mark.Function f.Arm ∷  -- arm
    mark.Expression e.Subquery ∷  -- subquery
    mark.Function f.SubstringFor ∷  -- substring_for
    mark.Function f.Substring ∷  -- substring
    mark.Function (f.Form TrimForm.Leading) ∷  -- leading
    mark.Function (f.Form TrimForm.Trailing) ∷  -- trailing
    mark.Function (f.Form TrimForm.Both) ∷  -- both
    mark.Function (f.Form TrimForm.From) ∷  -- from_form
    mark.Function f.Trim ∷  -- trim
    mark.Function f.TrimCharacter ∷  -- trim_character
    mark.Function (f.Form TrimForm.Bare) ∷  -- bare
    mark.Function (f.Field DateField.Year) ∷  -- year
    mark.Function (f.Field DateField.Month) ∷  -- month
    mark.Function (f.Field DateField.Day) ∷  -- day
    mark.Function (f.Field DateField.Hour) ∷  -- hour
    mark.Function (f.Field DateField.Minute) ∷  -- minute
    mark.Function (f.Field DateField.Second) ∷  -- second
    mark.Function f.CountRows ∷  -- count_rows
    mark.Function (f.Aggregate Aggregate.Count) ∷  -- count
    mark.Expression e.Bracket ∷  -- bracket
    mark.Expression e.BodySubquery ∷  -- body_subquery
    mark.Session (s.Control TransactionControl.MvLocks) ∷  -- control_mvlocks
    mark.Session (s.Control TransactionControl.Mvcc) ∷  -- control_mvcc
    []
