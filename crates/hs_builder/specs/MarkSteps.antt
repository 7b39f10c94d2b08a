-- A step for each mark, on the stacks of parts.
use Rattle.std.specs.Prelude.{ℕ, List, [], ◌∷◌, None}
use Rattle.hs_ast.specs.declared.definition.DataType.TheVariants as type
use Rattle.hs_ast.specs.declared.literal.Literal.TheVariants as literal
use Rattle.hs_ast.specs.declared.statement.Stmt.{Stmt}
use Rattle.hs_lexer.specs.declared.token.Token.{Token}
use Rattle.hs_builder.specs.declared.mark.Mark.{Mark}
use Rattle.hs_builder.specs.declared.mark.Mark.TheVariants as mark
use Rattle.hs_builder.specs.declared.mark.LeafMark.{LeafMark}
use Rattle.hs_builder.specs.declared.mark.LeafMark.TheVariants as leaf
use Rattle.hs_builder.specs.declared.mark.ExpressionMark.{ExpressionMark}
use Rattle.hs_builder.specs.declared.mark.ExpressionMark.TheVariants as e
use Rattle.hs_builder.specs.declared.mark.FunctionMark.{FunctionMark}
use Rattle.hs_builder.specs.declared.mark.FunctionMark.TheVariants as f
use Rattle.hs_builder.specs.declared.mark.QueryMark.{QueryMark}
use Rattle.hs_builder.specs.declared.mark.QueryMark.TheVariants as q
use Rattle.hs_builder.specs.declared.mark.ChangeMark.{ChangeMark}
use Rattle.hs_builder.specs.declared.mark.ChangeMark.TheVariants as c
use Rattle.hs_builder.specs.declared.mark.DefinitionMark.{DefinitionMark}
use Rattle.hs_builder.specs.declared.mark.DefinitionMark.TheVariants as d
use Rattle.hs_builder.specs.declared.mark.SessionMark.{SessionMark}
use Rattle.hs_builder.specs.declared.mark.SessionMark.TheVariants as s
use Rattle.hs_builder.specs.declared.part.Expressions.{Expressions}
use Rattle.hs_builder.specs.declared.part.Leaves.{Leaves}
use Rattle.hs_builder.specs.declared.part.Parts.{Parts}
use Rattle.hs_builder.specs.declared.part.Queries.{Queries}
use Rattle.hs_builder.specs.Changes as change
use Rattle.hs_builder.specs.Definitions as definition
use Rattle.hs_builder.specs.Expressions as expression
use Rattle.hs_builder.specs.Functions as function
use Rattle.hs_builder.specs.Leaves as leaves
use Rattle.hs_builder.specs.Queries as query
use Rattle.hs_builder.specs.Sessions as session
use Rattle.hs_builder.specs.Steps.{Step, stands, wrong, lift}

-- ---- a step with each mark, on the stacks that it may touch

abbrev pub leaf_step : List ℕ → Token → ℕ → LeafMark → Leaves → Step Leaves
leaf_step text token here leaf.Place l = stands (record l { places = token.start ∷ l.places })
leaf_step text token here leaf.Here l = stands (record l { places = here ∷ l.places })
leaf_step text token here leaf.Name l = lift (leaves.name text token l.names) (λ x. record l { names = x })
leaf_step text token here leaf.FirstName l = lift (leaves.first_name (l.names, l.name_lists)) (λ x. record l { names = x.0; name_lists = x.1 })
leaf_step text token here leaf.NextName l = lift (leaves.next_name (l.names, l.name_lists)) (λ x. record l { names = x.0; name_lists = x.1 })
leaf_step text token here leaf.Alias l = lift (leaves.alias (l.names, l.aliases)) (λ x. record l { names = x.0; aliases = x.1 })
leaf_step text token here leaf.NoAlias l = stands (record l { aliases = None ∷ l.aliases })
leaf_step text token here (leaf.Flag set) l = stands (record l { flags = set ∷ l.flags })
leaf_step text token here leaf.Number l = lift (leaves.number text token l.numbers) (λ x. record l { numbers = x })
leaf_step text token here leaf.Text l = lift (leaves.read_text text token l.texts) (λ x. record l { texts = x })
leaf_step text token here leaf.NumberLiteral l = lift (leaves.number_literal (l.numbers, l.literals)) (λ x. record l { numbers = x.0; literals = x.1 })
leaf_step text token here leaf.TextLiteral l = lift (leaves.text_literal (l.texts, l.literals)) (λ x. record l { texts = x.0; literals = x.1 })
leaf_step text token here (leaf.Boolean truth) l = lift (leaves.word_literal (literal.Boolean truth) token l.literals) (λ x. record l { literals = x })
leaf_step text token here leaf.Null l = lift (leaves.word_literal literal.Null token l.literals) (λ x. record l { literals = x })
leaf_step text token here leaf.Date l = lift (leaves.date (l.places, l.texts, l.literals)) (λ x. record l { places = x.0; texts = x.1; literals = x.2 })
leaf_step text token here leaf.Timestamp l = lift (leaves.timestamp (l.places, l.texts, l.literals)) (λ x. record l { places = x.0; texts = x.1; literals = x.2 })
leaf_step text token here (leaf.SignedLiteral sign) l = lift (leaves.signed_literal sign (l.places, l.numbers, l.literals)) (λ x. record l { places = x.0; numbers = x.1; literals = x.2 })
leaf_step text token here (leaf.Type t) l = stands (record l { types = t ∷ l.types })
leaf_step text token here leaf.PlainDecimal l = stands (record l { types = type.Decimal 38 0 ∷ l.types })
leaf_step text token here leaf.Decimal l = lift (leaves.decimal (l.numbers, l.types)) (λ x. record l { numbers = x.0; types = x.1 })
leaf_step text token here leaf.DecimalScale l = lift (leaves.decimal_scale (l.numbers, l.types)) (λ x. record l { numbers = x.0; types = x.1 })
leaf_step text token here leaf.Varchar l = lift (leaves.varchar (l.numbers, l.types)) (λ x. record l { numbers = x.0; types = x.1 })

abbrev pub expression_step : ExpressionMark → Leaves × Expressions × Queries → Step (Leaves × Expressions × Queries)
expression_step e.Literal (l, es, qs) = lift (expression.literal (l.literals, es.whole)) (λ x. (record l { literals = x.0 }, record es { whole = x.1 }, qs))
expression_step e.Column (l, es, qs) = lift (expression.column (l.names, es.whole)) (λ x. (record l { names = x.0 }, record es { whole = x.1 }, qs))
expression_step e.Qualified (l, es, qs) = lift (expression.qualified (l.names, es.whole)) (λ x. (record l { names = x.0 }, record es { whole = x.1 }, qs))
expression_step e.Bracket (l, es, qs) = lift (expression.bracket (l.places, es.whole)) (λ x. (record l { places = x.0 }, record es { whole = x.1 }, qs))
expression_step (e.Signed sign) (l, es, qs) = lift (expression.signed sign (l.places, es.whole)) (λ x. (record l { places = x.0 }, record es { whole = x.1 }, qs))
expression_step e.Not (l, es, qs) = lift (expression.negation (l.places, es.whole)) (λ x. (record l { places = x.0 }, record es { whole = x.1 }, qs))
expression_step (e.Binary operator) (l, es, qs) = lift (expression.binary operator es.whole) (λ x. (l, record es { whole = x }, qs))
expression_step (e.IsNull negated) (l, es, qs) = lift (expression.is_null negated es.whole) (λ x. (l, record es { whole = x }, qs))
expression_step e.Between (l, es, qs) = lift (expression.between (l.flags, es.whole)) (λ x. (record l { flags = x.0 }, record es { whole = x.1 }, qs))
expression_step e.Like (l, es, qs) = lift (expression.like (l.flags, es.whole)) (λ x. (record l { flags = x.0 }, record es { whole = x.1 }, qs))
expression_step e.LikeEscape (l, es, qs) = lift (expression.like_escape (l.flags, l.texts, es.whole)) (λ x. (record l { flags = x.0; texts = x.1 }, record es { whole = x.2 }, qs))
expression_step e.InList (l, es, qs) = lift (expression.in_list (l.flags, es.whole, es.lists)) (λ x. (record l { flags = x.0 }, record es { whole = x.1; lists = x.2 }, qs))
expression_step e.InQuery (l, es, qs) = lift (expression.in_query (l.flags, es.whole, qs.whole)) (λ x. (record l { flags = x.0 }, record es { whole = x.1 }, record qs { whole = x.2 }))
expression_step e.Exists (l, es, qs) = lift (expression.exists (l.places, es.whole, qs.whole)) (λ x. (record l { places = x.0 }, record es { whole = x.1 }, record qs { whole = x.2 }))
expression_step e.Subquery (l, es, qs) = lift (expression.subquery (l.places, es.whole, qs.whole)) (λ x. (record l { places = x.0 }, record es { whole = x.1 }, record qs { whole = x.2 }))
expression_step e.BodySubquery (l, es, qs) = lift (expression.body_subquery (l.places, es.whole, qs.bodies)) (λ x. (record l { places = x.0 }, record es { whole = x.1 }, record qs { bodies = x.2 }))
expression_step e.Digits (l, es, qs) = lift (leaves.digits (l.texts, es.counts)) (λ x. (record l { texts = x.0 }, record es { counts = x.1 }, qs))
expression_step (e.Interval sign unit) (l, es, qs) = lift (expression.interval sign unit (es.whole, es.counts)) (λ x. (l, record es { whole = x.0; counts = x.1 }, qs))
expression_step e.First (l, es, qs) = lift (expression.first (es.whole, es.lists)) (λ x. (l, record es { whole = x.0; lists = x.1 }, qs))
expression_step e.Next (l, es, qs) = lift (expression.next (es.whole, es.lists)) (λ x. (l, record es { whole = x.0; lists = x.1 }, qs))
expression_step e.Written (l, es, qs) = lift (expression.written (es.whole, es.optional)) (λ x. (l, record es { whole = x.0; optional = x.1 }, qs))
expression_step e.Unwritten (l, es, qs) = lift (expression.unwritten es.optional) (λ x. (l, record es { optional = x }, qs))

abbrev pub function_step : Token → FunctionMark → Leaves × Expressions → Step (Leaves × Expressions)
function_step token f.Cast (l, es) = lift (function.cast (l.places, l.types, es.whole)) (λ x. (record l { places = x.0; types = x.1 }, record es { whole = x.2 }))
function_step token f.Case (l, es) = lift (function.begin_case token es.cases) (λ x. (l, record es { cases = x }))
function_step token f.Arm (l, es) = lift (function.arm (es.cases, es.whole)) (λ x. (l, record es { cases = x.0; whole = x.1 }))
function_step token f.End (l, es) = lift (function.end_case (es.optional, es.cases, es.whole)) (λ x. (l, record es { optional = x.0; cases = x.1; whole = x.2 }))
function_step token (f.Call name) (l, es) = lift (function.call name (l.places, es.whole, es.lists)) (λ x. (record l { places = x.0 }, record es { whole = x.1; lists = x.2 }))
function_step token f.Substring (l, es) = lift (function.substring (l.places, es.whole)) (λ x. (record l { places = x.0 }, record es { whole = x.1 }))
function_step token f.SubstringFor (l, es) = lift (function.substring_for (l.places, es.whole)) (λ x. (record l { places = x.0 }, record es { whole = x.1 }))
function_step token (f.Form manner) (l, es) = stands (l, record es { forms = manner ∷ es.forms })
function_step token f.Trim (l, es) = lift (function.trim (l.places, es.forms, es.whole)) (λ x. (record l { places = x.0 }, record es { forms = x.1; whole = x.2 }))
function_step token f.TrimCharacter (l, es) = lift (function.trim_character (l.places, es.forms, es.whole)) (λ x. (record l { places = x.0 }, record es { forms = x.1; whole = x.2 }))
function_step token (f.Field field) (l, es) = stands (l, record es { fields = field ∷ es.fields })
function_step token f.Extract (l, es) = lift (function.extract (l.places, es.fields, es.whole)) (λ x. (record l { places = x.0 }, record es { fields = x.1; whole = x.2 }))
function_step token f.CountRows (l, es) = lift (function.count_rows (l.places, es.whole)) (λ x. (record l { places = x.0 }, record es { whole = x.1 }))
function_step token (f.Aggregate name) (l, es) = lift (function.aggregate name (l.places, l.flags, es.whole)) (λ x. (record l { places = x.0; flags = x.1 }, record es { whole = x.2 }))

abbrev pub query_step : Token → QueryMark → Leaves × Expressions × Queries → Step (Leaves × Expressions × Queries)
query_step token q.Select (l, es, qs) = lift (query.begin_select (l.places, l.flags, qs.selects)) (λ x. (record l { places = x.0; flags = x.1 }, es, record qs { selects = x.2 }))
query_step token q.Every (l, es, qs) = lift (query.every token qs.selects) (λ x. (l, es, record qs { selects = x }))
query_step token q.Item (l, es, qs) = lift (query.item (l.aliases, es.whole, qs.selects)) (λ x. (record l { aliases = x.0 }, record es { whole = x.1 }, record qs { selects = x.2 }))
query_step token q.Table (l, es, qs) = lift (query.named_table (l.names, l.aliases, qs.tables)) (λ x. (record l { names = x.0; aliases = x.1 }, es, record qs { tables = x.2 }))
query_step token q.Derived (l, es, qs) = lift (query.derived_table (l.names, qs.whole, qs.tables)) (λ x. (record l { names = x.0 }, es, record qs { whole = x.1; tables = x.2 }))
query_step token q.From (l, es, qs) = lift (query.begin_from (qs.tables, qs.froms)) (λ x. (l, es, record qs { tables = x.0; froms = x.1 }))
query_step token (q.Join outer) (l, es, qs) = lift (query.join_on outer (es.whole, qs.tables, qs.froms)) (λ x. (l, record es { whole = x.0 }, record qs { tables = x.1; froms = x.2 }))
query_step token q.CrossJoin (l, es, qs) = lift (query.cross_join (qs.tables, qs.froms)) (λ x. (l, es, record qs { tables = x.0; froms = x.1 }))
query_step token q.AddFrom (l, es, qs) = lift (query.add_from (qs.froms, qs.selects)) (λ x. (l, es, record qs { froms = x.0; selects = x.1 }))
query_step token q.Group (l, es, qs) = lift (query.group (es.whole, qs.selects)) (λ x. (l, record es { whole = x.0 }, record qs { selects = x.1 }))
query_step token q.SelectBody (l, es, qs) = lift (query.select_body (es.optional, qs.selects, qs.bodies)) (λ x. (l, record es { optional = x.0 }, record qs { selects = x.1; bodies = x.2 }))
query_step token q.Values (l, es, qs) = lift (query.begin_values token qs.rows) (λ x. (l, es, record qs { rows = x }))
query_step token q.Row (l, es, qs) = lift (query.row (es.lists, qs.rows)) (λ x. (l, record es { lists = x.0 }, record qs { rows = x.1 }))
query_step token q.ValuesBody (l, es, qs) = lift (query.values_body (qs.rows, qs.bodies)) (λ x. (l, es, record qs { rows = x.0; bodies = x.1 }))
query_step token q.BracketBody (l, es, qs) = lift (query.bracket_body (l.places, qs.bodies)) (λ x. (record l { places = x.0 }, es, record qs { bodies = x.1 }))
query_step token (q.SetOperation operator) (l, es, qs) = lift (query.set_operation operator qs.bodies) (λ x. (l, es, record qs { bodies = x }))
query_step token q.Query (l, es, qs) = lift (query.begin_query (qs.bodies, qs.whole)) (λ x. (l, es, record qs { bodies = x.0; whole = x.1 }))
query_step token (q.Key descending) (l, es, qs) = lift (query.key descending (es.whole, qs.whole)) (λ x. (l, record es { whole = x.0 }, record qs { whole = x.1 }))
query_step token q.Limit (l, es, qs) = lift (query.limit (l.numbers, qs.whole)) (λ x. (record l { numbers = x.0 }, es, record qs { whole = x.1 }))
query_step token q.Offset (l, es, qs) = lift (query.offset (l.numbers, qs.whole)) (λ x. (record l { numbers = x.0 }, es, record qs { whole = x.1 }))

abbrev pub change_step : Token → ChangeMark → Parts → Step Parts
change_step token c.QueryStatement p = lift (change.query_statement (p.queries.whole, p.statements)) (λ x. record p { queries = record p.queries { whole = x.0 }; statements = x.1 })
change_step token c.Insert p = lift (change.begin_insert (p.leaves.names, p.changes.targets)) (λ x. record p { leaves = record p.leaves { names = x.0 }; changes = record p.changes { targets = x.1 } })
change_step token c.InsertColumns p = lift (change.insert_columns (p.leaves.places, p.leaves.name_lists, p.changes.targets)) (λ x. record p { leaves = record p.leaves { places = x.0; name_lists = x.1 }; changes = record p.changes { targets = x.2 } })
change_step token c.Tuples p = lift (change.begin_tuples token p.changes.tuple_lists) (λ x. record p { changes = record p.changes { tuple_lists = x } })
change_step token c.Tuple p = lift (change.begin_tuple p.changes.tuples) (λ x. record p { changes = record p.changes { tuples = x } })
change_step token c.TupleValue p = lift (change.tuple_value (p.expressions.whole, p.changes.tuples)) (λ x. record p { expressions = record p.expressions { whole = x.0 }; changes = record p.changes { tuples = x.1 } })
change_step token c.TupleDefault p = lift (change.tuple_default token p.changes.tuples) (λ x. record p { changes = record p.changes { tuples = x } })
change_step token c.AddTuple p = lift (change.add_tuple (p.changes.tuples, p.changes.tuple_lists)) (λ x. record p { changes = record p.changes { tuples = x.0; tuple_lists = x.1 } })
change_step token c.TuplesBody p = lift (change.tuples_body (p.changes.tuple_lists, p.queries.bodies)) (λ x. record p { changes = record p.changes { tuple_lists = x.0 }; queries = record p.queries { bodies = x.1 } })
change_step token c.InsertTuples p = lift (change.insert_tuples (p.changes.targets, p.changes.tuple_lists, p.statements)) (λ x. record p { changes = record p.changes { targets = x.0; tuple_lists = x.1 }; statements = x.2 })
change_step token c.InsertQuery p = lift (change.insert_query (p.changes.targets, p.queries.whole, p.statements)) (λ x. record p { changes = record p.changes { targets = x.0 }; queries = record p.queries { whole = x.1 }; statements = x.2 })
change_step token c.Update p = lift (change.begin_update (p.leaves.names, p.leaves.aliases, p.changes.updates)) (λ x. record p { leaves = record p.leaves { names = x.0; aliases = x.1 }; changes = record p.changes { updates = x.2 } })
change_step token c.Assign p = lift (change.assign (p.leaves.names, p.expressions.whole, p.changes.updates)) (λ x. record p { leaves = record p.leaves { names = x.0 }; expressions = record p.expressions { whole = x.1 }; changes = record p.changes { updates = x.2 } })
change_step token c.AssignDefault p = lift (change.assign_default token (p.leaves.names, p.changes.updates)) (λ x. record p { leaves = record p.leaves { names = x.0 }; changes = record p.changes { updates = x.1 } })
change_step token c.UpdateStatement p = lift (change.update_statement (p.expressions.optional, p.changes.updates, p.statements)) (λ x. record p { expressions = record p.expressions { optional = x.0 }; changes = record p.changes { updates = x.1 }; statements = x.2 })
change_step token c.Delete p = lift (change.begin_delete (p.leaves.names, p.leaves.aliases, p.changes.deletes)) (λ x. record p { leaves = record p.leaves { names = x.0; aliases = x.1 }; changes = record p.changes { deletes = x.2 } })
change_step token c.DeleteStatement p = lift (change.delete_statement (p.expressions.optional, p.changes.deletes, p.statements)) (λ x. record p { expressions = record p.expressions { optional = x.0 }; changes = record p.changes { deletes = x.1 }; statements = x.2 })
change_step token c.Lock p = lift (change.begin_lock p.changes.locks) (λ x. record p { changes = record p.changes { locks = x } })
change_step token (c.Locked write) p = lift (change.locked write (p.leaves.names, p.changes.locks)) (λ x. record p { leaves = record p.leaves { names = x.0 }; changes = record p.changes { locks = x.1 } })
change_step token c.LockStatement p = lift (change.lock_statement (p.changes.locks, p.statements)) (λ x. record p { changes = record p.changes { locks = x.0 }; statements = x.1 })

abbrev pub definition_step : DefinitionMark → Parts → Step Parts
definition_step (d.Create storage) p = lift (definition.begin_table storage (p.leaves.names, p.definitions.tables)) (λ x. record p { leaves = record p.leaves { names = x.0 }; definitions = record p.definitions { tables = x.1 } })
definition_step d.ColumnElement p = lift (definition.column_element (p.definitions.columns, p.definitions.tables)) (λ x. record p { definitions = record p.definitions { columns = x.0; tables = x.1 } })
definition_step d.ConstraintElement p = lift (definition.constraint_element (p.definitions.constraints, p.definitions.tables)) (λ x. record p { definitions = record p.definitions { constraints = x.0; tables = x.1 } })
definition_step d.CreateStatement p = lift (definition.create_statement (p.definitions.tables, p.statements)) (λ x. record p { definitions = record p.definitions { tables = x.0 }; statements = x.1 })
definition_step d.CreateIndex p = lift (definition.create_index (p.leaves.names, p.leaves.name_lists, p.statements)) (λ x. record p { leaves = record p.leaves { names = x.0; name_lists = x.1 }; statements = x.2 })
definition_step d.Define p = lift (definition.define (p.leaves.names, p.leaves.types, p.definitions.columns)) (λ x. record p { leaves = record p.leaves { names = x.0; types = x.1 }; definitions = record p.definitions { columns = x.2 } })
definition_step d.Default p = lift (definition.default (p.leaves.literals, p.definitions.columns)) (λ x. record p { leaves = record p.leaves { literals = x.0 }; definitions = record p.definitions { columns = x.1 } })
definition_step d.Named p = lift (definition.named (p.leaves.places, p.leaves.names, p.definitions.headers)) (λ x. record p { leaves = record p.leaves { places = x.0; names = x.1 }; definitions = record p.definitions { headers = x.2 } })
definition_step d.Unnamed p = lift (definition.unnamed (p.leaves.places, p.definitions.headers)) (λ x. record p { leaves = record p.leaves { places = x.0 }; definitions = record p.definitions { headers = x.1 } })
definition_step d.NotNull p = lift (definition.not_null (p.definitions.headers, p.definitions.columns)) (λ x. record p { definitions = record p.definitions { headers = x.0; columns = x.1 } })
definition_step d.ColumnPrimary p = lift (definition.column_primary (p.definitions.headers, p.definitions.columns)) (λ x. record p { definitions = record p.definitions { headers = x.0; columns = x.1 } })
definition_step d.ColumnUnique p = lift (definition.column_unique (p.definitions.headers, p.definitions.columns)) (λ x. record p { definitions = record p.definitions { headers = x.0; columns = x.1 } })
definition_step d.ColumnCheck p = lift (definition.column_check (p.expressions.whole, p.definitions.headers, p.definitions.columns)) (λ x. record p { expressions = record p.expressions { whole = x.0 }; definitions = record p.definitions { headers = x.1; columns = x.2 } })
definition_step d.ColumnReferences p = lift (definition.column_references (p.definitions.keys, p.definitions.headers, p.definitions.columns)) (λ x. record p { definitions = record p.definitions { keys = x.0; headers = x.1; columns = x.2 } })
definition_step d.References p = lift (definition.references (p.leaves.names, p.definitions.keys)) (λ x. record p { leaves = record p.leaves { names = x.0 }; definitions = record p.definitions { keys = x.1 } })
definition_step d.ParentColumns p = lift (definition.parent_columns (p.leaves.name_lists, p.definitions.keys)) (λ x. record p { leaves = record p.leaves { name_lists = x.0 }; definitions = record p.definitions { keys = x.1 } })
definition_step (d.Action action) p = stands (record p { definitions = record p.definitions { actions = action ∷ p.definitions.actions } })
definition_step d.OnDelete p = lift (definition.on_delete (p.definitions.actions, p.definitions.keys)) (λ x. record p { definitions = record p.definitions { actions = x.0; keys = x.1 } })
definition_step d.OnUpdate p = lift (definition.on_update (p.definitions.actions, p.definitions.keys)) (λ x. record p { definitions = record p.definitions { actions = x.0; keys = x.1 } })
definition_step d.TablePrimary p = lift (definition.table_primary (p.definitions.headers, p.leaves.name_lists, p.definitions.constraints)) (λ x. record p { leaves = record p.leaves { name_lists = x.1 }; definitions = record p.definitions { headers = x.0; constraints = x.2 } })
definition_step d.TableUnique p = lift (definition.table_unique (p.definitions.headers, p.leaves.name_lists, p.definitions.constraints)) (λ x. record p { leaves = record p.leaves { name_lists = x.1 }; definitions = record p.definitions { headers = x.0; constraints = x.2 } })
definition_step d.TableCheck p = lift (definition.table_check (p.expressions.whole, p.definitions.headers, p.definitions.constraints)) (λ x. record p { expressions = record p.expressions { whole = x.0 }; definitions = record p.definitions { headers = x.1; constraints = x.2 } })
definition_step d.TableForeign p = lift (definition.table_foreign (p.definitions.headers, p.leaves.name_lists, p.definitions.keys, p.definitions.constraints)) (λ x. record p { leaves = record p.leaves { name_lists = x.1 }; definitions = record p.definitions { headers = x.0; keys = x.2; constraints = x.3 } })
definition_step d.AddColumn p = lift (definition.add_column (p.leaves.names, p.definitions.columns, p.statements)) (λ x. record p { leaves = record p.leaves { names = x.0 }; definitions = record p.definitions { columns = x.1 }; statements = x.2 })
definition_step d.AddConstraint p = lift (definition.add_constraint (p.leaves.names, p.definitions.constraints, p.statements)) (λ x. record p { leaves = record p.leaves { names = x.0 }; definitions = record p.definitions { constraints = x.1 }; statements = x.2 })
definition_step d.DropConstraint p = lift (definition.drop_constraint (p.leaves.names, p.statements)) (λ x. record p { leaves = record p.leaves { names = x.0 }; statements = x.1 })
definition_step d.DropTable p = lift (definition.drop_table (p.leaves.names, p.statements)) (λ x. record p { leaves = record p.leaves { names = x.0 }; statements = x.1 })
definition_step d.DropIndex p = lift (definition.drop_index (p.leaves.names, p.statements)) (λ x. record p { leaves = record p.leaves { names = x.0 }; statements = x.1 })

abbrev pub session_step : SessionMark → Parts → Step Parts
session_step s.Modes p = lift (session.begin_modes p.modes) (λ x. record p { modes = x })
session_step (s.Level isolation) p = lift (session.level isolation p.modes) (λ x. record p { modes = x })
session_step (s.Access access) p = lift (session.access access p.modes) (λ x. record p { modes = x })
session_step s.SetTransaction p = lift (session.set_transaction (p.modes, p.statements)) (λ x. record p { modes = x.0; statements = x.1 })
session_step s.SetCharacteristics p = lift (session.set_characteristics (p.modes, p.statements)) (λ x. record p { modes = x.0; statements = x.1 })
session_step s.Start p = lift (session.start (p.modes, p.statements)) (λ x. record p { modes = x.0; statements = x.1 })
session_step s.Commit p = lift (session.commit p.statements) (λ x. record p { statements = x })
session_step s.Rollback p = lift (session.rollback p.statements) (λ x. record p { statements = x })
session_step s.Savepoint p = lift (session.savepoint (p.leaves.names, p.statements)) (λ x. record p { leaves = record p.leaves { names = x.0 }; statements = x.1 })
session_step s.RollbackTo p = lift (session.rollback_to (p.leaves.names, p.statements)) (λ x. record p { leaves = record p.leaves { names = x.0 }; statements = x.1 })
session_step s.Release p = lift (session.release (p.leaves.names, p.statements)) (λ x. record p { leaves = record p.leaves { names = x.0 }; statements = x.1 })
session_step (s.Autocommit on) p = lift (session.autocommit on p.statements) (λ x. record p { statements = x })
session_step (s.Control control) p = lift (session.control control p.statements) (λ x. record p { statements = x })
session_step (s.DefaultLevel isolation) p = lift (session.default_level isolation p.statements) (λ x. record p { statements = x })
session_step s.WriteDelayFalse p = lift (session.write_delay_false p.statements) (λ x. record p { statements = x })
session_step s.Checkpoint p = lift (session.checkpoint p.statements) (λ x. record p { statements = x })
session_step s.Shutdown p = lift (session.shutdown p.statements) (λ x. record p { statements = x })

-- a step with any mark: the last token, and the place of the next one
abbrev pub step : List ℕ → Token → ℕ → Mark → Parts → Step Parts
step text token here (mark.Leaf m) p = lift (leaf_step text token here m p.leaves) (λ x. record p { leaves = x })
step text token here (mark.Expression m) p = lift (expression_step m (p.leaves, p.expressions, p.queries)) (λ x. record p { leaves = x.0; expressions = x.1; queries = x.2 })
step text token here (mark.Function m) p = lift (function_step token m (p.leaves, p.expressions)) (λ x. record p { leaves = x.0; expressions = x.1 })
step text token here (mark.Query m) p = lift (query_step token m (p.leaves, p.expressions, p.queries)) (λ x. record p { leaves = x.0; expressions = x.1; queries = x.2 })
step text token here (mark.Change m) p = change_step token m p
step text token here (mark.Definition m) p = definition_step m p
step text token here (mark.Session m) p = session_step m p

-- ---- before the first step and behind the last one

abbrev pub no_parts : Parts
no_parts = record {
  leaves = record { places = []; names = []; name_lists = []; aliases = []; flags = []; numbers = []; texts = []; literals = []; types = [] };
  expressions = record { whole = []; lists = []; cases = []; forms = []; fields = []; counts = []; optional = [] };
  queries = record { selects = []; tables = []; froms = []; rows = []; bodies = []; whole = [] };
  changes = record { targets = []; tuples = []; tuple_lists = []; updates = []; deletes = []; locks = [] };
  definitions = record { tables = []; columns = []; headers = []; keys = []; actions = []; constraints = [] };
  modes = [];
  statements = [];
}

abbrev pub topmost : List Stmt → Step Stmt
topmost (statement ∷ below) = stands statement
topmost [] = wrong
