-- The step of each mark keeps depths that are those of the trees.
use Rattle.std.proofs.Common.{ℕ, Bool, List, Option}
use Rattle.hs_ast.specs.declared.change.Delete.{Delete}
use Rattle.hs_ast.specs.declared.change.LockedTable.{LockedTable}
use Rattle.hs_ast.specs.declared.change.Update.{Update}
use Rattle.hs_ast.specs.declared.definition.ColumnDefinition.{ColumnDefinition}
use Rattle.hs_ast.specs.declared.definition.CreateTable.{CreateTable}
use Rattle.hs_ast.specs.declared.definition.DataType.{DataType}
use Rattle.hs_ast.specs.declared.definition.ForeignKey.{ForeignKey}
use Rattle.hs_ast.specs.declared.definition.ReferentialAction.{ReferentialAction}
use Rattle.hs_ast.specs.declared.definition.TableConstraint.{TableConstraint}
use Rattle.hs_ast.specs.declared.expression.DateField.{DateField}
use Rattle.hs_ast.specs.declared.expression.TrimForm.{TrimForm}
use Rattle.hs_ast.specs.declared.session.Modes.{Modes}
use Rattle.hs_ast.specs.declared.statement.Stmt.{Stmt}
use Rattle.hs_ast.specs.declared.word.Identifier.{Identifier}
use Rattle.hs_lexer.specs.declared.token.Token.{Token}
use Rattle.hs_builder_laws.proofs.Covering.{Every, Then, lifted}
use Rattle.hs_builder_laws.proofs.CoveringExpressions as of_expression
use Rattle.hs_builder_laws.proofs.CoveringQueries as of_query
use Rattle.hs_builder_laws.proofs.CoveringStatements as of_statement
use Rattle.hs_builder_laws.proofs.Covers.{BuiltCovers, CaseCovers, OptionalCovers, SelectCovers, RowsCover, BodyCovers, TupleCovers, TuplesCover, ExpressionsCover, QueriesCover, PartsCover}
use Rattle.hs_builder.specs.MarkSteps.{leaf_step, expression_step, function_step, query_step, change_step, definition_step, session_step, step, no_parts}
use Rattle.hs_builder.specs.Changes as change
use Rattle.hs_builder.specs.Definitions as definition
use Rattle.hs_builder.specs.Expressions as expression
use Rattle.hs_builder.specs.Functions as function
use Rattle.hs_builder.specs.Leaves as leaves
use Rattle.hs_builder.specs.Queries as query
use Rattle.hs_builder.specs.Sessions as session
use Rattle.hs_builder.specs.Steps.{Step, stands, deep, wrong}
use Rattle.hs_builder.specs.declared.mark.ChangeMark.TheVariants as c
use Rattle.hs_builder.specs.declared.mark.ChangeMark.{ChangeMark}
use Rattle.hs_builder.specs.declared.mark.DefinitionMark.TheVariants as d
use Rattle.hs_builder.specs.declared.mark.DefinitionMark.{DefinitionMark}
use Rattle.hs_builder.specs.declared.mark.ExpressionMark.TheVariants as e
use Rattle.hs_builder.specs.declared.mark.ExpressionMark.{ExpressionMark}
use Rattle.hs_builder.specs.declared.mark.FunctionMark.TheVariants as f
use Rattle.hs_builder.specs.declared.mark.FunctionMark.{FunctionMark}
use Rattle.hs_builder.specs.declared.mark.Mark.TheVariants as mark
use Rattle.hs_builder.specs.declared.mark.Mark.{Mark}
use Rattle.hs_builder.specs.declared.mark.QueryMark.TheVariants as q
use Rattle.hs_builder.specs.declared.mark.QueryMark.{QueryMark}
use Rattle.hs_builder.specs.declared.mark.SessionMark.TheVariants as s
use Rattle.hs_builder.specs.declared.mark.SessionMark.{SessionMark}
use Rattle.hs_builder.specs.declared.part.Built.{Built}
use Rattle.hs_builder.specs.declared.part.BuiltBody.{BuiltBody}
use Rattle.hs_builder.specs.declared.part.BuiltCase.{BuiltCase}
use Rattle.hs_builder.specs.declared.part.BuiltFrom.{BuiltFrom}
use Rattle.hs_builder.specs.declared.part.BuiltList.{BuiltList}
use Rattle.hs_builder.specs.declared.part.BuiltOptional.{BuiltOptional}
use Rattle.hs_builder.specs.declared.part.BuiltQuery.{BuiltQuery}
use Rattle.hs_builder.specs.declared.part.BuiltRows.{BuiltRows}
use Rattle.hs_builder.specs.declared.part.BuiltSelect.{BuiltSelect}
use Rattle.hs_builder.specs.declared.part.BuiltTable.{BuiltTable}
use Rattle.hs_builder.specs.declared.part.BuiltTuple.{BuiltTuple}
use Rattle.hs_builder.specs.declared.part.BuiltTuples.{BuiltTuples}
use Rattle.hs_builder.specs.declared.part.ConstraintHeader.{ConstraintHeader}
use Rattle.hs_builder.specs.declared.part.Expressions.{Expressions}
use Rattle.hs_builder.specs.declared.part.InsertTarget.{InsertTarget}
use Rattle.hs_builder.specs.declared.part.Leaves.{Leaves}
use Rattle.hs_builder.specs.declared.part.Parts.{Parts}
use Rattle.hs_builder.specs.declared.part.PlacedLiteral.{PlacedLiteral}
use Rattle.hs_builder.specs.declared.part.PlacedNumber.{PlacedNumber}
use Rattle.hs_builder.specs.declared.part.PlacedText.{PlacedText}
use Rattle.hs_builder.specs.declared.part.Queries.{Queries}

abbrev After : Leaves × Expressions × Queries → Type 0
After x = ExpressionsCover x.1 × QueriesCover x.2

abbrev AfterFunction : Leaves × Expressions → Type 0
AfterFunction x = ExpressionsCover x.1

-- a step on stacks that carry no depth
anyway : {S : Type 0} (step : Step S) → Then (λ (z : S). Unit {0}) step
anyway (stands s) = tt
anyway (deep s) = tt
anyway wrong = tt

expression_kept : (m : ExpressionMark) (l : Leaves) (es : Expressions) (qs : Queries) → ExpressionsCover es → QueriesCover qs → Then After (expression_step m (l, es, qs))
expression_kept e.Literal l es qs h i = lifted (λ (z : List PlacedLiteral × List Built). of_expression.Second z) After (expression.literal (l.literals, es.whole)) (λ x. (record l { literals = x.0 }, record es { whole = x.1 }, qs)) (λ x k. (record { whole = k; lists = h.lists; cases = h.cases; optional = h.optional }, i)) (of_expression.literal (l.literals, es.whole) h.whole)
expression_kept e.Column l es qs h i = lifted (λ (z : List Identifier × List Built). of_expression.Second z) After (expression.column (l.names, es.whole)) (λ x. (record l { names = x.0 }, record es { whole = x.1 }, qs)) (λ x k. (record { whole = k; lists = h.lists; cases = h.cases; optional = h.optional }, i)) (of_expression.column (l.names, es.whole) h.whole)
expression_kept e.Qualified l es qs h i = lifted (λ (z : List Identifier × List Built). of_expression.Second z) After (expression.qualified (l.names, es.whole)) (λ x. (record l { names = x.0 }, record es { whole = x.1 }, qs)) (λ x k. (record { whole = k; lists = h.lists; cases = h.cases; optional = h.optional }, i)) (of_expression.qualified (l.names, es.whole) h.whole)
expression_kept e.Bracket l es qs h i = lifted (λ (z : List ℕ × List Built). of_expression.Second z) After (expression.bracket (l.places, es.whole)) (λ x. (record l { places = x.0 }, record es { whole = x.1 }, qs)) (λ x k. (record { whole = k; lists = h.lists; cases = h.cases; optional = h.optional }, i)) (of_expression.bracket (l.places, es.whole) h.whole)
expression_kept (e.Signed sign) l es qs h i = lifted (λ (z : List ℕ × List Built). of_expression.Second z) After (expression.signed sign (l.places, es.whole)) (λ x. (record l { places = x.0 }, record es { whole = x.1 }, qs)) (λ x k. (record { whole = k; lists = h.lists; cases = h.cases; optional = h.optional }, i)) (of_expression.signed sign (l.places, es.whole) h.whole)
expression_kept e.Not l es qs h i = lifted (λ (z : List ℕ × List Built). of_expression.Second z) After (expression.negation (l.places, es.whole)) (λ x. (record l { places = x.0 }, record es { whole = x.1 }, qs)) (λ x k. (record { whole = k; lists = h.lists; cases = h.cases; optional = h.optional }, i)) (of_expression.negation (l.places, es.whole) h.whole)
expression_kept (e.Binary operator) l es qs h i = lifted (λ (z : List Built). Every BuiltCovers z) After (expression.binary operator es.whole) (λ x. (l, record es { whole = x }, qs)) (λ x k. (record { whole = k; lists = h.lists; cases = h.cases; optional = h.optional }, i)) (of_expression.binary operator es.whole h.whole)
expression_kept (e.IsNull negated) l es qs h i = lifted (λ (z : List Built). Every BuiltCovers z) After (expression.is_null negated es.whole) (λ x. (l, record es { whole = x }, qs)) (λ x k. (record { whole = k; lists = h.lists; cases = h.cases; optional = h.optional }, i)) (of_expression.is_null negated es.whole h.whole)
expression_kept e.Between l es qs h i = lifted (λ (z : List Bool × List Built). of_expression.Second z) After (expression.between (l.flags, es.whole)) (λ x. (record l { flags = x.0 }, record es { whole = x.1 }, qs)) (λ x k. (record { whole = k; lists = h.lists; cases = h.cases; optional = h.optional }, i)) (of_expression.between (l.flags, es.whole) h.whole)
expression_kept e.Like l es qs h i = lifted (λ (z : List Bool × List Built). of_expression.Second z) After (expression.like (l.flags, es.whole)) (λ x. (record l { flags = x.0 }, record es { whole = x.1 }, qs)) (λ x k. (record { whole = k; lists = h.lists; cases = h.cases; optional = h.optional }, i)) (of_expression.like (l.flags, es.whole) h.whole)
expression_kept e.LikeEscape l es qs h i = lifted (λ (z : List Bool × List PlacedText × List Built). of_expression.Last z) After (expression.like_escape (l.flags, l.texts, es.whole)) (λ x. (record l { flags = x.0; texts = x.1 }, record es { whole = x.2 }, qs)) (λ x k. (record { whole = k; lists = h.lists; cases = h.cases; optional = h.optional }, i)) (of_expression.like_escape (l.flags, l.texts, es.whole) h.whole)
expression_kept e.InList l es qs h i = lifted (λ (z : List Bool × List Built × List BuiltList). of_expression.WithLists z) After (expression.in_list (l.flags, es.whole, es.lists)) (λ x. (record l { flags = x.0 }, record es { whole = x.1; lists = x.2 }, qs)) (λ x k. (record { whole = k.0; lists = k.1; cases = h.cases; optional = h.optional }, i)) (of_expression.in_list (l.flags, es.whole, es.lists) (h.whole, h.lists))
expression_kept e.InQuery l es qs h i = lifted (λ (z : List Bool × List Built × List BuiltQuery). of_expression.WithQueries z) After (expression.in_query (l.flags, es.whole, qs.whole)) (λ x. (record l { flags = x.0 }, record es { whole = x.1 }, record qs { whole = x.2 })) (λ x k. (record { whole = k.0; lists = h.lists; cases = h.cases; optional = h.optional }, record { selects = i.selects; tables = i.tables; froms = i.froms; rows = i.rows; bodies = i.bodies; whole = k.1 })) (of_expression.in_query (l.flags, es.whole, qs.whole) (h.whole, i.whole))
expression_kept e.Exists l es qs h i = lifted (λ (z : List ℕ × List Built × List BuiltQuery). of_expression.WithQueries z) After (expression.exists (l.places, es.whole, qs.whole)) (λ x. (record l { places = x.0 }, record es { whole = x.1 }, record qs { whole = x.2 })) (λ x k. (record { whole = k.0; lists = h.lists; cases = h.cases; optional = h.optional }, record { selects = i.selects; tables = i.tables; froms = i.froms; rows = i.rows; bodies = i.bodies; whole = k.1 })) (of_expression.exists (l.places, es.whole, qs.whole) (h.whole, i.whole))
expression_kept e.Subquery l es qs h i = lifted (λ (z : List ℕ × List Built × List BuiltQuery). of_expression.WithQueries z) After (expression.subquery (l.places, es.whole, qs.whole)) (λ x. (record l { places = x.0 }, record es { whole = x.1 }, record qs { whole = x.2 })) (λ x k. (record { whole = k.0; lists = h.lists; cases = h.cases; optional = h.optional }, record { selects = i.selects; tables = i.tables; froms = i.froms; rows = i.rows; bodies = i.bodies; whole = k.1 })) (of_expression.subquery (l.places, es.whole, qs.whole) (h.whole, i.whole))
expression_kept e.BodySubquery l es qs h i = lifted (λ (z : List ℕ × List Built × List BuiltBody). of_expression.WithBodies z) After (expression.body_subquery (l.places, es.whole, qs.bodies)) (λ x. (record l { places = x.0 }, record es { whole = x.1 }, record qs { bodies = x.2 })) (λ x k. (record { whole = k.0; lists = h.lists; cases = h.cases; optional = h.optional }, record { selects = i.selects; tables = i.tables; froms = i.froms; rows = i.rows; bodies = k.1; whole = i.whole })) (of_expression.body_subquery (l.places, es.whole, qs.bodies) (h.whole, i.bodies))
expression_kept e.Digits l es qs h i = lifted (λ (z : List PlacedText × List ℕ). Unit {0}) After (leaves.digits (l.texts, es.counts)) (λ x. (record l { texts = x.0 }, record es { counts = x.1 }, qs)) (λ x k. (record { whole = h.whole; lists = h.lists; cases = h.cases; optional = h.optional }, i)) (anyway (leaves.digits (l.texts, es.counts)))
expression_kept (e.Interval sign unit) l es qs h i = lifted (λ (z : List Built × List ℕ). of_expression.First z) After (expression.interval sign unit (es.whole, es.counts)) (λ x. (l, record es { whole = x.0; counts = x.1 }, qs)) (λ x k. (record { whole = k; lists = h.lists; cases = h.cases; optional = h.optional }, i)) (of_expression.interval sign unit (es.whole, es.counts) h.whole)
expression_kept e.First l es qs h i = lifted (λ (z : List Built × List BuiltList). of_expression.Gathers z) After (expression.first (es.whole, es.lists)) (λ x. (l, record es { whole = x.0; lists = x.1 }, qs)) (λ x k. (record { whole = k.0; lists = k.1; cases = h.cases; optional = h.optional }, i)) (of_expression.first (es.whole, es.lists) (h.whole, h.lists))
expression_kept e.Next l es qs h i = lifted (λ (z : List Built × List BuiltList). of_expression.Gathers z) After (expression.next (es.whole, es.lists)) (λ x. (l, record es { whole = x.0; lists = x.1 }, qs)) (λ x k. (record { whole = k.0; lists = k.1; cases = h.cases; optional = h.optional }, i)) (of_expression.next (es.whole, es.lists) (h.whole, h.lists))
expression_kept e.Written l es qs h i = lifted (λ (z : List Built × List BuiltOptional). of_expression.MayStand z) After (expression.written (es.whole, es.optional)) (λ x. (l, record es { whole = x.0; optional = x.1 }, qs)) (λ x k. (record { whole = k.0; lists = h.lists; cases = h.cases; optional = k.1 }, i)) (of_expression.written (es.whole, es.optional) (h.whole, h.optional))
expression_kept e.Unwritten l es qs h i = lifted (λ (z : List BuiltOptional). Every OptionalCovers z) After (expression.unwritten es.optional) (λ x. (l, record es { optional = x }, qs)) (λ x k. (record { whole = h.whole; lists = h.lists; cases = h.cases; optional = k }, i)) (of_expression.unwritten es.optional h.optional)

function_kept : (token : Token) (m : FunctionMark) (l : Leaves) (es : Expressions) → ExpressionsCover es → Then AfterFunction (function_step token m (l, es))
function_kept token f.Cast l es h = lifted (λ (z : List ℕ × List DataType × List Built). of_expression.Last z) AfterFunction (function.cast (l.places, l.types, es.whole)) (λ x. (record l { places = x.0; types = x.1 }, record es { whole = x.2 })) (λ x k. record { whole = k; lists = h.lists; cases = h.cases; optional = h.optional }) (of_expression.cast (l.places, l.types, es.whole) h.whole)
function_kept token f.Case l es h = lifted (λ (z : List BuiltCase). Every CaseCovers z) AfterFunction (function.begin_case token es.cases) (λ x. (l, record es { cases = x })) (λ x k. record { whole = h.whole; lists = h.lists; cases = k; optional = h.optional }) (of_expression.begin_case token es.cases h.cases)
function_kept token f.Arm l es h = lifted (λ (z : List BuiltCase × List Built). of_expression.Cases z) AfterFunction (function.arm (es.cases, es.whole)) (λ x. (l, record es { cases = x.0; whole = x.1 })) (λ x k. record { whole = k.1; lists = h.lists; cases = k.0; optional = h.optional }) (of_expression.arm (es.cases, es.whole) (h.cases, h.whole))
function_kept token f.End l es h = lifted (λ (z : List BuiltOptional × List BuiltCase × List Built). of_expression.Ends z) AfterFunction (function.end_case (es.optional, es.cases, es.whole)) (λ x. (l, record es { optional = x.0; cases = x.1; whole = x.2 })) (λ x k. record { whole = k.2; lists = h.lists; cases = k.1; optional = k.0 }) (of_expression.end_case (es.optional, es.cases, es.whole) (h.optional, h.cases, h.whole))
function_kept token (f.Call name) l es h = lifted (λ (z : List ℕ × List Built × List BuiltList). of_expression.WithLists z) AfterFunction (function.call name (l.places, es.whole, es.lists)) (λ x. (record l { places = x.0 }, record es { whole = x.1; lists = x.2 })) (λ x k. record { whole = k.0; lists = k.1; cases = h.cases; optional = h.optional }) (of_expression.call name (l.places, es.whole, es.lists) (h.whole, h.lists))
function_kept token f.Substring l es h = lifted (λ (z : List ℕ × List Built). of_expression.Second z) AfterFunction (function.substring (l.places, es.whole)) (λ x. (record l { places = x.0 }, record es { whole = x.1 })) (λ x k. record { whole = k; lists = h.lists; cases = h.cases; optional = h.optional }) (of_expression.substring (l.places, es.whole) h.whole)
function_kept token f.SubstringFor l es h = lifted (λ (z : List ℕ × List Built). of_expression.Second z) AfterFunction (function.substring_for (l.places, es.whole)) (λ x. (record l { places = x.0 }, record es { whole = x.1 })) (λ x k. record { whole = k; lists = h.lists; cases = h.cases; optional = h.optional }) (of_expression.substring_for (l.places, es.whole) h.whole)
function_kept token (f.Form manner) l es h = record { whole = h.whole; lists = h.lists; cases = h.cases; optional = h.optional }
function_kept token f.Trim l es h = lifted (λ (z : List ℕ × List TrimForm × List Built). of_expression.Last z) AfterFunction (function.trim (l.places, es.forms, es.whole)) (λ x. (record l { places = x.0 }, record es { forms = x.1; whole = x.2 })) (λ x k. record { whole = k; lists = h.lists; cases = h.cases; optional = h.optional }) (of_expression.trim (l.places, es.forms, es.whole) h.whole)
function_kept token f.TrimCharacter l es h = lifted (λ (z : List ℕ × List TrimForm × List Built). of_expression.Last z) AfterFunction (function.trim_character (l.places, es.forms, es.whole)) (λ x. (record l { places = x.0 }, record es { forms = x.1; whole = x.2 })) (λ x k. record { whole = k; lists = h.lists; cases = h.cases; optional = h.optional }) (of_expression.trim_character (l.places, es.forms, es.whole) h.whole)
function_kept token (f.Field field) l es h = record { whole = h.whole; lists = h.lists; cases = h.cases; optional = h.optional }
function_kept token f.Extract l es h = lifted (λ (z : List ℕ × List DateField × List Built). of_expression.Last z) AfterFunction (function.extract (l.places, es.fields, es.whole)) (λ x. (record l { places = x.0 }, record es { fields = x.1; whole = x.2 })) (λ x k. record { whole = k; lists = h.lists; cases = h.cases; optional = h.optional }) (of_expression.extract (l.places, es.fields, es.whole) h.whole)
function_kept token f.CountRows l es h = lifted (λ (z : List ℕ × List Built). of_expression.Second z) AfterFunction (function.count_rows (l.places, es.whole)) (λ x. (record l { places = x.0 }, record es { whole = x.1 })) (λ x k. record { whole = k; lists = h.lists; cases = h.cases; optional = h.optional }) (of_expression.count_rows (l.places, es.whole) h.whole)
function_kept token (f.Aggregate name) l es h = lifted (λ (z : List ℕ × List Bool × List Built). of_expression.Last z) AfterFunction (function.aggregate name (l.places, l.flags, es.whole)) (λ x. (record l { places = x.0; flags = x.1 }, record es { whole = x.2 })) (λ x k. record { whole = k; lists = h.lists; cases = h.cases; optional = h.optional }) (of_expression.aggregate name (l.places, l.flags, es.whole) h.whole)

query_kept : (token : Token) (m : QueryMark) (l : Leaves) (es : Expressions) (qs : Queries) → ExpressionsCover es → QueriesCover qs → Then After (query_step token m (l, es, qs))
query_kept token q.Select l es qs h i = lifted (λ (z : List ℕ × List Bool × List BuiltSelect). of_query.Started z) After (query.begin_select (l.places, l.flags, qs.selects)) (λ x. (record l { places = x.0; flags = x.1 }, es, record qs { selects = x.2 })) (λ x k. (h, record { selects = k; tables = i.tables; froms = i.froms; rows = i.rows; bodies = i.bodies; whole = i.whole })) (of_query.begin_select (l.places, l.flags, qs.selects) i.selects)
query_kept token q.Every l es qs h i = lifted (λ (z : List BuiltSelect). Every SelectCovers z) After (query.every token qs.selects) (λ x. (l, es, record qs { selects = x })) (λ x k. (h, record { selects = k; tables = i.tables; froms = i.froms; rows = i.rows; bodies = i.bodies; whole = i.whole })) (of_query.every token qs.selects i.selects)
query_kept token q.Item l es qs h i = lifted (λ (z : List (Option Identifier) × List Built × List BuiltSelect). of_query.Items z) After (query.item (l.aliases, es.whole, qs.selects)) (λ x. (record l { aliases = x.0 }, record es { whole = x.1 }, record qs { selects = x.2 })) (λ x k. (record { whole = k.0; lists = h.lists; cases = h.cases; optional = h.optional }, record { selects = k.1; tables = i.tables; froms = i.froms; rows = i.rows; bodies = i.bodies; whole = i.whole })) (of_query.item (l.aliases, es.whole, qs.selects) (h.whole, i.selects))
query_kept token q.Table l es qs h i = lifted (λ (z : List Identifier × List (Option Identifier) × List BuiltTable). of_query.Named z) After (query.named_table (l.names, l.aliases, qs.tables)) (λ x. (record l { names = x.0; aliases = x.1 }, es, record qs { tables = x.2 })) (λ x k. (h, record { selects = i.selects; tables = k; froms = i.froms; rows = i.rows; bodies = i.bodies; whole = i.whole })) (of_query.named_table (l.names, l.aliases, qs.tables) i.tables)
query_kept token q.Derived l es qs h i = lifted (λ (z : List Identifier × List BuiltQuery × List BuiltTable). of_query.Derived z) After (query.derived_table (l.names, qs.whole, qs.tables)) (λ x. (record l { names = x.0 }, es, record qs { whole = x.1; tables = x.2 })) (λ x k. (h, record { selects = i.selects; tables = k.1; froms = i.froms; rows = i.rows; bodies = i.bodies; whole = k.0 })) (of_query.derived_table (l.names, qs.whole, qs.tables) (i.whole, i.tables))
query_kept token q.From l es qs h i = lifted (λ (z : List BuiltTable × List BuiltFrom). of_query.Tables z) After (query.begin_from (qs.tables, qs.froms)) (λ x. (l, es, record qs { tables = x.0; froms = x.1 })) (λ x k. (h, record { selects = i.selects; tables = k.0; froms = k.1; rows = i.rows; bodies = i.bodies; whole = i.whole })) (of_query.begin_from (qs.tables, qs.froms) (i.tables, i.froms))
query_kept token (q.Join outer) l es qs h i = lifted (λ (z : List Built × List BuiltTable × List BuiltFrom). of_query.Joins z) After (query.join_on outer (es.whole, qs.tables, qs.froms)) (λ x. (l, record es { whole = x.0 }, record qs { tables = x.1; froms = x.2 })) (λ x k. (record { whole = k.0; lists = h.lists; cases = h.cases; optional = h.optional }, record { selects = i.selects; tables = k.1; froms = k.2; rows = i.rows; bodies = i.bodies; whole = i.whole })) (of_query.join_on outer (es.whole, qs.tables, qs.froms) (h.whole, i.tables, i.froms))
query_kept token q.CrossJoin l es qs h i = lifted (λ (z : List BuiltTable × List BuiltFrom). of_query.Tables z) After (query.cross_join (qs.tables, qs.froms)) (λ x. (l, es, record qs { tables = x.0; froms = x.1 })) (λ x k. (h, record { selects = i.selects; tables = k.0; froms = k.1; rows = i.rows; bodies = i.bodies; whole = i.whole })) (of_query.cross_join (qs.tables, qs.froms) (i.tables, i.froms))
query_kept token q.AddFrom l es qs h i = lifted (λ (z : List BuiltFrom × List BuiltSelect). of_query.Froms z) After (query.add_from (qs.froms, qs.selects)) (λ x. (l, es, record qs { froms = x.0; selects = x.1 })) (λ x k. (h, record { selects = k.1; tables = i.tables; froms = k.0; rows = i.rows; bodies = i.bodies; whole = i.whole })) (of_query.add_from (qs.froms, qs.selects) (i.froms, i.selects))
query_kept token q.Group l es qs h i = lifted (λ (z : List Built × List BuiltSelect). of_query.Parts z) After (query.group (es.whole, qs.selects)) (λ x. (l, record es { whole = x.0 }, record qs { selects = x.1 })) (λ x k. (record { whole = k.0; lists = h.lists; cases = h.cases; optional = h.optional }, record { selects = k.1; tables = i.tables; froms = i.froms; rows = i.rows; bodies = i.bodies; whole = i.whole })) (of_query.group (es.whole, qs.selects) (h.whole, i.selects))
query_kept token q.SelectBody l es qs h i = lifted (λ (z : List BuiltOptional × List BuiltSelect × List BuiltBody). of_query.Selects z) After (query.select_body (es.optional, qs.selects, qs.bodies)) (λ x. (l, record es { optional = x.0 }, record qs { selects = x.1; bodies = x.2 })) (λ x k. (record { whole = h.whole; lists = h.lists; cases = h.cases; optional = k.0 }, record { selects = k.1; tables = i.tables; froms = i.froms; rows = i.rows; bodies = k.2; whole = i.whole })) (of_query.select_body (es.optional, qs.selects, qs.bodies) (h.optional, i.selects, i.bodies))
query_kept token q.Values l es qs h i = lifted (λ (z : List BuiltRows). Every RowsCover z) After (query.begin_values token qs.rows) (λ x. (l, es, record qs { rows = x })) (λ x k. (h, record { selects = i.selects; tables = i.tables; froms = i.froms; rows = k; bodies = i.bodies; whole = i.whole })) (of_query.begin_values token qs.rows i.rows)
query_kept token q.Row l es qs h i = lifted (λ (z : List BuiltList × List BuiltRows). of_query.Rows z) After (query.row (es.lists, qs.rows)) (λ x. (l, record es { lists = x.0 }, record qs { rows = x.1 })) (λ x k. (record { whole = h.whole; lists = k.0; cases = h.cases; optional = h.optional }, record { selects = i.selects; tables = i.tables; froms = i.froms; rows = k.1; bodies = i.bodies; whole = i.whole })) (of_query.row (es.lists, qs.rows) (h.lists, i.rows))
query_kept token q.ValuesBody l es qs h i = lifted (λ (z : List BuiltRows × List BuiltBody). of_query.Values z) After (query.values_body (qs.rows, qs.bodies)) (λ x. (l, es, record qs { rows = x.0; bodies = x.1 })) (λ x k. (h, record { selects = i.selects; tables = i.tables; froms = i.froms; rows = k.0; bodies = k.1; whole = i.whole })) (of_query.values_body (qs.rows, qs.bodies) (i.rows, i.bodies))
query_kept token q.BracketBody l es qs h i = lifted (λ (z : List ℕ × List BuiltBody). of_query.Bodies z) After (query.bracket_body (l.places, qs.bodies)) (λ x. (record l { places = x.0 }, es, record qs { bodies = x.1 })) (λ x k. (h, record { selects = i.selects; tables = i.tables; froms = i.froms; rows = i.rows; bodies = k; whole = i.whole })) (of_query.bracket_body (l.places, qs.bodies) i.bodies)
query_kept token (q.SetOperation operator) l es qs h i = lifted (λ (z : List BuiltBody). Every BodyCovers z) After (query.set_operation operator qs.bodies) (λ x. (l, es, record qs { bodies = x })) (λ x k. (h, record { selects = i.selects; tables = i.tables; froms = i.froms; rows = i.rows; bodies = k; whole = i.whole })) (of_query.set_operation operator qs.bodies i.bodies)
query_kept token q.Query l es qs h i = lifted (λ (z : List BuiltBody × List BuiltQuery). of_query.Begun z) After (query.begin_query (qs.bodies, qs.whole)) (λ x. (l, es, record qs { bodies = x.0; whole = x.1 })) (λ x k. (h, record { selects = i.selects; tables = i.tables; froms = i.froms; rows = i.rows; bodies = k.0; whole = k.1 })) (of_query.begin_query (qs.bodies, qs.whole) (i.bodies, i.whole))
query_kept token (q.Key descending) l es qs h i = lifted (λ (z : List Built × List BuiltQuery). of_query.Keys z) After (query.key descending (es.whole, qs.whole)) (λ x. (l, record es { whole = x.0 }, record qs { whole = x.1 })) (λ x k. (record { whole = k.0; lists = h.lists; cases = h.cases; optional = h.optional }, record { selects = i.selects; tables = i.tables; froms = i.froms; rows = i.rows; bodies = i.bodies; whole = k.1 })) (of_query.key descending (es.whole, qs.whole) (h.whole, i.whole))
query_kept token q.Limit l es qs h i = lifted (λ (z : List PlacedNumber × List BuiltQuery). of_query.Limits z) After (query.limit (l.numbers, qs.whole)) (λ x. (record l { numbers = x.0 }, es, record qs { whole = x.1 })) (λ x k. (h, record { selects = i.selects; tables = i.tables; froms = i.froms; rows = i.rows; bodies = i.bodies; whole = k })) (of_query.limit (l.numbers, qs.whole) i.whole)
query_kept token q.Offset l es qs h i = lifted (λ (z : List PlacedNumber × List BuiltQuery). of_query.Limits z) After (query.offset (l.numbers, qs.whole)) (λ x. (record l { numbers = x.0 }, es, record qs { whole = x.1 })) (λ x k. (h, record { selects = i.selects; tables = i.tables; froms = i.froms; rows = i.rows; bodies = i.bodies; whole = k })) (of_query.offset (l.numbers, qs.whole) i.whole)

change_kept : (token : Token) (m : ChangeMark) (p : Parts) → PartsCover p → Then (λ (z : Parts). PartsCover z) (change_step token m p)
change_kept token c.QueryStatement p h = lifted (λ (z : List BuiltQuery × List Stmt). of_statement.Query z) (λ (z : Parts). PartsCover z) (change.query_statement (p.queries.whole, p.statements)) (λ x. record p { queries = record p.queries { whole = x.0 }; statements = x.1 }) (λ x k. record { expressions = h.expressions; queries = record { selects = h.queries.selects; tables = h.queries.tables; froms = h.queries.froms; rows = h.queries.rows; bodies = h.queries.bodies; whole = k }; changes = record { tuples = h.changes.tuples; tuple_lists = h.changes.tuple_lists } }) (of_statement.query_statement (p.queries.whole, p.statements) h.queries.whole)
change_kept token c.Insert p h = lifted (λ (z : List Identifier × List InsertTarget). Unit {0}) (λ (z : Parts). PartsCover z) (change.begin_insert (p.leaves.names, p.changes.targets)) (λ x. record p { leaves = record p.leaves { names = x.0 }; changes = record p.changes { targets = x.1 } }) (λ x k. record { expressions = h.expressions; queries = h.queries; changes = record { tuples = h.changes.tuples; tuple_lists = h.changes.tuple_lists } }) (anyway (change.begin_insert (p.leaves.names, p.changes.targets)))
change_kept token c.InsertColumns p h = lifted (λ (z : List ℕ × List (List Identifier) × List InsertTarget). Unit {0}) (λ (z : Parts). PartsCover z) (change.insert_columns (p.leaves.places, p.leaves.name_lists, p.changes.targets)) (λ x. record p { leaves = record p.leaves { places = x.0; name_lists = x.1 }; changes = record p.changes { targets = x.2 } }) (λ x k. record { expressions = h.expressions; queries = h.queries; changes = record { tuples = h.changes.tuples; tuple_lists = h.changes.tuple_lists } }) (anyway (change.insert_columns (p.leaves.places, p.leaves.name_lists, p.changes.targets)))
change_kept token c.Tuples p h = lifted (λ (z : List BuiltTuples). Every TuplesCover z) (λ (z : Parts). PartsCover z) (change.begin_tuples token p.changes.tuple_lists) (λ x. record p { changes = record p.changes { tuple_lists = x } }) (λ x k. record { expressions = h.expressions; queries = h.queries; changes = record { tuples = h.changes.tuples; tuple_lists = k } }) (of_statement.begin_tuples token p.changes.tuple_lists h.changes.tuple_lists)
change_kept token c.Tuple p h = lifted (λ (z : List BuiltTuple). Every TupleCovers z) (λ (z : Parts). PartsCover z) (change.begin_tuple p.changes.tuples) (λ x. record p { changes = record p.changes { tuples = x } }) (λ x k. record { expressions = h.expressions; queries = h.queries; changes = record { tuples = k; tuple_lists = h.changes.tuple_lists } }) (of_statement.begin_tuple p.changes.tuples h.changes.tuples)
change_kept token c.TupleValue p h = lifted (λ (z : List Built × List BuiltTuple). of_statement.Valued z) (λ (z : Parts). PartsCover z) (change.tuple_value (p.expressions.whole, p.changes.tuples)) (λ x. record p { expressions = record p.expressions { whole = x.0 }; changes = record p.changes { tuples = x.1 } }) (λ x k. record { expressions = record { whole = k.0; lists = h.expressions.lists; cases = h.expressions.cases; optional = h.expressions.optional }; queries = h.queries; changes = record { tuples = k.1; tuple_lists = h.changes.tuple_lists } }) (of_statement.tuple_value (p.expressions.whole, p.changes.tuples) (h.expressions.whole, h.changes.tuples))
change_kept token c.TupleDefault p h = lifted (λ (z : List BuiltTuple). Every TupleCovers z) (λ (z : Parts). PartsCover z) (change.tuple_default token p.changes.tuples) (λ x. record p { changes = record p.changes { tuples = x } }) (λ x k. record { expressions = h.expressions; queries = h.queries; changes = record { tuples = k; tuple_lists = h.changes.tuple_lists } }) (of_statement.tuple_default token p.changes.tuples h.changes.tuples)
change_kept token c.AddTuple p h = lifted (λ (z : List BuiltTuple × List BuiltTuples). of_statement.Tuples z) (λ (z : Parts). PartsCover z) (change.add_tuple (p.changes.tuples, p.changes.tuple_lists)) (λ x. record p { changes = record p.changes { tuples = x.0; tuple_lists = x.1 } }) (λ x k. record { expressions = h.expressions; queries = h.queries; changes = record { tuples = k.0; tuple_lists = k.1 } }) (of_statement.add_tuple (p.changes.tuples, p.changes.tuple_lists) (h.changes.tuples, h.changes.tuple_lists))
change_kept token c.TuplesBody p h = lifted (λ (z : List BuiltTuples × List BuiltBody). of_statement.TupleBodies z) (λ (z : Parts). PartsCover z) (change.tuples_body (p.changes.tuple_lists, p.queries.bodies)) (λ x. record p { changes = record p.changes { tuple_lists = x.0 }; queries = record p.queries { bodies = x.1 } }) (λ x k. record { expressions = h.expressions; queries = record { selects = h.queries.selects; tables = h.queries.tables; froms = h.queries.froms; rows = h.queries.rows; bodies = k.1; whole = h.queries.whole }; changes = record { tuples = h.changes.tuples; tuple_lists = k.0 } }) (of_statement.tuples_body (p.changes.tuple_lists, p.queries.bodies) (h.changes.tuple_lists, h.queries.bodies))
change_kept token c.InsertTuples p h = lifted (λ (z : List InsertTarget × List BuiltTuples × List Stmt). of_statement.InsertsTuples z) (λ (z : Parts). PartsCover z) (change.insert_tuples (p.changes.targets, p.changes.tuple_lists, p.statements)) (λ x. record p { changes = record p.changes { targets = x.0; tuple_lists = x.1 }; statements = x.2 }) (λ x k. record { expressions = h.expressions; queries = h.queries; changes = record { tuples = h.changes.tuples; tuple_lists = k } }) (of_statement.insert_tuples (p.changes.targets, p.changes.tuple_lists, p.statements) h.changes.tuple_lists)
change_kept token c.InsertQuery p h = lifted (λ (z : List InsertTarget × List BuiltQuery × List Stmt). of_statement.InsertsQuery z) (λ (z : Parts). PartsCover z) (change.insert_query (p.changes.targets, p.queries.whole, p.statements)) (λ x. record p { changes = record p.changes { targets = x.0 }; queries = record p.queries { whole = x.1 }; statements = x.2 }) (λ x k. record { expressions = h.expressions; queries = record { selects = h.queries.selects; tables = h.queries.tables; froms = h.queries.froms; rows = h.queries.rows; bodies = h.queries.bodies; whole = k }; changes = record { tuples = h.changes.tuples; tuple_lists = h.changes.tuple_lists } }) (of_statement.insert_query (p.changes.targets, p.queries.whole, p.statements) h.queries.whole)
change_kept token c.Update p h = lifted (λ (z : List Identifier × List (Option Identifier) × List Update). Unit {0}) (λ (z : Parts). PartsCover z) (change.begin_update (p.leaves.names, p.leaves.aliases, p.changes.updates)) (λ x. record p { leaves = record p.leaves { names = x.0; aliases = x.1 }; changes = record p.changes { updates = x.2 } }) (λ x k. record { expressions = h.expressions; queries = h.queries; changes = record { tuples = h.changes.tuples; tuple_lists = h.changes.tuple_lists } }) (anyway (change.begin_update (p.leaves.names, p.leaves.aliases, p.changes.updates)))
change_kept token c.Assign p h = lifted (λ (z : List Identifier × List Built × List Update). of_statement.Assigns z) (λ (z : Parts). PartsCover z) (change.assign (p.leaves.names, p.expressions.whole, p.changes.updates)) (λ x. record p { leaves = record p.leaves { names = x.0 }; expressions = record p.expressions { whole = x.1 }; changes = record p.changes { updates = x.2 } }) (λ x k. record { expressions = record { whole = k; lists = h.expressions.lists; cases = h.expressions.cases; optional = h.expressions.optional }; queries = h.queries; changes = record { tuples = h.changes.tuples; tuple_lists = h.changes.tuple_lists } }) (of_statement.assign (p.leaves.names, p.expressions.whole, p.changes.updates) h.expressions.whole)
change_kept token c.AssignDefault p h = lifted (λ (z : List Identifier × List Update). Unit {0}) (λ (z : Parts). PartsCover z) (change.assign_default token (p.leaves.names, p.changes.updates)) (λ x. record p { leaves = record p.leaves { names = x.0 }; changes = record p.changes { updates = x.1 } }) (λ x k. record { expressions = h.expressions; queries = h.queries; changes = record { tuples = h.changes.tuples; tuple_lists = h.changes.tuple_lists } }) (anyway (change.assign_default token (p.leaves.names, p.changes.updates)))
change_kept token c.UpdateStatement p h = lifted (λ (z : List BuiltOptional × List Update × List Stmt). of_statement.Filters z) (λ (z : Parts). PartsCover z) (change.update_statement (p.expressions.optional, p.changes.updates, p.statements)) (λ x. record p { expressions = record p.expressions { optional = x.0 }; changes = record p.changes { updates = x.1 }; statements = x.2 }) (λ x k. record { expressions = record { whole = h.expressions.whole; lists = h.expressions.lists; cases = h.expressions.cases; optional = k }; queries = h.queries; changes = record { tuples = h.changes.tuples; tuple_lists = h.changes.tuple_lists } }) (of_statement.update_statement (p.expressions.optional, p.changes.updates, p.statements) h.expressions.optional)
change_kept token c.Delete p h = lifted (λ (z : List Identifier × List (Option Identifier) × List Delete). Unit {0}) (λ (z : Parts). PartsCover z) (change.begin_delete (p.leaves.names, p.leaves.aliases, p.changes.deletes)) (λ x. record p { leaves = record p.leaves { names = x.0; aliases = x.1 }; changes = record p.changes { deletes = x.2 } }) (λ x k. record { expressions = h.expressions; queries = h.queries; changes = record { tuples = h.changes.tuples; tuple_lists = h.changes.tuple_lists } }) (anyway (change.begin_delete (p.leaves.names, p.leaves.aliases, p.changes.deletes)))
change_kept token c.DeleteStatement p h = lifted (λ (z : List BuiltOptional × List Delete × List Stmt). of_statement.Filters z) (λ (z : Parts). PartsCover z) (change.delete_statement (p.expressions.optional, p.changes.deletes, p.statements)) (λ x. record p { expressions = record p.expressions { optional = x.0 }; changes = record p.changes { deletes = x.1 }; statements = x.2 }) (λ x k. record { expressions = record { whole = h.expressions.whole; lists = h.expressions.lists; cases = h.expressions.cases; optional = k }; queries = h.queries; changes = record { tuples = h.changes.tuples; tuple_lists = h.changes.tuple_lists } }) (of_statement.delete_statement (p.expressions.optional, p.changes.deletes, p.statements) h.expressions.optional)
change_kept token c.Lock p h = lifted (λ (z : List (List LockedTable)). Unit {0}) (λ (z : Parts). PartsCover z) (change.begin_lock p.changes.locks) (λ x. record p { changes = record p.changes { locks = x } }) (λ x k. record { expressions = h.expressions; queries = h.queries; changes = record { tuples = h.changes.tuples; tuple_lists = h.changes.tuple_lists } }) (anyway (change.begin_lock p.changes.locks))
change_kept token (c.Locked write) p h = lifted (λ (z : List Identifier × List (List LockedTable)). Unit {0}) (λ (z : Parts). PartsCover z) (change.locked write (p.leaves.names, p.changes.locks)) (λ x. record p { leaves = record p.leaves { names = x.0 }; changes = record p.changes { locks = x.1 } }) (λ x k. record { expressions = h.expressions; queries = h.queries; changes = record { tuples = h.changes.tuples; tuple_lists = h.changes.tuple_lists } }) (anyway (change.locked write (p.leaves.names, p.changes.locks)))
change_kept token c.LockStatement p h = lifted (λ (z : List (List LockedTable) × List Stmt). Unit {0}) (λ (z : Parts). PartsCover z) (change.lock_statement (p.changes.locks, p.statements)) (λ x. record p { changes = record p.changes { locks = x.0 }; statements = x.1 }) (λ x k. record { expressions = h.expressions; queries = h.queries; changes = record { tuples = h.changes.tuples; tuple_lists = h.changes.tuple_lists } }) (anyway (change.lock_statement (p.changes.locks, p.statements)))

definition_kept : (m : DefinitionMark) (p : Parts) → PartsCover p → Then (λ (z : Parts). PartsCover z) (definition_step m p)
definition_kept (d.Create storage) p h = lifted (λ (z : List Identifier × List CreateTable). Unit {0}) (λ (z : Parts). PartsCover z) (definition.begin_table storage (p.leaves.names, p.definitions.tables)) (λ x. record p { leaves = record p.leaves { names = x.0 }; definitions = record p.definitions { tables = x.1 } }) (λ x k. record { expressions = h.expressions; queries = h.queries; changes = h.changes }) (anyway (definition.begin_table storage (p.leaves.names, p.definitions.tables)))
definition_kept d.ColumnElement p h = lifted (λ (z : List ColumnDefinition × List CreateTable). Unit {0}) (λ (z : Parts). PartsCover z) (definition.column_element (p.definitions.columns, p.definitions.tables)) (λ x. record p { definitions = record p.definitions { columns = x.0; tables = x.1 } }) (λ x k. record { expressions = h.expressions; queries = h.queries; changes = h.changes }) (anyway (definition.column_element (p.definitions.columns, p.definitions.tables)))
definition_kept d.ConstraintElement p h = lifted (λ (z : List TableConstraint × List CreateTable). Unit {0}) (λ (z : Parts). PartsCover z) (definition.constraint_element (p.definitions.constraints, p.definitions.tables)) (λ x. record p { definitions = record p.definitions { constraints = x.0; tables = x.1 } }) (λ x k. record { expressions = h.expressions; queries = h.queries; changes = h.changes }) (anyway (definition.constraint_element (p.definitions.constraints, p.definitions.tables)))
definition_kept d.CreateStatement p h = lifted (λ (z : List CreateTable × List Stmt). Unit {0}) (λ (z : Parts). PartsCover z) (definition.create_statement (p.definitions.tables, p.statements)) (λ x. record p { definitions = record p.definitions { tables = x.0 }; statements = x.1 }) (λ x k. record { expressions = h.expressions; queries = h.queries; changes = h.changes }) (anyway (definition.create_statement (p.definitions.tables, p.statements)))
definition_kept d.CreateIndex p h = lifted (λ (z : List Identifier × List (List Identifier) × List Stmt). Unit {0}) (λ (z : Parts). PartsCover z) (definition.create_index (p.leaves.names, p.leaves.name_lists, p.statements)) (λ x. record p { leaves = record p.leaves { names = x.0; name_lists = x.1 }; statements = x.2 }) (λ x k. record { expressions = h.expressions; queries = h.queries; changes = h.changes }) (anyway (definition.create_index (p.leaves.names, p.leaves.name_lists, p.statements)))
definition_kept d.Define p h = lifted (λ (z : List Identifier × List DataType × List ColumnDefinition). Unit {0}) (λ (z : Parts). PartsCover z) (definition.define (p.leaves.names, p.leaves.types, p.definitions.columns)) (λ x. record p { leaves = record p.leaves { names = x.0; types = x.1 }; definitions = record p.definitions { columns = x.2 } }) (λ x k. record { expressions = h.expressions; queries = h.queries; changes = h.changes }) (anyway (definition.define (p.leaves.names, p.leaves.types, p.definitions.columns)))
definition_kept d.Default p h = lifted (λ (z : List PlacedLiteral × List ColumnDefinition). Unit {0}) (λ (z : Parts). PartsCover z) (definition.default (p.leaves.literals, p.definitions.columns)) (λ x. record p { leaves = record p.leaves { literals = x.0 }; definitions = record p.definitions { columns = x.1 } }) (λ x k. record { expressions = h.expressions; queries = h.queries; changes = h.changes }) (anyway (definition.default (p.leaves.literals, p.definitions.columns)))
definition_kept d.Named p h = lifted (λ (z : List ℕ × List Identifier × List ConstraintHeader). Unit {0}) (λ (z : Parts). PartsCover z) (definition.named (p.leaves.places, p.leaves.names, p.definitions.headers)) (λ x. record p { leaves = record p.leaves { places = x.0; names = x.1 }; definitions = record p.definitions { headers = x.2 } }) (λ x k. record { expressions = h.expressions; queries = h.queries; changes = h.changes }) (anyway (definition.named (p.leaves.places, p.leaves.names, p.definitions.headers)))
definition_kept d.Unnamed p h = lifted (λ (z : List ℕ × List ConstraintHeader). Unit {0}) (λ (z : Parts). PartsCover z) (definition.unnamed (p.leaves.places, p.definitions.headers)) (λ x. record p { leaves = record p.leaves { places = x.0 }; definitions = record p.definitions { headers = x.1 } }) (λ x k. record { expressions = h.expressions; queries = h.queries; changes = h.changes }) (anyway (definition.unnamed (p.leaves.places, p.definitions.headers)))
definition_kept d.NotNull p h = lifted (λ (z : List ConstraintHeader × List ColumnDefinition). Unit {0}) (λ (z : Parts). PartsCover z) (definition.not_null (p.definitions.headers, p.definitions.columns)) (λ x. record p { definitions = record p.definitions { headers = x.0; columns = x.1 } }) (λ x k. record { expressions = h.expressions; queries = h.queries; changes = h.changes }) (anyway (definition.not_null (p.definitions.headers, p.definitions.columns)))
definition_kept d.ColumnPrimary p h = lifted (λ (z : List ConstraintHeader × List ColumnDefinition). Unit {0}) (λ (z : Parts). PartsCover z) (definition.column_primary (p.definitions.headers, p.definitions.columns)) (λ x. record p { definitions = record p.definitions { headers = x.0; columns = x.1 } }) (λ x k. record { expressions = h.expressions; queries = h.queries; changes = h.changes }) (anyway (definition.column_primary (p.definitions.headers, p.definitions.columns)))
definition_kept d.ColumnUnique p h = lifted (λ (z : List ConstraintHeader × List ColumnDefinition). Unit {0}) (λ (z : Parts). PartsCover z) (definition.column_unique (p.definitions.headers, p.definitions.columns)) (λ x. record p { definitions = record p.definitions { headers = x.0; columns = x.1 } }) (λ x k. record { expressions = h.expressions; queries = h.queries; changes = h.changes }) (anyway (definition.column_unique (p.definitions.headers, p.definitions.columns)))
definition_kept d.ColumnCheck p h = lifted (λ (z : List Built × List ConstraintHeader × List ColumnDefinition). of_statement.Checks z) (λ (z : Parts). PartsCover z) (definition.column_check (p.expressions.whole, p.definitions.headers, p.definitions.columns)) (λ x. record p { expressions = record p.expressions { whole = x.0 }; definitions = record p.definitions { headers = x.1; columns = x.2 } }) (λ x k. record { expressions = record { whole = k; lists = h.expressions.lists; cases = h.expressions.cases; optional = h.expressions.optional }; queries = h.queries; changes = h.changes }) (of_statement.column_check (p.expressions.whole, p.definitions.headers, p.definitions.columns) h.expressions.whole)
definition_kept d.ColumnReferences p h = lifted (λ (z : List ForeignKey × List ConstraintHeader × List ColumnDefinition). Unit {0}) (λ (z : Parts). PartsCover z) (definition.column_references (p.definitions.keys, p.definitions.headers, p.definitions.columns)) (λ x. record p { definitions = record p.definitions { keys = x.0; headers = x.1; columns = x.2 } }) (λ x k. record { expressions = h.expressions; queries = h.queries; changes = h.changes }) (anyway (definition.column_references (p.definitions.keys, p.definitions.headers, p.definitions.columns)))
definition_kept d.References p h = lifted (λ (z : List Identifier × List ForeignKey). Unit {0}) (λ (z : Parts). PartsCover z) (definition.references (p.leaves.names, p.definitions.keys)) (λ x. record p { leaves = record p.leaves { names = x.0 }; definitions = record p.definitions { keys = x.1 } }) (λ x k. record { expressions = h.expressions; queries = h.queries; changes = h.changes }) (anyway (definition.references (p.leaves.names, p.definitions.keys)))
definition_kept d.ParentColumns p h = lifted (λ (z : List (List Identifier) × List ForeignKey). Unit {0}) (λ (z : Parts). PartsCover z) (definition.parent_columns (p.leaves.name_lists, p.definitions.keys)) (λ x. record p { leaves = record p.leaves { name_lists = x.0 }; definitions = record p.definitions { keys = x.1 } }) (λ x k. record { expressions = h.expressions; queries = h.queries; changes = h.changes }) (anyway (definition.parent_columns (p.leaves.name_lists, p.definitions.keys)))
definition_kept (d.Action _) p h = record { expressions = h.expressions; queries = h.queries; changes = h.changes }
definition_kept d.OnDelete p h = lifted (λ (z : List ReferentialAction × List ForeignKey). Unit {0}) (λ (z : Parts). PartsCover z) (definition.on_delete (p.definitions.actions, p.definitions.keys)) (λ x. record p { definitions = record p.definitions { actions = x.0; keys = x.1 } }) (λ x k. record { expressions = h.expressions; queries = h.queries; changes = h.changes }) (anyway (definition.on_delete (p.definitions.actions, p.definitions.keys)))
definition_kept d.OnUpdate p h = lifted (λ (z : List ReferentialAction × List ForeignKey). Unit {0}) (λ (z : Parts). PartsCover z) (definition.on_update (p.definitions.actions, p.definitions.keys)) (λ x. record p { definitions = record p.definitions { actions = x.0; keys = x.1 } }) (λ x k. record { expressions = h.expressions; queries = h.queries; changes = h.changes }) (anyway (definition.on_update (p.definitions.actions, p.definitions.keys)))
definition_kept d.TablePrimary p h = lifted (λ (z : List ConstraintHeader × List (List Identifier) × List TableConstraint). Unit {0}) (λ (z : Parts). PartsCover z) (definition.table_primary (p.definitions.headers, p.leaves.name_lists, p.definitions.constraints)) (λ x. record p { leaves = record p.leaves { name_lists = x.1 }; definitions = record p.definitions { headers = x.0; constraints = x.2 } }) (λ x k. record { expressions = h.expressions; queries = h.queries; changes = h.changes }) (anyway (definition.table_primary (p.definitions.headers, p.leaves.name_lists, p.definitions.constraints)))
definition_kept d.TableUnique p h = lifted (λ (z : List ConstraintHeader × List (List Identifier) × List TableConstraint). Unit {0}) (λ (z : Parts). PartsCover z) (definition.table_unique (p.definitions.headers, p.leaves.name_lists, p.definitions.constraints)) (λ x. record p { leaves = record p.leaves { name_lists = x.1 }; definitions = record p.definitions { headers = x.0; constraints = x.2 } }) (λ x k. record { expressions = h.expressions; queries = h.queries; changes = h.changes }) (anyway (definition.table_unique (p.definitions.headers, p.leaves.name_lists, p.definitions.constraints)))
definition_kept d.TableCheck p h = lifted (λ (z : List Built × List ConstraintHeader × List TableConstraint). of_statement.Checks z) (λ (z : Parts). PartsCover z) (definition.table_check (p.expressions.whole, p.definitions.headers, p.definitions.constraints)) (λ x. record p { expressions = record p.expressions { whole = x.0 }; definitions = record p.definitions { headers = x.1; constraints = x.2 } }) (λ x k. record { expressions = record { whole = k; lists = h.expressions.lists; cases = h.expressions.cases; optional = h.expressions.optional }; queries = h.queries; changes = h.changes }) (of_statement.table_check (p.expressions.whole, p.definitions.headers, p.definitions.constraints) h.expressions.whole)
definition_kept d.TableForeign p h = lifted (λ (z : List ConstraintHeader × List (List Identifier) × List ForeignKey × List TableConstraint). Unit {0}) (λ (z : Parts). PartsCover z) (definition.table_foreign (p.definitions.headers, p.leaves.name_lists, p.definitions.keys, p.definitions.constraints)) (λ x. record p { leaves = record p.leaves { name_lists = x.1 }; definitions = record p.definitions { headers = x.0; keys = x.2; constraints = x.3 } }) (λ x k. record { expressions = h.expressions; queries = h.queries; changes = h.changes }) (anyway (definition.table_foreign (p.definitions.headers, p.leaves.name_lists, p.definitions.keys, p.definitions.constraints)))
definition_kept d.AddColumn p h = lifted (λ (z : List Identifier × List ColumnDefinition × List Stmt). Unit {0}) (λ (z : Parts). PartsCover z) (definition.add_column (p.leaves.names, p.definitions.columns, p.statements)) (λ x. record p { leaves = record p.leaves { names = x.0 }; definitions = record p.definitions { columns = x.1 }; statements = x.2 }) (λ x k. record { expressions = h.expressions; queries = h.queries; changes = h.changes }) (anyway (definition.add_column (p.leaves.names, p.definitions.columns, p.statements)))
definition_kept d.AddConstraint p h = lifted (λ (z : List Identifier × List TableConstraint × List Stmt). Unit {0}) (λ (z : Parts). PartsCover z) (definition.add_constraint (p.leaves.names, p.definitions.constraints, p.statements)) (λ x. record p { leaves = record p.leaves { names = x.0 }; definitions = record p.definitions { constraints = x.1 }; statements = x.2 }) (λ x k. record { expressions = h.expressions; queries = h.queries; changes = h.changes }) (anyway (definition.add_constraint (p.leaves.names, p.definitions.constraints, p.statements)))
definition_kept d.DropConstraint p h = lifted (λ (z : List Identifier × List Stmt). Unit {0}) (λ (z : Parts). PartsCover z) (definition.drop_constraint (p.leaves.names, p.statements)) (λ x. record p { leaves = record p.leaves { names = x.0 }; statements = x.1 }) (λ x k. record { expressions = h.expressions; queries = h.queries; changes = h.changes }) (anyway (definition.drop_constraint (p.leaves.names, p.statements)))
definition_kept d.DropTable p h = lifted (λ (z : List Identifier × List Stmt). Unit {0}) (λ (z : Parts). PartsCover z) (definition.drop_table (p.leaves.names, p.statements)) (λ x. record p { leaves = record p.leaves { names = x.0 }; statements = x.1 }) (λ x k. record { expressions = h.expressions; queries = h.queries; changes = h.changes }) (anyway (definition.drop_table (p.leaves.names, p.statements)))
definition_kept d.DropIndex p h = lifted (λ (z : List Identifier × List Stmt). Unit {0}) (λ (z : Parts). PartsCover z) (definition.drop_index (p.leaves.names, p.statements)) (λ x. record p { leaves = record p.leaves { names = x.0 }; statements = x.1 }) (λ x k. record { expressions = h.expressions; queries = h.queries; changes = h.changes }) (anyway (definition.drop_index (p.leaves.names, p.statements)))

session_kept : (m : SessionMark) (p : Parts) → PartsCover p → Then (λ (z : Parts). PartsCover z) (session_step m p)
session_kept s.Modes p h = lifted (λ (z : List Modes). Unit {0}) (λ (z : Parts). PartsCover z) (session.begin_modes p.modes) (λ x. record p { modes = x }) (λ x k. record { expressions = h.expressions; queries = h.queries; changes = h.changes }) (anyway (session.begin_modes p.modes))
session_kept (s.Level isolation) p h = lifted (λ (z : List Modes). Unit {0}) (λ (z : Parts). PartsCover z) (session.level isolation p.modes) (λ x. record p { modes = x }) (λ x k. record { expressions = h.expressions; queries = h.queries; changes = h.changes }) (anyway (session.level isolation p.modes))
session_kept (s.Access access) p h = lifted (λ (z : List Modes). Unit {0}) (λ (z : Parts). PartsCover z) (session.access access p.modes) (λ x. record p { modes = x }) (λ x k. record { expressions = h.expressions; queries = h.queries; changes = h.changes }) (anyway (session.access access p.modes))
session_kept s.SetTransaction p h = lifted (λ (z : List Modes × List Stmt). Unit {0}) (λ (z : Parts). PartsCover z) (session.set_transaction (p.modes, p.statements)) (λ x. record p { modes = x.0; statements = x.1 }) (λ x k. record { expressions = h.expressions; queries = h.queries; changes = h.changes }) (anyway (session.set_transaction (p.modes, p.statements)))
session_kept s.SetCharacteristics p h = lifted (λ (z : List Modes × List Stmt). Unit {0}) (λ (z : Parts). PartsCover z) (session.set_characteristics (p.modes, p.statements)) (λ x. record p { modes = x.0; statements = x.1 }) (λ x k. record { expressions = h.expressions; queries = h.queries; changes = h.changes }) (anyway (session.set_characteristics (p.modes, p.statements)))
session_kept s.Start p h = lifted (λ (z : List Modes × List Stmt). Unit {0}) (λ (z : Parts). PartsCover z) (session.start (p.modes, p.statements)) (λ x. record p { modes = x.0; statements = x.1 }) (λ x k. record { expressions = h.expressions; queries = h.queries; changes = h.changes }) (anyway (session.start (p.modes, p.statements)))
session_kept s.Commit p h = lifted (λ (z : List Stmt). Unit {0}) (λ (z : Parts). PartsCover z) (session.commit p.statements) (λ x. record p { statements = x }) (λ x k. record { expressions = h.expressions; queries = h.queries; changes = h.changes }) (anyway (session.commit p.statements))
session_kept s.Rollback p h = lifted (λ (z : List Stmt). Unit {0}) (λ (z : Parts). PartsCover z) (session.rollback p.statements) (λ x. record p { statements = x }) (λ x k. record { expressions = h.expressions; queries = h.queries; changes = h.changes }) (anyway (session.rollback p.statements))
session_kept s.Savepoint p h = lifted (λ (z : List Identifier × List Stmt). Unit {0}) (λ (z : Parts). PartsCover z) (session.savepoint (p.leaves.names, p.statements)) (λ x. record p { leaves = record p.leaves { names = x.0 }; statements = x.1 }) (λ x k. record { expressions = h.expressions; queries = h.queries; changes = h.changes }) (anyway (session.savepoint (p.leaves.names, p.statements)))
session_kept s.RollbackTo p h = lifted (λ (z : List Identifier × List Stmt). Unit {0}) (λ (z : Parts). PartsCover z) (session.rollback_to (p.leaves.names, p.statements)) (λ x. record p { leaves = record p.leaves { names = x.0 }; statements = x.1 }) (λ x k. record { expressions = h.expressions; queries = h.queries; changes = h.changes }) (anyway (session.rollback_to (p.leaves.names, p.statements)))
session_kept s.Release p h = lifted (λ (z : List Identifier × List Stmt). Unit {0}) (λ (z : Parts). PartsCover z) (session.release (p.leaves.names, p.statements)) (λ x. record p { leaves = record p.leaves { names = x.0 }; statements = x.1 }) (λ x k. record { expressions = h.expressions; queries = h.queries; changes = h.changes }) (anyway (session.release (p.leaves.names, p.statements)))
session_kept (s.Autocommit on) p h = lifted (λ (z : List Stmt). Unit {0}) (λ (z : Parts). PartsCover z) (session.autocommit on p.statements) (λ x. record p { statements = x }) (λ x k. record { expressions = h.expressions; queries = h.queries; changes = h.changes }) (anyway (session.autocommit on p.statements))
session_kept (s.Control control) p h = lifted (λ (z : List Stmt). Unit {0}) (λ (z : Parts). PartsCover z) (session.control control p.statements) (λ x. record p { statements = x }) (λ x k. record { expressions = h.expressions; queries = h.queries; changes = h.changes }) (anyway (session.control control p.statements))
session_kept (s.DefaultLevel isolation) p h = lifted (λ (z : List Stmt). Unit {0}) (λ (z : Parts). PartsCover z) (session.default_level isolation p.statements) (λ x. record p { statements = x }) (λ x k. record { expressions = h.expressions; queries = h.queries; changes = h.changes }) (anyway (session.default_level isolation p.statements))
session_kept s.WriteDelayFalse p h = lifted (λ (z : List Stmt). Unit {0}) (λ (z : Parts). PartsCover z) (session.write_delay_false p.statements) (λ x. record p { statements = x }) (λ x k. record { expressions = h.expressions; queries = h.queries; changes = h.changes }) (anyway (session.write_delay_false p.statements))
session_kept s.Checkpoint p h = lifted (λ (z : List Stmt). Unit {0}) (λ (z : Parts). PartsCover z) (session.checkpoint p.statements) (λ x. record p { statements = x }) (λ x k. record { expressions = h.expressions; queries = h.queries; changes = h.changes }) (anyway (session.checkpoint p.statements))
session_kept s.Shutdown p h = lifted (λ (z : List Stmt). Unit {0}) (λ (z : Parts). PartsCover z) (session.shutdown p.statements) (λ x. record p { statements = x }) (λ x k. record { expressions = h.expressions; queries = h.queries; changes = h.changes }) (anyway (session.shutdown p.statements))

-- ---- any mark

same_parts : (p : Parts) (l : Leaves) → PartsCover p → PartsCover (record p { leaves = l })
same_parts p l h = record { expressions = h.expressions; queries = h.queries; changes = h.changes }

pub step_kept : (text : List ℕ) (token : Token) (here : ℕ) (m : Mark) (p : Parts) → PartsCover p → Then (λ (z : Parts). PartsCover z) (step text token here m p)
step_kept text token here (mark.Leaf m) p h = lifted (λ (z : Leaves). Unit {0}) (λ (z : Parts). PartsCover z) (leaf_step text token here m p.leaves) (λ x. record p { leaves = x }) (λ x k. same_parts p x h) (anyway (leaf_step text token here m p.leaves))
step_kept text token here (mark.Expression m) p h =
    lifted After (λ (z : Parts). PartsCover z) (expression_step m (p.leaves, p.expressions, p.queries)) (λ x. record p { leaves = x.0; expressions = x.1; queries = x.2 })
    (λ x k. record { expressions = k.0; queries = k.1; changes = h.changes }) (expression_kept m p.leaves p.expressions p.queries h.expressions h.queries)
step_kept text token here (mark.Function m) p h =
    lifted AfterFunction (λ (z : Parts). PartsCover z) (function_step token m (p.leaves, p.expressions)) (λ x. record p { leaves = x.0; expressions = x.1 })
    (λ x k. record { expressions = k; queries = h.queries; changes = h.changes }) (function_kept token m p.leaves p.expressions h.expressions)
step_kept text token here (mark.Query m) p h =
    lifted After (λ (z : Parts). PartsCover z) (query_step token m (p.leaves, p.expressions, p.queries)) (λ x. record p { leaves = x.0; expressions = x.1; queries = x.2 })
    (λ x k. record { expressions = k.0; queries = k.1; changes = h.changes }) (query_kept token m p.leaves p.expressions p.queries h.expressions h.queries)
step_kept text token here (mark.Change m) p h = change_kept token m p h
step_kept text token here (mark.Definition m) p h = definition_kept m p h
step_kept text token here (mark.Session m) p h = session_kept m p h

-- ---- before the first mark

pub none_cover : PartsCover no_parts
none_cover = record {
  expressions = record { whole = tt; lists = tt; cases = tt; optional = tt };
  queries = record { selects = tt; tables = tt; froms = tt; rows = tt; bodies = tt; whole = tt };
  changes = record { tuples = tt; tuple_lists = tt };
}
