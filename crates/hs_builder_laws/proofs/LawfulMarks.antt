-- The step of each mark makes lawful parts of lawful ones.
use Rattle.std.proofs.Common.{ℕ, Bool, List, [], ◌∷◌, Option, refl}
use Rattle.hs_ast.specs.declared.change.Delete.{Delete}
use Rattle.hs_ast.specs.declared.change.LockedTable.{LockedTable}
use Rattle.hs_ast.specs.declared.change.Update.{Update}
use Rattle.hs_ast.specs.declared.definition.ColumnDefinition.{ColumnDefinition}
use Rattle.hs_ast.specs.declared.definition.ColumnRule.TheVariants as column
use Rattle.hs_ast.specs.declared.definition.CreateTable.{CreateTable}
use Rattle.hs_ast.specs.declared.definition.DataType.{DataType}
use Rattle.hs_ast.specs.declared.definition.ForeignKey.{ForeignKey}
use Rattle.hs_ast.specs.declared.definition.ReferentialAction.{ReferentialAction}
use Rattle.hs_ast.specs.declared.definition.TableConstraint.{TableConstraint}
use Rattle.hs_ast.specs.declared.expression.DateField.{DateField}
use Rattle.hs_ast.specs.declared.expression.TrimForm.{TrimForm}
use Rattle.hs_ast.specs.declared.session.Modes.{Modes}
use Rattle.hs_ast.specs.declared.statement.Stmt.{Stmt}
use Rattle.hs_ast.specs.declared.word.Identifier.{Identifier}
use Rattle.hs_lexer.specs.declared.token.Token.{Token}
use Rattle.hs_builder.specs.MarkSteps.{leaf_step, expression_step, function_step, query_step, change_step, definition_step, session_step, step, no_parts, topmost}
use Rattle.hs_builder.specs.Changes as change
use Rattle.hs_builder.specs.Definitions as definition
use Rattle.hs_builder.specs.Expressions as expression
use Rattle.hs_builder.specs.Functions as function
use Rattle.hs_builder.specs.Leaves as leaves
use Rattle.hs_builder.specs.Queries as query
use Rattle.hs_builder.specs.Sessions as session
use Rattle.hs_builder.specs.Steps.{Step, stands, deep, wrong}
use Rattle.hs_builder.specs.declared.mark.ChangeMark.TheVariants as c
use Rattle.hs_builder.specs.declared.mark.ChangeMark.{ChangeMark}
use Rattle.hs_builder.specs.declared.mark.DefinitionMark.TheVariants as d
use Rattle.hs_builder.specs.declared.mark.DefinitionMark.{DefinitionMark}
use Rattle.hs_builder.specs.declared.mark.ExpressionMark.TheVariants as e
use Rattle.hs_builder.specs.declared.mark.ExpressionMark.{ExpressionMark}
use Rattle.hs_builder.specs.declared.mark.FunctionMark.TheVariants as f
use Rattle.hs_builder.specs.declared.mark.FunctionMark.{FunctionMark}
use Rattle.hs_builder.specs.declared.mark.Mark.TheVariants as mark
use Rattle.hs_builder.specs.declared.mark.Mark.{Mark}
use Rattle.hs_builder.specs.declared.mark.QueryMark.TheVariants as q
use Rattle.hs_builder.specs.declared.mark.QueryMark.{QueryMark}
use Rattle.hs_builder.specs.declared.mark.SessionMark.TheVariants as s
use Rattle.hs_builder.specs.declared.mark.SessionMark.{SessionMark}
use Rattle.hs_builder.specs.declared.part.Built.{Built}
use Rattle.hs_builder.specs.declared.part.BuiltBody.{BuiltBody}
use Rattle.hs_builder.specs.declared.part.BuiltCase.{BuiltCase}
use Rattle.hs_builder.specs.declared.part.BuiltFrom.{BuiltFrom}
use Rattle.hs_builder.specs.declared.part.BuiltList.{BuiltList}
use Rattle.hs_builder.specs.declared.part.BuiltOptional.{BuiltOptional}
use Rattle.hs_builder.specs.declared.part.BuiltQuery.{BuiltQuery}
use Rattle.hs_builder.specs.declared.part.BuiltRows.{BuiltRows}
use Rattle.hs_builder.specs.declared.part.BuiltSelect.{BuiltSelect}
use Rattle.hs_builder.specs.declared.part.BuiltTable.{BuiltTable}
use Rattle.hs_builder.specs.declared.part.BuiltTuple.{BuiltTuple}
use Rattle.hs_builder.specs.declared.part.BuiltTuples.{BuiltTuples}
use Rattle.hs_builder.specs.declared.part.ConstraintHeader.{ConstraintHeader}
use Rattle.hs_builder.specs.declared.part.Expressions.{Expressions}
use Rattle.hs_builder.specs.declared.part.InsertTarget.{InsertTarget}
use Rattle.hs_builder.specs.declared.part.Leaves.{Leaves}
use Rattle.hs_builder.specs.declared.part.Parts.{Parts}
use Rattle.hs_builder.specs.declared.part.PlacedLiteral.{PlacedLiteral}
use Rattle.hs_builder.specs.declared.part.PlacedNumber.{PlacedNumber}
use Rattle.hs_builder.specs.declared.part.PlacedText.{PlacedText}
use Rattle.hs_builder.specs.declared.part.Queries.{Queries}
use Rattle.hs_builder.specs.declared.mark.LeafMark.{LeafMark}
use Rattle.hs_builder.specs.declared.mark.LeafMark.TheVariants as leaf
use Rattle.hs_ast.specs.declared.literal.Literal.TheVariants as literal
use Rattle.hs_builder_laws.specs.LawfulParts.{LawfulName, LawfulNames, LawfulAlias, LawfulNumber, LawfulLiteral, LawfulType, LawfulCount, LawfulBuilt, LawfulList, LawfulCase, LawfulOptional, LawfulSelect, LawfulTable, LawfulFrom, LawfulRows, LawfulBody, LawfulQuery, LawfulTarget, LawfulTuple, LawfulTuples, LawfulUpdate, LawfulDelete, LawfulLocks, LawfulCreate, LawfulColumn, LawfulHeader, LawfulKey, LawfulConstraint, LawfulStatement, Every, LeavesAreLawful, ExpressionsAreLawful, QueriesAreLawful, AreLawful, LeafFits, ExpressionFits, QueryFits, IsFit, IsLawfulBehind}
use Rattle.hs_builder_laws.proofs.Covering.{Then, lifted}
use Rattle.hs_builder_laws.proofs.LawfulSteps.{name_in_leaves, first_name_in_leaves, next_name_in_leaves, alias_in_leaves, number_in_leaves, read_text_in_leaves, number_literal_in_leaves, text_literal_in_leaves, word_literal_in_leaves, date_in_leaves, timestamp_in_leaves, signed_literal_in_leaves, decimal_in_leaves, decimal_scale_in_leaves, varchar_in_leaves, literal_in_expression, column_in_expression, qualified_in_expression, bracket_in_expression, signed_in_expression, negation_in_expression, binary_in_expression, is_null_in_expression, between_in_expression, like_in_expression, like_escape_in_expression, in_list_in_expression, in_query_in_expression, exists_in_expression, subquery_in_expression, body_subquery_in_expression, digits_in_leaves, interval_in_expression, first_in_expression, next_in_expression, written_in_expression, unwritten_in_expression, cast_in_function, begin_case_in_function, arm_in_function, end_case_in_function, call_in_function, substring_in_function, substring_for_in_function, trim_in_function, trim_character_in_function, extract_in_function, count_rows_in_function, aggregate_in_function, begin_select_in_query, every_in_query, item_in_query, named_table_in_query, derived_table_in_query, begin_from_in_query, join_on_in_query, cross_join_in_query, add_from_in_query, group_in_query, select_body_in_query, begin_values_in_query, row_in_query, values_body_in_query, bracket_body_in_query, set_operation_in_query, begin_query_in_query, key_in_query, limit_in_query, offset_in_query, query_statement_in_change, begin_insert_in_change, insert_columns_in_change, begin_tuples_in_change, begin_tuple_in_change, tuple_value_in_change, tuple_default_in_change, add_tuple_in_change, tuples_body_in_change, insert_tuples_in_change, insert_query_in_change, begin_update_in_change, assign_in_change, assign_default_in_change, update_statement_in_change, begin_delete_in_change, delete_statement_in_change, begin_lock_in_change, locked_in_change, lock_statement_in_change, begin_table_in_definition, column_element_in_definition, constraint_element_in_definition, create_statement_in_definition, create_index_in_definition, define_in_definition, default_in_definition, named_in_definition, unnamed_in_definition, column_check_in_definition, column_references_in_definition, references_in_definition, parent_columns_in_definition, on_delete_in_definition, on_update_in_definition, table_primary_in_definition, table_unique_in_definition, table_check_in_definition, table_foreign_in_definition, add_column_in_definition, add_constraint_in_definition, drop_constraint_in_definition, drop_table_in_definition, drop_index_in_definition, begin_modes_in_session, level_in_session, access_in_session, set_transaction_in_session, set_characteristics_in_session, start_in_session, commit_in_session, rollback_in_session, savepoint_in_session, rollback_to_in_session, release_in_session, autocommit_in_session, control_in_session, default_level_in_session, write_delay_false_in_session, checkpoint_in_session, shutdown_in_session, add_rule_in_definition}

abbrev LeafAfter : Leaves → Type 0
LeafAfter l = LeavesAreLawful l

abbrev ExpressionAfter : Leaves × Expressions × Queries → Type 0
ExpressionAfter x = LeavesAreLawful x.0 × ExpressionsAreLawful x.1 × QueriesAreLawful x.2

abbrev FunctionAfter : Leaves × Expressions → Type 0
FunctionAfter x = LeavesAreLawful x.0 × ExpressionsAreLawful x.1

abbrev QueryAfter : Leaves × Expressions × Queries → Type 0
QueryAfter x = LeavesAreLawful x.0 × ExpressionsAreLawful x.1 × QueriesAreLawful x.2

leaf_kept : (text : List ℕ) (token : Token) (here : ℕ) (m : LeafMark) (l : Leaves) → LeafFits text token m l → LeavesAreLawful l → Then LeafAfter (leaf_step text token here m l)
leaf_kept text token here leaf.Place l fits h_leaves = record { names = h_leaves.names; name_lists = h_leaves.name_lists; aliases = h_leaves.aliases; numbers = h_leaves.numbers; literals = h_leaves.literals; types = h_leaves.types }
leaf_kept text token here leaf.Here l fits h_leaves = record { names = h_leaves.names; name_lists = h_leaves.name_lists; aliases = h_leaves.aliases; numbers = h_leaves.numbers; literals = h_leaves.literals; types = h_leaves.types }
leaf_kept text token here leaf.Name l fits h_leaves = lifted (λ (z : List Identifier). Every LawfulName z) LeafAfter (leaves.name text token l.names) (λ x. record l { names = x }) (λ x k. record { names = k; name_lists = h_leaves.name_lists; aliases = h_leaves.aliases; numbers = h_leaves.numbers; literals = h_leaves.literals; types = h_leaves.types }) (name_in_leaves text token l.names fits h_leaves.names)
leaf_kept text token here leaf.FirstName l fits h_leaves = lifted (λ (z : List Identifier × List (List Identifier)). Every LawfulName z.0 × Every LawfulNames z.1) LeafAfter (leaves.first_name (l.names, l.name_lists)) (λ x. record l { names = x.0; name_lists = x.1 }) (λ x k. record { names = k.0; name_lists = k.1; aliases = h_leaves.aliases; numbers = h_leaves.numbers; literals = h_leaves.literals; types = h_leaves.types }) (first_name_in_leaves (l.names, l.name_lists) (h_leaves.names, h_leaves.name_lists))
leaf_kept text token here leaf.NextName l fits h_leaves = lifted (λ (z : List Identifier × List (List Identifier)). Every LawfulName z.0 × Every LawfulNames z.1) LeafAfter (leaves.next_name (l.names, l.name_lists)) (λ x. record l { names = x.0; name_lists = x.1 }) (λ x k. record { names = k.0; name_lists = k.1; aliases = h_leaves.aliases; numbers = h_leaves.numbers; literals = h_leaves.literals; types = h_leaves.types }) (next_name_in_leaves (l.names, l.name_lists) (h_leaves.names, h_leaves.name_lists))
leaf_kept text token here leaf.Alias l fits h_leaves = lifted (λ (z : List Identifier × List (Option Identifier)). Every LawfulName z.0 × Every LawfulAlias z.1) LeafAfter (leaves.alias (l.names, l.aliases)) (λ x. record l { names = x.0; aliases = x.1 }) (λ x k. record { names = k.0; name_lists = h_leaves.name_lists; aliases = k.1; numbers = h_leaves.numbers; literals = h_leaves.literals; types = h_leaves.types }) (alias_in_leaves (l.names, l.aliases) (h_leaves.names, h_leaves.aliases))
leaf_kept text token here leaf.NoAlias l fits h_leaves = record { names = h_leaves.names; name_lists = h_leaves.name_lists; aliases = (refl, h_leaves.aliases); numbers = h_leaves.numbers; literals = h_leaves.literals; types = h_leaves.types }
leaf_kept text token here (leaf.Flag set) l fits h_leaves = record { names = h_leaves.names; name_lists = h_leaves.name_lists; aliases = h_leaves.aliases; numbers = h_leaves.numbers; literals = h_leaves.literals; types = h_leaves.types }
leaf_kept text token here leaf.Number l fits h_leaves = lifted (λ (z : List PlacedNumber). Every LawfulNumber z) LeafAfter (leaves.number text token l.numbers) (λ x. record l { numbers = x }) (λ x k. record { names = h_leaves.names; name_lists = h_leaves.name_lists; aliases = h_leaves.aliases; numbers = k; literals = h_leaves.literals; types = h_leaves.types }) (number_in_leaves text token l.numbers fits h_leaves.numbers)
leaf_kept text token here leaf.Text l fits h_leaves = lifted (λ (z : List PlacedText). Unit {0}) LeafAfter (leaves.read_text text token l.texts) (λ x. record l { texts = x }) (λ x k. record { names = h_leaves.names; name_lists = h_leaves.name_lists; aliases = h_leaves.aliases; numbers = h_leaves.numbers; literals = h_leaves.literals; types = h_leaves.types }) (read_text_in_leaves text token l.texts tt)
leaf_kept text token here leaf.NumberLiteral l fits h_leaves = lifted (λ (z : List PlacedNumber × List PlacedLiteral). Every LawfulNumber z.0 × Every LawfulLiteral z.1) LeafAfter (leaves.number_literal (l.numbers, l.literals)) (λ x. record l { numbers = x.0; literals = x.1 }) (λ x k. record { names = h_leaves.names; name_lists = h_leaves.name_lists; aliases = h_leaves.aliases; numbers = k.0; literals = k.1; types = h_leaves.types }) (number_literal_in_leaves (l.numbers, l.literals) (h_leaves.numbers, h_leaves.literals))
leaf_kept text token here leaf.TextLiteral l fits h_leaves = lifted (λ (z : List PlacedText × List PlacedLiteral). Every LawfulLiteral z.1) LeafAfter (leaves.text_literal (l.texts, l.literals)) (λ x. record l { texts = x.0; literals = x.1 }) (λ x k. record { names = h_leaves.names; name_lists = h_leaves.name_lists; aliases = h_leaves.aliases; numbers = h_leaves.numbers; literals = k; types = h_leaves.types }) (text_literal_in_leaves (l.texts, l.literals) h_leaves.literals)
leaf_kept text token here (leaf.Boolean truth) l fits h_leaves = lifted (λ (z : List PlacedLiteral). Every LawfulLiteral z) LeafAfter (leaves.word_literal (literal.Boolean truth) token l.literals) (λ x. record l { literals = x }) (λ x k. record { names = h_leaves.names; name_lists = h_leaves.name_lists; aliases = h_leaves.aliases; numbers = h_leaves.numbers; literals = k; types = h_leaves.types }) (word_literal_in_leaves (literal.Boolean truth) token l.literals refl h_leaves.literals)
leaf_kept text token here leaf.Null l fits h_leaves = lifted (λ (z : List PlacedLiteral). Every LawfulLiteral z) LeafAfter (leaves.word_literal literal.Null token l.literals) (λ x. record l { literals = x }) (λ x k. record { names = h_leaves.names; name_lists = h_leaves.name_lists; aliases = h_leaves.aliases; numbers = h_leaves.numbers; literals = k; types = h_leaves.types }) (word_literal_in_leaves literal.Null token l.literals refl h_leaves.literals)
leaf_kept text token here leaf.Date l fits h_leaves = lifted (λ (z : List ℕ × List PlacedText × List PlacedLiteral). Every LawfulLiteral z.2) LeafAfter (leaves.date (l.places, l.texts, l.literals)) (λ x. record l { places = x.0; texts = x.1; literals = x.2 }) (λ x k. record { names = h_leaves.names; name_lists = h_leaves.name_lists; aliases = h_leaves.aliases; numbers = h_leaves.numbers; literals = k; types = h_leaves.types }) (date_in_leaves (l.places, l.texts, l.literals) h_leaves.literals)
leaf_kept text token here leaf.Timestamp l fits h_leaves = lifted (λ (z : List ℕ × List PlacedText × List PlacedLiteral). Every LawfulLiteral z.2) LeafAfter (leaves.timestamp (l.places, l.texts, l.literals)) (λ x. record l { places = x.0; texts = x.1; literals = x.2 }) (λ x k. record { names = h_leaves.names; name_lists = h_leaves.name_lists; aliases = h_leaves.aliases; numbers = h_leaves.numbers; literals = k; types = h_leaves.types }) (timestamp_in_leaves (l.places, l.texts, l.literals) h_leaves.literals)
leaf_kept text token here (leaf.SignedLiteral sign) l fits h_leaves = lifted (λ (z : List ℕ × List PlacedNumber × List PlacedLiteral). Every LawfulNumber z.1 × Every LawfulLiteral z.2) LeafAfter (leaves.signed_literal sign (l.places, l.numbers, l.literals)) (λ x. record l { places = x.0; numbers = x.1; literals = x.2 }) (λ x k. record { names = h_leaves.names; name_lists = h_leaves.name_lists; aliases = h_leaves.aliases; numbers = k.0; literals = k.1; types = h_leaves.types }) (signed_literal_in_leaves sign (l.places, l.numbers, l.literals) (h_leaves.numbers, h_leaves.literals))
leaf_kept text token here (leaf.Type t) l fits h_leaves = record { names = h_leaves.names; name_lists = h_leaves.name_lists; aliases = h_leaves.aliases; numbers = h_leaves.numbers; literals = h_leaves.literals; types = (fits, h_leaves.types) }
leaf_kept text token here leaf.PlainDecimal l fits h_leaves = record { names = h_leaves.names; name_lists = h_leaves.name_lists; aliases = h_leaves.aliases; numbers = h_leaves.numbers; literals = h_leaves.literals; types = (refl, h_leaves.types) }
leaf_kept text token here leaf.Decimal l fits h_leaves = lifted (λ (z : List PlacedNumber × List DataType). Every LawfulNumber z.0 × Every LawfulType z.1) LeafAfter (leaves.decimal (l.numbers, l.types)) (λ x. record l { numbers = x.0; types = x.1 }) (λ x k. record { names = h_leaves.names; name_lists = h_leaves.name_lists; aliases = h_leaves.aliases; numbers = k.0; literals = h_leaves.literals; types = k.1 }) (decimal_in_leaves (l.numbers, l.types) fits (h_leaves.numbers, h_leaves.types))
leaf_kept text token here leaf.DecimalScale l fits h_leaves = lifted (λ (z : List PlacedNumber × List DataType). Every LawfulNumber z.0 × Every LawfulType z.1) LeafAfter (leaves.decimal_scale (l.numbers, l.types)) (λ x. record l { numbers = x.0; types = x.1 }) (λ x k. record { names = h_leaves.names; name_lists = h_leaves.name_lists; aliases = h_leaves.aliases; numbers = k.0; literals = h_leaves.literals; types = k.1 }) (decimal_scale_in_leaves (l.numbers, l.types) fits (h_leaves.numbers, h_leaves.types))
leaf_kept text token here leaf.Varchar l fits h_leaves = lifted (λ (z : List PlacedNumber × List DataType). Every LawfulNumber z.0 × Every LawfulType z.1) LeafAfter (leaves.varchar (l.numbers, l.types)) (λ x. record l { numbers = x.0; types = x.1 }) (λ x k. record { names = h_leaves.names; name_lists = h_leaves.name_lists; aliases = h_leaves.aliases; numbers = k.0; literals = h_leaves.literals; types = k.1 }) (varchar_in_leaves (l.numbers, l.types) fits (h_leaves.numbers, h_leaves.types))

expression_kept : (m : ExpressionMark) (l : Leaves) (es : Expressions) (qs : Queries) → ExpressionFits m l → LeavesAreLawful l → ExpressionsAreLawful es → QueriesAreLawful qs → Then ExpressionAfter (expression_step m (l, es, qs))
expression_kept e.Literal l es qs fits h_leaves h_expressions h_queries = lifted (λ (z : List PlacedLiteral × List Built). Every LawfulLiteral z.0 × Every LawfulBuilt z.1) ExpressionAfter (expression.literal (l.literals, es.whole)) (λ x. (record l { literals = x.0 }, record es { whole = x.1 }, qs)) (λ x k. (record { names = h_leaves.names; name_lists = h_leaves.name_lists; aliases = h_leaves.aliases; numbers = h_leaves.numbers; literals = k.0; types = h_leaves.types }, record { whole = k.1; lists = h_expressions.lists; cases = h_expressions.cases; counts = h_expressions.counts; optional = h_expressions.optional }, record { selects = h_queries.selects; tables = h_queries.tables; froms = h_queries.froms; rows = h_queries.rows; bodies = h_queries.bodies; whole = h_queries.whole })) (literal_in_expression (l.literals, es.whole) fits (h_leaves.literals, h_expressions.whole))
expression_kept e.Column l es qs fits h_leaves h_expressions h_queries = lifted (λ (z : List Identifier × List Built). Every LawfulName z.0 × Every LawfulBuilt z.1) ExpressionAfter (expression.column (l.names, es.whole)) (λ x. (record l { names = x.0 }, record es { whole = x.1 }, qs)) (λ x k. (record { names = k.0; name_lists = h_leaves.name_lists; aliases = h_leaves.aliases; numbers = h_leaves.numbers; literals = h_leaves.literals; types = h_leaves.types }, record { whole = k.1; lists = h_expressions.lists; cases = h_expressions.cases; counts = h_expressions.counts; optional = h_expressions.optional }, record { selects = h_queries.selects; tables = h_queries.tables; froms = h_queries.froms; rows = h_queries.rows; bodies = h_queries.bodies; whole = h_queries.whole })) (column_in_expression (l.names, es.whole) (h_leaves.names, h_expressions.whole))
expression_kept e.Qualified l es qs fits h_leaves h_expressions h_queries = lifted (λ (z : List Identifier × List Built). Every LawfulName z.0 × Every LawfulBuilt z.1) ExpressionAfter (expression.qualified (l.names, es.whole)) (λ x. (record l { names = x.0 }, record es { whole = x.1 }, qs)) (λ x k. (record { names = k.0; name_lists = h_leaves.name_lists; aliases = h_leaves.aliases; numbers = h_leaves.numbers; literals = h_leaves.literals; types = h_leaves.types }, record { whole = k.1; lists = h_expressions.lists; cases = h_expressions.cases; counts = h_expressions.counts; optional = h_expressions.optional }, record { selects = h_queries.selects; tables = h_queries.tables; froms = h_queries.froms; rows = h_queries.rows; bodies = h_queries.bodies; whole = h_queries.whole })) (qualified_in_expression (l.names, es.whole) (h_leaves.names, h_expressions.whole))
expression_kept e.Bracket l es qs fits h_leaves h_expressions h_queries = lifted (λ (z : List ℕ × List Built). Every LawfulBuilt z.1) ExpressionAfter (expression.bracket (l.places, es.whole)) (λ x. (record l { places = x.0 }, record es { whole = x.1 }, qs)) (λ x k. (record { names = h_leaves.names; name_lists = h_leaves.name_lists; aliases = h_leaves.aliases; numbers = h_leaves.numbers; literals = h_leaves.literals; types = h_leaves.types }, record { whole = k; lists = h_expressions.lists; cases = h_expressions.cases; counts = h_expressions.counts; optional = h_expressions.optional }, record { selects = h_queries.selects; tables = h_queries.tables; froms = h_queries.froms; rows = h_queries.rows; bodies = h_queries.bodies; whole = h_queries.whole })) (bracket_in_expression (l.places, es.whole) h_expressions.whole)
expression_kept (e.Signed sign) l es qs fits h_leaves h_expressions h_queries = lifted (λ (z : List ℕ × List Built). Every LawfulBuilt z.1) ExpressionAfter (expression.signed sign (l.places, es.whole)) (λ x. (record l { places = x.0 }, record es { whole = x.1 }, qs)) (λ x k. (record { names = h_leaves.names; name_lists = h_leaves.name_lists; aliases = h_leaves.aliases; numbers = h_leaves.numbers; literals = h_leaves.literals; types = h_leaves.types }, record { whole = k; lists = h_expressions.lists; cases = h_expressions.cases; counts = h_expressions.counts; optional = h_expressions.optional }, record { selects = h_queries.selects; tables = h_queries.tables; froms = h_queries.froms; rows = h_queries.rows; bodies = h_queries.bodies; whole = h_queries.whole })) (signed_in_expression sign (l.places, es.whole) h_expressions.whole)
expression_kept e.Not l es qs fits h_leaves h_expressions h_queries = lifted (λ (z : List ℕ × List Built). Every LawfulBuilt z.1) ExpressionAfter (expression.negation (l.places, es.whole)) (λ x. (record l { places = x.0 }, record es { whole = x.1 }, qs)) (λ x k. (record { names = h_leaves.names; name_lists = h_leaves.name_lists; aliases = h_leaves.aliases; numbers = h_leaves.numbers; literals = h_leaves.literals; types = h_leaves.types }, record { whole = k; lists = h_expressions.lists; cases = h_expressions.cases; counts = h_expressions.counts; optional = h_expressions.optional }, record { selects = h_queries.selects; tables = h_queries.tables; froms = h_queries.froms; rows = h_queries.rows; bodies = h_queries.bodies; whole = h_queries.whole })) (negation_in_expression (l.places, es.whole) h_expressions.whole)
expression_kept (e.Binary operator) l es qs fits h_leaves h_expressions h_queries = lifted (λ (z : List Built). Every LawfulBuilt z) ExpressionAfter (expression.binary operator es.whole) (λ x. (l, record es { whole = x }, qs)) (λ x k. (record { names = h_leaves.names; name_lists = h_leaves.name_lists; aliases = h_leaves.aliases; numbers = h_leaves.numbers; literals = h_leaves.literals; types = h_leaves.types }, record { whole = k; lists = h_expressions.lists; cases = h_expressions.cases; counts = h_expressions.counts; optional = h_expressions.optional }, record { selects = h_queries.selects; tables = h_queries.tables; froms = h_queries.froms; rows = h_queries.rows; bodies = h_queries.bodies; whole = h_queries.whole })) (binary_in_expression operator es.whole h_expressions.whole)
expression_kept (e.IsNull negated) l es qs fits h_leaves h_expressions h_queries = lifted (λ (z : List Built). Every LawfulBuilt z) ExpressionAfter (expression.is_null negated es.whole) (λ x. (l, record es { whole = x }, qs)) (λ x k. (record { names = h_leaves.names; name_lists = h_leaves.name_lists; aliases = h_leaves.aliases; numbers = h_leaves.numbers; literals = h_leaves.literals; types = h_leaves.types }, record { whole = k; lists = h_expressions.lists; cases = h_expressions.cases; counts = h_expressions.counts; optional = h_expressions.optional }, record { selects = h_queries.selects; tables = h_queries.tables; froms = h_queries.froms; rows = h_queries.rows; bodies = h_queries.bodies; whole = h_queries.whole })) (is_null_in_expression negated es.whole h_expressions.whole)
expression_kept e.Between l es qs fits h_leaves h_expressions h_queries = lifted (λ (z : List Bool × List Built). Every LawfulBuilt z.1) ExpressionAfter (expression.between (l.flags, es.whole)) (λ x. (record l { flags = x.0 }, record es { whole = x.1 }, qs)) (λ x k. (record { names = h_leaves.names; name_lists = h_leaves.name_lists; aliases = h_leaves.aliases; numbers = h_leaves.numbers; literals = h_leaves.literals; types = h_leaves.types }, record { whole = k; lists = h_expressions.lists; cases = h_expressions.cases; counts = h_expressions.counts; optional = h_expressions.optional }, record { selects = h_queries.selects; tables = h_queries.tables; froms = h_queries.froms; rows = h_queries.rows; bodies = h_queries.bodies; whole = h_queries.whole })) (between_in_expression (l.flags, es.whole) h_expressions.whole)
expression_kept e.Like l es qs fits h_leaves h_expressions h_queries = lifted (λ (z : List Bool × List Built). Every LawfulBuilt z.1) ExpressionAfter (expression.like (l.flags, es.whole)) (λ x. (record l { flags = x.0 }, record es { whole = x.1 }, qs)) (λ x k. (record { names = h_leaves.names; name_lists = h_leaves.name_lists; aliases = h_leaves.aliases; numbers = h_leaves.numbers; literals = h_leaves.literals; types = h_leaves.types }, record { whole = k; lists = h_expressions.lists; cases = h_expressions.cases; counts = h_expressions.counts; optional = h_expressions.optional }, record { selects = h_queries.selects; tables = h_queries.tables; froms = h_queries.froms; rows = h_queries.rows; bodies = h_queries.bodies; whole = h_queries.whole })) (like_in_expression (l.flags, es.whole) h_expressions.whole)
expression_kept e.LikeEscape l es qs fits h_leaves h_expressions h_queries = lifted (λ (z : List Bool × List PlacedText × List Built). Every LawfulBuilt z.2) ExpressionAfter (expression.like_escape (l.flags, l.texts, es.whole)) (λ x. (record l { flags = x.0; texts = x.1 }, record es { whole = x.2 }, qs)) (λ x k. (record { names = h_leaves.names; name_lists = h_leaves.name_lists; aliases = h_leaves.aliases; numbers = h_leaves.numbers; literals = h_leaves.literals; types = h_leaves.types }, record { whole = k; lists = h_expressions.lists; cases = h_expressions.cases; counts = h_expressions.counts; optional = h_expressions.optional }, record { selects = h_queries.selects; tables = h_queries.tables; froms = h_queries.froms; rows = h_queries.rows; bodies = h_queries.bodies; whole = h_queries.whole })) (like_escape_in_expression (l.flags, l.texts, es.whole) h_expressions.whole)
expression_kept e.InList l es qs fits h_leaves h_expressions h_queries = lifted (λ (z : List Bool × List Built × List BuiltList). Every LawfulBuilt z.1 × Every LawfulList z.2) ExpressionAfter (expression.in_list (l.flags, es.whole, es.lists)) (λ x. (record l { flags = x.0 }, record es { whole = x.1; lists = x.2 }, qs)) (λ x k. (record { names = h_leaves.names; name_lists = h_leaves.name_lists; aliases = h_leaves.aliases; numbers = h_leaves.numbers; literals = h_leaves.literals; types = h_leaves.types }, record { whole = k.0; lists = k.1; cases = h_expressions.cases; counts = h_expressions.counts; optional = h_expressions.optional }, record { selects = h_queries.selects; tables = h_queries.tables; froms = h_queries.froms; rows = h_queries.rows; bodies = h_queries.bodies; whole = h_queries.whole })) (in_list_in_expression (l.flags, es.whole, es.lists) (h_expressions.whole, h_expressions.lists))
expression_kept e.InQuery l es qs fits h_leaves h_expressions h_queries = lifted (λ (z : List Bool × List Built × List BuiltQuery). Every LawfulBuilt z.1 × Every LawfulQuery z.2) ExpressionAfter (expression.in_query (l.flags, es.whole, qs.whole)) (λ x. (record l { flags = x.0 }, record es { whole = x.1 }, record qs { whole = x.2 })) (λ x k. (record { names = h_leaves.names; name_lists = h_leaves.name_lists; aliases = h_leaves.aliases; numbers = h_leaves.numbers; literals = h_leaves.literals; types = h_leaves.types }, record { whole = k.0; lists = h_expressions.lists; cases = h_expressions.cases; counts = h_expressions.counts; optional = h_expressions.optional }, record { selects = h_queries.selects; tables = h_queries.tables; froms = h_queries.froms; rows = h_queries.rows; bodies = h_queries.bodies; whole = k.1 })) (in_query_in_expression (l.flags, es.whole, qs.whole) (h_expressions.whole, h_queries.whole))
expression_kept e.Exists l es qs fits h_leaves h_expressions h_queries = lifted (λ (z : List ℕ × List Built × List BuiltQuery). Every LawfulBuilt z.1 × Every LawfulQuery z.2) ExpressionAfter (expression.exists (l.places, es.whole, qs.whole)) (λ x. (record l { places = x.0 }, record es { whole = x.1 }, record qs { whole = x.2 })) (λ x k. (record { names = h_leaves.names; name_lists = h_leaves.name_lists; aliases = h_leaves.aliases; numbers = h_leaves.numbers; literals = h_leaves.literals; types = h_leaves.types }, record { whole = k.0; lists = h_expressions.lists; cases = h_expressions.cases; counts = h_expressions.counts; optional = h_expressions.optional }, record { selects = h_queries.selects; tables = h_queries.tables; froms = h_queries.froms; rows = h_queries.rows; bodies = h_queries.bodies; whole = k.1 })) (exists_in_expression (l.places, es.whole, qs.whole) (h_expressions.whole, h_queries.whole))
expression_kept e.Subquery l es qs fits h_leaves h_expressions h_queries = lifted (λ (z : List ℕ × List Built × List BuiltQuery). Every LawfulBuilt z.1 × Every LawfulQuery z.2) ExpressionAfter (expression.subquery (l.places, es.whole, qs.whole)) (λ x. (record l { places = x.0 }, record es { whole = x.1 }, record qs { whole = x.2 })) (λ x k. (record { names = h_leaves.names; name_lists = h_leaves.name_lists; aliases = h_leaves.aliases; numbers = h_leaves.numbers; literals = h_leaves.literals; types = h_leaves.types }, record { whole = k.0; lists = h_expressions.lists; cases = h_expressions.cases; counts = h_expressions.counts; optional = h_expressions.optional }, record { selects = h_queries.selects; tables = h_queries.tables; froms = h_queries.froms; rows = h_queries.rows; bodies = h_queries.bodies; whole = k.1 })) (subquery_in_expression (l.places, es.whole, qs.whole) (h_expressions.whole, h_queries.whole))
expression_kept e.BodySubquery l es qs fits h_leaves h_expressions h_queries = lifted (λ (z : List ℕ × List Built × List BuiltBody). Every LawfulBuilt z.1 × Every LawfulBody z.2) ExpressionAfter (expression.body_subquery (l.places, es.whole, qs.bodies)) (λ x. (record l { places = x.0 }, record es { whole = x.1 }, record qs { bodies = x.2 })) (λ x k. (record { names = h_leaves.names; name_lists = h_leaves.name_lists; aliases = h_leaves.aliases; numbers = h_leaves.numbers; literals = h_leaves.literals; types = h_leaves.types }, record { whole = k.0; lists = h_expressions.lists; cases = h_expressions.cases; counts = h_expressions.counts; optional = h_expressions.optional }, record { selects = h_queries.selects; tables = h_queries.tables; froms = h_queries.froms; rows = h_queries.rows; bodies = k.1; whole = h_queries.whole })) (body_subquery_in_expression (l.places, es.whole, qs.bodies) (h_expressions.whole, h_queries.bodies))
expression_kept e.Digits l es qs fits h_leaves h_expressions h_queries = lifted (λ (z : List PlacedText × List ℕ). Every LawfulCount z.1) ExpressionAfter (leaves.digits (l.texts, es.counts)) (λ x. (record l { texts = x.0 }, record es { counts = x.1 }, qs)) (λ x k. (record { names = h_leaves.names; name_lists = h_leaves.name_lists; aliases = h_leaves.aliases; numbers = h_leaves.numbers; literals = h_leaves.literals; types = h_leaves.types }, record { whole = h_expressions.whole; lists = h_expressions.lists; cases = h_expressions.cases; counts = k; optional = h_expressions.optional }, record { selects = h_queries.selects; tables = h_queries.tables; froms = h_queries.froms; rows = h_queries.rows; bodies = h_queries.bodies; whole = h_queries.whole })) (digits_in_leaves (l.texts, es.counts) fits h_expressions.counts)
expression_kept (e.Interval sign unit) l es qs fits h_leaves h_expressions h_queries = lifted (λ (z : List Built × List ℕ). Every LawfulBuilt z.0 × Every LawfulCount z.1) ExpressionAfter (expression.interval sign unit (es.whole, es.counts)) (λ x. (l, record es { whole = x.0; counts = x.1 }, qs)) (λ x k. (record { names = h_leaves.names; name_lists = h_leaves.name_lists; aliases = h_leaves.aliases; numbers = h_leaves.numbers; literals = h_leaves.literals; types = h_leaves.types }, record { whole = k.0; lists = h_expressions.lists; cases = h_expressions.cases; counts = k.1; optional = h_expressions.optional }, record { selects = h_queries.selects; tables = h_queries.tables; froms = h_queries.froms; rows = h_queries.rows; bodies = h_queries.bodies; whole = h_queries.whole })) (interval_in_expression sign unit (es.whole, es.counts) (h_expressions.whole, h_expressions.counts))
expression_kept e.First l es qs fits h_leaves h_expressions h_queries = lifted (λ (z : List Built × List BuiltList). Every LawfulBuilt z.0 × Every LawfulList z.1) ExpressionAfter (expression.first (es.whole, es.lists)) (λ x. (l, record es { whole = x.0; lists = x.1 }, qs)) (λ x k. (record { names = h_leaves.names; name_lists = h_leaves.name_lists; aliases = h_leaves.aliases; numbers = h_leaves.numbers; literals = h_leaves.literals; types = h_leaves.types }, record { whole = k.0; lists = k.1; cases = h_expressions.cases; counts = h_expressions.counts; optional = h_expressions.optional }, record { selects = h_queries.selects; tables = h_queries.tables; froms = h_queries.froms; rows = h_queries.rows; bodies = h_queries.bodies; whole = h_queries.whole })) (first_in_expression (es.whole, es.lists) (h_expressions.whole, h_expressions.lists))
expression_kept e.Next l es qs fits h_leaves h_expressions h_queries = lifted (λ (z : List Built × List BuiltList). Every LawfulBuilt z.0 × Every LawfulList z.1) ExpressionAfter (expression.next (es.whole, es.lists)) (λ x. (l, record es { whole = x.0; lists = x.1 }, qs)) (λ x k. (record { names = h_leaves.names; name_lists = h_leaves.name_lists; aliases = h_leaves.aliases; numbers = h_leaves.numbers; literals = h_leaves.literals; types = h_leaves.types }, record { whole = k.0; lists = k.1; cases = h_expressions.cases; counts = h_expressions.counts; optional = h_expressions.optional }, record { selects = h_queries.selects; tables = h_queries.tables; froms = h_queries.froms; rows = h_queries.rows; bodies = h_queries.bodies; whole = h_queries.whole })) (next_in_expression (es.whole, es.lists) (h_expressions.whole, h_expressions.lists))
expression_kept e.Written l es qs fits h_leaves h_expressions h_queries = lifted (λ (z : List Built × List BuiltOptional). Every LawfulBuilt z.0 × Every LawfulOptional z.1) ExpressionAfter (expression.written (es.whole, es.optional)) (λ x. (l, record es { whole = x.0; optional = x.1 }, qs)) (λ x k. (record { names = h_leaves.names; name_lists = h_leaves.name_lists; aliases = h_leaves.aliases; numbers = h_leaves.numbers; literals = h_leaves.literals; types = h_leaves.types }, record { whole = k.0; lists = h_expressions.lists; cases = h_expressions.cases; counts = h_expressions.counts; optional = k.1 }, record { selects = h_queries.selects; tables = h_queries.tables; froms = h_queries.froms; rows = h_queries.rows; bodies = h_queries.bodies; whole = h_queries.whole })) (written_in_expression (es.whole, es.optional) (h_expressions.whole, h_expressions.optional))
expression_kept e.Unwritten l es qs fits h_leaves h_expressions h_queries = lifted (λ (z : List BuiltOptional). Every LawfulOptional z) ExpressionAfter (expression.unwritten es.optional) (λ x. (l, record es { optional = x }, qs)) (λ x k. (record { names = h_leaves.names; name_lists = h_leaves.name_lists; aliases = h_leaves.aliases; numbers = h_leaves.numbers; literals = h_leaves.literals; types = h_leaves.types }, record { whole = h_expressions.whole; lists = h_expressions.lists; cases = h_expressions.cases; counts = h_expressions.counts; optional = k }, record { selects = h_queries.selects; tables = h_queries.tables; froms = h_queries.froms; rows = h_queries.rows; bodies = h_queries.bodies; whole = h_queries.whole })) (unwritten_in_expression es.optional h_expressions.optional)

function_kept : (token : Token) (m : FunctionMark) (l : Leaves) (es : Expressions) → LeavesAreLawful l → ExpressionsAreLawful es → Then FunctionAfter (function_step token m (l, es))
function_kept token f.Cast l es h_leaves h_expressions = lifted (λ (z : List ℕ × List DataType × List Built). Every LawfulType z.1 × Every LawfulBuilt z.2) FunctionAfter (function.cast (l.places, l.types, es.whole)) (λ x. (record l { places = x.0; types = x.1 }, record es { whole = x.2 })) (λ x k. (record { names = h_leaves.names; name_lists = h_leaves.name_lists; aliases = h_leaves.aliases; numbers = h_leaves.numbers; literals = h_leaves.literals; types = k.0 }, record { whole = k.1; lists = h_expressions.lists; cases = h_expressions.cases; counts = h_expressions.counts; optional = h_expressions.optional })) (cast_in_function (l.places, l.types, es.whole) (h_leaves.types, h_expressions.whole))
function_kept token f.Case l es h_leaves h_expressions = lifted (λ (z : List BuiltCase). Every LawfulCase z) FunctionAfter (function.begin_case token es.cases) (λ x. (l, record es { cases = x })) (λ x k. (record { names = h_leaves.names; name_lists = h_leaves.name_lists; aliases = h_leaves.aliases; numbers = h_leaves.numbers; literals = h_leaves.literals; types = h_leaves.types }, record { whole = h_expressions.whole; lists = h_expressions.lists; cases = k; counts = h_expressions.counts; optional = h_expressions.optional })) (begin_case_in_function token es.cases h_expressions.cases)
function_kept token f.Arm l es h_leaves h_expressions = lifted (λ (z : List BuiltCase × List Built). Every LawfulCase z.0 × Every LawfulBuilt z.1) FunctionAfter (function.arm (es.cases, es.whole)) (λ x. (l, record es { cases = x.0; whole = x.1 })) (λ x k. (record { names = h_leaves.names; name_lists = h_leaves.name_lists; aliases = h_leaves.aliases; numbers = h_leaves.numbers; literals = h_leaves.literals; types = h_leaves.types }, record { whole = k.1; lists = h_expressions.lists; cases = k.0; counts = h_expressions.counts; optional = h_expressions.optional })) (arm_in_function (es.cases, es.whole) (h_expressions.cases, h_expressions.whole))
function_kept token f.End l es h_leaves h_expressions = lifted (λ (z : List BuiltOptional × List BuiltCase × List Built). Every LawfulOptional z.0 × Every LawfulCase z.1 × Every LawfulBuilt z.2) FunctionAfter (function.end_case (es.optional, es.cases, es.whole)) (λ x. (l, record es { optional = x.0; cases = x.1; whole = x.2 })) (λ x k. (record { names = h_leaves.names; name_lists = h_leaves.name_lists; aliases = h_leaves.aliases; numbers = h_leaves.numbers; literals = h_leaves.literals; types = h_leaves.types }, record { whole = k.2; lists = h_expressions.lists; cases = k.1; counts = h_expressions.counts; optional = k.0 })) (end_case_in_function (es.optional, es.cases, es.whole) (h_expressions.optional, h_expressions.cases, h_expressions.whole))
function_kept token (f.Call name) l es h_leaves h_expressions = lifted (λ (z : List ℕ × List Built × List BuiltList). Every LawfulBuilt z.1 × Every LawfulList z.2) FunctionAfter (function.call name (l.places, es.whole, es.lists)) (λ x. (record l { places = x.0 }, record es { whole = x.1; lists = x.2 })) (λ x k. (record { names = h_leaves.names; name_lists = h_leaves.name_lists; aliases = h_leaves.aliases; numbers = h_leaves.numbers; literals = h_leaves.literals; types = h_leaves.types }, record { whole = k.0; lists = k.1; cases = h_expressions.cases; counts = h_expressions.counts; optional = h_expressions.optional })) (call_in_function name (l.places, es.whole, es.lists) (h_expressions.whole, h_expressions.lists))
function_kept token f.Substring l es h_leaves h_expressions = lifted (λ (z : List ℕ × List Built). Every LawfulBuilt z.1) FunctionAfter (function.substring (l.places, es.whole)) (λ x. (record l { places = x.0 }, record es { whole = x.1 })) (λ x k. (record { names = h_leaves.names; name_lists = h_leaves.name_lists; aliases = h_leaves.aliases; numbers = h_leaves.numbers; literals = h_leaves.literals; types = h_leaves.types }, record { whole = k; lists = h_expressions.lists; cases = h_expressions.cases; counts = h_expressions.counts; optional = h_expressions.optional })) (substring_in_function (l.places, es.whole) h_expressions.whole)
function_kept token f.SubstringFor l es h_leaves h_expressions = lifted (λ (z : List ℕ × List Built). Every LawfulBuilt z.1) FunctionAfter (function.substring_for (l.places, es.whole)) (λ x. (record l { places = x.0 }, record es { whole = x.1 })) (λ x k. (record { names = h_leaves.names; name_lists = h_leaves.name_lists; aliases = h_leaves.aliases; numbers = h_leaves.numbers; literals = h_leaves.literals; types = h_leaves.types }, record { whole = k; lists = h_expressions.lists; cases = h_expressions.cases; counts = h_expressions.counts; optional = h_expressions.optional })) (substring_for_in_function (l.places, es.whole) h_expressions.whole)
function_kept token (f.Form manner) l es h_leaves h_expressions = (record { names = h_leaves.names; name_lists = h_leaves.name_lists; aliases = h_leaves.aliases; numbers = h_leaves.numbers; literals = h_leaves.literals; types = h_leaves.types }, record { whole = h_expressions.whole; lists = h_expressions.lists; cases = h_expressions.cases; counts = h_expressions.counts; optional = h_expressions.optional })
function_kept token f.Trim l es h_leaves h_expressions = lifted (λ (z : List ℕ × List TrimForm × List Built). Every LawfulBuilt z.2) FunctionAfter (function.trim (l.places, es.forms, es.whole)) (λ x. (record l { places = x.0 }, record es { forms = x.1; whole = x.2 })) (λ x k. (record { names = h_leaves.names; name_lists = h_leaves.name_lists; aliases = h_leaves.aliases; numbers = h_leaves.numbers; literals = h_leaves.literals; types = h_leaves.types }, record { whole = k; lists = h_expressions.lists; cases = h_expressions.cases; counts = h_expressions.counts; optional = h_expressions.optional })) (trim_in_function (l.places, es.forms, es.whole) h_expressions.whole)
function_kept token f.TrimCharacter l es h_leaves h_expressions = lifted (λ (z : List ℕ × List TrimForm × List Built). Every LawfulBuilt z.2) FunctionAfter (function.trim_character (l.places, es.forms, es.whole)) (λ x. (record l { places = x.0 }, record es { forms = x.1; whole = x.2 })) (λ x k. (record { names = h_leaves.names; name_lists = h_leaves.name_lists; aliases = h_leaves.aliases; numbers = h_leaves.numbers; literals = h_leaves.literals; types = h_leaves.types }, record { whole = k; lists = h_expressions.lists; cases = h_expressions.cases; counts = h_expressions.counts; optional = h_expressions.optional })) (trim_character_in_function (l.places, es.forms, es.whole) h_expressions.whole)
function_kept token (f.Field field) l es h_leaves h_expressions = (record { names = h_leaves.names; name_lists = h_leaves.name_lists; aliases = h_leaves.aliases; numbers = h_leaves.numbers; literals = h_leaves.literals; types = h_leaves.types }, record { whole = h_expressions.whole; lists = h_expressions.lists; cases = h_expressions.cases; counts = h_expressions.counts; optional = h_expressions.optional })
function_kept token f.Extract l es h_leaves h_expressions = lifted (λ (z : List ℕ × List DateField × List Built). Every LawfulBuilt z.2) FunctionAfter (function.extract (l.places, es.fields, es.whole)) (λ x. (record l { places = x.0 }, record es { fields = x.1; whole = x.2 })) (λ x k. (record { names = h_leaves.names; name_lists = h_leaves.name_lists; aliases = h_leaves.aliases; numbers = h_leaves.numbers; literals = h_leaves.literals; types = h_leaves.types }, record { whole = k; lists = h_expressions.lists; cases = h_expressions.cases; counts = h_expressions.counts; optional = h_expressions.optional })) (extract_in_function (l.places, es.fields, es.whole) h_expressions.whole)
function_kept token f.CountRows l es h_leaves h_expressions = lifted (λ (z : List ℕ × List Built). Every LawfulBuilt z.1) FunctionAfter (function.count_rows (l.places, es.whole)) (λ x. (record l { places = x.0 }, record es { whole = x.1 })) (λ x k. (record { names = h_leaves.names; name_lists = h_leaves.name_lists; aliases = h_leaves.aliases; numbers = h_leaves.numbers; literals = h_leaves.literals; types = h_leaves.types }, record { whole = k; lists = h_expressions.lists; cases = h_expressions.cases; counts = h_expressions.counts; optional = h_expressions.optional })) (count_rows_in_function (l.places, es.whole) h_expressions.whole)
function_kept token (f.Aggregate name) l es h_leaves h_expressions = lifted (λ (z : List ℕ × List Bool × List Built). Every LawfulBuilt z.2) FunctionAfter (function.aggregate name (l.places, l.flags, es.whole)) (λ x. (record l { places = x.0; flags = x.1 }, record es { whole = x.2 })) (λ x k. (record { names = h_leaves.names; name_lists = h_leaves.name_lists; aliases = h_leaves.aliases; numbers = h_leaves.numbers; literals = h_leaves.literals; types = h_leaves.types }, record { whole = k; lists = h_expressions.lists; cases = h_expressions.cases; counts = h_expressions.counts; optional = h_expressions.optional })) (aggregate_in_function name (l.places, l.flags, es.whole) h_expressions.whole)

query_kept : (token : Token) (m : QueryMark) (l : Leaves) (es : Expressions) (qs : Queries) → QueryFits m l → LeavesAreLawful l → ExpressionsAreLawful es → QueriesAreLawful qs → Then QueryAfter (query_step token m (l, es, qs))
query_kept token q.Select l es qs fits h_leaves h_expressions h_queries = lifted (λ (z : List ℕ × List Bool × List BuiltSelect). Every LawfulSelect z.2) QueryAfter (query.begin_select (l.places, l.flags, qs.selects)) (λ x. (record l { places = x.0; flags = x.1 }, es, record qs { selects = x.2 })) (λ x k. (record { names = h_leaves.names; name_lists = h_leaves.name_lists; aliases = h_leaves.aliases; numbers = h_leaves.numbers; literals = h_leaves.literals; types = h_leaves.types }, record { whole = h_expressions.whole; lists = h_expressions.lists; cases = h_expressions.cases; counts = h_expressions.counts; optional = h_expressions.optional }, record { selects = k; tables = h_queries.tables; froms = h_queries.froms; rows = h_queries.rows; bodies = h_queries.bodies; whole = h_queries.whole })) (begin_select_in_query (l.places, l.flags, qs.selects) h_queries.selects)
query_kept token q.Every l es qs fits h_leaves h_expressions h_queries = lifted (λ (z : List BuiltSelect). Every LawfulSelect z) QueryAfter (query.every token qs.selects) (λ x. (l, es, record qs { selects = x })) (λ x k. (record { names = h_leaves.names; name_lists = h_leaves.name_lists; aliases = h_leaves.aliases; numbers = h_leaves.numbers; literals = h_leaves.literals; types = h_leaves.types }, record { whole = h_expressions.whole; lists = h_expressions.lists; cases = h_expressions.cases; counts = h_expressions.counts; optional = h_expressions.optional }, record { selects = k; tables = h_queries.tables; froms = h_queries.froms; rows = h_queries.rows; bodies = h_queries.bodies; whole = h_queries.whole })) (every_in_query token qs.selects h_queries.selects)
query_kept token q.Item l es qs fits h_leaves h_expressions h_queries = lifted (λ (z : List (Option Identifier) × List Built × List BuiltSelect). Every LawfulAlias z.0 × Every LawfulBuilt z.1 × Every LawfulSelect z.2) QueryAfter (query.item (l.aliases, es.whole, qs.selects)) (λ x. (record l { aliases = x.0 }, record es { whole = x.1 }, record qs { selects = x.2 })) (λ x k. (record { names = h_leaves.names; name_lists = h_leaves.name_lists; aliases = k.0; numbers = h_leaves.numbers; literals = h_leaves.literals; types = h_leaves.types }, record { whole = k.1; lists = h_expressions.lists; cases = h_expressions.cases; counts = h_expressions.counts; optional = h_expressions.optional }, record { selects = k.2; tables = h_queries.tables; froms = h_queries.froms; rows = h_queries.rows; bodies = h_queries.bodies; whole = h_queries.whole })) (item_in_query (l.aliases, es.whole, qs.selects) (h_leaves.aliases, h_expressions.whole, h_queries.selects))
query_kept token q.Table l es qs fits h_leaves h_expressions h_queries = lifted (λ (z : List Identifier × List (Option Identifier) × List BuiltTable). Every LawfulName z.0 × Every LawfulAlias z.1 × Every LawfulTable z.2) QueryAfter (query.named_table (l.names, l.aliases, qs.tables)) (λ x. (record l { names = x.0; aliases = x.1 }, es, record qs { tables = x.2 })) (λ x k. (record { names = k.0; name_lists = h_leaves.name_lists; aliases = k.1; numbers = h_leaves.numbers; literals = h_leaves.literals; types = h_leaves.types }, record { whole = h_expressions.whole; lists = h_expressions.lists; cases = h_expressions.cases; counts = h_expressions.counts; optional = h_expressions.optional }, record { selects = h_queries.selects; tables = k.2; froms = h_queries.froms; rows = h_queries.rows; bodies = h_queries.bodies; whole = h_queries.whole })) (named_table_in_query (l.names, l.aliases, qs.tables) (h_leaves.names, h_leaves.aliases, h_queries.tables))
query_kept token q.Derived l es qs fits h_leaves h_expressions h_queries = lifted (λ (z : List Identifier × List BuiltQuery × List BuiltTable). Every LawfulName z.0 × Every LawfulQuery z.1 × Every LawfulTable z.2) QueryAfter (query.derived_table (l.names, qs.whole, qs.tables)) (λ x. (record l { names = x.0 }, es, record qs { whole = x.1; tables = x.2 })) (λ x k. (record { names = k.0; name_lists = h_leaves.name_lists; aliases = h_leaves.aliases; numbers = h_leaves.numbers; literals = h_leaves.literals; types = h_leaves.types }, record { whole = h_expressions.whole; lists = h_expressions.lists; cases = h_expressions.cases; counts = h_expressions.counts; optional = h_expressions.optional }, record { selects = h_queries.selects; tables = k.2; froms = h_queries.froms; rows = h_queries.rows; bodies = h_queries.bodies; whole = k.1 })) (derived_table_in_query (l.names, qs.whole, qs.tables) (h_leaves.names, h_queries.whole, h_queries.tables))
query_kept token q.From l es qs fits h_leaves h_expressions h_queries = lifted (λ (z : List BuiltTable × List BuiltFrom). Every LawfulTable z.0 × Every LawfulFrom z.1) QueryAfter (query.begin_from (qs.tables, qs.froms)) (λ x. (l, es, record qs { tables = x.0; froms = x.1 })) (λ x k. (record { names = h_leaves.names; name_lists = h_leaves.name_lists; aliases = h_leaves.aliases; numbers = h_leaves.numbers; literals = h_leaves.literals; types = h_leaves.types }, record { whole = h_expressions.whole; lists = h_expressions.lists; cases = h_expressions.cases; counts = h_expressions.counts; optional = h_expressions.optional }, record { selects = h_queries.selects; tables = k.0; froms = k.1; rows = h_queries.rows; bodies = h_queries.bodies; whole = h_queries.whole })) (begin_from_in_query (qs.tables, qs.froms) (h_queries.tables, h_queries.froms))
query_kept token (q.Join outer) l es qs fits h_leaves h_expressions h_queries = lifted (λ (z : List Built × List BuiltTable × List BuiltFrom). Every LawfulBuilt z.0 × Every LawfulTable z.1 × Every LawfulFrom z.2) QueryAfter (query.join_on outer (es.whole, qs.tables, qs.froms)) (λ x. (l, record es { whole = x.0 }, record qs { tables = x.1; froms = x.2 })) (λ x k. (record { names = h_leaves.names; name_lists = h_leaves.name_lists; aliases = h_leaves.aliases; numbers = h_leaves.numbers; literals = h_leaves.literals; types = h_leaves.types }, record { whole = k.0; lists = h_expressions.lists; cases = h_expressions.cases; counts = h_expressions.counts; optional = h_expressions.optional }, record { selects = h_queries.selects; tables = k.1; froms = k.2; rows = h_queries.rows; bodies = h_queries.bodies; whole = h_queries.whole })) (join_on_in_query outer (es.whole, qs.tables, qs.froms) (h_expressions.whole, h_queries.tables, h_queries.froms))
query_kept token q.CrossJoin l es qs fits h_leaves h_expressions h_queries = lifted (λ (z : List BuiltTable × List BuiltFrom). Every LawfulTable z.0 × Every LawfulFrom z.1) QueryAfter (query.cross_join (qs.tables, qs.froms)) (λ x. (l, es, record qs { tables = x.0; froms = x.1 })) (λ x k. (record { names = h_leaves.names; name_lists = h_leaves.name_lists; aliases = h_leaves.aliases; numbers = h_leaves.numbers; literals = h_leaves.literals; types = h_leaves.types }, record { whole = h_expressions.whole; lists = h_expressions.lists; cases = h_expressions.cases; counts = h_expressions.counts; optional = h_expressions.optional }, record { selects = h_queries.selects; tables = k.0; froms = k.1; rows = h_queries.rows; bodies = h_queries.bodies; whole = h_queries.whole })) (cross_join_in_query (qs.tables, qs.froms) (h_queries.tables, h_queries.froms))
query_kept token q.AddFrom l es qs fits h_leaves h_expressions h_queries = lifted (λ (z : List BuiltFrom × List BuiltSelect). Every LawfulFrom z.0 × Every LawfulSelect z.1) QueryAfter (query.add_from (qs.froms, qs.selects)) (λ x. (l, es, record qs { froms = x.0; selects = x.1 })) (λ x k. (record { names = h_leaves.names; name_lists = h_leaves.name_lists; aliases = h_leaves.aliases; numbers = h_leaves.numbers; literals = h_leaves.literals; types = h_leaves.types }, record { whole = h_expressions.whole; lists = h_expressions.lists; cases = h_expressions.cases; counts = h_expressions.counts; optional = h_expressions.optional }, record { selects = k.1; tables = h_queries.tables; froms = k.0; rows = h_queries.rows; bodies = h_queries.bodies; whole = h_queries.whole })) (add_from_in_query (qs.froms, qs.selects) (h_queries.froms, h_queries.selects))
query_kept token q.Group l es qs fits h_leaves h_expressions h_queries = lifted (λ (z : List Built × List BuiltSelect). Every LawfulBuilt z.0 × Every LawfulSelect z.1) QueryAfter (query.group (es.whole, qs.selects)) (λ x. (l, record es { whole = x.0 }, record qs { selects = x.1 })) (λ x k. (record { names = h_leaves.names; name_lists = h_leaves.name_lists; aliases = h_leaves.aliases; numbers = h_leaves.numbers; literals = h_leaves.literals; types = h_leaves.types }, record { whole = k.0; lists = h_expressions.lists; cases = h_expressions.cases; counts = h_expressions.counts; optional = h_expressions.optional }, record { selects = k.1; tables = h_queries.tables; froms = h_queries.froms; rows = h_queries.rows; bodies = h_queries.bodies; whole = h_queries.whole })) (group_in_query (es.whole, qs.selects) (h_expressions.whole, h_queries.selects))
query_kept token q.SelectBody l es qs fits h_leaves h_expressions h_queries = lifted (λ (z : List BuiltOptional × List BuiltSelect × List BuiltBody). Every LawfulOptional z.0 × Every LawfulSelect z.1 × Every LawfulBody z.2) QueryAfter (query.select_body (es.optional, qs.selects, qs.bodies)) (λ x. (l, record es { optional = x.0 }, record qs { selects = x.1; bodies = x.2 })) (λ x k. (record { names = h_leaves.names; name_lists = h_leaves.name_lists; aliases = h_leaves.aliases; numbers = h_leaves.numbers; literals = h_leaves.literals; types = h_leaves.types }, record { whole = h_expressions.whole; lists = h_expressions.lists; cases = h_expressions.cases; counts = h_expressions.counts; optional = k.0 }, record { selects = k.1; tables = h_queries.tables; froms = h_queries.froms; rows = h_queries.rows; bodies = k.2; whole = h_queries.whole })) (select_body_in_query (es.optional, qs.selects, qs.bodies) (h_expressions.optional, h_queries.selects, h_queries.bodies))
query_kept token q.Values l es qs fits h_leaves h_expressions h_queries = lifted (λ (z : List BuiltRows). Every LawfulRows z) QueryAfter (query.begin_values token qs.rows) (λ x. (l, es, record qs { rows = x })) (λ x k. (record { names = h_leaves.names; name_lists = h_leaves.name_lists; aliases = h_leaves.aliases; numbers = h_leaves.numbers; literals = h_leaves.literals; types = h_leaves.types }, record { whole = h_expressions.whole; lists = h_expressions.lists; cases = h_expressions.cases; counts = h_expressions.counts; optional = h_expressions.optional }, record { selects = h_queries.selects; tables = h_queries.tables; froms = h_queries.froms; rows = k; bodies = h_queries.bodies; whole = h_queries.whole })) (begin_values_in_query token qs.rows h_queries.rows)
query_kept token q.Row l es qs fits h_leaves h_expressions h_queries = lifted (λ (z : List BuiltList × List BuiltRows). Every LawfulList z.0 × Every LawfulRows z.1) QueryAfter (query.row (es.lists, qs.rows)) (λ x. (l, record es { lists = x.0 }, record qs { rows = x.1 })) (λ x k. (record { names = h_leaves.names; name_lists = h_leaves.name_lists; aliases = h_leaves.aliases; numbers = h_leaves.numbers; literals = h_leaves.literals; types = h_leaves.types }, record { whole = h_expressions.whole; lists = k.0; cases = h_expressions.cases; counts = h_expressions.counts; optional = h_expressions.optional }, record { selects = h_queries.selects; tables = h_queries.tables; froms = h_queries.froms; rows = k.1; bodies = h_queries.bodies; whole = h_queries.whole })) (row_in_query (es.lists, qs.rows) (h_expressions.lists, h_queries.rows))
query_kept token q.ValuesBody l es qs fits h_leaves h_expressions h_queries = lifted (λ (z : List BuiltRows × List BuiltBody). Every LawfulRows z.0 × Every LawfulBody z.1) QueryAfter (query.values_body (qs.rows, qs.bodies)) (λ x. (l, es, record qs { rows = x.0; bodies = x.1 })) (λ x k. (record { names = h_leaves.names; name_lists = h_leaves.name_lists; aliases = h_leaves.aliases; numbers = h_leaves.numbers; literals = h_leaves.literals; types = h_leaves.types }, record { whole = h_expressions.whole; lists = h_expressions.lists; cases = h_expressions.cases; counts = h_expressions.counts; optional = h_expressions.optional }, record { selects = h_queries.selects; tables = h_queries.tables; froms = h_queries.froms; rows = k.0; bodies = k.1; whole = h_queries.whole })) (values_body_in_query (qs.rows, qs.bodies) (h_queries.rows, h_queries.bodies))
query_kept token q.BracketBody l es qs fits h_leaves h_expressions h_queries = lifted (λ (z : List ℕ × List BuiltBody). Every LawfulBody z.1) QueryAfter (query.bracket_body (l.places, qs.bodies)) (λ x. (record l { places = x.0 }, es, record qs { bodies = x.1 })) (λ x k. (record { names = h_leaves.names; name_lists = h_leaves.name_lists; aliases = h_leaves.aliases; numbers = h_leaves.numbers; literals = h_leaves.literals; types = h_leaves.types }, record { whole = h_expressions.whole; lists = h_expressions.lists; cases = h_expressions.cases; counts = h_expressions.counts; optional = h_expressions.optional }, record { selects = h_queries.selects; tables = h_queries.tables; froms = h_queries.froms; rows = h_queries.rows; bodies = k; whole = h_queries.whole })) (bracket_body_in_query (l.places, qs.bodies) h_queries.bodies)
query_kept token (q.SetOperation operator) l es qs fits h_leaves h_expressions h_queries = lifted (λ (z : List BuiltBody). Every LawfulBody z) QueryAfter (query.set_operation operator qs.bodies) (λ x. (l, es, record qs { bodies = x })) (λ x k. (record { names = h_leaves.names; name_lists = h_leaves.name_lists; aliases = h_leaves.aliases; numbers = h_leaves.numbers; literals = h_leaves.literals; types = h_leaves.types }, record { whole = h_expressions.whole; lists = h_expressions.lists; cases = h_expressions.cases; counts = h_expressions.counts; optional = h_expressions.optional }, record { selects = h_queries.selects; tables = h_queries.tables; froms = h_queries.froms; rows = h_queries.rows; bodies = k; whole = h_queries.whole })) (set_operation_in_query operator qs.bodies h_queries.bodies)
query_kept token q.Query l es qs fits h_leaves h_expressions h_queries = lifted (λ (z : List BuiltBody × List BuiltQuery). Every LawfulBody z.0 × Every LawfulQuery z.1) QueryAfter (query.begin_query (qs.bodies, qs.whole)) (λ x. (l, es, record qs { bodies = x.0; whole = x.1 })) (λ x k. (record { names = h_leaves.names; name_lists = h_leaves.name_lists; aliases = h_leaves.aliases; numbers = h_leaves.numbers; literals = h_leaves.literals; types = h_leaves.types }, record { whole = h_expressions.whole; lists = h_expressions.lists; cases = h_expressions.cases; counts = h_expressions.counts; optional = h_expressions.optional }, record { selects = h_queries.selects; tables = h_queries.tables; froms = h_queries.froms; rows = h_queries.rows; bodies = k.0; whole = k.1 })) (begin_query_in_query (qs.bodies, qs.whole) (h_queries.bodies, h_queries.whole))
query_kept token (q.Key descending) l es qs fits h_leaves h_expressions h_queries = lifted (λ (z : List Built × List BuiltQuery). Every LawfulBuilt z.0 × Every LawfulQuery z.1) QueryAfter (query.key descending (es.whole, qs.whole)) (λ x. (l, record es { whole = x.0 }, record qs { whole = x.1 })) (λ x k. (record { names = h_leaves.names; name_lists = h_leaves.name_lists; aliases = h_leaves.aliases; numbers = h_leaves.numbers; literals = h_leaves.literals; types = h_leaves.types }, record { whole = k.0; lists = h_expressions.lists; cases = h_expressions.cases; counts = h_expressions.counts; optional = h_expressions.optional }, record { selects = h_queries.selects; tables = h_queries.tables; froms = h_queries.froms; rows = h_queries.rows; bodies = h_queries.bodies; whole = k.1 })) (key_in_query descending (es.whole, qs.whole) (h_expressions.whole, h_queries.whole))
query_kept token q.Limit l es qs fits h_leaves h_expressions h_queries = lifted (λ (z : List PlacedNumber × List BuiltQuery). Every LawfulNumber z.0 × Every LawfulQuery z.1) QueryAfter (query.limit (l.numbers, qs.whole)) (λ x. (record l { numbers = x.0 }, es, record qs { whole = x.1 })) (λ x k. (record { names = h_leaves.names; name_lists = h_leaves.name_lists; aliases = h_leaves.aliases; numbers = k.0; literals = h_leaves.literals; types = h_leaves.types }, record { whole = h_expressions.whole; lists = h_expressions.lists; cases = h_expressions.cases; counts = h_expressions.counts; optional = h_expressions.optional }, record { selects = h_queries.selects; tables = h_queries.tables; froms = h_queries.froms; rows = h_queries.rows; bodies = h_queries.bodies; whole = k.1 })) (limit_in_query (l.numbers, qs.whole) fits (h_leaves.numbers, h_queries.whole))
query_kept token q.Offset l es qs fits h_leaves h_expressions h_queries = lifted (λ (z : List PlacedNumber × List BuiltQuery). Every LawfulNumber z.0 × Every LawfulQuery z.1) QueryAfter (query.offset (l.numbers, qs.whole)) (λ x. (record l { numbers = x.0 }, es, record qs { whole = x.1 })) (λ x k. (record { names = h_leaves.names; name_lists = h_leaves.name_lists; aliases = h_leaves.aliases; numbers = k.0; literals = h_leaves.literals; types = h_leaves.types }, record { whole = h_expressions.whole; lists = h_expressions.lists; cases = h_expressions.cases; counts = h_expressions.counts; optional = h_expressions.optional }, record { selects = h_queries.selects; tables = h_queries.tables; froms = h_queries.froms; rows = h_queries.rows; bodies = h_queries.bodies; whole = k.1 })) (offset_in_query (l.numbers, qs.whole) (h_leaves.numbers, h_queries.whole))

change_kept : (token : Token) (m : ChangeMark) (p : Parts) → AreLawful p → Then AreLawful (change_step token m p)
change_kept token c.QueryStatement p h = lifted (λ (z : List BuiltQuery × List Stmt). Every LawfulQuery z.0 × Every LawfulStatement z.1) (λ (z : Parts). AreLawful z) (change.query_statement (p.queries.whole, p.statements)) (λ x. record p { queries = record p.queries { whole = x.0 }; statements = x.1 }) (λ x k. record { leaves = h.leaves; expressions = h.expressions; queries = record { selects = h.queries.selects; tables = h.queries.tables; froms = h.queries.froms; rows = h.queries.rows; bodies = h.queries.bodies; whole = k.0 }; changes = h.changes; definitions = h.definitions; statements = k.1 }) (query_statement_in_change (p.queries.whole, p.statements) (h.queries.whole, h.statements))
change_kept token c.Insert p h = lifted (λ (z : List Identifier × List InsertTarget). Every LawfulName z.0 × Every LawfulTarget z.1) (λ (z : Parts). AreLawful z) (change.begin_insert (p.leaves.names, p.changes.targets)) (λ x. record p { leaves = record p.leaves { names = x.0 }; changes = record p.changes { targets = x.1 } }) (λ x k. record { leaves = record { names = k.0; name_lists = h.leaves.name_lists; aliases = h.leaves.aliases; numbers = h.leaves.numbers; literals = h.leaves.literals; types = h.leaves.types }; expressions = h.expressions; queries = h.queries; changes = record { targets = k.1; tuples = h.changes.tuples; tuple_lists = h.changes.tuple_lists; updates = h.changes.updates; deletes = h.changes.deletes; locks = h.changes.locks }; definitions = h.definitions; statements = h.statements }) (begin_insert_in_change (p.leaves.names, p.changes.targets) (h.leaves.names, h.changes.targets))
change_kept token c.InsertColumns p h = lifted (λ (z : List ℕ × List (List Identifier) × List InsertTarget). Every LawfulNames z.1 × Every LawfulTarget z.2) (λ (z : Parts). AreLawful z) (change.insert_columns (p.leaves.places, p.leaves.name_lists, p.changes.targets)) (λ x. record p { leaves = record p.leaves { places = x.0; name_lists = x.1 }; changes = record p.changes { targets = x.2 } }) (λ x k. record { leaves = record { names = h.leaves.names; name_lists = k.0; aliases = h.leaves.aliases; numbers = h.leaves.numbers; literals = h.leaves.literals; types = h.leaves.types }; expressions = h.expressions; queries = h.queries; changes = record { targets = k.1; tuples = h.changes.tuples; tuple_lists = h.changes.tuple_lists; updates = h.changes.updates; deletes = h.changes.deletes; locks = h.changes.locks }; definitions = h.definitions; statements = h.statements }) (insert_columns_in_change (p.leaves.places, p.leaves.name_lists, p.changes.targets) (h.leaves.name_lists, h.changes.targets))
change_kept token c.Tuples p h = lifted (λ (z : List BuiltTuples). Every LawfulTuples z) (λ (z : Parts). AreLawful z) (change.begin_tuples token p.changes.tuple_lists) (λ x. record p { changes = record p.changes { tuple_lists = x } }) (λ x k. record { leaves = h.leaves; expressions = h.expressions; queries = h.queries; changes = record { targets = h.changes.targets; tuples = h.changes.tuples; tuple_lists = k; updates = h.changes.updates; deletes = h.changes.deletes; locks = h.changes.locks }; definitions = h.definitions; statements = h.statements }) (begin_tuples_in_change token p.changes.tuple_lists h.changes.tuple_lists)
change_kept token c.Tuple p h = lifted (λ (z : List BuiltTuple). Every LawfulTuple z) (λ (z : Parts). AreLawful z) (change.begin_tuple p.changes.tuples) (λ x. record p { changes = record p.changes { tuples = x } }) (λ x k. record { leaves = h.leaves; expressions = h.expressions; queries = h.queries; changes = record { targets = h.changes.targets; tuples = k; tuple_lists = h.changes.tuple_lists; updates = h.changes.updates; deletes = h.changes.deletes; locks = h.changes.locks }; definitions = h.definitions; statements = h.statements }) (begin_tuple_in_change p.changes.tuples h.changes.tuples)
change_kept token c.TupleValue p h = lifted (λ (z : List Built × List BuiltTuple). Every LawfulBuilt z.0 × Every LawfulTuple z.1) (λ (z : Parts). AreLawful z) (change.tuple_value (p.expressions.whole, p.changes.tuples)) (λ x. record p { expressions = record p.expressions { whole = x.0 }; changes = record p.changes { tuples = x.1 } }) (λ x k. record { leaves = h.leaves; expressions = record { whole = k.0; lists = h.expressions.lists; cases = h.expressions.cases; counts = h.expressions.counts; optional = h.expressions.optional }; queries = h.queries; changes = record { targets = h.changes.targets; tuples = k.1; tuple_lists = h.changes.tuple_lists; updates = h.changes.updates; deletes = h.changes.deletes; locks = h.changes.locks }; definitions = h.definitions; statements = h.statements }) (tuple_value_in_change (p.expressions.whole, p.changes.tuples) (h.expressions.whole, h.changes.tuples))
change_kept token c.TupleDefault p h = lifted (λ (z : List BuiltTuple). Every LawfulTuple z) (λ (z : Parts). AreLawful z) (change.tuple_default token p.changes.tuples) (λ x. record p { changes = record p.changes { tuples = x } }) (λ x k. record { leaves = h.leaves; expressions = h.expressions; queries = h.queries; changes = record { targets = h.changes.targets; tuples = k; tuple_lists = h.changes.tuple_lists; updates = h.changes.updates; deletes = h.changes.deletes; locks = h.changes.locks }; definitions = h.definitions; statements = h.statements }) (tuple_default_in_change token p.changes.tuples h.changes.tuples)
change_kept token c.AddTuple p h = lifted (λ (z : List BuiltTuple × List BuiltTuples). Every LawfulTuple z.0 × Every LawfulTuples z.1) (λ (z : Parts). AreLawful z) (change.add_tuple (p.changes.tuples, p.changes.tuple_lists)) (λ x. record p { changes = record p.changes { tuples = x.0; tuple_lists = x.1 } }) (λ x k. record { leaves = h.leaves; expressions = h.expressions; queries = h.queries; changes = record { targets = h.changes.targets; tuples = k.0; tuple_lists = k.1; updates = h.changes.updates; deletes = h.changes.deletes; locks = h.changes.locks }; definitions = h.definitions; statements = h.statements }) (add_tuple_in_change (p.changes.tuples, p.changes.tuple_lists) (h.changes.tuples, h.changes.tuple_lists))
change_kept token c.TuplesBody p h = lifted (λ (z : List BuiltTuples × List BuiltBody). Every LawfulTuples z.0 × Every LawfulBody z.1) (λ (z : Parts). AreLawful z) (change.tuples_body (p.changes.tuple_lists, p.queries.bodies)) (λ x. record p { changes = record p.changes { tuple_lists = x.0 }; queries = record p.queries { bodies = x.1 } }) (λ x k. record { leaves = h.leaves; expressions = h.expressions; queries = record { selects = h.queries.selects; tables = h.queries.tables; froms = h.queries.froms; rows = h.queries.rows; bodies = k.1; whole = h.queries.whole }; changes = record { targets = h.changes.targets; tuples = h.changes.tuples; tuple_lists = k.0; updates = h.changes.updates; deletes = h.changes.deletes; locks = h.changes.locks }; definitions = h.definitions; statements = h.statements }) (tuples_body_in_change (p.changes.tuple_lists, p.queries.bodies) (h.changes.tuple_lists, h.queries.bodies))
change_kept token c.InsertTuples p h = lifted (λ (z : List InsertTarget × List BuiltTuples × List Stmt). Every LawfulTarget z.0 × Every LawfulTuples z.1 × Every LawfulStatement z.2) (λ (z : Parts). AreLawful z) (change.insert_tuples (p.changes.targets, p.changes.tuple_lists, p.statements)) (λ x. record p { changes = record p.changes { targets = x.0; tuple_lists = x.1 }; statements = x.2 }) (λ x k. record { leaves = h.leaves; expressions = h.expressions; queries = h.queries; changes = record { targets = k.0; tuples = h.changes.tuples; tuple_lists = k.1; updates = h.changes.updates; deletes = h.changes.deletes; locks = h.changes.locks }; definitions = h.definitions; statements = k.2 }) (insert_tuples_in_change (p.changes.targets, p.changes.tuple_lists, p.statements) (h.changes.targets, h.changes.tuple_lists, h.statements))
change_kept token c.InsertQuery p h = lifted (λ (z : List InsertTarget × List BuiltQuery × List Stmt). Every LawfulTarget z.0 × Every LawfulQuery z.1 × Every LawfulStatement z.2) (λ (z : Parts). AreLawful z) (change.insert_query (p.changes.targets, p.queries.whole, p.statements)) (λ x. record p { changes = record p.changes { targets = x.0 }; queries = record p.queries { whole = x.1 }; statements = x.2 }) (λ x k. record { leaves = h.leaves; expressions = h.expressions; queries = record { selects = h.queries.selects; tables = h.queries.tables; froms = h.queries.froms; rows = h.queries.rows; bodies = h.queries.bodies; whole = k.1 }; changes = record { targets = k.0; tuples = h.changes.tuples; tuple_lists = h.changes.tuple_lists; updates = h.changes.updates; deletes = h.changes.deletes; locks = h.changes.locks }; definitions = h.definitions; statements = k.2 }) (insert_query_in_change (p.changes.targets, p.queries.whole, p.statements) (h.changes.targets, h.queries.whole, h.statements))
change_kept token c.Update p h = lifted (λ (z : List Identifier × List (Option Identifier) × List Update). Every LawfulName z.0 × Every LawfulAlias z.1 × Every LawfulUpdate z.2) (λ (z : Parts). AreLawful z) (change.begin_update (p.leaves.names, p.leaves.aliases, p.changes.updates)) (λ x. record p { leaves = record p.leaves { names = x.0; aliases = x.1 }; changes = record p.changes { updates = x.2 } }) (λ x k. record { leaves = record { names = k.0; name_lists = h.leaves.name_lists; aliases = k.1; numbers = h.leaves.numbers; literals = h.leaves.literals; types = h.leaves.types }; expressions = h.expressions; queries = h.queries; changes = record { targets = h.changes.targets; tuples = h.changes.tuples; tuple_lists = h.changes.tuple_lists; updates = k.2; deletes = h.changes.deletes; locks = h.changes.locks }; definitions = h.definitions; statements = h.statements }) (begin_update_in_change (p.leaves.names, p.leaves.aliases, p.changes.updates) (h.leaves.names, h.leaves.aliases, h.changes.updates))
change_kept token c.Assign p h = lifted (λ (z : List Identifier × List Built × List Update). Every LawfulName z.0 × Every LawfulBuilt z.1 × Every LawfulUpdate z.2) (λ (z : Parts). AreLawful z) (change.assign (p.leaves.names, p.expressions.whole, p.changes.updates)) (λ x. record p { leaves = record p.leaves { names = x.0 }; expressions = record p.expressions { whole = x.1 }; changes = record p.changes { updates = x.2 } }) (λ x k. record { leaves = record { names = k.0; name_lists = h.leaves.name_lists; aliases = h.leaves.aliases; numbers = h.leaves.numbers; literals = h.leaves.literals; types = h.leaves.types }; expressions = record { whole = k.1; lists = h.expressions.lists; cases = h.expressions.cases; counts = h.expressions.counts; optional = h.expressions.optional }; queries = h.queries; changes = record { targets = h.changes.targets; tuples = h.changes.tuples; tuple_lists = h.changes.tuple_lists; updates = k.2; deletes = h.changes.deletes; locks = h.changes.locks }; definitions = h.definitions; statements = h.statements }) (assign_in_change (p.leaves.names, p.expressions.whole, p.changes.updates) (h.leaves.names, h.expressions.whole, h.changes.updates))
change_kept token c.AssignDefault p h = lifted (λ (z : List Identifier × List Update). Every LawfulName z.0 × Every LawfulUpdate z.1) (λ (z : Parts). AreLawful z) (change.assign_default token (p.leaves.names, p.changes.updates)) (λ x. record p { leaves = record p.leaves { names = x.0 }; changes = record p.changes { updates = x.1 } }) (λ x k. record { leaves = record { names = k.0; name_lists = h.leaves.name_lists; aliases = h.leaves.aliases; numbers = h.leaves.numbers; literals = h.leaves.literals; types = h.leaves.types }; expressions = h.expressions; queries = h.queries; changes = record { targets = h.changes.targets; tuples = h.changes.tuples; tuple_lists = h.changes.tuple_lists; updates = k.1; deletes = h.changes.deletes; locks = h.changes.locks }; definitions = h.definitions; statements = h.statements }) (assign_default_in_change token (p.leaves.names, p.changes.updates) (h.leaves.names, h.changes.updates))
change_kept token c.UpdateStatement p h = lifted (λ (z : List BuiltOptional × List Update × List Stmt). Every LawfulOptional z.0 × Every LawfulUpdate z.1 × Every LawfulStatement z.2) (λ (z : Parts). AreLawful z) (change.update_statement (p.expressions.optional, p.changes.updates, p.statements)) (λ x. record p { expressions = record p.expressions { optional = x.0 }; changes = record p.changes { updates = x.1 }; statements = x.2 }) (λ x k. record { leaves = h.leaves; expressions = record { whole = h.expressions.whole; lists = h.expressions.lists; cases = h.expressions.cases; counts = h.expressions.counts; optional = k.0 }; queries = h.queries; changes = record { targets = h.changes.targets; tuples = h.changes.tuples; tuple_lists = h.changes.tuple_lists; updates = k.1; deletes = h.changes.deletes; locks = h.changes.locks }; definitions = h.definitions; statements = k.2 }) (update_statement_in_change (p.expressions.optional, p.changes.updates, p.statements) (h.expressions.optional, h.changes.updates, h.statements))
change_kept token c.Delete p h = lifted (λ (z : List Identifier × List (Option Identifier) × List Delete). Every LawfulName z.0 × Every LawfulAlias z.1 × Every LawfulDelete z.2) (λ (z : Parts). AreLawful z) (change.begin_delete (p.leaves.names, p.leaves.aliases, p.changes.deletes)) (λ x. record p { leaves = record p.leaves { names = x.0; aliases = x.1 }; changes = record p.changes { deletes = x.2 } }) (λ x k. record { leaves = record { names = k.0; name_lists = h.leaves.name_lists; aliases = k.1; numbers = h.leaves.numbers; literals = h.leaves.literals; types = h.leaves.types }; expressions = h.expressions; queries = h.queries; changes = record { targets = h.changes.targets; tuples = h.changes.tuples; tuple_lists = h.changes.tuple_lists; updates = h.changes.updates; deletes = k.2; locks = h.changes.locks }; definitions = h.definitions; statements = h.statements }) (begin_delete_in_change (p.leaves.names, p.leaves.aliases, p.changes.deletes) (h.leaves.names, h.leaves.aliases, h.changes.deletes))
change_kept token c.DeleteStatement p h = lifted (λ (z : List BuiltOptional × List Delete × List Stmt). Every LawfulOptional z.0 × Every LawfulDelete z.1 × Every LawfulStatement z.2) (λ (z : Parts). AreLawful z) (change.delete_statement (p.expressions.optional, p.changes.deletes, p.statements)) (λ x. record p { expressions = record p.expressions { optional = x.0 }; changes = record p.changes { deletes = x.1 }; statements = x.2 }) (λ x k. record { leaves = h.leaves; expressions = record { whole = h.expressions.whole; lists = h.expressions.lists; cases = h.expressions.cases; counts = h.expressions.counts; optional = k.0 }; queries = h.queries; changes = record { targets = h.changes.targets; tuples = h.changes.tuples; tuple_lists = h.changes.tuple_lists; updates = h.changes.updates; deletes = k.1; locks = h.changes.locks }; definitions = h.definitions; statements = k.2 }) (delete_statement_in_change (p.expressions.optional, p.changes.deletes, p.statements) (h.expressions.optional, h.changes.deletes, h.statements))
change_kept token c.Lock p h = lifted (λ (z : List (List LockedTable)). Every LawfulLocks z) (λ (z : Parts). AreLawful z) (change.begin_lock p.changes.locks) (λ x. record p { changes = record p.changes { locks = x } }) (λ x k. record { leaves = h.leaves; expressions = h.expressions; queries = h.queries; changes = record { targets = h.changes.targets; tuples = h.changes.tuples; tuple_lists = h.changes.tuple_lists; updates = h.changes.updates; deletes = h.changes.deletes; locks = k }; definitions = h.definitions; statements = h.statements }) (begin_lock_in_change p.changes.locks h.changes.locks)
change_kept token (c.Locked write) p h = lifted (λ (z : List Identifier × List (List LockedTable)). Every LawfulName z.0 × Every LawfulLocks z.1) (λ (z : Parts). AreLawful z) (change.locked write (p.leaves.names, p.changes.locks)) (λ x. record p { leaves = record p.leaves { names = x.0 }; changes = record p.changes { locks = x.1 } }) (λ x k. record { leaves = record { names = k.0; name_lists = h.leaves.name_lists; aliases = h.leaves.aliases; numbers = h.leaves.numbers; literals = h.leaves.literals; types = h.leaves.types }; expressions = h.expressions; queries = h.queries; changes = record { targets = h.changes.targets; tuples = h.changes.tuples; tuple_lists = h.changes.tuple_lists; updates = h.changes.updates; deletes = h.changes.deletes; locks = k.1 }; definitions = h.definitions; statements = h.statements }) (locked_in_change write (p.leaves.names, p.changes.locks) (h.leaves.names, h.changes.locks))
change_kept token c.LockStatement p h = lifted (λ (z : List (List LockedTable) × List Stmt). Every LawfulLocks z.0 × Every LawfulStatement z.1) (λ (z : Parts). AreLawful z) (change.lock_statement (p.changes.locks, p.statements)) (λ x. record p { changes = record p.changes { locks = x.0 }; statements = x.1 }) (λ x k. record { leaves = h.leaves; expressions = h.expressions; queries = h.queries; changes = record { targets = h.changes.targets; tuples = h.changes.tuples; tuple_lists = h.changes.tuple_lists; updates = h.changes.updates; deletes = h.changes.deletes; locks = k.0 }; definitions = h.definitions; statements = k.1 }) (lock_statement_in_change (p.changes.locks, p.statements) (h.changes.locks, h.statements))

definition_kept : (m : DefinitionMark) (p : Parts) → AreLawful p → Then AreLawful (definition_step m p)
definition_kept (d.Create storage) p h = lifted (λ (z : List Identifier × List CreateTable). Every LawfulName z.0 × Every LawfulCreate z.1) (λ (z : Parts). AreLawful z) (definition.begin_table storage (p.leaves.names, p.definitions.tables)) (λ x. record p { leaves = record p.leaves { names = x.0 }; definitions = record p.definitions { tables = x.1 } }) (λ x k. record { leaves = record { names = k.0; name_lists = h.leaves.name_lists; aliases = h.leaves.aliases; numbers = h.leaves.numbers; literals = h.leaves.literals; types = h.leaves.types }; expressions = h.expressions; queries = h.queries; changes = h.changes; definitions = record { tables = k.1; columns = h.definitions.columns; headers = h.definitions.headers; keys = h.definitions.keys; constraints = h.definitions.constraints }; statements = h.statements }) (begin_table_in_definition storage (p.leaves.names, p.definitions.tables) (h.leaves.names, h.definitions.tables))
definition_kept d.ColumnElement p h = lifted (λ (z : List ColumnDefinition × List CreateTable). Every LawfulColumn z.0 × Every LawfulCreate z.1) (λ (z : Parts). AreLawful z) (definition.column_element (p.definitions.columns, p.definitions.tables)) (λ x. record p { definitions = record p.definitions { columns = x.0; tables = x.1 } }) (λ x k. record { leaves = h.leaves; expressions = h.expressions; queries = h.queries; changes = h.changes; definitions = record { tables = k.1; columns = k.0; headers = h.definitions.headers; keys = h.definitions.keys; constraints = h.definitions.constraints }; statements = h.statements }) (column_element_in_definition (p.definitions.columns, p.definitions.tables) (h.definitions.columns, h.definitions.tables))
definition_kept d.ConstraintElement p h = lifted (λ (z : List TableConstraint × List CreateTable). Every LawfulConstraint z.0 × Every LawfulCreate z.1) (λ (z : Parts). AreLawful z) (definition.constraint_element (p.definitions.constraints, p.definitions.tables)) (λ x. record p { definitions = record p.definitions { constraints = x.0; tables = x.1 } }) (λ x k. record { leaves = h.leaves; expressions = h.expressions; queries = h.queries; changes = h.changes; definitions = record { tables = k.1; columns = h.definitions.columns; headers = h.definitions.headers; keys = h.definitions.keys; constraints = k.0 }; statements = h.statements }) (constraint_element_in_definition (p.definitions.constraints, p.definitions.tables) (h.definitions.constraints, h.definitions.tables))
definition_kept d.CreateStatement p h = lifted (λ (z : List CreateTable × List Stmt). Every LawfulCreate z.0 × Every LawfulStatement z.1) (λ (z : Parts). AreLawful z) (definition.create_statement (p.definitions.tables, p.statements)) (λ x. record p { definitions = record p.definitions { tables = x.0 }; statements = x.1 }) (λ x k. record { leaves = h.leaves; expressions = h.expressions; queries = h.queries; changes = h.changes; definitions = record { tables = k.0; columns = h.definitions.columns; headers = h.definitions.headers; keys = h.definitions.keys; constraints = h.definitions.constraints }; statements = k.1 }) (create_statement_in_definition (p.definitions.tables, p.statements) (h.definitions.tables, h.statements))
definition_kept d.CreateIndex p h = lifted (λ (z : List Identifier × List (List Identifier) × List Stmt). Every LawfulName z.0 × Every LawfulNames z.1 × Every LawfulStatement z.2) (λ (z : Parts). AreLawful z) (definition.create_index (p.leaves.names, p.leaves.name_lists, p.statements)) (λ x. record p { leaves = record p.leaves { names = x.0; name_lists = x.1 }; statements = x.2 }) (λ x k. record { leaves = record { names = k.0; name_lists = k.1; aliases = h.leaves.aliases; numbers = h.leaves.numbers; literals = h.leaves.literals; types = h.leaves.types }; expressions = h.expressions; queries = h.queries; changes = h.changes; definitions = h.definitions; statements = k.2 }) (create_index_in_definition (p.leaves.names, p.leaves.name_lists, p.statements) (h.leaves.names, h.leaves.name_lists, h.statements))
definition_kept d.Define p h = lifted (λ (z : List Identifier × List DataType × List ColumnDefinition). Every LawfulName z.0 × Every LawfulType z.1 × Every LawfulColumn z.2) (λ (z : Parts). AreLawful z) (definition.define (p.leaves.names, p.leaves.types, p.definitions.columns)) (λ x. record p { leaves = record p.leaves { names = x.0; types = x.1 }; definitions = record p.definitions { columns = x.2 } }) (λ x k. record { leaves = record { names = k.0; name_lists = h.leaves.name_lists; aliases = h.leaves.aliases; numbers = h.leaves.numbers; literals = h.leaves.literals; types = k.1 }; expressions = h.expressions; queries = h.queries; changes = h.changes; definitions = record { tables = h.definitions.tables; columns = k.2; headers = h.definitions.headers; keys = h.definitions.keys; constraints = h.definitions.constraints }; statements = h.statements }) (define_in_definition (p.leaves.names, p.leaves.types, p.definitions.columns) (h.leaves.names, h.leaves.types, h.definitions.columns))
definition_kept d.Default p h = lifted (λ (z : List PlacedLiteral × List ColumnDefinition). Every LawfulLiteral z.0 × Every LawfulColumn z.1) (λ (z : Parts). AreLawful z) (definition.default (p.leaves.literals, p.definitions.columns)) (λ x. record p { leaves = record p.leaves { literals = x.0 }; definitions = record p.definitions { columns = x.1 } }) (λ x k. record { leaves = record { names = h.leaves.names; name_lists = h.leaves.name_lists; aliases = h.leaves.aliases; numbers = h.leaves.numbers; literals = k.0; types = h.leaves.types }; expressions = h.expressions; queries = h.queries; changes = h.changes; definitions = record { tables = h.definitions.tables; columns = k.1; headers = h.definitions.headers; keys = h.definitions.keys; constraints = h.definitions.constraints }; statements = h.statements }) (default_in_definition (p.leaves.literals, p.definitions.columns) (h.leaves.literals, h.definitions.columns))
definition_kept d.Named p h = lifted (λ (z : List ℕ × List Identifier × List ConstraintHeader). Every LawfulName z.1 × Every LawfulHeader z.2) (λ (z : Parts). AreLawful z) (definition.named (p.leaves.places, p.leaves.names, p.definitions.headers)) (λ x. record p { leaves = record p.leaves { places = x.0; names = x.1 }; definitions = record p.definitions { headers = x.2 } }) (λ x k. record { leaves = record { names = k.0; name_lists = h.leaves.name_lists; aliases = h.leaves.aliases; numbers = h.leaves.numbers; literals = h.leaves.literals; types = h.leaves.types }; expressions = h.expressions; queries = h.queries; changes = h.changes; definitions = record { tables = h.definitions.tables; columns = h.definitions.columns; headers = k.1; keys = h.definitions.keys; constraints = h.definitions.constraints }; statements = h.statements }) (named_in_definition (p.leaves.places, p.leaves.names, p.definitions.headers) (h.leaves.names, h.definitions.headers))
definition_kept d.Unnamed p h = lifted (λ (z : List ℕ × List ConstraintHeader). Every LawfulHeader z.1) (λ (z : Parts). AreLawful z) (definition.unnamed (p.leaves.places, p.definitions.headers)) (λ x. record p { leaves = record p.leaves { places = x.0 }; definitions = record p.definitions { headers = x.1 } }) (λ x k. record { leaves = record { names = h.leaves.names; name_lists = h.leaves.name_lists; aliases = h.leaves.aliases; numbers = h.leaves.numbers; literals = h.leaves.literals; types = h.leaves.types }; expressions = h.expressions; queries = h.queries; changes = h.changes; definitions = record { tables = h.definitions.tables; columns = h.definitions.columns; headers = k; keys = h.definitions.keys; constraints = h.definitions.constraints }; statements = h.statements }) (unnamed_in_definition (p.leaves.places, p.definitions.headers) h.definitions.headers)
definition_kept d.NotNull p h = lifted (λ (z : List ConstraintHeader × List ColumnDefinition). Every LawfulHeader z.0 × Every LawfulColumn z.1) (λ (z : Parts). AreLawful z) (definition.not_null (p.definitions.headers, p.definitions.columns)) (λ x. record p { definitions = record p.definitions { headers = x.0; columns = x.1 } }) (λ x k. record { leaves = h.leaves; expressions = h.expressions; queries = h.queries; changes = h.changes; definitions = record { tables = h.definitions.tables; columns = k.1; headers = k.0; keys = h.definitions.keys; constraints = h.definitions.constraints }; statements = h.statements }) (add_rule_in_definition column.NotNull (p.definitions.headers, p.definitions.columns) refl (h.definitions.headers, h.definitions.columns))
definition_kept d.ColumnPrimary p h = lifted (λ (z : List ConstraintHeader × List ColumnDefinition). Every LawfulHeader z.0 × Every LawfulColumn z.1) (λ (z : Parts). AreLawful z) (definition.column_primary (p.definitions.headers, p.definitions.columns)) (λ x. record p { definitions = record p.definitions { headers = x.0; columns = x.1 } }) (λ x k. record { leaves = h.leaves; expressions = h.expressions; queries = h.queries; changes = h.changes; definitions = record { tables = h.definitions.tables; columns = k.1; headers = k.0; keys = h.definitions.keys; constraints = h.definitions.constraints }; statements = h.statements }) (add_rule_in_definition column.PrimaryKey (p.definitions.headers, p.definitions.columns) refl (h.definitions.headers, h.definitions.columns))
definition_kept d.ColumnUnique p h = lifted (λ (z : List ConstraintHeader × List ColumnDefinition). Every LawfulHeader z.0 × Every LawfulColumn z.1) (λ (z : Parts). AreLawful z) (definition.column_unique (p.definitions.headers, p.definitions.columns)) (λ x. record p { definitions = record p.definitions { headers = x.0; columns = x.1 } }) (λ x k. record { leaves = h.leaves; expressions = h.expressions; queries = h.queries; changes = h.changes; definitions = record { tables = h.definitions.tables; columns = k.1; headers = k.0; keys = h.definitions.keys; constraints = h.definitions.constraints }; statements = h.statements }) (add_rule_in_definition column.Unique (p.definitions.headers, p.definitions.columns) refl (h.definitions.headers, h.definitions.columns))
definition_kept d.ColumnCheck p h = lifted (λ (z : List Built × List ConstraintHeader × List ColumnDefinition). Every LawfulBuilt z.0 × Every LawfulHeader z.1 × Every LawfulColumn z.2) (λ (z : Parts). AreLawful z) (definition.column_check (p.expressions.whole, p.definitions.headers, p.definitions.columns)) (λ x. record p { expressions = record p.expressions { whole = x.0 }; definitions = record p.definitions { headers = x.1; columns = x.2 } }) (λ x k. record { leaves = h.leaves; expressions = record { whole = k.0; lists = h.expressions.lists; cases = h.expressions.cases; counts = h.expressions.counts; optional = h.expressions.optional }; queries = h.queries; changes = h.changes; definitions = record { tables = h.definitions.tables; columns = k.2; headers = k.1; keys = h.definitions.keys; constraints = h.definitions.constraints }; statements = h.statements }) (column_check_in_definition (p.expressions.whole, p.definitions.headers, p.definitions.columns) (h.expressions.whole, h.definitions.headers, h.definitions.columns))
definition_kept d.ColumnReferences p h = lifted (λ (z : List ForeignKey × List ConstraintHeader × List ColumnDefinition). Every LawfulKey z.0 × Every LawfulHeader z.1 × Every LawfulColumn z.2) (λ (z : Parts). AreLawful z) (definition.column_references (p.definitions.keys, p.definitions.headers, p.definitions.columns)) (λ x. record p { definitions = record p.definitions { keys = x.0; headers = x.1; columns = x.2 } }) (λ x k. record { leaves = h.leaves; expressions = h.expressions; queries = h.queries; changes = h.changes; definitions = record { tables = h.definitions.tables; columns = k.2; headers = k.1; keys = k.0; constraints = h.definitions.constraints }; statements = h.statements }) (column_references_in_definition (p.definitions.keys, p.definitions.headers, p.definitions.columns) (h.definitions.keys, h.definitions.headers, h.definitions.columns))
definition_kept d.References p h = lifted (λ (z : List Identifier × List ForeignKey). Every LawfulName z.0 × Every LawfulKey z.1) (λ (z : Parts). AreLawful z) (definition.references (p.leaves.names, p.definitions.keys)) (λ x. record p { leaves = record p.leaves { names = x.0 }; definitions = record p.definitions { keys = x.1 } }) (λ x k. record { leaves = record { names = k.0; name_lists = h.leaves.name_lists; aliases = h.leaves.aliases; numbers = h.leaves.numbers; literals = h.leaves.literals; types = h.leaves.types }; expressions = h.expressions; queries = h.queries; changes = h.changes; definitions = record { tables = h.definitions.tables; columns = h.definitions.columns; headers = h.definitions.headers; keys = k.1; constraints = h.definitions.constraints }; statements = h.statements }) (references_in_definition (p.leaves.names, p.definitions.keys) (h.leaves.names, h.definitions.keys))
definition_kept d.ParentColumns p h = lifted (λ (z : List (List Identifier) × List ForeignKey). Every LawfulNames z.0 × Every LawfulKey z.1) (λ (z : Parts). AreLawful z) (definition.parent_columns (p.leaves.name_lists, p.definitions.keys)) (λ x. record p { leaves = record p.leaves { name_lists = x.0 }; definitions = record p.definitions { keys = x.1 } }) (λ x k. record { leaves = record { names = h.leaves.names; name_lists = k.0; aliases = h.leaves.aliases; numbers = h.leaves.numbers; literals = h.leaves.literals; types = h.leaves.types }; expressions = h.expressions; queries = h.queries; changes = h.changes; definitions = record { tables = h.definitions.tables; columns = h.definitions.columns; headers = h.definitions.headers; keys = k.1; constraints = h.definitions.constraints }; statements = h.statements }) (parent_columns_in_definition (p.leaves.name_lists, p.definitions.keys) (h.leaves.name_lists, h.definitions.keys))
definition_kept (d.Action _) p h = record { leaves = h.leaves; expressions = h.expressions; queries = h.queries; changes = h.changes; definitions = record { tables = h.definitions.tables; columns = h.definitions.columns; headers = h.definitions.headers; keys = h.definitions.keys; constraints = h.definitions.constraints }; statements = h.statements }
definition_kept d.OnDelete p h = lifted (λ (z : List ReferentialAction × List ForeignKey). Every LawfulKey z.1) (λ (z : Parts). AreLawful z) (definition.on_delete (p.definitions.actions, p.definitions.keys)) (λ x. record p { definitions = record p.definitions { actions = x.0; keys = x.1 } }) (λ x k. record { leaves = h.leaves; expressions = h.expressions; queries = h.queries; changes = h.changes; definitions = record { tables = h.definitions.tables; columns = h.definitions.columns; headers = h.definitions.headers; keys = k; constraints = h.definitions.constraints }; statements = h.statements }) (on_delete_in_definition (p.definitions.actions, p.definitions.keys) h.definitions.keys)
definition_kept d.OnUpdate p h = lifted (λ (z : List ReferentialAction × List ForeignKey). Every LawfulKey z.1) (λ (z : Parts). AreLawful z) (definition.on_update (p.definitions.actions, p.definitions.keys)) (λ x. record p { definitions = record p.definitions { actions = x.0; keys = x.1 } }) (λ x k. record { leaves = h.leaves; expressions = h.expressions; queries = h.queries; changes = h.changes; definitions = record { tables = h.definitions.tables; columns = h.definitions.columns; headers = h.definitions.headers; keys = k; constraints = h.definitions.constraints }; statements = h.statements }) (on_update_in_definition (p.definitions.actions, p.definitions.keys) h.definitions.keys)
definition_kept d.TablePrimary p h = lifted (λ (z : List ConstraintHeader × List (List Identifier) × List TableConstraint). Every LawfulHeader z.0 × Every LawfulNames z.1 × Every LawfulConstraint z.2) (λ (z : Parts). AreLawful z) (definition.table_primary (p.definitions.headers, p.leaves.name_lists, p.definitions.constraints)) (λ x. record p { leaves = record p.leaves { name_lists = x.1 }; definitions = record p.definitions { headers = x.0; constraints = x.2 } }) (λ x k. record { leaves = record { names = h.leaves.names; name_lists = k.1; aliases = h.leaves.aliases; numbers = h.leaves.numbers; literals = h.leaves.literals; types = h.leaves.types }; expressions = h.expressions; queries = h.queries; changes = h.changes; definitions = record { tables = h.definitions.tables; columns = h.definitions.columns; headers = k.0; keys = h.definitions.keys; constraints = k.2 }; statements = h.statements }) (table_primary_in_definition (p.definitions.headers, p.leaves.name_lists, p.definitions.constraints) (h.definitions.headers, h.leaves.name_lists, h.definitions.constraints))
definition_kept d.TableUnique p h = lifted (λ (z : List ConstraintHeader × List (List Identifier) × List TableConstraint). Every LawfulHeader z.0 × Every LawfulNames z.1 × Every LawfulConstraint z.2) (λ (z : Parts). AreLawful z) (definition.table_unique (p.definitions.headers, p.leaves.name_lists, p.definitions.constraints)) (λ x. record p { leaves = record p.leaves { name_lists = x.1 }; definitions = record p.definitions { headers = x.0; constraints = x.2 } }) (λ x k. record { leaves = record { names = h.leaves.names; name_lists = k.1; aliases = h.leaves.aliases; numbers = h.leaves.numbers; literals = h.leaves.literals; types = h.leaves.types }; expressions = h.expressions; queries = h.queries; changes = h.changes; definitions = record { tables = h.definitions.tables; columns = h.definitions.columns; headers = k.0; keys = h.definitions.keys; constraints = k.2 }; statements = h.statements }) (table_unique_in_definition (p.definitions.headers, p.leaves.name_lists, p.definitions.constraints) (h.definitions.headers, h.leaves.name_lists, h.definitions.constraints))
definition_kept d.TableCheck p h = lifted (λ (z : List Built × List ConstraintHeader × List TableConstraint). Every LawfulBuilt z.0 × Every LawfulHeader z.1 × Every LawfulConstraint z.2) (λ (z : Parts). AreLawful z) (definition.table_check (p.expressions.whole, p.definitions.headers, p.definitions.constraints)) (λ x. record p { expressions = record p.expressions { whole = x.0 }; definitions = record p.definitions { headers = x.1; constraints = x.2 } }) (λ x k. record { leaves = h.leaves; expressions = record { whole = k.0; lists = h.expressions.lists; cases = h.expressions.cases; counts = h.expressions.counts; optional = h.expressions.optional }; queries = h.queries; changes = h.changes; definitions = record { tables = h.definitions.tables; columns = h.definitions.columns; headers = k.1; keys = h.definitions.keys; constraints = k.2 }; statements = h.statements }) (table_check_in_definition (p.expressions.whole, p.definitions.headers, p.definitions.constraints) (h.expressions.whole, h.definitions.headers, h.definitions.constraints))
definition_kept d.TableForeign p h = lifted (λ (z : List ConstraintHeader × List (List Identifier) × List ForeignKey × List TableConstraint). Every LawfulHeader z.0 × Every LawfulNames z.1 × Every LawfulKey z.2 × Every LawfulConstraint z.3) (λ (z : Parts). AreLawful z) (definition.table_foreign (p.definitions.headers, p.leaves.name_lists, p.definitions.keys, p.definitions.constraints)) (λ x. record p { leaves = record p.leaves { name_lists = x.1 }; definitions = record p.definitions { headers = x.0; keys = x.2; constraints = x.3 } }) (λ x k. record { leaves = record { names = h.leaves.names; name_lists = k.1; aliases = h.leaves.aliases; numbers = h.leaves.numbers; literals = h.leaves.literals; types = h.leaves.types }; expressions = h.expressions; queries = h.queries; changes = h.changes; definitions = record { tables = h.definitions.tables; columns = h.definitions.columns; headers = k.0; keys = k.2; constraints = k.3 }; statements = h.statements }) (table_foreign_in_definition (p.definitions.headers, p.leaves.name_lists, p.definitions.keys, p.definitions.constraints) (h.definitions.headers, h.leaves.name_lists, h.definitions.keys, h.definitions.constraints))
definition_kept d.AddColumn p h = lifted (λ (z : List Identifier × List ColumnDefinition × List Stmt). Every LawfulName z.0 × Every LawfulColumn z.1 × Every LawfulStatement z.2) (λ (z : Parts). AreLawful z) (definition.add_column (p.leaves.names, p.definitions.columns, p.statements)) (λ x. record p { leaves = record p.leaves { names = x.0 }; definitions = record p.definitions { columns = x.1 }; statements = x.2 }) (λ x k. record { leaves = record { names = k.0; name_lists = h.leaves.name_lists; aliases = h.leaves.aliases; numbers = h.leaves.numbers; literals = h.leaves.literals; types = h.leaves.types }; expressions = h.expressions; queries = h.queries; changes = h.changes; definitions = record { tables = h.definitions.tables; columns = k.1; headers = h.definitions.headers; keys = h.definitions.keys; constraints = h.definitions.constraints }; statements = k.2 }) (add_column_in_definition (p.leaves.names, p.definitions.columns, p.statements) (h.leaves.names, h.definitions.columns, h.statements))
definition_kept d.AddConstraint p h = lifted (λ (z : List Identifier × List TableConstraint × List Stmt). Every LawfulName z.0 × Every LawfulConstraint z.1 × Every LawfulStatement z.2) (λ (z : Parts). AreLawful z) (definition.add_constraint (p.leaves.names, p.definitions.constraints, p.statements)) (λ x. record p { leaves = record p.leaves { names = x.0 }; definitions = record p.definitions { constraints = x.1 }; statements = x.2 }) (λ x k. record { leaves = record { names = k.0; name_lists = h.leaves.name_lists; aliases = h.leaves.aliases; numbers = h.leaves.numbers; literals = h.leaves.literals; types = h.leaves.types }; expressions = h.expressions; queries = h.queries; changes = h.changes; definitions = record { tables = h.definitions.tables; columns = h.definitions.columns; headers = h.definitions.headers; keys = h.definitions.keys; constraints = k.1 }; statements = k.2 }) (add_constraint_in_definition (p.leaves.names, p.definitions.constraints, p.statements) (h.leaves.names, h.definitions.constraints, h.statements))
definition_kept d.DropConstraint p h = lifted (λ (z : List Identifier × List Stmt). Every LawfulName z.0 × Every LawfulStatement z.1) (λ (z : Parts). AreLawful z) (definition.drop_constraint (p.leaves.names, p.statements)) (λ x. record p { leaves = record p.leaves { names = x.0 }; statements = x.1 }) (λ x k. record { leaves = record { names = k.0; name_lists = h.leaves.name_lists; aliases = h.leaves.aliases; numbers = h.leaves.numbers; literals = h.leaves.literals; types = h.leaves.types }; expressions = h.expressions; queries = h.queries; changes = h.changes; definitions = h.definitions; statements = k.1 }) (drop_constraint_in_definition (p.leaves.names, p.statements) (h.leaves.names, h.statements))
definition_kept d.DropTable p h = lifted (λ (z : List Identifier × List Stmt). Every LawfulName z.0 × Every LawfulStatement z.1) (λ (z : Parts). AreLawful z) (definition.drop_table (p.leaves.names, p.statements)) (λ x. record p { leaves = record p.leaves { names = x.0 }; statements = x.1 }) (λ x k. record { leaves = record { names = k.0; name_lists = h.leaves.name_lists; aliases = h.leaves.aliases; numbers = h.leaves.numbers; literals = h.leaves.literals; types = h.leaves.types }; expressions = h.expressions; queries = h.queries; changes = h.changes; definitions = h.definitions; statements = k.1 }) (drop_table_in_definition (p.leaves.names, p.statements) (h.leaves.names, h.statements))
definition_kept d.DropIndex p h = lifted (λ (z : List Identifier × List Stmt). Every LawfulName z.0 × Every LawfulStatement z.1) (λ (z : Parts). AreLawful z) (definition.drop_index (p.leaves.names, p.statements)) (λ x. record p { leaves = record p.leaves { names = x.0 }; statements = x.1 }) (λ x k. record { leaves = record { names = k.0; name_lists = h.leaves.name_lists; aliases = h.leaves.aliases; numbers = h.leaves.numbers; literals = h.leaves.literals; types = h.leaves.types }; expressions = h.expressions; queries = h.queries; changes = h.changes; definitions = h.definitions; statements = k.1 }) (drop_index_in_definition (p.leaves.names, p.statements) (h.leaves.names, h.statements))

session_kept : (m : SessionMark) (p : Parts) → AreLawful p → Then AreLawful (session_step m p)
session_kept s.Modes p h = lifted (λ (z : List Modes). Unit {0}) (λ (z : Parts). AreLawful z) (session.begin_modes p.modes) (λ x. record p { modes = x }) (λ x k. record { leaves = h.leaves; expressions = h.expressions; queries = h.queries; changes = h.changes; definitions = h.definitions; statements = h.statements }) (begin_modes_in_session p.modes tt)
session_kept (s.Level isolation) p h = lifted (λ (z : List Modes). Unit {0}) (λ (z : Parts). AreLawful z) (session.level isolation p.modes) (λ x. record p { modes = x }) (λ x k. record { leaves = h.leaves; expressions = h.expressions; queries = h.queries; changes = h.changes; definitions = h.definitions; statements = h.statements }) (level_in_session isolation p.modes tt)
session_kept (s.Access access) p h = lifted (λ (z : List Modes). Unit {0}) (λ (z : Parts). AreLawful z) (session.access access p.modes) (λ x. record p { modes = x }) (λ x k. record { leaves = h.leaves; expressions = h.expressions; queries = h.queries; changes = h.changes; definitions = h.definitions; statements = h.statements }) (access_in_session access p.modes tt)
session_kept s.SetTransaction p h = lifted (λ (z : List Modes × List Stmt). Every LawfulStatement z.1) (λ (z : Parts). AreLawful z) (session.set_transaction (p.modes, p.statements)) (λ x. record p { modes = x.0; statements = x.1 }) (λ x k. record { leaves = h.leaves; expressions = h.expressions; queries = h.queries; changes = h.changes; definitions = h.definitions; statements = k }) (set_transaction_in_session (p.modes, p.statements) h.statements)
session_kept s.SetCharacteristics p h = lifted (λ (z : List Modes × List Stmt). Every LawfulStatement z.1) (λ (z : Parts). AreLawful z) (session.set_characteristics (p.modes, p.statements)) (λ x. record p { modes = x.0; statements = x.1 }) (λ x k. record { leaves = h.leaves; expressions = h.expressions; queries = h.queries; changes = h.changes; definitions = h.definitions; statements = k }) (set_characteristics_in_session (p.modes, p.statements) h.statements)
session_kept s.Start p h = lifted (λ (z : List Modes × List Stmt). Every LawfulStatement z.1) (λ (z : Parts). AreLawful z) (session.start (p.modes, p.statements)) (λ x. record p { modes = x.0; statements = x.1 }) (λ x k. record { leaves = h.leaves; expressions = h.expressions; queries = h.queries; changes = h.changes; definitions = h.definitions; statements = k }) (start_in_session (p.modes, p.statements) h.statements)
session_kept s.Commit p h = lifted (λ (z : List Stmt). Every LawfulStatement z) (λ (z : Parts). AreLawful z) (session.commit p.statements) (λ x. record p { statements = x }) (λ x k. record { leaves = h.leaves; expressions = h.expressions; queries = h.queries; changes = h.changes; definitions = h.definitions; statements = k }) (commit_in_session p.statements h.statements)
session_kept s.Rollback p h = lifted (λ (z : List Stmt). Every LawfulStatement z) (λ (z : Parts). AreLawful z) (session.rollback p.statements) (λ x. record p { statements = x }) (λ x k. record { leaves = h.leaves; expressions = h.expressions; queries = h.queries; changes = h.changes; definitions = h.definitions; statements = k }) (rollback_in_session p.statements h.statements)
session_kept s.Savepoint p h = lifted (λ (z : List Identifier × List Stmt). Every LawfulName z.0 × Every LawfulStatement z.1) (λ (z : Parts). AreLawful z) (session.savepoint (p.leaves.names, p.statements)) (λ x. record p { leaves = record p.leaves { names = x.0 }; statements = x.1 }) (λ x k. record { leaves = record { names = k.0; name_lists = h.leaves.name_lists; aliases = h.leaves.aliases; numbers = h.leaves.numbers; literals = h.leaves.literals; types = h.leaves.types }; expressions = h.expressions; queries = h.queries; changes = h.changes; definitions = h.definitions; statements = k.1 }) (savepoint_in_session (p.leaves.names, p.statements) (h.leaves.names, h.statements))
session_kept s.RollbackTo p h = lifted (λ (z : List Identifier × List Stmt). Every LawfulName z.0 × Every LawfulStatement z.1) (λ (z : Parts). AreLawful z) (session.rollback_to (p.leaves.names, p.statements)) (λ x. record p { leaves = record p.leaves { names = x.0 }; statements = x.1 }) (λ x k. record { leaves = record { names = k.0; name_lists = h.leaves.name_lists; aliases = h.leaves.aliases; numbers = h.leaves.numbers; literals = h.leaves.literals; types = h.leaves.types }; expressions = h.expressions; queries = h.queries; changes = h.changes; definitions = h.definitions; statements = k.1 }) (rollback_to_in_session (p.leaves.names, p.statements) (h.leaves.names, h.statements))
session_kept s.Release p h = lifted (λ (z : List Identifier × List Stmt). Every LawfulName z.0 × Every LawfulStatement z.1) (λ (z : Parts). AreLawful z) (session.release (p.leaves.names, p.statements)) (λ x. record p { leaves = record p.leaves { names = x.0 }; statements = x.1 }) (λ x k. record { leaves = record { names = k.0; name_lists = h.leaves.name_lists; aliases = h.leaves.aliases; numbers = h.leaves.numbers; literals = h.leaves.literals; types = h.leaves.types }; expressions = h.expressions; queries = h.queries; changes = h.changes; definitions = h.definitions; statements = k.1 }) (release_in_session (p.leaves.names, p.statements) (h.leaves.names, h.statements))
session_kept (s.Autocommit on) p h = lifted (λ (z : List Stmt). Every LawfulStatement z) (λ (z : Parts). AreLawful z) (session.autocommit on p.statements) (λ x. record p { statements = x }) (λ x k. record { leaves = h.leaves; expressions = h.expressions; queries = h.queries; changes = h.changes; definitions = h.definitions; statements = k }) (autocommit_in_session on p.statements h.statements)
session_kept (s.Control control) p h = lifted (λ (z : List Stmt). Every LawfulStatement z) (λ (z : Parts). AreLawful z) (session.control control p.statements) (λ x. record p { statements = x }) (λ x k. record { leaves = h.leaves; expressions = h.expressions; queries = h.queries; changes = h.changes; definitions = h.definitions; statements = k }) (control_in_session control p.statements h.statements)
session_kept (s.DefaultLevel isolation) p h = lifted (λ (z : List Stmt). Every LawfulStatement z) (λ (z : Parts). AreLawful z) (session.default_level isolation p.statements) (λ x. record p { statements = x }) (λ x k. record { leaves = h.leaves; expressions = h.expressions; queries = h.queries; changes = h.changes; definitions = h.definitions; statements = k }) (default_level_in_session isolation p.statements h.statements)
session_kept s.WriteDelayFalse p h = lifted (λ (z : List Stmt). Every LawfulStatement z) (λ (z : Parts). AreLawful z) (session.write_delay_false p.statements) (λ x. record p { statements = x }) (λ x k. record { leaves = h.leaves; expressions = h.expressions; queries = h.queries; changes = h.changes; definitions = h.definitions; statements = k }) (write_delay_false_in_session p.statements h.statements)
session_kept s.Checkpoint p h = lifted (λ (z : List Stmt). Every LawfulStatement z) (λ (z : Parts). AreLawful z) (session.checkpoint p.statements) (λ x. record p { statements = x }) (λ x k. record { leaves = h.leaves; expressions = h.expressions; queries = h.queries; changes = h.changes; definitions = h.definitions; statements = k }) (checkpoint_in_session p.statements h.statements)
session_kept s.Shutdown p h = lifted (λ (z : List Stmt). Every LawfulStatement z) (λ (z : Parts). AreLawful z) (session.shutdown p.statements) (λ x. record p { statements = x }) (λ x k. record { leaves = h.leaves; expressions = h.expressions; queries = h.queries; changes = h.changes; definitions = h.definitions; statements = k }) (shutdown_in_session p.statements h.statements)

-- ---- any mark

behind : (step : Step Parts) → Then (λ (z : Parts). AreLawful z) step → IsLawfulBehind step
behind (stands p) h = h
behind (deep p) h = h
behind wrong h = tt

step_kept : (text : List ℕ) (token : Token) (here : ℕ) (m : Mark) (p : Parts) → IsFit text token m p → AreLawful p → Then (λ (z : Parts). AreLawful z) (step text token here m p)
step_kept text token here (mark.Leaf m) p fits h =
    lifted LeafAfter (λ (z : Parts). AreLawful z) (leaf_step text token here m p.leaves) (λ x. record p { leaves = x })
    (λ x k. record { leaves = k; expressions = h.expressions; queries = h.queries; changes = h.changes; definitions = h.definitions; statements = h.statements }) (leaf_kept text token here m p.leaves fits h.leaves)
step_kept text token here (mark.Expression m) p fits h =
    lifted ExpressionAfter (λ (z : Parts). AreLawful z) (expression_step m (p.leaves, p.expressions, p.queries)) (λ x. record p { leaves = x.0; expressions = x.1; queries = x.2 })
    (λ x k. record { leaves = k.0; expressions = k.1; queries = k.2; changes = h.changes; definitions = h.definitions; statements = h.statements }) (expression_kept m p.leaves p.expressions p.queries fits h.leaves h.expressions h.queries)
step_kept text token here (mark.Function m) p fits h =
    lifted FunctionAfter (λ (z : Parts). AreLawful z) (function_step token m (p.leaves, p.expressions)) (λ x. record p { leaves = x.0; expressions = x.1 })
    (λ x k. record { leaves = k.0; expressions = k.1; queries = h.queries; changes = h.changes; definitions = h.definitions; statements = h.statements }) (function_kept token m p.leaves p.expressions h.leaves h.expressions)
step_kept text token here (mark.Query m) p fits h =
    lifted QueryAfter (λ (z : Parts). AreLawful z) (query_step token m (p.leaves, p.expressions, p.queries)) (λ x. record p { leaves = x.0; expressions = x.1; queries = x.2 })
    (λ x k. record { leaves = k.0; expressions = k.1; queries = k.2; changes = h.changes; definitions = h.definitions; statements = h.statements }) (query_kept token m p.leaves p.expressions p.queries fits h.leaves h.expressions h.queries)
step_kept text token here (mark.Change m) p fits h = change_kept token m p h
step_kept text token here (mark.Definition m) p fits h = definition_kept m p h
step_kept text token here (mark.Session m) p fits h = session_kept m p h

pub step_keeps : (text : List ℕ) (token : Token) (here : ℕ) (m : Mark) (p : Parts) → IsFit text token m p → AreLawful p → IsLawfulBehind (step text token here m p)
step_keeps text token here m p fits h = behind (step text token here m p) (step_kept text token here m p fits h)

-- ---- before the first mark and behind the last one

pub none_lawful : AreLawful no_parts
none_lawful = record {
  leaves = record { names = tt; name_lists = tt; aliases = tt; numbers = tt; literals = tt; types = tt };
  expressions = record { whole = tt; lists = tt; cases = tt; counts = tt; optional = tt };
  queries = record { selects = tt; tables = tt; froms = tt; rows = tt; bodies = tt; whole = tt };
  changes = record { targets = tt; tuples = tt; tuple_lists = tt; updates = tt; deletes = tt; locks = tt };
  definitions = record { tables = tt; columns = tt; headers = tt; keys = tt; constraints = tt };
  statements = tt;
}

pub topmost_lawful : (statements : List Stmt) → Every LawfulStatement statements → Then LawfulStatement (topmost statements)
topmost_lawful [] h = tt
topmost_lawful (s ∷ below) (h, hs) = h
