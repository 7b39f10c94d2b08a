-- Each step makes lawful parts of lawful ones.
use Rattle.std.proofs.Common.{◌≡◌, ℕ, ◌+◌, ◌^◌, ◌-◌, arith, suc, zero, Bool, true, false, ◌&&◌, List, [], ◌∷◌, ◌++◌, Option, Some, None, refl, ap, ◌∙◌}
use Rattle.std.specs.Prelude.{ℤ, pos, negsuc, ◌-ℤ◌, nat_le, nat_lt, max, unwrap_or, cond}
use Rattle.std.proofs.lemmas.Bool.Decides.{nat_tests}
use Rattle.std.specs.List.{list_all}
use Rattle.hs_ast.specs.Lawful as law
use Rattle.hs_ast.specs.Lawful.{is_lawful, is_lawful_query, is_identifier, if_written}
use Rattle.hs_ast.specs.declared.change.Delete.{Delete}
use Rattle.hs_ast.specs.declared.change.LockedTable.{LockedTable}
use Rattle.hs_ast.specs.declared.change.NewValue.{NewValue}
use Rattle.hs_ast.specs.declared.change.NewValue.TheVariants as value
use Rattle.hs_ast.specs.declared.change.Update.{Update}
use Rattle.hs_ast.specs.declared.definition.ColumnDefinition.{ColumnDefinition}
use Rattle.hs_ast.specs.declared.definition.ColumnRule.{ColumnRule}
use Rattle.hs_ast.specs.declared.definition.ColumnRule.TheVariants as column
use Rattle.hs_ast.specs.declared.definition.CreateTable.{CreateTable}
use Rattle.hs_ast.specs.declared.definition.DataType.{DataType}
use Rattle.hs_ast.specs.declared.definition.ForeignKey.{ForeignKey}
use Rattle.hs_ast.specs.declared.definition.ReferentialAction.{ReferentialAction}
use Rattle.hs_ast.specs.declared.definition.Storage.{Storage}
use Rattle.hs_ast.specs.declared.definition.TableConstraint.{TableConstraint}
use Rattle.hs_ast.specs.declared.definition.TableElement.TheVariants as element
use Rattle.hs_ast.specs.declared.expression.Aggregate.{Aggregate}
use Rattle.hs_ast.specs.declared.expression.BinaryOperator.{BinaryOperator}
use Rattle.hs_ast.specs.declared.expression.CaseArm.{roll-CaseArm}
use Rattle.hs_ast.specs.declared.expression.DateField.{DateField}
use Rattle.hs_ast.specs.declared.expression.Expression.{Expression}
use Rattle.hs_ast.specs.declared.expression.ExpressionKind.TheVariants as kind
use Rattle.hs_ast.specs.declared.expression.Function.{Function}
use Rattle.hs_ast.specs.declared.expression.IntervalUnit.{IntervalUnit}
use Rattle.hs_ast.specs.declared.expression.Sign.{Sign}
use Rattle.hs_ast.specs.declared.expression.Sign.TheVariants.{Plus, Minus}
use Rattle.hs_ast.specs.declared.expression.TrimForm.{TrimForm}
use Rattle.hs_ast.specs.declared.literal.Literal.{Literal}
use Rattle.hs_ast.specs.declared.literal.Literal.TheVariants as literal
use Rattle.hs_ast.specs.declared.literal.Number.{Number}
use Rattle.hs_ast.specs.declared.query.FromItem.{roll-FromItem}
use Rattle.hs_ast.specs.declared.query.Join.TheVariants as join
use Rattle.hs_ast.specs.declared.query.Limit.{Limit}
use Rattle.hs_ast.specs.declared.query.Query.{roll-Query}
use Rattle.hs_ast.specs.declared.query.QueryBody.TheVariants as body
use Rattle.hs_ast.specs.declared.query.Select.{roll-Select}
use Rattle.hs_ast.specs.declared.query.SelectItem.TheVariants as shown
use Rattle.hs_ast.specs.declared.query.SetOperator.{SetOperator}
use Rattle.hs_ast.specs.declared.query.SortKey.{roll-SortKey}
use Rattle.hs_ast.specs.declared.query.TableReference.{TableReference}
use Rattle.hs_ast.specs.declared.query.ValuesRow.{roll-ValuesRow}
use Rattle.hs_ast.specs.declared.session.Access.{Access}
use Rattle.hs_ast.specs.declared.session.Isolation.{Isolation}
use Rattle.hs_ast.specs.declared.session.Modes.{Modes}
use Rattle.hs_ast.specs.declared.session.TransactionControl.{TransactionControl}
use Rattle.hs_ast.specs.declared.statement.Stmt.{Stmt}
use Rattle.hs_ast.specs.declared.word.Identifier.{Identifier}
use Rattle.hs_lexer.specs.declared.token.Token.{Token}
use Rattle.hs_lexer.specs.Content.{name_of, written}
use Rattle.hs_builder.specs.declared.part.Built.{Built}
use Rattle.hs_builder.specs.declared.part.BuiltBody.{BuiltBody}
use Rattle.hs_builder.specs.declared.part.BuiltCase.{BuiltCase}
use Rattle.hs_builder.specs.declared.part.BuiltFrom.{BuiltFrom}
use Rattle.hs_builder.specs.declared.part.BuiltList.{BuiltList}
use Rattle.hs_builder.specs.declared.part.BuiltOptional.{BuiltOptional}
use Rattle.hs_builder.specs.declared.part.BuiltQuery.{BuiltQuery}
use Rattle.hs_builder.specs.declared.part.BuiltRows.{BuiltRows}
use Rattle.hs_builder.specs.declared.part.BuiltSelect.{BuiltSelect}
use Rattle.hs_builder.specs.declared.part.BuiltTable.{BuiltTable}
use Rattle.hs_builder.specs.declared.part.BuiltTuple.{BuiltTuple}
use Rattle.hs_builder.specs.declared.part.BuiltTuples.{BuiltTuples}
use Rattle.hs_builder.specs.declared.part.ConstraintHeader.{ConstraintHeader}
use Rattle.hs_builder.specs.declared.part.InsertTarget.{InsertTarget}
use Rattle.hs_builder.specs.declared.part.PlacedLiteral.{PlacedLiteral}
use Rattle.hs_builder.specs.declared.part.PlacedNumber.{PlacedNumber}
use Rattle.hs_builder.specs.declared.part.PlacedText.{PlacedText}
use Rattle.hs_builder.specs.Changes as change
use Rattle.hs_builder.specs.Definitions as definition
use Rattle.hs_builder.specs.Expressions as expression
use Rattle.hs_builder.specs.Expressions.{built, built_from, query_of}
use Rattle.hs_builder.specs.Functions as functions
use Rattle.hs_builder.specs.Leaves as leaves
use Rattle.hs_builder.specs.Queries as query
use Rattle.hs_builder.specs.Queries.{body_at, join_of, with_offset}
use Rattle.hs_builder.specs.Sessions as session
use Rattle.hs_builder.specs.Steps.{Level, within, beyond, over, at_depth, natural}
use Rattle.hs_builder_laws.specs.LawfulParts.{arm_lawful, join_lawful, item_lawful, table_lawful, from_lawful, key_lawful, row_lawful, LawfulName, LawfulNames, LawfulAlias, LawfulNumber, LawfulLiteral, LawfulType, LawfulCount, LawfulBuilt, LawfulList, LawfulCase, LawfulOptional, LawfulSelect, LawfulTable, LawfulFrom, LawfulRows, LawfulBody, LawfulQuery, LawfulTarget, LawfulTuple, LawfulTuples, LawfulUpdate, LawfulDelete, LawfulLocks, LawfulCreate, LawfulColumn, LawfulHeader, LawfulKey, LawfulConstraint, LawfulStatement, Every, TopIs, TopTwoAre, IsPrecision, IsScaled, IsLength, IsPositive, IsUnsigned}
use Rattle.hs_builder_laws.proofs.Covering.{Then}
use Rattle.hs_builder_laws.proofs.LawfulLayers as layer
use Rattle.hs_builder_laws.proofs.LawfulLayers.{both, left, right, pushed, false_is_true}

any_depth : {S : Type 0} (P : S → Type 0) (l : Level) (f : ℕ → S) → ((d : ℕ) → P (f d)) → Then P (at_depth l f)
any_depth P (within d) f h = h d
any_depth P (beyond d) f h = h d

query_is : (q : BuiltQuery) → LawfulQuery q → is_lawful_query (query_of q) ≡ true
query_is q k = layer.query q.at q.body q.order_by q.limit k.body k.order_by k.limit

joined : (outer : Bool) (t : TableReference) (e : Expression) → table_lawful t ≡ true → is_lawful e ≡ true → join_lawful (join_of outer t e) ≡ true
joined true t e h k = layer.outer t e h k
joined false t e h k = layer.inner t e h k

column_is : (c : ColumnDefinition) → LawfulColumn c → law.is_lawful_column c ≡ true
column_is c k =
    let rules = list_all law.is_lawful_column_constraint c.constraints in
    both (is_identifier c.name) (law.is_type c.data_type && (if_written law.is_default c.default && rules)) k.name
    (both (law.is_type c.data_type) (if_written law.is_default c.default && rules) k.data_type (both (if_written law.is_default c.default) rules k.default k.constraints))

-- ---- numbers

small : (u : ℤ) (s : Bool) → ((nat_lt (law.size_of u) (10 ^ 38) && s) && law.has_no_sign u) ≡ true → nat_lt (natural u) (10 ^ 38) ≡ true
small (pos n) s h = left (nat_lt n (10 ^ 38)) s (left (nat_lt n (10 ^ 38) && s) true h)
small (negsuc n) s h = absurd (false_is_true (right (nat_lt (n + 1) (10 ^ 38) && s) false h))

natural_small : (n : Number) → law.is_literal (literal.Number n) ≡ true → nat_lt (natural n.units) (10 ^ 38) ≡ true
natural_small n h = small n.units (nat_le n.scale 38) h

limited : (n : Number) → law.is_literal (literal.Number n) ≡ true → nat_le 1 (natural n.units) ≡ true → if_written law.is_limit (Some (record { count = natural n.units; offset = None })) ≡ true
limited n h positive = both (nat_le 1 (natural n.units) && nat_lt (natural n.units) (10 ^ 38)) true (both (nat_le 1 (natural n.units)) (nat_lt (natural n.units) (10 ^ 38)) positive (natural_small n h)) refl

limited_from : (l : Option Limit) (n : Number) → if_written law.is_limit l ≡ true → law.is_literal (literal.Number n) ≡ true → if_written law.is_limit (with_offset l (natural n.units)) ≡ true
limited_from None n h k = refl
limited_from (Some l) n h k =
    let counted = nat_le 1 l.count && nat_lt l.count (10 ^ 38) in
    both counted (nat_lt (natural n.units) (10 ^ 38)) (left counted (if_written (λ offset. nat_lt offset (10 ^ 38)) l.offset) h) (natural_small n k)

sized : (t : Bool) (a b n : ℕ) → t ≡ true → a + 1 ≡ n → law.size_of (cond t (negsuc a) (pos b)) ≡ n
sized true a b n e h = h
sized false a b n e h = absurd (false_is_true e)

one_le : (n : ℕ) → nat_le 1 (suc n) ≡ true
one_le n = grind (arith, nat_tests)

minus_size : (n : ℕ) → law.size_of (pos 0 -ℤ pos n) ≡ n
minus_size zero = refl
minus_size (suc n) = sized (nat_le 1 (suc n)) (suc n - 1) (0 - suc n) (suc n) (one_le n) (omega arith)

turned : (u : ℤ) (s : Bool) → ((nat_lt (law.size_of u) (10 ^ 38) && s) && law.has_no_sign u) ≡ true → (nat_lt (law.size_of (pos 0 -ℤ u)) (10 ^ 38) && s) ≡ true
turned (pos n) s h = ap (λ m. nat_lt m (10 ^ 38) && s) (minus_size n) ∙ left (nat_lt n (10 ^ 38) && s) true h
turned (negsuc n) s h = absurd (false_is_true (right (nat_lt (n + 1) (10 ^ 38) && s) false h))

signed_number : (sign : Sign) (n : Number) → law.is_literal (literal.Number n) ≡ true → law.is_signed_literal (literal.Number (leaves.with_sign sign n)) ≡ true
signed_number Plus n h = left (law.is_number n) (law.has_no_sign n.units) h
signed_number Minus n h = turned n.units (nat_le n.scale 38) h

-- ---- rows of an INSERT that turn out to be rows of a query

values_are : (v : NewValue) (all : List Expression) → law.is_lawful_value v ≡ true → list_all is_lawful all ≡ true → list_all is_lawful (change.with_value v all) ≡ true
values_are (value.Expression e) all h k = both (is_lawful e) (list_all is_lawful all) h k
values_are (value.Default at) all h k = k

expressions_are : (values : List NewValue) → list_all law.is_lawful_value values ≡ true → list_all is_lawful (change.expressions_in values) ≡ true
expressions_are [] h = refl
expressions_are (v ∷ values) h =
    values_are v (change.expressions_in values) (left (law.is_lawful_value v) (list_all law.is_lawful_value values) h) (expressions_are values (right (law.is_lawful_value v) (list_all law.is_lawful_value values) h))

rows_are : (tuples : List (List NewValue)) → list_all (list_all law.is_lawful_value) tuples ≡ true → list_all row_lawful (change.rows_in tuples) ≡ true
rows_are [] h = refl
rows_are (t ∷ tuples) h =
    both (row_lawful (change.row_of t)) (list_all row_lawful (change.rows_in tuples))
    (layer.row (change.expressions_in t) (expressions_are t (left (list_all law.is_lawful_value t) (list_all (list_all law.is_lawful_value) tuples) h)))
    (rows_are tuples (right (list_all law.is_lawful_value t) (list_all (list_all law.is_lawful_value) tuples) h))

-- ---- the steps

pub name_in_leaves : (text : List ℕ) (token : Token) (x : List Identifier) → law.is_name (name_of text token) ≡ true → Every LawfulName x → Then (λ (z : List Identifier). Every LawfulName z) (leaves.name text token x)
name_in_leaves text token below fits k_below = (fits, k_below)

pub first_name_in_leaves : (x : List Identifier × List (List Identifier)) → Every LawfulName x.0 × Every LawfulNames x.1 → Then (λ (z : List Identifier × List (List Identifier)). Every LawfulName z.0 × Every LawfulNames z.1) (leaves.first_name x)
first_name_in_leaves ((n ∷ names), lists) ((k_n, k_names), k_lists) = (k_names, (both (is_identifier n) true k_n refl, k_lists))
first_name_in_leaves ([], s1) held = tt

pub next_name_in_leaves : (x : List Identifier × List (List Identifier)) → Every LawfulName x.0 × Every LawfulNames x.1 → Then (λ (z : List Identifier × List (List Identifier)). Every LawfulName z.0 × Every LawfulNames z.1) (leaves.next_name x)
next_name_in_leaves ((n ∷ names), (list ∷ lists)) ((k_n, k_names), (k_list, k_lists)) = (k_names, (pushed is_identifier list n k_list k_n, k_lists))
next_name_in_leaves ([], s1) held = tt
next_name_in_leaves ((n ∷ names), []) held = tt

pub alias_in_leaves : (x : List Identifier × List (Option Identifier)) → Every LawfulName x.0 × Every LawfulAlias x.1 → Then (λ (z : List Identifier × List (Option Identifier)). Every LawfulName z.0 × Every LawfulAlias z.1) (leaves.alias x)
alias_in_leaves ((n ∷ names), aliases) ((k_n, k_names), k_aliases) = (k_names, (k_n, k_aliases))
alias_in_leaves ([], s1) held = tt

pub number_in_leaves : (text : List ℕ) (token : Token) (x : List PlacedNumber) → law.is_literal (literal.Number (leaves.number_in (written text token))) ≡ true → Every LawfulNumber x → Then (λ (z : List PlacedNumber). Every LawfulNumber z) (leaves.number text token x)
number_in_leaves text token below fits k_below = (fits, k_below)

pub read_text_in_leaves : (text : List ℕ) (token : Token) (x : List PlacedText) → Unit {0} → Then (λ (z : List PlacedText). Unit {0}) (leaves.read_text text token x)
read_text_in_leaves text token below h = tt

pub number_literal_in_leaves : (x : List PlacedNumber × List PlacedLiteral) → Every LawfulNumber x.0 × Every LawfulLiteral x.1 → Then (λ (z : List PlacedNumber × List PlacedLiteral). Every LawfulNumber z.0 × Every LawfulLiteral z.1) (leaves.number_literal x)
number_literal_in_leaves ((n ∷ numbers), below) ((k_n, k_numbers), k_below) = (k_numbers, (left (law.is_number n.number) (law.has_no_sign n.number.units) k_n, k_below))
number_literal_in_leaves ([], s1) held = tt

pub text_literal_in_leaves : (x : List PlacedText × List PlacedLiteral) → Every LawfulLiteral x.1 → Then (λ (z : List PlacedText × List PlacedLiteral). Every LawfulLiteral z.1) (leaves.text_literal x)
text_literal_in_leaves ((t ∷ texts), below) k_below = (refl, k_below)
text_literal_in_leaves ([], s1) held = tt

pub word_literal_in_leaves : (l : Literal) (token : Token) (x : List PlacedLiteral) → law.is_signed_literal l ≡ true → Every LawfulLiteral x → Then (λ (z : List PlacedLiteral). Every LawfulLiteral z) (leaves.word_literal l token x)
word_literal_in_leaves l token below fits k_below = (fits, k_below)

pub date_in_leaves : (x : List ℕ × List PlacedText × List PlacedLiteral) → Every LawfulLiteral x.2 → Then (λ (z : List ℕ × List PlacedText × List PlacedLiteral). Every LawfulLiteral z.2) (leaves.date x)
date_in_leaves ((at ∷ places), (t ∷ texts), below) k_below = (refl, k_below)
date_in_leaves ([], s1, s2) held = tt
date_in_leaves ((at ∷ places), [], s2) held = tt

pub timestamp_in_leaves : (x : List ℕ × List PlacedText × List PlacedLiteral) → Every LawfulLiteral x.2 → Then (λ (z : List ℕ × List PlacedText × List PlacedLiteral). Every LawfulLiteral z.2) (leaves.timestamp x)
timestamp_in_leaves ((at ∷ places), (t ∷ texts), below) k_below = (refl, k_below)
timestamp_in_leaves ([], s1, s2) held = tt
timestamp_in_leaves ((at ∷ places), [], s2) held = tt

pub signed_literal_in_leaves : (sign : Sign) (x : List ℕ × List PlacedNumber × List PlacedLiteral) → Every LawfulNumber x.1 × Every LawfulLiteral x.2 → Then (λ (z : List ℕ × List PlacedNumber × List PlacedLiteral). Every LawfulNumber z.1 × Every LawfulLiteral z.2) (leaves.signed_literal sign x)
signed_literal_in_leaves sign ((at ∷ places), (n ∷ numbers), below) ((k_n, k_numbers), k_below) = (k_numbers, (signed_number sign n.number k_n, k_below))
signed_literal_in_leaves sign ([], s1, s2) held = tt
signed_literal_in_leaves sign ((at ∷ places), [], s2) held = tt

pub decimal_in_leaves : (x : List PlacedNumber × List DataType) → TopIs IsPrecision x.0 → Every LawfulNumber x.0 × Every LawfulType x.1 → Then (λ (z : List PlacedNumber × List DataType). Every LawfulNumber z.0 × Every LawfulType z.1) (leaves.decimal x)
decimal_in_leaves ((p ∷ numbers), below) fits ((k_p, k_numbers), k_below) = (k_numbers, (fits, k_below))
decimal_in_leaves ([], s1) fits held = tt

pub decimal_scale_in_leaves : (x : List PlacedNumber × List DataType) → TopTwoAre IsScaled x.0 → Every LawfulNumber x.0 × Every LawfulType x.1 → Then (λ (z : List PlacedNumber × List DataType). Every LawfulNumber z.0 × Every LawfulType z.1) (leaves.decimal_scale x)
decimal_scale_in_leaves ((s ∷ p ∷ numbers), below) fits ((k_s, (k_p, k_numbers)), k_below) = (k_numbers, (fits, k_below))
decimal_scale_in_leaves ((s ∷ []), s1) fits held = tt
decimal_scale_in_leaves ([], s1) fits held = tt

pub varchar_in_leaves : (x : List PlacedNumber × List DataType) → TopIs IsLength x.0 → Every LawfulNumber x.0 × Every LawfulType x.1 → Then (λ (z : List PlacedNumber × List DataType). Every LawfulNumber z.0 × Every LawfulType z.1) (leaves.varchar x)
varchar_in_leaves ((n ∷ numbers), below) fits ((k_n, k_numbers), k_below) = (k_numbers, (fits, k_below))
varchar_in_leaves ([], s1) fits held = tt

pub literal_in_expression : (x : List PlacedLiteral × List Built) → TopIs IsUnsigned x.0 → Every LawfulLiteral x.0 × Every LawfulBuilt x.1 → Then (λ (z : List PlacedLiteral × List Built). Every LawfulLiteral z.0 × Every LawfulBuilt z.1) (expression.literal x)
literal_in_expression ((l ∷ literals), below) fits ((k_l, k_literals), k_below) = (k_literals, (layer.literal l.at l.literal fits, k_below))
literal_in_expression ([], s1) fits held = tt

pub column_in_expression : (x : List Identifier × List Built) → Every LawfulName x.0 × Every LawfulBuilt x.1 → Then (λ (z : List Identifier × List Built). Every LawfulName z.0 × Every LawfulBuilt z.1) (expression.column x)
column_in_expression ((name ∷ names), below) ((k_name, k_names), k_below) = (k_names, (layer.column name.at (record { table = None; column = name.name }) k_name, k_below))
column_in_expression ([], s1) held = tt

pub qualified_in_expression : (x : List Identifier × List Built) → Every LawfulName x.0 × Every LawfulBuilt x.1 → Then (λ (z : List Identifier × List Built). Every LawfulName z.0 × Every LawfulBuilt z.1) (expression.qualified x)
qualified_in_expression ((name ∷ table ∷ names), below) ((k_name, (k_table, k_names)), k_below) = (k_names, (layer.column table.at (record { table = Some table.name; column = name.name }) (both (law.is_name table.name) (law.is_name name.name) k_table k_name), k_below))
qualified_in_expression ((name ∷ []), s1) held = tt
qualified_in_expression ([], s1) held = tt

pub bracket_in_expression : (x : List ℕ × List Built) → Every LawfulBuilt x.1 → Then (λ (z : List ℕ × List Built). Every LawfulBuilt z.1) (expression.bracket x)
bracket_in_expression ((at ∷ places), (a ∷ below)) (k_a, k_below) = (k_a, k_below)
bracket_in_expression ([], s1) held = tt
bracket_in_expression ((at ∷ places), []) held = tt

pub signed_in_expression : (sign : Sign) (x : List ℕ × List Built) → Every LawfulBuilt x.1 → Then (λ (z : List ℕ × List Built). Every LawfulBuilt z.1) (expression.signed sign x)
signed_in_expression sign ((at ∷ places), (a ∷ below)) (k_a, k_below) = any_depth (λ (z : List ℕ × List Built). Every LawfulBuilt z.1) (over a.depth 0) (λ depth. (places, built at (kind.Signed sign a.tree) depth ∷ below)) (λ depth. (layer.signed at sign a.tree k_a, k_below))
signed_in_expression sign ([], s1) held = tt
signed_in_expression sign ((at ∷ places), []) held = tt

pub negation_in_expression : (x : List ℕ × List Built) → Every LawfulBuilt x.1 → Then (λ (z : List ℕ × List Built). Every LawfulBuilt z.1) (expression.negation x)
negation_in_expression ((at ∷ places), (a ∷ below)) (k_a, k_below) = any_depth (λ (z : List ℕ × List Built). Every LawfulBuilt z.1) (over a.depth 0) (λ depth. (places, built at (kind.Not a.tree) depth ∷ below)) (λ depth. (layer.negation at a.tree k_a, k_below))
negation_in_expression ([], s1) held = tt
negation_in_expression ((at ∷ places), []) held = tt

pub binary_in_expression : (operator : BinaryOperator) (x : List Built) → Every LawfulBuilt x → Then (λ (z : List Built). Every LawfulBuilt z) (expression.binary operator x)
binary_in_expression operator (b ∷ a ∷ below) (k_b, (k_a, k_below)) = any_depth (λ (z : List Built). Every LawfulBuilt z) (over a.depth b.depth) (λ depth. built a.start (kind.Binary operator a.tree b.tree) depth ∷ below) (λ depth. (layer.binary a.start operator a.tree b.tree k_a k_b, k_below))
binary_in_expression operator (b ∷ []) held = tt
binary_in_expression operator [] held = tt

pub is_null_in_expression : (negated : Bool) (x : List Built) → Every LawfulBuilt x → Then (λ (z : List Built). Every LawfulBuilt z) (expression.is_null negated x)
is_null_in_expression negated (a ∷ below) (k_a, k_below) = any_depth (λ (z : List Built). Every LawfulBuilt z) (over a.depth 0) (λ depth. built a.start (kind.IsNull a.tree negated) depth ∷ below) (λ depth. (layer.is_null a.start a.tree negated k_a, k_below))
is_null_in_expression negated [] held = tt

pub between_in_expression : (x : List Bool × List Built) → Every LawfulBuilt x.1 → Then (λ (z : List Bool × List Built). Every LawfulBuilt z.1) (expression.between x)
between_in_expression ((negated ∷ flags), (high ∷ low ∷ a ∷ below)) (k_high, (k_low, (k_a, k_below))) = any_depth (λ (z : List Bool × List Built). Every LawfulBuilt z.1) (over a.depth (max low.depth high.depth)) (λ depth. (flags, built a.start (kind.Between a.tree negated low.tree high.tree) depth ∷ below)) (λ depth. (layer.between a.start a.tree negated low.tree high.tree k_a k_low k_high, k_below))
between_in_expression ([], s1) held = tt
between_in_expression ((negated ∷ flags), (high ∷ low ∷ [])) held = tt
between_in_expression ((negated ∷ flags), (high ∷ [])) held = tt
between_in_expression ((negated ∷ flags), []) held = tt

pub like_in_expression : (x : List Bool × List Built) → Every LawfulBuilt x.1 → Then (λ (z : List Bool × List Built). Every LawfulBuilt z.1) (expression.like x)
like_in_expression ((negated ∷ flags), (pattern ∷ a ∷ below)) (k_pattern, (k_a, k_below)) = any_depth (λ (z : List Bool × List Built). Every LawfulBuilt z.1) (over a.depth pattern.depth) (λ depth. (flags, built a.start (kind.Like a.tree negated pattern.tree None) depth ∷ below)) (λ depth. (layer.like a.start a.tree negated pattern.tree None k_a k_pattern, k_below))
like_in_expression ([], s1) held = tt
like_in_expression ((negated ∷ flags), (pattern ∷ [])) held = tt
like_in_expression ((negated ∷ flags), []) held = tt

pub like_escape_in_expression : (x : List Bool × List PlacedText × List Built) → Every LawfulBuilt x.2 → Then (λ (z : List Bool × List PlacedText × List Built). Every LawfulBuilt z.2) (expression.like_escape x)
like_escape_in_expression ((negated ∷ flags), (escape ∷ texts), (pattern ∷ a ∷ below)) (k_pattern, (k_a, k_below)) = any_depth (λ (z : List Bool × List PlacedText × List Built). Every LawfulBuilt z.2) (over a.depth pattern.depth) (λ depth. (flags, texts, built a.start (kind.Like a.tree negated pattern.tree (Some escape.text)) depth ∷ below)) (λ depth. (layer.like a.start a.tree negated pattern.tree (Some escape.text) k_a k_pattern, k_below))
like_escape_in_expression ([], s1, s2) held = tt
like_escape_in_expression ((negated ∷ flags), [], s2) held = tt
like_escape_in_expression ((negated ∷ flags), (escape ∷ texts), (pattern ∷ [])) held = tt
like_escape_in_expression ((negated ∷ flags), (escape ∷ texts), []) held = tt

pub in_list_in_expression : (x : List Bool × List Built × List BuiltList) → Every LawfulBuilt x.1 × Every LawfulList x.2 → Then (λ (z : List Bool × List Built × List BuiltList). Every LawfulBuilt z.1 × Every LawfulList z.2) (expression.in_list x)
in_list_in_expression ((negated ∷ flags), (a ∷ below), (list ∷ lists)) ((k_a, k_below), (k_list, k_lists)) = any_depth (λ (z : List Bool × List Built × List BuiltList). Every LawfulBuilt z.1 × Every LawfulList z.2) (over a.depth list.depth) (λ depth. (flags, built a.start (kind.InList a.tree negated list.trees) depth ∷ below, lists)) (λ depth. ((layer.in_list a.start a.tree negated list.trees k_a k_list, k_below), k_lists))
in_list_in_expression ([], s1, s2) held = tt
in_list_in_expression ((negated ∷ flags), [], s2) held = tt
in_list_in_expression ((negated ∷ flags), (a ∷ below), []) held = tt

pub in_query_in_expression : (x : List Bool × List Built × List BuiltQuery) → Every LawfulBuilt x.1 × Every LawfulQuery x.2 → Then (λ (z : List Bool × List Built × List BuiltQuery). Every LawfulBuilt z.1 × Every LawfulQuery z.2) (expression.in_query x)
in_query_in_expression ((negated ∷ flags), (a ∷ below), (q ∷ queries)) ((k_a, k_below), (k_q, k_queries)) = any_depth (λ (z : List Bool × List Built × List BuiltQuery). Every LawfulBuilt z.1 × Every LawfulQuery z.2) (over a.depth q.depth) (λ depth. (flags, built a.start (kind.InQuery a.tree negated (query_of q)) depth ∷ below, queries)) (λ depth. ((layer.in_query a.start a.tree negated (query_of q) k_a (query_is q k_q), k_below), k_queries))
in_query_in_expression ([], s1, s2) held = tt
in_query_in_expression ((negated ∷ flags), [], s2) held = tt
in_query_in_expression ((negated ∷ flags), (a ∷ below), []) held = tt

pub exists_in_expression : (x : List ℕ × List Built × List BuiltQuery) → Every LawfulBuilt x.1 × Every LawfulQuery x.2 → Then (λ (z : List ℕ × List Built × List BuiltQuery). Every LawfulBuilt z.1 × Every LawfulQuery z.2) (expression.exists x)
exists_in_expression ((at ∷ places), below, (q ∷ queries)) (k_below, (k_q, k_queries)) = any_depth (λ (z : List ℕ × List Built × List BuiltQuery). Every LawfulBuilt z.1 × Every LawfulQuery z.2) (over q.depth 0) (λ depth. (places, built at (kind.Exists (query_of q)) depth ∷ below, queries)) (λ depth. ((layer.exists at (query_of q) (query_is q k_q), k_below), k_queries))
exists_in_expression ([], s1, s2) held = tt
exists_in_expression ((at ∷ places), below, []) held = tt

pub subquery_in_expression : (x : List ℕ × List Built × List BuiltQuery) → Every LawfulBuilt x.1 × Every LawfulQuery x.2 → Then (λ (z : List ℕ × List Built × List BuiltQuery). Every LawfulBuilt z.1 × Every LawfulQuery z.2) (expression.subquery x)
subquery_in_expression ((at ∷ places), below, (q ∷ queries)) (k_below, (k_q, k_queries)) = ((layer.subquery at (query_of q) (query_is q k_q), k_below), k_queries)
subquery_in_expression ([], s1, s2) held = tt
subquery_in_expression ((at ∷ places), below, []) held = tt

pub body_subquery_in_expression : (x : List ℕ × List Built × List BuiltBody) → Every LawfulBuilt x.1 × Every LawfulBody x.2 → Then (λ (z : List ℕ × List Built × List BuiltBody). Every LawfulBuilt z.1 × Every LawfulBody z.2) (expression.body_subquery x)
body_subquery_in_expression ((at ∷ places), below, (b ∷ bodies)) (k_below, (k_b, k_bodies)) = let query = roll-Query (record { at = b.at; body = b.tree; order_by = []; limit = None }) in any_depth (λ (z : List ℕ × List Built × List BuiltBody). Every LawfulBuilt z.1 × Every LawfulBody z.2) (over b.depth 0) (λ depth. (places, built_from (unwrap_or b.bracket at) at (kind.Subquery query) depth ∷ below, bodies)) (λ depth. ((layer.subquery (unwrap_or b.bracket at) (roll-Query (record { at = b.at; body = b.tree; order_by = []; limit = None })) (layer.query b.at b.tree [] None k_b refl refl), k_below), k_bodies))
body_subquery_in_expression ([], s1, s2) held = tt
body_subquery_in_expression ((at ∷ places), below, []) held = tt

pub digits_in_leaves : (x : List PlacedText × List ℕ) → TopIs (λ (t : PlacedText). law.is_count (leaves.units_of t.text) ≡ true) x.0 → Every LawfulCount x.1 → Then (λ (z : List PlacedText × List ℕ). Every LawfulCount z.1) (leaves.digits x)
digits_in_leaves ((t ∷ texts), counts) fits k_counts = (fits, k_counts)
digits_in_leaves ([], s1) fits held = tt

pub interval_in_expression : (sign : Sign) (unit : IntervalUnit) (x : List Built × List ℕ) → Every LawfulBuilt x.0 × Every LawfulCount x.1 → Then (λ (z : List Built × List ℕ). Every LawfulBuilt z.0 × Every LawfulCount z.1) (expression.interval sign unit x)
interval_in_expression sign unit ((a ∷ below), (count ∷ counts)) ((k_a, k_below), (k_count, k_counts)) = any_depth (λ (z : List Built × List ℕ). Every LawfulBuilt z.0 × Every LawfulCount z.1) (over a.depth 0) (λ depth. (built a.start (kind.Interval a.tree sign count unit) depth ∷ below, counts)) (λ depth. ((layer.interval a.start a.tree sign count unit k_a k_count, k_below), k_counts))
interval_in_expression sign unit ([], s1) held = tt
interval_in_expression sign unit ((a ∷ below), []) held = tt

pub first_in_expression : (x : List Built × List BuiltList) → Every LawfulBuilt x.0 × Every LawfulList x.1 → Then (λ (z : List Built × List BuiltList). Every LawfulBuilt z.0 × Every LawfulList z.1) (expression.first x)
first_in_expression ((e ∷ expressions), lists) ((k_e, k_expressions), k_lists) = (k_expressions, (both (is_lawful e.tree) true k_e refl, k_lists))
first_in_expression ([], s1) held = tt

pub next_in_expression : (x : List Built × List BuiltList) → Every LawfulBuilt x.0 × Every LawfulList x.1 → Then (λ (z : List Built × List BuiltList). Every LawfulBuilt z.0 × Every LawfulList z.1) (expression.next x)
next_in_expression ((e ∷ expressions), (list ∷ below)) ((k_e, k_expressions), (k_list, k_below)) = (k_expressions, (pushed is_lawful list.trees e.tree k_list k_e, k_below))
next_in_expression ([], s1) held = tt
next_in_expression ((e ∷ expressions), []) held = tt

pub written_in_expression : (x : List Built × List BuiltOptional) → Every LawfulBuilt x.0 × Every LawfulOptional x.1 → Then (λ (z : List Built × List BuiltOptional). Every LawfulBuilt z.0 × Every LawfulOptional z.1) (expression.written x)
written_in_expression ((e ∷ expressions), below) ((k_e, k_expressions), k_below) = (k_expressions, (k_e, k_below))
written_in_expression ([], s1) held = tt

pub unwritten_in_expression : (x : List BuiltOptional) → Every LawfulOptional x → Then (λ (z : List BuiltOptional). Every LawfulOptional z) (expression.unwritten x)
unwritten_in_expression below k_below = (refl, k_below)

pub cast_in_function : (x : List ℕ × List DataType × List Built) → Every LawfulType x.1 × Every LawfulBuilt x.2 → Then (λ (z : List ℕ × List DataType × List Built). Every LawfulType z.1 × Every LawfulBuilt z.2) (functions.cast x)
cast_in_function ((at ∷ places), (t ∷ types), (a ∷ below)) ((k_t, k_types), (k_a, k_below)) = any_depth (λ (z : List ℕ × List DataType × List Built). Every LawfulType z.1 × Every LawfulBuilt z.2) (over a.depth 0) (λ depth. (places, types, built at (kind.Cast a.tree t) depth ∷ below)) (λ depth. (k_types, (layer.cast at a.tree t k_a k_t, k_below)))
cast_in_function ([], s1, s2) held = tt
cast_in_function ((at ∷ places), [], s2) held = tt
cast_in_function ((at ∷ places), (t ∷ types), []) held = tt

pub begin_case_in_function : (token : Token) (x : List BuiltCase) → Every LawfulCase x → Then (λ (z : List BuiltCase). Every LawfulCase z) (functions.begin_case token x)
begin_case_in_function token below k_below = (record { arms = refl }, k_below)

pub arm_in_function : (x : List BuiltCase × List Built) → Every LawfulCase x.0 × Every LawfulBuilt x.1 → Then (λ (z : List BuiltCase × List Built). Every LawfulCase z.0 × Every LawfulBuilt z.1) (functions.arm x)
arm_in_function ((c ∷ cases), (value ∷ test ∷ below)) ((k_c, k_cases), (k_value, (k_test, k_below))) = ((record { arms = pushed arm_lawful c.arms (roll-CaseArm (record { test = test.tree; value = value.tree })) k_c.arms (layer.arm test.tree value.tree k_test k_value) }, k_cases), k_below)
arm_in_function ([], s1) held = tt
arm_in_function ((c ∷ cases), (value ∷ [])) held = tt
arm_in_function ((c ∷ cases), []) held = tt

pub end_case_in_function : (x : List BuiltOptional × List BuiltCase × List Built) → Every LawfulOptional x.0 × Every LawfulCase x.1 × Every LawfulBuilt x.2 → Then (λ (z : List BuiltOptional × List BuiltCase × List Built). Every LawfulOptional z.0 × Every LawfulCase z.1 × Every LawfulBuilt z.2) (functions.end_case x)
end_case_in_function ((o ∷ optional), (c ∷ cases), below) ((k_o, k_optional), (k_c, k_cases), k_below) = any_depth (λ (z : List BuiltOptional × List BuiltCase × List Built). Every LawfulOptional z.0 × Every LawfulCase z.1 × Every LawfulBuilt z.2) (over c.depth o.depth) (λ depth. (optional, cases, built c.at (kind.Case c.arms o.tree) depth ∷ below)) (λ depth. (k_optional, k_cases, (layer.case_of c.at c.arms o.tree k_c.arms k_o, k_below)))
end_case_in_function ([], s1, s2) held = tt
end_case_in_function ((o ∷ optional), [], s2) held = tt

pub call_in_function : (function : Function) (x : List ℕ × List Built × List BuiltList) → Every LawfulBuilt x.1 × Every LawfulList x.2 → Then (λ (z : List ℕ × List Built × List BuiltList). Every LawfulBuilt z.1 × Every LawfulList z.2) (functions.call function x)
call_in_function function ((at ∷ places), below, (list ∷ lists)) (k_below, (k_list, k_lists)) = any_depth (λ (z : List ℕ × List Built × List BuiltList). Every LawfulBuilt z.1 × Every LawfulList z.2) (over list.depth 0) (λ depth. (places, built at (kind.Call function list.trees) depth ∷ below, lists)) (λ depth. ((layer.call at function list.trees k_list, k_below), k_lists))
call_in_function function ([], s1, s2) held = tt
call_in_function function ((at ∷ places), below, []) held = tt

pub substring_in_function : (x : List ℕ × List Built) → Every LawfulBuilt x.1 → Then (λ (z : List ℕ × List Built). Every LawfulBuilt z.1) (functions.substring x)
substring_in_function ((at ∷ places), (start ∷ text ∷ below)) (k_start, (k_text, k_below)) = any_depth (λ (z : List ℕ × List Built). Every LawfulBuilt z.1) (over text.depth start.depth) (λ depth. (places, built at (kind.Substring text.tree start.tree None) depth ∷ below)) (λ depth. (layer.substring_none at text.tree start.tree k_text k_start, k_below))
substring_in_function ([], s1) held = tt
substring_in_function ((at ∷ places), (start ∷ [])) held = tt
substring_in_function ((at ∷ places), []) held = tt

pub substring_for_in_function : (x : List ℕ × List Built) → Every LawfulBuilt x.1 → Then (λ (z : List ℕ × List Built). Every LawfulBuilt z.1) (functions.substring_for x)
substring_for_in_function ((at ∷ places), (count ∷ start ∷ text ∷ below)) (k_count, (k_start, (k_text, k_below))) = any_depth (λ (z : List ℕ × List Built). Every LawfulBuilt z.1) (over text.depth (max start.depth count.depth)) (λ depth. (places, built at (kind.Substring text.tree start.tree (Some count.tree)) depth ∷ below)) (λ depth. (layer.substring_some at text.tree start.tree count.tree k_text k_start k_count, k_below))
substring_for_in_function ([], s1) held = tt
substring_for_in_function ((at ∷ places), (count ∷ start ∷ [])) held = tt
substring_for_in_function ((at ∷ places), (count ∷ [])) held = tt
substring_for_in_function ((at ∷ places), []) held = tt

pub trim_in_function : (x : List ℕ × List TrimForm × List Built) → Every LawfulBuilt x.2 → Then (λ (z : List ℕ × List TrimForm × List Built). Every LawfulBuilt z.2) (functions.trim x)
trim_in_function ((at ∷ places), (manner ∷ forms), (text ∷ below)) (k_text, k_below) = any_depth (λ (z : List ℕ × List TrimForm × List Built). Every LawfulBuilt z.2) (over text.depth 0) (λ depth. (places, forms, built at (kind.Trim manner None text.tree) depth ∷ below)) (λ depth. (layer.trim_none at manner text.tree k_text, k_below))
trim_in_function ([], s1, s2) held = tt
trim_in_function ((at ∷ places), [], s2) held = tt
trim_in_function ((at ∷ places), (manner ∷ forms), []) held = tt

pub trim_character_in_function : (x : List ℕ × List TrimForm × List Built) → Every LawfulBuilt x.2 → Then (λ (z : List ℕ × List TrimForm × List Built). Every LawfulBuilt z.2) (functions.trim_character x)
trim_character_in_function ((at ∷ places), (manner ∷ forms), (text ∷ character ∷ below)) (k_text, (k_character, k_below)) = any_depth (λ (z : List ℕ × List TrimForm × List Built). Every LawfulBuilt z.2) (over character.depth text.depth) (λ depth. (places, forms, built at (kind.Trim manner (Some character.tree) text.tree) depth ∷ below)) (λ depth. (layer.trim_some at manner character.tree text.tree k_character k_text, k_below))
trim_character_in_function ([], s1, s2) held = tt
trim_character_in_function ((at ∷ places), [], s2) held = tt
trim_character_in_function ((at ∷ places), (manner ∷ forms), (text ∷ [])) held = tt
trim_character_in_function ((at ∷ places), (manner ∷ forms), []) held = tt

pub extract_in_function : (x : List ℕ × List DateField × List Built) → Every LawfulBuilt x.2 → Then (λ (z : List ℕ × List DateField × List Built). Every LawfulBuilt z.2) (functions.extract x)
extract_in_function ((at ∷ places), (field ∷ fields), (a ∷ below)) (k_a, k_below) = any_depth (λ (z : List ℕ × List DateField × List Built). Every LawfulBuilt z.2) (over a.depth 0) (λ depth. (places, fields, built at (kind.Extract field a.tree) depth ∷ below)) (λ depth. (layer.extract at field a.tree k_a, k_below))
extract_in_function ([], s1, s2) held = tt
extract_in_function ((at ∷ places), [], s2) held = tt
extract_in_function ((at ∷ places), (field ∷ fields), []) held = tt

pub count_rows_in_function : (x : List ℕ × List Built) → Every LawfulBuilt x.1 → Then (λ (z : List ℕ × List Built). Every LawfulBuilt z.1) (functions.count_rows x)
count_rows_in_function ((at ∷ places), below) k_below = (layer.count_rows at, k_below)
count_rows_in_function ([], s1) held = tt

pub aggregate_in_function : (function : Aggregate) (x : List ℕ × List Bool × List Built) → Every LawfulBuilt x.2 → Then (λ (z : List ℕ × List Bool × List Built). Every LawfulBuilt z.2) (functions.aggregate function x)
aggregate_in_function function ((at ∷ places), (distinct ∷ flags), (a ∷ below)) (k_a, k_below) = any_depth (λ (z : List ℕ × List Bool × List Built). Every LawfulBuilt z.2) (over a.depth 0) (λ depth. (places, flags, built at (kind.Aggregate function distinct a.tree) depth ∷ below)) (λ depth. (layer.aggregate at function distinct a.tree k_a, k_below))
aggregate_in_function function ([], s1, s2) held = tt
aggregate_in_function function ((at ∷ places), [], s2) held = tt
aggregate_in_function function ((at ∷ places), (distinct ∷ flags), []) held = tt

pub begin_select_in_query : (x : List ℕ × List Bool × List BuiltSelect) → Every LawfulSelect x.2 → Then (λ (z : List ℕ × List Bool × List BuiltSelect). Every LawfulSelect z.2) (query.begin_select x)
begin_select_in_query ((at ∷ places), (distinct ∷ flags), below) k_below = (record { items = refl; from = refl; group_by = refl }, k_below)
begin_select_in_query ([], s1, s2) held = tt
begin_select_in_query ((at ∷ places), [], s2) held = tt

pub every_in_query : (token : Token) (x : List BuiltSelect) → Every LawfulSelect x → Then (λ (z : List BuiltSelect). Every LawfulSelect z) (query.every token x)
every_in_query token (s ∷ below) (k_s, k_below) = (record { items = pushed item_lawful s.items (shown.Every token.start) k_s.items (layer.every token.start); from = k_s.from; group_by = k_s.group_by }, k_below)
every_in_query token [] held = tt

pub item_in_query : (x : List (Option Identifier) × List Built × List BuiltSelect) → Every LawfulAlias x.0 × Every LawfulBuilt x.1 × Every LawfulSelect x.2 → Then (λ (z : List (Option Identifier) × List Built × List BuiltSelect). Every LawfulAlias z.0 × Every LawfulBuilt z.1 × Every LawfulSelect z.2) (query.item x)
item_in_query ((alias ∷ aliases), (e ∷ expressions), (s ∷ below)) ((k_alias, k_aliases), (k_e, k_expressions), (k_s, k_below)) = (k_aliases, k_expressions, (record { items = pushed item_lawful s.items (shown.One e.start e.tree alias) k_s.items (layer.one e.start e.tree alias k_e k_alias); from = k_s.from; group_by = k_s.group_by }, k_below))
item_in_query ([], s1, s2) held = tt
item_in_query ((alias ∷ aliases), [], s2) held = tt
item_in_query ((alias ∷ aliases), (e ∷ expressions), []) held = tt

pub named_table_in_query : (x : List Identifier × List (Option Identifier) × List BuiltTable) → Every LawfulName x.0 × Every LawfulAlias x.1 × Every LawfulTable x.2 → Then (λ (z : List Identifier × List (Option Identifier) × List BuiltTable). Every LawfulName z.0 × Every LawfulAlias z.1 × Every LawfulTable z.2) (query.named_table x)
named_table_in_query ((name ∷ names), (alias ∷ aliases), below) ((k_name, k_names), (k_alias, k_aliases), k_below) = (k_names, k_aliases, (layer.named name alias k_name k_alias, k_below))
named_table_in_query ([], s1, s2) held = tt
named_table_in_query ((name ∷ names), [], s2) held = tt

pub derived_table_in_query : (x : List Identifier × List BuiltQuery × List BuiltTable) → Every LawfulName x.0 × Every LawfulQuery x.1 × Every LawfulTable x.2 → Then (λ (z : List Identifier × List BuiltQuery × List BuiltTable). Every LawfulName z.0 × Every LawfulQuery z.1 × Every LawfulTable z.2) (query.derived_table x)
derived_table_in_query ((name ∷ names), (q ∷ queries), below) ((k_name, k_names), (k_q, k_queries), k_below) = (k_names, k_queries, (layer.derived (query_of q) name (query_is q k_q) k_name, k_below))
derived_table_in_query ([], s1, s2) held = tt
derived_table_in_query ((name ∷ names), [], s2) held = tt

pub begin_from_in_query : (x : List BuiltTable × List BuiltFrom) → Every LawfulTable x.0 × Every LawfulFrom x.1 → Then (λ (z : List BuiltTable × List BuiltFrom). Every LawfulTable z.0 × Every LawfulFrom z.1) (query.begin_from x)
begin_from_in_query ((t ∷ tables), below) ((k_t, k_tables), k_below) = (k_tables, (record { table = k_t; joins = refl }, k_below))
begin_from_in_query ([], s1) held = tt

pub join_on_in_query : (outer : Bool) (x : List Built × List BuiltTable × List BuiltFrom) → Every LawfulBuilt x.0 × Every LawfulTable x.1 × Every LawfulFrom x.2 → Then (λ (z : List Built × List BuiltTable × List BuiltFrom). Every LawfulBuilt z.0 × Every LawfulTable z.1 × Every LawfulFrom z.2) (query.join_on outer x)
join_on_in_query outer ((e ∷ expressions), (t ∷ tables), (f ∷ below)) ((k_e, k_expressions), (k_t, k_tables), (k_f, k_below)) = (k_expressions, k_tables, (record { table = k_f.table; joins = pushed join_lawful f.joins (join_of outer t.table e.tree) k_f.joins (joined outer t.table e.tree k_t k_e) }, k_below))
join_on_in_query outer ([], s1, s2) held = tt
join_on_in_query outer ((e ∷ expressions), [], s2) held = tt
join_on_in_query outer ((e ∷ expressions), (t ∷ tables), []) held = tt

pub cross_join_in_query : (x : List BuiltTable × List BuiltFrom) → Every LawfulTable x.0 × Every LawfulFrom x.1 → Then (λ (z : List BuiltTable × List BuiltFrom). Every LawfulTable z.0 × Every LawfulFrom z.1) (query.cross_join x)
cross_join_in_query ((t ∷ tables), (f ∷ below)) ((k_t, k_tables), (k_f, k_below)) = (k_tables, (record { table = k_f.table; joins = pushed join_lawful f.joins (join.Cross t.table) k_f.joins (layer.cross t.table k_t) }, k_below))
cross_join_in_query ([], s1) held = tt
cross_join_in_query ((t ∷ tables), []) held = tt

pub add_from_in_query : (x : List BuiltFrom × List BuiltSelect) → Every LawfulFrom x.0 × Every LawfulSelect x.1 → Then (λ (z : List BuiltFrom × List BuiltSelect). Every LawfulFrom z.0 × Every LawfulSelect z.1) (query.add_from x)
add_from_in_query ((f ∷ froms), (s ∷ below)) ((k_f, k_froms), (k_s, k_below)) = (k_froms, (record { items = k_s.items; from = pushed from_lawful s.from (roll-FromItem (record { table = f.table; joins = f.joins })) k_s.from (layer.from f.table f.joins k_f.table k_f.joins); group_by = k_s.group_by }, k_below))
add_from_in_query ([], s1) held = tt
add_from_in_query ((f ∷ froms), []) held = tt

pub group_in_query : (x : List Built × List BuiltSelect) → Every LawfulBuilt x.0 × Every LawfulSelect x.1 → Then (λ (z : List Built × List BuiltSelect). Every LawfulBuilt z.0 × Every LawfulSelect z.1) (query.group x)
group_in_query ((e ∷ expressions), (s ∷ below)) ((k_e, k_expressions), (k_s, k_below)) = (k_expressions, (record { items = k_s.items; from = k_s.from; group_by = pushed is_lawful s.group_by e.tree k_s.group_by k_e }, k_below))
group_in_query ([], s1) held = tt
group_in_query ((e ∷ expressions), []) held = tt

pub select_body_in_query : (x : List BuiltOptional × List BuiltSelect × List BuiltBody) → Every LawfulOptional x.0 × Every LawfulSelect x.1 × Every LawfulBody x.2 → Then (λ (z : List BuiltOptional × List BuiltSelect × List BuiltBody). Every LawfulOptional z.0 × Every LawfulSelect z.1 × Every LawfulBody z.2) (query.select_body x)
select_body_in_query ((v ∷ w ∷ optional), (s ∷ selects), below) ((k_v, (k_w, k_optional)), (k_s, k_selects), k_below) = (k_optional, k_selects, (layer.select_body (roll-Select (record { distinct = s.distinct; items = s.items; from = s.from; filter = w.tree; group_by = s.group_by; having = v.tree })) (layer.select s.distinct s.items s.from w.tree s.group_by v.tree k_s.items k_s.from k_w k_s.group_by k_v), k_below))
select_body_in_query ([], s1, s2) held = tt
select_body_in_query ((v ∷ []), s1, s2) held = tt
select_body_in_query ((v ∷ w ∷ optional), [], s2) held = tt

pub begin_values_in_query : (token : Token) (x : List BuiltRows) → Every LawfulRows x → Then (λ (z : List BuiltRows). Every LawfulRows z) (query.begin_values token x)
begin_values_in_query token below k_below = (refl, k_below)

pub row_in_query : (x : List BuiltList × List BuiltRows) → Every LawfulList x.0 × Every LawfulRows x.1 → Then (λ (z : List BuiltList × List BuiltRows). Every LawfulList z.0 × Every LawfulRows z.1) (query.row x)
row_in_query ((list ∷ lists), (v ∷ below)) ((k_list, k_lists), (k_v, k_below)) = (k_lists, (pushed row_lawful v.rows (roll-ValuesRow (record { values = list.trees })) k_v (layer.row list.trees k_list), k_below))
row_in_query ([], s1) held = tt
row_in_query ((list ∷ lists), []) held = tt

pub values_body_in_query : (x : List BuiltRows × List BuiltBody) → Every LawfulRows x.0 × Every LawfulBody x.1 → Then (λ (z : List BuiltRows × List BuiltBody). Every LawfulRows z.0 × Every LawfulBody z.1) (query.values_body x)
values_body_in_query ((v ∷ rows), below) ((k_v, k_rows), k_below) = (k_rows, (layer.values_body v.rows k_v, k_below))
values_body_in_query ([], s1) held = tt

pub bracket_body_in_query : (x : List ℕ × List BuiltBody) → Every LawfulBody x.1 → Then (λ (z : List ℕ × List BuiltBody). Every LawfulBody z.1) (query.bracket_body x)
bracket_body_in_query ((at ∷ places), (b ∷ below)) (k_b, k_below) = (k_b, k_below)
bracket_body_in_query ([], s1) held = tt
bracket_body_in_query ((at ∷ places), []) held = tt

pub set_operation_in_query : (operator : SetOperator) (x : List BuiltBody) → Every LawfulBody x → Then (λ (z : List BuiltBody). Every LawfulBody z) (query.set_operation operator x)
set_operation_in_query operator (b ∷ a ∷ below) (k_b, (k_a, k_below)) = any_depth (λ (z : List BuiltBody). Every LawfulBody z) (over a.depth b.depth) (λ depth. body_at a.at (body.SetOperation operator a.tree b.tree) depth ∷ below) (λ depth. (layer.set_operation operator a.tree b.tree k_a k_b, k_below))
set_operation_in_query operator (b ∷ []) held = tt
set_operation_in_query operator [] held = tt

pub begin_query_in_query : (x : List BuiltBody × List BuiltQuery) → Every LawfulBody x.0 × Every LawfulQuery x.1 → Then (λ (z : List BuiltBody × List BuiltQuery). Every LawfulBody z.0 × Every LawfulQuery z.1) (query.begin_query x)
begin_query_in_query ((b ∷ bodies), below) ((k_b, k_bodies), k_below) = any_depth (λ (z : List BuiltBody × List BuiltQuery). Every LawfulBody z.0 × Every LawfulQuery z.1) (over b.depth 0) (λ depth. (bodies, record { body = b.tree; order_by = []; limit = None; depth = depth; at = b.at } ∷ below)) (λ depth. (k_bodies, (record { body = k_b; order_by = refl; limit = refl }, k_below)))
begin_query_in_query ([], s1) held = tt

pub key_in_query : (descending : Bool) (x : List Built × List BuiltQuery) → Every LawfulBuilt x.0 × Every LawfulQuery x.1 → Then (λ (z : List Built × List BuiltQuery). Every LawfulBuilt z.0 × Every LawfulQuery z.1) (query.key descending x)
key_in_query descending ((e ∷ expressions), (q ∷ below)) ((k_e, k_expressions), (k_q, k_below)) = let key = roll-SortKey (record { at = e.start; value = e.tree; descending = descending }) in any_depth (λ (z : List Built × List BuiltQuery). Every LawfulBuilt z.0 × Every LawfulQuery z.1) (over e.depth 0) (λ depth. (expressions, record q { order_by = q.order_by ++ key ∷ []; depth = max q.depth depth } ∷ below)) (λ depth. (k_expressions, (record { body = k_q.body; order_by = pushed key_lawful q.order_by (roll-SortKey (record { at = e.start; value = e.tree; descending = descending })) k_q.order_by (layer.key e.start e.tree descending k_e); limit = k_q.limit }, k_below)))
key_in_query descending ([], s1) held = tt
key_in_query descending ((e ∷ expressions), []) held = tt

pub limit_in_query : (x : List PlacedNumber × List BuiltQuery) → TopIs IsPositive x.0 → Every LawfulNumber x.0 × Every LawfulQuery x.1 → Then (λ (z : List PlacedNumber × List BuiltQuery). Every LawfulNumber z.0 × Every LawfulQuery z.1) (query.limit x)
limit_in_query ((n ∷ numbers), (q ∷ below)) fits ((k_n, k_numbers), (k_q, k_below)) = (k_numbers, (record { body = k_q.body; order_by = k_q.order_by; limit = limited n.number k_n fits }, k_below))
limit_in_query ([], s1) fits held = tt
limit_in_query ((n ∷ numbers), []) fits held = tt

pub offset_in_query : (x : List PlacedNumber × List BuiltQuery) → Every LawfulNumber x.0 × Every LawfulQuery x.1 → Then (λ (z : List PlacedNumber × List BuiltQuery). Every LawfulNumber z.0 × Every LawfulQuery z.1) (query.offset x)
offset_in_query ((n ∷ numbers), (q ∷ below)) ((k_n, k_numbers), (k_q, k_below)) = (k_numbers, (record { body = k_q.body; order_by = k_q.order_by; limit = limited_from q.limit n.number k_q.limit k_n }, k_below))
offset_in_query ([], s1) held = tt
offset_in_query ((n ∷ numbers), []) held = tt

pub query_statement_in_change : (x : List BuiltQuery × List Stmt) → Every LawfulQuery x.0 × Every LawfulStatement x.1 → Then (λ (z : List BuiltQuery × List Stmt). Every LawfulQuery z.0 × Every LawfulStatement z.1) (change.query_statement x)
query_statement_in_change ((q ∷ queries), below) ((k_q, k_queries), k_below) = (k_queries, (query_is q k_q, k_below))
query_statement_in_change ([], s1) held = tt

pub begin_insert_in_change : (x : List Identifier × List InsertTarget) → Every LawfulName x.0 × Every LawfulTarget x.1 → Then (λ (z : List Identifier × List InsertTarget). Every LawfulName z.0 × Every LawfulTarget z.1) (change.begin_insert x)
begin_insert_in_change ((table ∷ names), below) ((k_table, k_names), k_below) = (k_names, (record { table = k_table; columns = refl }, k_below))
begin_insert_in_change ([], s1) held = tt

pub insert_columns_in_change : (x : List ℕ × List (List Identifier) × List InsertTarget) → Every LawfulNames x.1 × Every LawfulTarget x.2 → Then (λ (z : List ℕ × List (List Identifier) × List InsertTarget). Every LawfulNames z.1 × Every LawfulTarget z.2) (change.insert_columns x)
insert_columns_in_change ((at ∷ places), (columns ∷ lists), (t ∷ below)) ((k_columns, k_lists), (k_t, k_below)) = (k_lists, (record { table = k_t.table; columns = k_columns }, k_below))
insert_columns_in_change ([], s1, s2) held = tt
insert_columns_in_change ((at ∷ places), [], s2) held = tt
insert_columns_in_change ((at ∷ places), (columns ∷ lists), []) held = tt

pub begin_tuples_in_change : (token : Token) (x : List BuiltTuples) → Every LawfulTuples x → Then (λ (z : List BuiltTuples). Every LawfulTuples z) (change.begin_tuples token x)
begin_tuples_in_change token below k_below = (refl, k_below)

pub begin_tuple_in_change : (x : List BuiltTuple) → Every LawfulTuple x → Then (λ (z : List BuiltTuple). Every LawfulTuple z) (change.begin_tuple x)
begin_tuple_in_change below k_below = (refl, k_below)

pub tuple_value_in_change : (x : List Built × List BuiltTuple) → Every LawfulBuilt x.0 × Every LawfulTuple x.1 → Then (λ (z : List Built × List BuiltTuple). Every LawfulBuilt z.0 × Every LawfulTuple z.1) (change.tuple_value x)
tuple_value_in_change ((e ∷ expressions), (t ∷ below)) ((k_e, k_expressions), (k_t, k_below)) = (k_expressions, (pushed law.is_lawful_value t.values (value.Expression e.tree) k_t k_e, k_below))
tuple_value_in_change ([], s1) held = tt
tuple_value_in_change ((e ∷ expressions), []) held = tt

pub tuple_default_in_change : (token : Token) (x : List BuiltTuple) → Every LawfulTuple x → Then (λ (z : List BuiltTuple). Every LawfulTuple z) (change.tuple_default token x)
tuple_default_in_change token (t ∷ below) (k_t, k_below) = (pushed law.is_lawful_value t.values (value.Default token.start) k_t refl, k_below)
tuple_default_in_change token [] held = tt

pub add_tuple_in_change : (x : List BuiltTuple × List BuiltTuples) → Every LawfulTuple x.0 × Every LawfulTuples x.1 → Then (λ (z : List BuiltTuple × List BuiltTuples). Every LawfulTuple z.0 × Every LawfulTuples z.1) (change.add_tuple x)
add_tuple_in_change ((t ∷ tuples), (list ∷ below)) ((k_t, k_tuples), (k_list, k_below)) = (k_tuples, (pushed (list_all law.is_lawful_value) list.tuples t.values k_list k_t, k_below))
add_tuple_in_change ([], s1) held = tt
add_tuple_in_change ((t ∷ tuples), []) held = tt

pub tuples_body_in_change : (x : List BuiltTuples × List BuiltBody) → Every LawfulTuples x.0 × Every LawfulBody x.1 → Then (λ (z : List BuiltTuples × List BuiltBody). Every LawfulTuples z.0 × Every LawfulBody z.1) (change.tuples_body x)
tuples_body_in_change ((list ∷ lists), below) ((k_list, k_lists), k_below) = (k_lists, (layer.values_body (change.rows_in list.tuples) (rows_are list.tuples k_list), k_below))
tuples_body_in_change ([], s1) held = tt

pub insert_tuples_in_change : (x : List InsertTarget × List BuiltTuples × List Stmt) → Every LawfulTarget x.0 × Every LawfulTuples x.1 × Every LawfulStatement x.2 → Then (λ (z : List InsertTarget × List BuiltTuples × List Stmt). Every LawfulTarget z.0 × Every LawfulTuples z.1 × Every LawfulStatement z.2) (change.insert_tuples x)
insert_tuples_in_change ((t ∷ targets), (list ∷ lists), below) ((k_t, k_targets), (k_list, k_lists), k_below) = (k_targets, k_lists, (both (is_identifier t.table) (list_all is_identifier t.columns && list_all (list_all law.is_lawful_value) list.tuples) k_t.table (both (list_all is_identifier t.columns) (list_all (list_all law.is_lawful_value) list.tuples) k_t.columns k_list), k_below))
insert_tuples_in_change ([], s1, s2) held = tt
insert_tuples_in_change ((t ∷ targets), [], s2) held = tt

pub insert_query_in_change : (x : List InsertTarget × List BuiltQuery × List Stmt) → Every LawfulTarget x.0 × Every LawfulQuery x.1 × Every LawfulStatement x.2 → Then (λ (z : List InsertTarget × List BuiltQuery × List Stmt). Every LawfulTarget z.0 × Every LawfulQuery z.1 × Every LawfulStatement z.2) (change.insert_query x)
insert_query_in_change ((t ∷ targets), (q ∷ queries), below) ((k_t, k_targets), (k_q, k_queries), k_below) = (k_targets, k_queries, (both (is_identifier t.table) (list_all is_identifier t.columns && is_lawful_query (query_of q)) k_t.table (both (list_all is_identifier t.columns) (is_lawful_query (query_of q)) k_t.columns (query_is q k_q)), k_below))
insert_query_in_change ([], s1, s2) held = tt
insert_query_in_change ((t ∷ targets), [], s2) held = tt

pub begin_update_in_change : (x : List Identifier × List (Option Identifier) × List Update) → Every LawfulName x.0 × Every LawfulAlias x.1 × Every LawfulUpdate x.2 → Then (λ (z : List Identifier × List (Option Identifier) × List Update). Every LawfulName z.0 × Every LawfulAlias z.1 × Every LawfulUpdate z.2) (change.begin_update x)
begin_update_in_change ((table ∷ names), (alias ∷ aliases), below) ((k_table, k_names), (k_alias, k_aliases), k_below) = (k_names, k_aliases, (record { table = k_table; alias = k_alias; assignments = refl }, k_below))
begin_update_in_change ([], s1, s2) held = tt
begin_update_in_change ((table ∷ names), [], s2) held = tt

pub assign_in_change : (x : List Identifier × List Built × List Update) → Every LawfulName x.0 × Every LawfulBuilt x.1 × Every LawfulUpdate x.2 → Then (λ (z : List Identifier × List Built × List Update). Every LawfulName z.0 × Every LawfulBuilt z.1 × Every LawfulUpdate z.2) (change.assign x)
assign_in_change ((column ∷ names), (e ∷ expressions), (u ∷ below)) ((k_column, k_names), (k_e, k_expressions), (k_u, k_below)) = (k_names, k_expressions, (record { table = k_u.table; alias = k_u.alias; assignments = pushed law.is_lawful_assignment u.assignments (record { column = column; value = value.Expression e.tree }) k_u.assignments (both (is_identifier column) (is_lawful e.tree) k_column k_e) }, k_below))
assign_in_change ([], s1, s2) held = tt
assign_in_change ((column ∷ names), [], s2) held = tt
assign_in_change ((column ∷ names), (e ∷ expressions), []) held = tt

pub assign_default_in_change : (token : Token) (x : List Identifier × List Update) → Every LawfulName x.0 × Every LawfulUpdate x.1 → Then (λ (z : List Identifier × List Update). Every LawfulName z.0 × Every LawfulUpdate z.1) (change.assign_default token x)
assign_default_in_change token ((column ∷ names), (u ∷ below)) ((k_column, k_names), (k_u, k_below)) = (k_names, (record { table = k_u.table; alias = k_u.alias; assignments = pushed law.is_lawful_assignment u.assignments (record { column = column; value = value.Default token.start }) k_u.assignments (both (is_identifier column) true k_column refl) }, k_below))
assign_default_in_change token ([], s1) held = tt
assign_default_in_change token ((column ∷ names), []) held = tt

pub update_statement_in_change : (x : List BuiltOptional × List Update × List Stmt) → Every LawfulOptional x.0 × Every LawfulUpdate x.1 × Every LawfulStatement x.2 → Then (λ (z : List BuiltOptional × List Update × List Stmt). Every LawfulOptional z.0 × Every LawfulUpdate z.1 × Every LawfulStatement z.2) (change.update_statement x)
update_statement_in_change ((w ∷ optional), (u ∷ updates), below) ((k_w, k_optional), (k_u, k_updates), k_below) = (k_optional, k_updates, (both (is_identifier u.table) (if_written is_identifier u.alias && (list_all law.is_lawful_assignment u.assignments && if_written is_lawful w.tree)) k_u.table (both (if_written is_identifier u.alias) (list_all law.is_lawful_assignment u.assignments && if_written is_lawful w.tree) k_u.alias (both (list_all law.is_lawful_assignment u.assignments) (if_written is_lawful w.tree) k_u.assignments k_w)), k_below))
update_statement_in_change ([], s1, s2) held = tt
update_statement_in_change ((w ∷ optional), [], s2) held = tt

pub begin_delete_in_change : (x : List Identifier × List (Option Identifier) × List Delete) → Every LawfulName x.0 × Every LawfulAlias x.1 × Every LawfulDelete x.2 → Then (λ (z : List Identifier × List (Option Identifier) × List Delete). Every LawfulName z.0 × Every LawfulAlias z.1 × Every LawfulDelete z.2) (change.begin_delete x)
begin_delete_in_change ((table ∷ names), (alias ∷ aliases), below) ((k_table, k_names), (k_alias, k_aliases), k_below) = (k_names, k_aliases, (record { table = k_table; alias = k_alias }, k_below))
begin_delete_in_change ([], s1, s2) held = tt
begin_delete_in_change ((table ∷ names), [], s2) held = tt

pub delete_statement_in_change : (x : List BuiltOptional × List Delete × List Stmt) → Every LawfulOptional x.0 × Every LawfulDelete x.1 × Every LawfulStatement x.2 → Then (λ (z : List BuiltOptional × List Delete × List Stmt). Every LawfulOptional z.0 × Every LawfulDelete z.1 × Every LawfulStatement z.2) (change.delete_statement x)
delete_statement_in_change ((w ∷ optional), (d ∷ deletes), below) ((k_w, k_optional), (k_d, k_deletes), k_below) = (k_optional, k_deletes, (both (is_identifier d.table) (if_written is_identifier d.alias && if_written is_lawful w.tree) k_d.table (both (if_written is_identifier d.alias) (if_written is_lawful w.tree) k_d.alias k_w), k_below))
delete_statement_in_change ([], s1, s2) held = tt
delete_statement_in_change ((w ∷ optional), [], s2) held = tt

pub begin_lock_in_change : (x : List (List LockedTable)) → Every LawfulLocks x → Then (λ (z : List (List LockedTable)). Every LawfulLocks z) (change.begin_lock x)
begin_lock_in_change below k_below = (refl, k_below)

pub locked_in_change : (write : Bool) (x : List Identifier × List (List LockedTable)) → Every LawfulName x.0 × Every LawfulLocks x.1 → Then (λ (z : List Identifier × List (List LockedTable)). Every LawfulName z.0 × Every LawfulLocks z.1) (change.locked write x)
locked_in_change write ((table ∷ names), (all ∷ below)) ((k_table, k_names), (k_all, k_below)) = (k_names, (pushed law.is_lawful_lock all (record { table = table; write = write }) k_all k_table, k_below))
locked_in_change write ([], s1) held = tt
locked_in_change write ((table ∷ names), []) held = tt

pub lock_statement_in_change : (x : List (List LockedTable) × List Stmt) → Every LawfulLocks x.0 × Every LawfulStatement x.1 → Then (λ (z : List (List LockedTable) × List Stmt). Every LawfulLocks z.0 × Every LawfulStatement z.1) (change.lock_statement x)
lock_statement_in_change ((all ∷ locks), below) ((k_all, k_locks), k_below) = (k_locks, (k_all, k_below))
lock_statement_in_change ([], s1) held = tt

pub begin_table_in_definition : (storage : Storage) (x : List Identifier × List CreateTable) → Every LawfulName x.0 × Every LawfulCreate x.1 → Then (λ (z : List Identifier × List CreateTable). Every LawfulName z.0 × Every LawfulCreate z.1) (definition.begin_table storage x)
begin_table_in_definition storage ((name ∷ names), below) ((k_name, k_names), k_below) = (k_names, (record { name = k_name; elements = refl }, k_below))
begin_table_in_definition storage ([], s1) held = tt

pub column_element_in_definition : (x : List ColumnDefinition × List CreateTable) → Every LawfulColumn x.0 × Every LawfulCreate x.1 → Then (λ (z : List ColumnDefinition × List CreateTable). Every LawfulColumn z.0 × Every LawfulCreate z.1) (definition.column_element x)
column_element_in_definition ((c ∷ columns), (t ∷ below)) ((k_c, k_columns), (k_t, k_below)) = (k_columns, (record { name = k_t.name; elements = pushed law.is_lawful_element t.elements (element.Column c) k_t.elements (column_is c k_c) }, k_below))
column_element_in_definition ([], s1) held = tt
column_element_in_definition ((c ∷ columns), []) held = tt

pub constraint_element_in_definition : (x : List TableConstraint × List CreateTable) → Every LawfulConstraint x.0 × Every LawfulCreate x.1 → Then (λ (z : List TableConstraint × List CreateTable). Every LawfulConstraint z.0 × Every LawfulCreate z.1) (definition.constraint_element x)
constraint_element_in_definition ((c ∷ constraints), (t ∷ below)) ((k_c, k_constraints), (k_t, k_below)) = (k_constraints, (record { name = k_t.name; elements = pushed law.is_lawful_element t.elements (element.Constraint c) k_t.elements k_c }, k_below))
constraint_element_in_definition ([], s1) held = tt
constraint_element_in_definition ((c ∷ constraints), []) held = tt

pub create_statement_in_definition : (x : List CreateTable × List Stmt) → Every LawfulCreate x.0 × Every LawfulStatement x.1 → Then (λ (z : List CreateTable × List Stmt). Every LawfulCreate z.0 × Every LawfulStatement z.1) (definition.create_statement x)
create_statement_in_definition ((t ∷ tables), below) ((k_t, k_tables), k_below) = (k_tables, (both (is_identifier t.name) (list_all law.is_lawful_element t.elements) k_t.name k_t.elements, k_below))
create_statement_in_definition ([], s1) held = tt

pub create_index_in_definition : (x : List Identifier × List (List Identifier) × List Stmt) → Every LawfulName x.0 × Every LawfulNames x.1 × Every LawfulStatement x.2 → Then (λ (z : List Identifier × List (List Identifier) × List Stmt). Every LawfulName z.0 × Every LawfulNames z.1 × Every LawfulStatement z.2) (definition.create_index x)
create_index_in_definition ((t ∷ name ∷ names), (columns ∷ lists), below) ((k_t, (k_name, k_names)), (k_columns, k_lists), k_below) = (k_names, k_lists, (both (is_identifier name) (is_identifier t && list_all is_identifier columns) k_name (both (is_identifier t) (list_all is_identifier columns) k_t k_columns), k_below))
create_index_in_definition ((t ∷ []), s1, s2) held = tt
create_index_in_definition ([], s1, s2) held = tt
create_index_in_definition ((t ∷ name ∷ names), [], s2) held = tt

pub define_in_definition : (x : List Identifier × List DataType × List ColumnDefinition) → Every LawfulName x.0 × Every LawfulType x.1 × Every LawfulColumn x.2 → Then (λ (z : List Identifier × List DataType × List ColumnDefinition). Every LawfulName z.0 × Every LawfulType z.1 × Every LawfulColumn z.2) (definition.define x)
define_in_definition ((name ∷ names), (t ∷ types), below) ((k_name, k_names), (k_t, k_types), k_below) = (k_names, k_types, (record { name = k_name; data_type = k_t; default = refl; constraints = refl }, k_below))
define_in_definition ([], s1, s2) held = tt
define_in_definition ((name ∷ names), [], s2) held = tt

pub default_in_definition : (x : List PlacedLiteral × List ColumnDefinition) → Every LawfulLiteral x.0 × Every LawfulColumn x.1 → Then (λ (z : List PlacedLiteral × List ColumnDefinition). Every LawfulLiteral z.0 × Every LawfulColumn z.1) (definition.default x)
default_in_definition ((l ∷ literals), (c ∷ below)) ((k_l, k_literals), (k_c, k_below)) = (k_literals, (record { name = k_c.name; data_type = k_c.data_type; default = k_l; constraints = k_c.constraints }, k_below))
default_in_definition ([], s1) held = tt
default_in_definition ((l ∷ literals), []) held = tt

pub named_in_definition : (x : List ℕ × List Identifier × List ConstraintHeader) → Every LawfulName x.1 × Every LawfulHeader x.2 → Then (λ (z : List ℕ × List Identifier × List ConstraintHeader). Every LawfulName z.1 × Every LawfulHeader z.2) (definition.named x)
named_in_definition ((at ∷ places), (name ∷ names), below) ((k_name, k_names), k_below) = (k_names, (k_name, k_below))
named_in_definition ([], s1, s2) held = tt
named_in_definition ((at ∷ places), [], s2) held = tt

pub unnamed_in_definition : (x : List ℕ × List ConstraintHeader) → Every LawfulHeader x.1 → Then (λ (z : List ℕ × List ConstraintHeader). Every LawfulHeader z.1) (definition.unnamed x)
unnamed_in_definition ((at ∷ places), below) k_below = (refl, k_below)
unnamed_in_definition ([], s1) held = tt

pub column_check_in_definition : (x : List Built × List ConstraintHeader × List ColumnDefinition) → Every LawfulBuilt x.0 × Every LawfulHeader x.1 × Every LawfulColumn x.2 → Then (λ (z : List Built × List ConstraintHeader × List ColumnDefinition). Every LawfulBuilt z.0 × Every LawfulHeader z.1 × Every LawfulColumn z.2) (definition.column_check x)
column_check_in_definition ((e ∷ expressions), (h ∷ headers), (c ∷ below)) ((k_e, k_expressions), (k_h, k_headers), (k_c, k_below)) = (k_expressions, k_headers, (record { name = k_c.name; data_type = k_c.data_type; default = k_c.default; constraints = pushed law.is_lawful_column_constraint c.constraints (record { at = h.at; name = h.name; rule = column.Check e.tree }) k_c.constraints (both (if_written is_identifier h.name) (law.is_lawful_column_rule (column.Check e.tree)) k_h k_e) }, k_below))
column_check_in_definition ([], s1, s2) held = tt
column_check_in_definition ((e ∷ expressions), [], s2) held = tt
column_check_in_definition ((e ∷ expressions), (h ∷ headers), []) held = tt

pub column_references_in_definition : (x : List ForeignKey × List ConstraintHeader × List ColumnDefinition) → Every LawfulKey x.0 × Every LawfulHeader x.1 × Every LawfulColumn x.2 → Then (λ (z : List ForeignKey × List ConstraintHeader × List ColumnDefinition). Every LawfulKey z.0 × Every LawfulHeader z.1 × Every LawfulColumn z.2) (definition.column_references x)
column_references_in_definition ((k ∷ keys), (h ∷ headers), (c ∷ below)) ((k_k, k_keys), (k_h, k_headers), (k_c, k_below)) = (k_keys, k_headers, (record { name = k_c.name; data_type = k_c.data_type; default = k_c.default; constraints = pushed law.is_lawful_column_constraint c.constraints (record { at = h.at; name = h.name; rule = column.References k }) k_c.constraints (both (if_written is_identifier h.name) (law.is_lawful_column_rule (column.References k)) k_h k_k) }, k_below))
column_references_in_definition ([], s1, s2) held = tt
column_references_in_definition ((k ∷ keys), [], s2) held = tt
column_references_in_definition ((k ∷ keys), (h ∷ headers), []) held = tt

pub references_in_definition : (x : List Identifier × List ForeignKey) → Every LawfulName x.0 × Every LawfulKey x.1 → Then (λ (z : List Identifier × List ForeignKey). Every LawfulName z.0 × Every LawfulKey z.1) (definition.references x)
references_in_definition ((name ∷ names), below) ((k_name, k_names), k_below) = (k_names, (both (is_identifier name) true k_name refl, k_below))
references_in_definition ([], s1) held = tt

pub parent_columns_in_definition : (x : List (List Identifier) × List ForeignKey) → Every LawfulNames x.0 × Every LawfulKey x.1 → Then (λ (z : List (List Identifier) × List ForeignKey). Every LawfulNames z.0 × Every LawfulKey z.1) (definition.parent_columns x)
parent_columns_in_definition ((columns ∷ lists), (k ∷ below)) ((k_columns, k_lists), (k_k, k_below)) = (k_lists, (both (is_identifier k.parent) (list_all is_identifier columns) (left (is_identifier k.parent) (list_all is_identifier k.parent_columns) k_k) k_columns, k_below))
parent_columns_in_definition ([], s1) held = tt
parent_columns_in_definition ((columns ∷ lists), []) held = tt

pub on_delete_in_definition : (x : List ReferentialAction × List ForeignKey) → Every LawfulKey x.1 → Then (λ (z : List ReferentialAction × List ForeignKey). Every LawfulKey z.1) (definition.on_delete x)
on_delete_in_definition ((a ∷ actions), (k ∷ below)) (k_k, k_below) = (k_k, k_below)
on_delete_in_definition ([], s1) held = tt
on_delete_in_definition ((a ∷ actions), []) held = tt

pub on_update_in_definition : (x : List ReferentialAction × List ForeignKey) → Every LawfulKey x.1 → Then (λ (z : List ReferentialAction × List ForeignKey). Every LawfulKey z.1) (definition.on_update x)
on_update_in_definition ((a ∷ actions), (k ∷ below)) (k_k, k_below) = (k_k, k_below)
on_update_in_definition ([], s1) held = tt
on_update_in_definition ((a ∷ actions), []) held = tt

pub table_primary_in_definition : (x : List ConstraintHeader × List (List Identifier) × List TableConstraint) → Every LawfulHeader x.0 × Every LawfulNames x.1 × Every LawfulConstraint x.2 → Then (λ (z : List ConstraintHeader × List (List Identifier) × List TableConstraint). Every LawfulHeader z.0 × Every LawfulNames z.1 × Every LawfulConstraint z.2) (definition.table_primary x)
table_primary_in_definition ((h ∷ headers), (columns ∷ lists), below) ((k_h, k_headers), (k_columns, k_lists), k_below) = (k_headers, k_lists, (both (if_written is_identifier h.name) (list_all is_identifier columns) k_h k_columns, k_below))
table_primary_in_definition ([], s1, s2) held = tt
table_primary_in_definition ((h ∷ headers), [], s2) held = tt

pub table_unique_in_definition : (x : List ConstraintHeader × List (List Identifier) × List TableConstraint) → Every LawfulHeader x.0 × Every LawfulNames x.1 × Every LawfulConstraint x.2 → Then (λ (z : List ConstraintHeader × List (List Identifier) × List TableConstraint). Every LawfulHeader z.0 × Every LawfulNames z.1 × Every LawfulConstraint z.2) (definition.table_unique x)
table_unique_in_definition ((h ∷ headers), (columns ∷ lists), below) ((k_h, k_headers), (k_columns, k_lists), k_below) = (k_headers, k_lists, (both (if_written is_identifier h.name) (list_all is_identifier columns) k_h k_columns, k_below))
table_unique_in_definition ([], s1, s2) held = tt
table_unique_in_definition ((h ∷ headers), [], s2) held = tt

pub table_check_in_definition : (x : List Built × List ConstraintHeader × List TableConstraint) → Every LawfulBuilt x.0 × Every LawfulHeader x.1 × Every LawfulConstraint x.2 → Then (λ (z : List Built × List ConstraintHeader × List TableConstraint). Every LawfulBuilt z.0 × Every LawfulHeader z.1 × Every LawfulConstraint z.2) (definition.table_check x)
table_check_in_definition ((e ∷ expressions), (h ∷ headers), below) ((k_e, k_expressions), (k_h, k_headers), k_below) = (k_expressions, k_headers, (both (if_written is_identifier h.name) (is_lawful e.tree) k_h k_e, k_below))
table_check_in_definition ([], s1, s2) held = tt
table_check_in_definition ((e ∷ expressions), [], s2) held = tt

pub table_foreign_in_definition : (x : List ConstraintHeader × List (List Identifier) × List ForeignKey × List TableConstraint) → Every LawfulHeader x.0 × Every LawfulNames x.1 × Every LawfulKey x.2 × Every LawfulConstraint x.3 → Then (λ (z : List ConstraintHeader × List (List Identifier) × List ForeignKey × List TableConstraint). Every LawfulHeader z.0 × Every LawfulNames z.1 × Every LawfulKey z.2 × Every LawfulConstraint z.3) (definition.table_foreign x)
table_foreign_in_definition ((h ∷ headers), (columns ∷ lists), (k ∷ keys), below) ((k_h, k_headers), (k_columns, k_lists), (k_k, k_keys), k_below) = (k_headers, k_lists, k_keys, (both (if_written is_identifier h.name) (list_all is_identifier columns && law.is_lawful_key k) k_h (both (list_all is_identifier columns) (law.is_lawful_key k) k_columns k_k), k_below))
table_foreign_in_definition ([], s1, s2, s3) held = tt
table_foreign_in_definition ((h ∷ headers), [], s2, s3) held = tt
table_foreign_in_definition ((h ∷ headers), (columns ∷ lists), [], s3) held = tt

pub add_column_in_definition : (x : List Identifier × List ColumnDefinition × List Stmt) → Every LawfulName x.0 × Every LawfulColumn x.1 × Every LawfulStatement x.2 → Then (λ (z : List Identifier × List ColumnDefinition × List Stmt). Every LawfulName z.0 × Every LawfulColumn z.1 × Every LawfulStatement z.2) (definition.add_column x)
add_column_in_definition ((t ∷ names), (c ∷ columns), below) ((k_t, k_names), (k_c, k_columns), k_below) = (k_names, k_columns, (both (is_identifier t) (law.is_lawful_column c) k_t (column_is c k_c), k_below))
add_column_in_definition ([], s1, s2) held = tt
add_column_in_definition ((t ∷ names), [], s2) held = tt

pub add_constraint_in_definition : (x : List Identifier × List TableConstraint × List Stmt) → Every LawfulName x.0 × Every LawfulConstraint x.1 × Every LawfulStatement x.2 → Then (λ (z : List Identifier × List TableConstraint × List Stmt). Every LawfulName z.0 × Every LawfulConstraint z.1 × Every LawfulStatement z.2) (definition.add_constraint x)
add_constraint_in_definition ((t ∷ names), (c ∷ constraints), below) ((k_t, k_names), (k_c, k_constraints), k_below) = (k_names, k_constraints, (both (is_identifier t) (law.is_lawful_constraint c) k_t k_c, k_below))
add_constraint_in_definition ([], s1, s2) held = tt
add_constraint_in_definition ((t ∷ names), [], s2) held = tt

pub drop_constraint_in_definition : (x : List Identifier × List Stmt) → Every LawfulName x.0 × Every LawfulStatement x.1 → Then (λ (z : List Identifier × List Stmt). Every LawfulName z.0 × Every LawfulStatement z.1) (definition.drop_constraint x)
drop_constraint_in_definition ((name ∷ t ∷ names), below) ((k_name, (k_t, k_names)), k_below) = (k_names, (both (is_identifier t) (is_identifier name) k_t k_name, k_below))
drop_constraint_in_definition ((name ∷ []), s1) held = tt
drop_constraint_in_definition ([], s1) held = tt

pub drop_table_in_definition : (x : List Identifier × List Stmt) → Every LawfulName x.0 × Every LawfulStatement x.1 → Then (λ (z : List Identifier × List Stmt). Every LawfulName z.0 × Every LawfulStatement z.1) (definition.drop_table x)
drop_table_in_definition ((name ∷ names), below) ((k_name, k_names), k_below) = (k_names, (k_name, k_below))
drop_table_in_definition ([], s1) held = tt

pub drop_index_in_definition : (x : List Identifier × List Stmt) → Every LawfulName x.0 × Every LawfulStatement x.1 → Then (λ (z : List Identifier × List Stmt). Every LawfulName z.0 × Every LawfulStatement z.1) (definition.drop_index x)
drop_index_in_definition ((name ∷ names), below) ((k_name, k_names), k_below) = (k_names, (k_name, k_below))
drop_index_in_definition ([], s1) held = tt

pub begin_modes_in_session : (x : List Modes) → Unit {0} → Then (λ (z : List Modes). Unit {0}) (session.begin_modes x)
begin_modes_in_session below h = tt

pub level_in_session : (isolation : Isolation) (x : List Modes) → Unit {0} → Then (λ (z : List Modes). Unit {0}) (session.level isolation x)
level_in_session isolation (m ∷ below) h = tt
level_in_session isolation [] held = tt

pub access_in_session : (a : Access) (x : List Modes) → Unit {0} → Then (λ (z : List Modes). Unit {0}) (session.access a x)
access_in_session a (m ∷ below) h = tt
access_in_session a [] held = tt

pub set_transaction_in_session : (x : List Modes × List Stmt) → Every LawfulStatement x.1 → Then (λ (z : List Modes × List Stmt). Every LawfulStatement z.1) (session.set_transaction x)
set_transaction_in_session ((m ∷ modes), below) k_below = (refl, k_below)
set_transaction_in_session ([], s1) held = tt

pub set_characteristics_in_session : (x : List Modes × List Stmt) → Every LawfulStatement x.1 → Then (λ (z : List Modes × List Stmt). Every LawfulStatement z.1) (session.set_characteristics x)
set_characteristics_in_session ((m ∷ modes), below) k_below = (refl, k_below)
set_characteristics_in_session ([], s1) held = tt

pub start_in_session : (x : List Modes × List Stmt) → Every LawfulStatement x.1 → Then (λ (z : List Modes × List Stmt). Every LawfulStatement z.1) (session.start x)
start_in_session ((m ∷ modes), below) k_below = (refl, k_below)
start_in_session ([], s1) held = tt

pub commit_in_session : (x : List Stmt) → Every LawfulStatement x → Then (λ (z : List Stmt). Every LawfulStatement z) (session.commit x)
commit_in_session below k_below = (refl, k_below)

pub rollback_in_session : (x : List Stmt) → Every LawfulStatement x → Then (λ (z : List Stmt). Every LawfulStatement z) (session.rollback x)
rollback_in_session below k_below = (refl, k_below)

pub savepoint_in_session : (x : List Identifier × List Stmt) → Every LawfulName x.0 × Every LawfulStatement x.1 → Then (λ (z : List Identifier × List Stmt). Every LawfulName z.0 × Every LawfulStatement z.1) (session.savepoint x)
savepoint_in_session ((n ∷ names), below) ((k_n, k_names), k_below) = (k_names, (k_n, k_below))
savepoint_in_session ([], s1) held = tt

pub rollback_to_in_session : (x : List Identifier × List Stmt) → Every LawfulName x.0 × Every LawfulStatement x.1 → Then (λ (z : List Identifier × List Stmt). Every LawfulName z.0 × Every LawfulStatement z.1) (session.rollback_to x)
rollback_to_in_session ((n ∷ names), below) ((k_n, k_names), k_below) = (k_names, (k_n, k_below))
rollback_to_in_session ([], s1) held = tt

pub release_in_session : (x : List Identifier × List Stmt) → Every LawfulName x.0 × Every LawfulStatement x.1 → Then (λ (z : List Identifier × List Stmt). Every LawfulName z.0 × Every LawfulStatement z.1) (session.release x)
release_in_session ((n ∷ names), below) ((k_n, k_names), k_below) = (k_names, (k_n, k_below))
release_in_session ([], s1) held = tt

pub autocommit_in_session : (on : Bool) (x : List Stmt) → Every LawfulStatement x → Then (λ (z : List Stmt). Every LawfulStatement z) (session.autocommit on x)
autocommit_in_session on below k_below = (refl, k_below)

pub control_in_session : (c : TransactionControl) (x : List Stmt) → Every LawfulStatement x → Then (λ (z : List Stmt). Every LawfulStatement z) (session.control c x)
control_in_session c below k_below = (refl, k_below)

pub default_level_in_session : (isolation : Isolation) (x : List Stmt) → Every LawfulStatement x → Then (λ (z : List Stmt). Every LawfulStatement z) (session.default_level isolation x)
default_level_in_session isolation below k_below = (refl, k_below)

pub write_delay_false_in_session : (x : List Stmt) → Every LawfulStatement x → Then (λ (z : List Stmt). Every LawfulStatement z) (session.write_delay_false x)
write_delay_false_in_session below k_below = (refl, k_below)

pub checkpoint_in_session : (x : List Stmt) → Every LawfulStatement x → Then (λ (z : List Stmt). Every LawfulStatement z) (session.checkpoint x)
checkpoint_in_session below k_below = (refl, k_below)

pub shutdown_in_session : (x : List Stmt) → Every LawfulStatement x → Then (λ (z : List Stmt). Every LawfulStatement z) (session.shutdown x)
shutdown_in_session below k_below = (refl, k_below)

pub add_rule_in_definition : (rule : ColumnRule) (x : List ConstraintHeader × List ColumnDefinition) → law.is_lawful_column_rule rule ≡ true → Every LawfulHeader x.0 × Every LawfulColumn x.1 → Then (λ (z : List ConstraintHeader × List ColumnDefinition). Every LawfulHeader z.0 × Every LawfulColumn z.1) (definition.add_rule rule x)
add_rule_in_definition rule ((h ∷ headers), (c ∷ below)) fits ((k_h, k_headers), (k_c, k_below)) = (k_headers, (record { name = k_c.name; data_type = k_c.data_type; default = k_c.default; constraints = pushed law.is_lawful_column_constraint c.constraints (record { at = h.at; name = h.name; rule = rule }) k_c.constraints (both (if_written is_identifier h.name) (law.is_lawful_column_rule rule) k_h fits) }, k_below))
add_rule_in_definition rule ([], s1) fits held = tt
add_rule_in_definition rule ((h ∷ headers), []) fits held = tt
