-- Each mark's step takes from the stacks what the mark's effect says and puts what it says, as deep as what it takes.
use Rattle.std.proofs.Common.{◌≡◌, ℕ, ◌+◌, ◌<◌, ◌≤◌, Bool, true, false, Option, Some, None, List, [], ◌∷◌, ◌++◌, map, refl, sym, subst, arith}
use Rattle.hs_ast.specs.declared.change.Delete.{Delete}
use Rattle.hs_ast.specs.declared.change.LockedTable.{LockedTable}
use Rattle.hs_ast.specs.declared.change.Update.{Update}
use Rattle.hs_ast.specs.declared.definition.ColumnDefinition.{ColumnDefinition}
use Rattle.hs_ast.specs.declared.definition.CreateTable.{CreateTable}
use Rattle.hs_ast.specs.declared.definition.DataType.{DataType}
use Rattle.hs_ast.specs.declared.definition.ForeignKey.{ForeignKey}
use Rattle.hs_ast.specs.declared.definition.ReferentialAction.{ReferentialAction}
use Rattle.hs_ast.specs.declared.definition.Storage.{Storage}
use Rattle.hs_ast.specs.declared.definition.TableConstraint.{TableConstraint}
use Rattle.hs_ast.specs.declared.expression.Aggregate.{Aggregate}
use Rattle.hs_ast.specs.declared.expression.BinaryOperator.{BinaryOperator}
use Rattle.hs_ast.specs.declared.expression.DateField.{DateField}
use Rattle.hs_ast.specs.declared.expression.ExpressionKind.TheVariants as kind
use Rattle.hs_ast.specs.declared.expression.Function.{Function}
use Rattle.hs_ast.specs.declared.expression.IntervalUnit.{IntervalUnit}
use Rattle.hs_ast.specs.declared.expression.Sign.{Sign}
use Rattle.hs_ast.specs.declared.expression.TrimForm.{TrimForm}
use Rattle.hs_ast.specs.declared.query.Query.{roll-Query}
use Rattle.hs_ast.specs.declared.query.QueryBody.TheVariants as body
use Rattle.hs_ast.specs.declared.query.SetOperator.{SetOperator}
use Rattle.hs_ast.specs.declared.query.SortKey.{roll-SortKey}
use Rattle.hs_ast.specs.declared.session.Access.{Access}
use Rattle.hs_ast.specs.declared.session.Isolation.{Isolation}
use Rattle.hs_ast.specs.declared.session.Modes.{Modes}
use Rattle.hs_ast.specs.declared.word.Identifier.{Identifier}
use Rattle.hs_lexer.specs.declared.token.Token.{Token}
use Rattle.hs_ast.specs.Depth.{deepest, depth_of, query_depth_of, filter_depth_of, value_depth_of, element_depth_of}
use Rattle.hs_ast.specs.declared.change.Assignment.{Assignment}
use Rattle.hs_ast.specs.declared.change.NewValue.TheVariants as value
use Rattle.hs_ast.specs.declared.definition.ColumnConstraint.{ColumnConstraint}
use Rattle.hs_ast.specs.declared.definition.ColumnRule.{ColumnRule}
use Rattle.hs_ast.specs.declared.definition.ColumnRule.TheVariants as column
use Rattle.hs_ast.specs.declared.definition.TableElement.TheVariants as element
use Rattle.std.proofs.lemmas.Bool.Decides.{nat_tests}
use Rattle.hs_builder_laws.proofs.Covering.{pushed}
use Rattle.hs_builder_laws.proofs.Covers.{values_depth, PartsCover}
use Rattle.hs_builder_laws.proofs.CoveringExpressions.{query_covered}
use Rattle.hs_builder_laws.proofs.Effects.{heights, levels, effect, update_depth, table_depth, rule_depth, column_depth, constraint_depth}
use Rattle.hs_builder_laws.proofs.Heights.{Heights, changed, and_next, pushes}
use Rattle.hs_builder_laws.proofs.Levels.{Levels, shapes, take_levels, put_one, shape_behind, takes_shape, one_shape, Within, AllParted, takes_parted, Puts, forth, back, put_within}
use Rattle.hs_builder.specs.Changes.{assigned}
use Rattle.hs_builder.specs.Definitions.{with_rule}
use Rattle.hs_builder.specs.MarkSteps.{step}
use Rattle.hs_builder.specs.Expressions.{built, built_from, query_of}
use Rattle.hs_builder.specs.Queries.{body_at}
use Rattle.hs_builder.specs.Steps.{Step, stands, deep, wrong, lift, within, beyond, level, at_depth}
use Rattle.hs_builder.specs.declared.mark.ChangeMark.TheVariants as c_mark
use Rattle.hs_builder.specs.declared.mark.ChangeMark.{ChangeMark}
use Rattle.hs_builder.specs.declared.mark.DefinitionMark.TheVariants as d_mark
use Rattle.hs_builder.specs.declared.mark.DefinitionMark.{DefinitionMark}
use Rattle.hs_builder.specs.declared.mark.ExpressionMark.TheVariants as e_mark
use Rattle.hs_builder.specs.declared.mark.ExpressionMark.{ExpressionMark}
use Rattle.hs_builder.specs.declared.mark.FunctionMark.TheVariants as f_mark
use Rattle.hs_builder.specs.declared.mark.FunctionMark.{FunctionMark}
use Rattle.hs_builder.specs.declared.mark.LeafMark.TheVariants as leaf_mark
use Rattle.hs_builder.specs.declared.mark.LeafMark.{LeafMark}
use Rattle.hs_builder.specs.declared.mark.Mark.TheVariants as mark
use Rattle.hs_builder.specs.declared.mark.Mark.{Mark}
use Rattle.hs_builder.specs.declared.mark.QueryMark.TheVariants as q_mark
use Rattle.hs_builder.specs.declared.mark.QueryMark.{QueryMark}
use Rattle.hs_builder.specs.declared.mark.SessionMark.TheVariants as s_mark
use Rattle.hs_builder.specs.declared.mark.SessionMark.{SessionMark}
use Rattle.hs_builder.specs.declared.part.Built.{Built}
use Rattle.hs_builder.specs.declared.part.BuiltBody.{BuiltBody}
use Rattle.hs_builder.specs.declared.part.BuiltCase.{BuiltCase}
use Rattle.hs_builder.specs.declared.part.BuiltFrom.{BuiltFrom}
use Rattle.hs_builder.specs.declared.part.BuiltList.{BuiltList}
use Rattle.hs_builder.specs.declared.part.BuiltOptional.{BuiltOptional}
use Rattle.hs_builder.specs.declared.part.BuiltQuery.{BuiltQuery}
use Rattle.hs_builder.specs.declared.part.BuiltRows.{BuiltRows}
use Rattle.hs_builder.specs.declared.part.BuiltSelect.{BuiltSelect}
use Rattle.hs_builder.specs.declared.part.BuiltTable.{BuiltTable}
use Rattle.hs_builder.specs.declared.part.BuiltTuple.{BuiltTuple}
use Rattle.hs_builder.specs.declared.part.BuiltTuples.{BuiltTuples}
use Rattle.hs_builder.specs.declared.part.ConstraintHeader.{ConstraintHeader}
use Rattle.hs_builder.specs.declared.part.Expressions.{Expressions}
use Rattle.hs_builder.specs.declared.part.InsertTarget.{InsertTarget}
use Rattle.hs_builder.specs.declared.part.Leaves.{Leaves}
use Rattle.hs_builder.specs.declared.part.Parts.{Parts}
use Rattle.hs_builder.specs.declared.part.PlacedLiteral.{PlacedLiteral}
use Rattle.hs_builder.specs.declared.part.PlacedNumber.{PlacedNumber}
use Rattle.hs_builder.specs.declared.part.PlacedText.{PlacedText}
use Rattle.hs_builder.specs.declared.part.Queries.{Queries}
use Rattle.std.specs.Prelude.{unwrap_or, max, nat_lt, if◌then◌else◌}

-- what a step takes is (m, w): m the greatest depth, w what is left; it puts a part of depth d that is no less deep, and not deeper
-- than both m and 256, but for a tree that is too deep. It is wrong exactly where a part is missing.
abbrev pub Goes : List ℕ → Option (ℕ × Levels) → Step Parts → Type 0
Goes is None (stands q) = ⊥
Goes is None (deep q) = ⊥
Goes is None wrong = Unit {0}
Goes is (Some (m, w)) (stands q) = (d : ℕ) × Puts is m d w (levels q) × (d ≤ max m 256)
Goes is (Some (m, w)) (deep q) = (d : ℕ) × Puts is m d w (levels q) × (256 < d)
Goes is (Some (m, w)) wrong = ⊥

abbrev Placed : List ℕ → Option (ℕ × Levels) → Levels → ℕ → Type 0
Placed is None u d = ⊥
Placed is (Some (m, w)) u d = put_one is d w ≡ Some u

-- a tree that is made at depth n goes into a part of depth d
abbrev Rises : Option (ℕ × Levels) → ℕ → ℕ → Type 0
Rises None n d = Unit {0}
Rises (Some (m, w)) n d = (m ≤ d) × (n ≤ d) × (d ≤ max m n)

is_above : (n : ℕ) → nat_lt 256 n ≡ true → 256 < n
is_above n e = grind (arith, nat_tests)

is_within : (n : ℕ) → nat_lt 256 n ≡ false → n ≤ 256
is_within n e = grind (arith, nat_tests)

made : {S R : Type 0} (is : List ℕ) (m : ℕ) (w : Levels) (n d : ℕ) (f : ℕ → S) (g : S → R) (h : R → Parts) (t : Bool) → nat_lt 256 n ≡ t → put_one is d w ≡ Some (levels (h (g (f n)))) → (m ≤ d) × (n ≤ d) × (d ≤ max m n)
    → Goes is (Some (m, w)) (lift (lift (at_depth (if t then beyond n else within n) f) g) h)
made is m w n d f g h true e p r = (d, record { put = p; covers = r.0 }, omega (arith, r.1, is_above n e))
made is m w n d f g h false e p r = (d, record { put = p; covers = r.0 }, omega (arith, r.2, is_within n e))

deep_right : {S R : Type 0} (is : List ℕ) (o : Option (ℕ × Levels)) (n d : ℕ) (f : ℕ → S) (g : S → R) (h : R → Parts) → Placed is o (levels (h (g (f n)))) d → Rises o n d → Goes is o (lift (lift (at_depth (level n) f) g) h)
deep_right is None n d f g h p r = absurd p
deep_right is (Some (m, w)) n d f g h p r = made is m w n d f g h (nat_lt 256 n) refl p r

abbrev taken : Mark → Parts → Option (ℕ × Levels)
taken m p = take_levels (effect m).takes 0 (levels p)

abbrev pub Right : List ℕ → Token → ℕ → Mark → Parts → Type 0
Right source token here m p = Goes (effect m).puts (taken m p) (step source token here m p)

abbrev assigned_depth : Assignment → ℕ
assigned_depth a = value_depth_of a.value

abbrev ruled_by : ConstraintHeader → ColumnRule → ColumnConstraint
ruled_by h rule = record { at = h.at; name = h.name; rule = rule }

leaves_first_name : (source : List ℕ) (token : Token) (here : ℕ) (parts : Parts) (names : List Identifier) → Right source token here (mark.Leaf leaf_mark.FirstName) (record parts { leaves = record parts.leaves { names = names } })
leaves_first_name source token here parts (n ∷ names) = (0, record { put = refl; covers = omega arith }, omega arith)
leaves_first_name source token here parts [] = tt

leaves_next_name : (source : List ℕ) (token : Token) (here : ℕ) (parts : Parts) (names : List Identifier) (name_lists : List (List Identifier)) → Right source token here (mark.Leaf leaf_mark.NextName) (record parts { leaves = record parts.leaves { names = names; name_lists = name_lists } })
leaves_next_name source token here parts (n ∷ names) (list ∷ lists) = (0, record { put = refl; covers = omega arith }, omega arith)
leaves_next_name source token here parts [] name_lists = tt
leaves_next_name source token here parts (n ∷ names) [] = tt

leaves_alias : (source : List ℕ) (token : Token) (here : ℕ) (parts : Parts) (names : List Identifier) → Right source token here (mark.Leaf leaf_mark.Alias) (record parts { leaves = record parts.leaves { names = names } })
leaves_alias source token here parts (n ∷ names) = (0, record { put = refl; covers = omega arith }, omega arith)
leaves_alias source token here parts [] = tt

leaves_number_literal : (source : List ℕ) (token : Token) (here : ℕ) (parts : Parts) (numbers : List PlacedNumber) → Right source token here (mark.Leaf leaf_mark.NumberLiteral) (record parts { leaves = record parts.leaves { numbers = numbers } })
leaves_number_literal source token here parts (n ∷ numbers) = (0, record { put = refl; covers = omega arith }, omega arith)
leaves_number_literal source token here parts [] = tt

leaves_text_literal : (source : List ℕ) (token : Token) (here : ℕ) (parts : Parts) (texts : List PlacedText) → Right source token here (mark.Leaf leaf_mark.TextLiteral) (record parts { leaves = record parts.leaves { texts = texts } })
leaves_text_literal source token here parts (t ∷ texts) = (0, record { put = refl; covers = omega arith }, omega arith)
leaves_text_literal source token here parts [] = tt

leaves_date : (source : List ℕ) (token : Token) (here : ℕ) (parts : Parts) (places : List ℕ) (texts : List PlacedText) → Right source token here (mark.Leaf leaf_mark.Date) (record parts { leaves = record parts.leaves { places = places; texts = texts } })
leaves_date source token here parts (at ∷ places) (t ∷ texts) = (0, record { put = refl; covers = omega arith }, omega arith)
leaves_date source token here parts [] texts = tt
leaves_date source token here parts (at ∷ places) [] = tt

leaves_timestamp : (source : List ℕ) (token : Token) (here : ℕ) (parts : Parts) (places : List ℕ) (texts : List PlacedText) → Right source token here (mark.Leaf leaf_mark.Timestamp) (record parts { leaves = record parts.leaves { places = places; texts = texts } })
leaves_timestamp source token here parts (at ∷ places) (t ∷ texts) = (0, record { put = refl; covers = omega arith }, omega arith)
leaves_timestamp source token here parts [] texts = tt
leaves_timestamp source token here parts (at ∷ places) [] = tt

leaves_signed_literal : (source : List ℕ) (token : Token) (here : ℕ) (sign : Sign) (parts : Parts) (places : List ℕ) (numbers : List PlacedNumber) → Right source token here (mark.Leaf (leaf_mark.SignedLiteral sign)) (record parts { leaves = record parts.leaves { places = places; numbers = numbers } })
leaves_signed_literal source token here sign parts (at ∷ places) (n ∷ numbers) = (0, record { put = refl; covers = omega arith }, omega arith)
leaves_signed_literal source token here sign parts [] numbers = tt
leaves_signed_literal source token here sign parts (at ∷ places) [] = tt

leaves_decimal : (source : List ℕ) (token : Token) (here : ℕ) (parts : Parts) (numbers : List PlacedNumber) → Right source token here (mark.Leaf leaf_mark.Decimal) (record parts { leaves = record parts.leaves { numbers = numbers } })
leaves_decimal source token here parts (p ∷ numbers) = (0, record { put = refl; covers = omega arith }, omega arith)
leaves_decimal source token here parts [] = tt

leaves_decimal_scale : (source : List ℕ) (token : Token) (here : ℕ) (parts : Parts) (numbers : List PlacedNumber) → Right source token here (mark.Leaf leaf_mark.DecimalScale) (record parts { leaves = record parts.leaves { numbers = numbers } })
leaves_decimal_scale source token here parts (s ∷ p ∷ numbers) = (0, record { put = refl; covers = omega arith }, omega arith)
leaves_decimal_scale source token here parts (s ∷ []) = tt
leaves_decimal_scale source token here parts [] = tt

leaves_varchar : (source : List ℕ) (token : Token) (here : ℕ) (parts : Parts) (numbers : List PlacedNumber) → Right source token here (mark.Leaf leaf_mark.Varchar) (record parts { leaves = record parts.leaves { numbers = numbers } })
leaves_varchar source token here parts (n ∷ numbers) = (0, record { put = refl; covers = omega arith }, omega arith)
leaves_varchar source token here parts [] = tt

leaves_right : (source : List ℕ) (token : Token) (here : ℕ) (m : LeafMark) (parts : Parts) → Right source token here (mark.Leaf m) parts
leaves_right source token here leaf_mark.Place parts = (0, record { put = refl; covers = omega arith }, omega arith)
leaves_right source token here leaf_mark.Here parts = (0, record { put = refl; covers = omega arith }, omega arith)
leaves_right source token here leaf_mark.Name parts = (0, record { put = refl; covers = omega arith }, omega arith)
leaves_right source token here leaf_mark.FirstName parts = leaves_first_name source token here parts parts.leaves.names
leaves_right source token here leaf_mark.NextName parts = leaves_next_name source token here parts parts.leaves.names parts.leaves.name_lists
leaves_right source token here leaf_mark.Alias parts = leaves_alias source token here parts parts.leaves.names
leaves_right source token here leaf_mark.NoAlias parts = (0, record { put = refl; covers = omega arith }, omega arith)
leaves_right source token here (leaf_mark.Flag set) parts = (0, record { put = refl; covers = omega arith }, omega arith)
leaves_right source token here leaf_mark.Number parts = (0, record { put = refl; covers = omega arith }, omega arith)
leaves_right source token here leaf_mark.Text parts = (0, record { put = refl; covers = omega arith }, omega arith)
leaves_right source token here leaf_mark.NumberLiteral parts = leaves_number_literal source token here parts parts.leaves.numbers
leaves_right source token here leaf_mark.TextLiteral parts = leaves_text_literal source token here parts parts.leaves.texts
leaves_right source token here (leaf_mark.Boolean truth) parts = (0, record { put = refl; covers = omega arith }, omega arith)
leaves_right source token here leaf_mark.Null parts = (0, record { put = refl; covers = omega arith }, omega arith)
leaves_right source token here leaf_mark.Date parts = leaves_date source token here parts parts.leaves.places parts.leaves.texts
leaves_right source token here leaf_mark.Timestamp parts = leaves_timestamp source token here parts parts.leaves.places parts.leaves.texts
leaves_right source token here (leaf_mark.SignedLiteral sign) parts = leaves_signed_literal source token here sign parts parts.leaves.places parts.leaves.numbers
leaves_right source token here (leaf_mark.Type t) parts = (0, record { put = refl; covers = omega arith }, omega arith)
leaves_right source token here leaf_mark.PlainDecimal parts = (0, record { put = refl; covers = omega arith }, omega arith)
leaves_right source token here leaf_mark.Decimal parts = leaves_decimal source token here parts parts.leaves.numbers
leaves_right source token here leaf_mark.DecimalScale parts = leaves_decimal_scale source token here parts parts.leaves.numbers
leaves_right source token here leaf_mark.Varchar parts = leaves_varchar source token here parts parts.leaves.numbers

expressions_literal : (source : List ℕ) (token : Token) (here : ℕ) (parts : Parts) (literals : List PlacedLiteral) → Right source token here (mark.Expression e_mark.Literal) (record parts { leaves = record parts.leaves { literals = literals } })
expressions_literal source token here parts (l ∷ literals) = (0, record { put = refl; covers = omega arith }, omega arith)
expressions_literal source token here parts [] = tt

expressions_column : (source : List ℕ) (token : Token) (here : ℕ) (parts : Parts) (names : List Identifier) → Right source token here (mark.Expression e_mark.Column) (record parts { leaves = record parts.leaves { names = names } })
expressions_column source token here parts (name ∷ names) = (0, record { put = refl; covers = omega arith }, omega arith)
expressions_column source token here parts [] = tt

expressions_qualified : (source : List ℕ) (token : Token) (here : ℕ) (parts : Parts) (names : List Identifier) → Right source token here (mark.Expression e_mark.Qualified) (record parts { leaves = record parts.leaves { names = names } })
expressions_qualified source token here parts (name ∷ table ∷ names) = (0, record { put = refl; covers = omega arith }, omega arith)
expressions_qualified source token here parts (name ∷ []) = tt
expressions_qualified source token here parts [] = tt

expressions_bracket : (source : List ℕ) (token : Token) (here : ℕ) (parts : Parts) (places : List ℕ) (expressions : List Built) → Right source token here (mark.Expression e_mark.Bracket) (record parts { leaves = record parts.leaves { places = places }; expressions = record parts.expressions { whole = expressions } })
expressions_bracket source token here parts (at ∷ places) (a ∷ below) = (a.depth, record { put = refl; covers = omega arith }, omega arith)
expressions_bracket source token here parts [] expressions = tt
expressions_bracket source token here parts (at ∷ places) [] = tt

expressions_signed : (source : List ℕ) (token : Token) (here : ℕ) (sign : Sign) (parts : Parts) (places : List ℕ) (expressions : List Built) → Right source token here (mark.Expression (e_mark.Signed sign)) (record parts { leaves = record parts.leaves { places = places }; expressions = record parts.expressions { whole = expressions } })
expressions_signed source token here sign parts (at ∷ places) (a ∷ below) =
    deep_right {S = List ℕ × List Built} {R = Leaves × Expressions × Queries} (effect (mark.Expression (e_mark.Signed sign))).puts (taken (mark.Expression (e_mark.Signed sign)) (record parts { leaves = record parts.leaves { places = at ∷ places }; expressions = record parts.expressions { whole = a ∷ below } })) (max a.depth 0 + 1) (max a.depth 0 + 1) (λ depth. (places, built at (kind.Signed sign a.tree) depth ∷ below)) (λ x. (record parts.leaves { places = x.0 }, record parts.expressions { whole = x.1 }, parts.queries)) (λ x. record parts { leaves = x.0; expressions = x.1; queries = x.2 }) refl (omega arith, omega arith, omega arith)
expressions_signed source token here sign parts [] expressions = tt
expressions_signed source token here sign parts (at ∷ places) [] = tt

expressions_not : (source : List ℕ) (token : Token) (here : ℕ) (parts : Parts) (places : List ℕ) (expressions : List Built) → Right source token here (mark.Expression e_mark.Not) (record parts { leaves = record parts.leaves { places = places }; expressions = record parts.expressions { whole = expressions } })
expressions_not source token here parts (at ∷ places) (a ∷ below) =
    deep_right {S = List ℕ × List Built} {R = Leaves × Expressions × Queries} (effect (mark.Expression e_mark.Not)).puts (taken (mark.Expression e_mark.Not) (record parts { leaves = record parts.leaves { places = at ∷ places }; expressions = record parts.expressions { whole = a ∷ below } })) (max a.depth 0 + 1) (max a.depth 0 + 1) (λ depth. (places, built at (kind.Not a.tree) depth ∷ below)) (λ x. (record parts.leaves { places = x.0 }, record parts.expressions { whole = x.1 }, parts.queries)) (λ x. record parts { leaves = x.0; expressions = x.1; queries = x.2 }) refl (omega arith, omega arith, omega arith)
expressions_not source token here parts [] expressions = tt
expressions_not source token here parts (at ∷ places) [] = tt

expressions_binary : (source : List ℕ) (token : Token) (here : ℕ) (operator : BinaryOperator) (parts : Parts) (expressions : List Built) → Right source token here (mark.Expression (e_mark.Binary operator)) (record parts { expressions = record parts.expressions { whole = expressions } })
expressions_binary source token here operator parts (b ∷ a ∷ below) =
    deep_right {S = List Built} {R = Leaves × Expressions × Queries} (effect (mark.Expression (e_mark.Binary operator))).puts (taken (mark.Expression (e_mark.Binary operator)) (record parts { expressions = record parts.expressions { whole = b ∷ a ∷ below } })) (max a.depth b.depth + 1) (max a.depth b.depth + 1) (λ depth. built a.start (kind.Binary operator a.tree b.tree) depth ∷ below) (λ x. (parts.leaves, record parts.expressions { whole = x }, parts.queries)) (λ x. record parts { leaves = x.0; expressions = x.1; queries = x.2 }) refl (omega arith, omega arith, omega arith)
expressions_binary source token here operator parts (b ∷ []) = tt
expressions_binary source token here operator parts [] = tt

expressions_is_null : (source : List ℕ) (token : Token) (here : ℕ) (negated : Bool) (parts : Parts) (expressions : List Built) → Right source token here (mark.Expression (e_mark.IsNull negated)) (record parts { expressions = record parts.expressions { whole = expressions } })
expressions_is_null source token here negated parts (a ∷ below) =
    deep_right {S = List Built} {R = Leaves × Expressions × Queries} (effect (mark.Expression (e_mark.IsNull negated))).puts (taken (mark.Expression (e_mark.IsNull negated)) (record parts { expressions = record parts.expressions { whole = a ∷ below } })) (max a.depth 0 + 1) (max a.depth 0 + 1) (λ depth. built a.start (kind.IsNull a.tree negated) depth ∷ below) (λ x. (parts.leaves, record parts.expressions { whole = x }, parts.queries)) (λ x. record parts { leaves = x.0; expressions = x.1; queries = x.2 }) refl (omega arith, omega arith, omega arith)
expressions_is_null source token here negated parts [] = tt

expressions_between : (source : List ℕ) (token : Token) (here : ℕ) (parts : Parts) (flags : List Bool) (expressions : List Built) → Right source token here (mark.Expression e_mark.Between) (record parts { leaves = record parts.leaves { flags = flags }; expressions = record parts.expressions { whole = expressions } })
expressions_between source token here parts (negated ∷ flags) (high ∷ low ∷ a ∷ below) =
    deep_right {S = List Bool × List Built} {R = Leaves × Expressions × Queries} (effect (mark.Expression e_mark.Between)).puts (taken (mark.Expression e_mark.Between) (record parts { leaves = record parts.leaves { flags = negated ∷ flags }; expressions = record parts.expressions { whole = high ∷ low ∷ a ∷ below } })) (max a.depth (max low.depth high.depth) + 1) (max a.depth (max low.depth high.depth) + 1) (λ depth. (flags, built a.start (kind.Between a.tree negated low.tree high.tree) depth ∷ below)) (λ x. (record parts.leaves { flags = x.0 }, record parts.expressions { whole = x.1 }, parts.queries)) (λ x. record parts { leaves = x.0; expressions = x.1; queries = x.2 }) refl (omega arith, omega arith, omega arith)
expressions_between source token here parts [] expressions = tt
expressions_between source token here parts (negated ∷ flags) (high ∷ low ∷ []) = tt
expressions_between source token here parts (negated ∷ flags) (high ∷ []) = tt
expressions_between source token here parts (negated ∷ flags) [] = tt

expressions_like : (source : List ℕ) (token : Token) (here : ℕ) (parts : Parts) (flags : List Bool) (expressions : List Built) → Right source token here (mark.Expression e_mark.Like) (record parts { leaves = record parts.leaves { flags = flags }; expressions = record parts.expressions { whole = expressions } })
expressions_like source token here parts (negated ∷ flags) (pattern ∷ a ∷ below) =
    deep_right {S = List Bool × List Built} {R = Leaves × Expressions × Queries} (effect (mark.Expression e_mark.Like)).puts (taken (mark.Expression e_mark.Like) (record parts { leaves = record parts.leaves { flags = negated ∷ flags }; expressions = record parts.expressions { whole = pattern ∷ a ∷ below } })) (max a.depth pattern.depth + 1) (max a.depth pattern.depth + 1) (λ depth. (flags, built a.start (kind.Like a.tree negated pattern.tree None) depth ∷ below)) (λ x. (record parts.leaves { flags = x.0 }, record parts.expressions { whole = x.1 }, parts.queries)) (λ x. record parts { leaves = x.0; expressions = x.1; queries = x.2 }) refl (omega arith, omega arith, omega arith)
expressions_like source token here parts [] expressions = tt
expressions_like source token here parts (negated ∷ flags) (pattern ∷ []) = tt
expressions_like source token here parts (negated ∷ flags) [] = tt

expressions_like_escape : (source : List ℕ) (token : Token) (here : ℕ) (parts : Parts) (flags : List Bool) (texts : List PlacedText) (expressions : List Built) → Right source token here (mark.Expression e_mark.LikeEscape) (record parts { leaves = record parts.leaves { flags = flags; texts = texts }; expressions = record parts.expressions { whole = expressions } })
expressions_like_escape source token here parts (negated ∷ flags) (escape ∷ texts) (pattern ∷ a ∷ below) =
    deep_right {S = List Bool × List PlacedText × List Built} {R = Leaves × Expressions × Queries} (effect (mark.Expression e_mark.LikeEscape)).puts (taken (mark.Expression e_mark.LikeEscape) (record parts { leaves = record parts.leaves { flags = negated ∷ flags; texts = escape ∷ texts }; expressions = record parts.expressions { whole = pattern ∷ a ∷ below } })) (max a.depth pattern.depth + 1) (max a.depth pattern.depth + 1) (λ depth. (flags, texts, built a.start (kind.Like a.tree negated pattern.tree (Some escape.text)) depth ∷ below)) (λ x. (record parts.leaves { flags = x.0; texts = x.1 }, record parts.expressions { whole = x.2 }, parts.queries)) (λ x. record parts { leaves = x.0; expressions = x.1; queries = x.2 }) refl (omega arith, omega arith, omega arith)
expressions_like_escape source token here parts [] texts expressions = tt
expressions_like_escape source token here parts (negated ∷ flags) [] expressions = tt
expressions_like_escape source token here parts (negated ∷ flags) (escape ∷ texts) (pattern ∷ []) = tt
expressions_like_escape source token here parts (negated ∷ flags) (escape ∷ texts) [] = tt

expressions_in_list : (source : List ℕ) (token : Token) (here : ℕ) (parts : Parts) (flags : List Bool) (expressions : List Built) (lists : List BuiltList) → Right source token here (mark.Expression e_mark.InList) (record parts { leaves = record parts.leaves { flags = flags }; expressions = record parts.expressions { whole = expressions; lists = lists } })
expressions_in_list source token here parts (negated ∷ flags) (a ∷ below) (list ∷ lists) =
    deep_right {S = List Bool × List Built × List BuiltList} {R = Leaves × Expressions × Queries} (effect (mark.Expression e_mark.InList)).puts (taken (mark.Expression e_mark.InList) (record parts { leaves = record parts.leaves { flags = negated ∷ flags }; expressions = record parts.expressions { whole = a ∷ below; lists = list ∷ lists } })) (max a.depth list.depth + 1) (max a.depth list.depth + 1) (λ depth. (flags, built a.start (kind.InList a.tree negated list.trees) depth ∷ below, lists)) (λ x. (record parts.leaves { flags = x.0 }, record parts.expressions { whole = x.1; lists = x.2 }, parts.queries)) (λ x. record parts { leaves = x.0; expressions = x.1; queries = x.2 }) refl (omega arith, omega arith, omega arith)
expressions_in_list source token here parts [] expressions lists = tt
expressions_in_list source token here parts (negated ∷ flags) [] lists = tt
expressions_in_list source token here parts (negated ∷ flags) (a ∷ below) [] = tt

expressions_in_query : (source : List ℕ) (token : Token) (here : ℕ) (parts : Parts) (flags : List Bool) (expressions : List Built) (queries : List BuiltQuery) → Right source token here (mark.Expression e_mark.InQuery) (record parts { leaves = record parts.leaves { flags = flags }; expressions = record parts.expressions { whole = expressions }; queries = record parts.queries { whole = queries } })
expressions_in_query source token here parts (negated ∷ flags) (a ∷ below) (q ∷ queries) =
    deep_right {S = List Bool × List Built × List BuiltQuery} {R = Leaves × Expressions × Queries} (effect (mark.Expression e_mark.InQuery)).puts (taken (mark.Expression e_mark.InQuery) (record parts { leaves = record parts.leaves { flags = negated ∷ flags }; expressions = record parts.expressions { whole = a ∷ below }; queries = record parts.queries { whole = q ∷ queries } })) (max a.depth q.depth + 1) (max a.depth q.depth + 1) (λ depth. (flags, built a.start (kind.InQuery a.tree negated (query_of q)) depth ∷ below, queries)) (λ x. (record parts.leaves { flags = x.0 }, record parts.expressions { whole = x.1 }, record parts.queries { whole = x.2 })) (λ x. record parts { leaves = x.0; expressions = x.1; queries = x.2 }) refl (omega arith, omega arith, omega arith)
expressions_in_query source token here parts [] expressions queries = tt
expressions_in_query source token here parts (negated ∷ flags) [] queries = tt
expressions_in_query source token here parts (negated ∷ flags) (a ∷ below) [] = tt

expressions_exists : (source : List ℕ) (token : Token) (here : ℕ) (parts : Parts) (places : List ℕ) (queries : List BuiltQuery) → Right source token here (mark.Expression e_mark.Exists) (record parts { leaves = record parts.leaves { places = places }; queries = record parts.queries { whole = queries } })
expressions_exists source token here parts (at ∷ places) (q ∷ queries) =
    deep_right {S = List ℕ × List Built × List BuiltQuery} {R = Leaves × Expressions × Queries} (effect (mark.Expression e_mark.Exists)).puts (taken (mark.Expression e_mark.Exists) (record parts { leaves = record parts.leaves { places = at ∷ places }; queries = record parts.queries { whole = q ∷ queries } })) (max q.depth 0 + 1) (max q.depth 0 + 1) (λ depth. (places, built at (kind.Exists (query_of q)) depth ∷ parts.expressions.whole, queries)) (λ x. (record parts.leaves { places = x.0 }, record parts.expressions { whole = x.1 }, record parts.queries { whole = x.2 })) (λ x. record parts { leaves = x.0; expressions = x.1; queries = x.2 }) refl (omega arith, omega arith, omega arith)
expressions_exists source token here parts [] queries = tt
expressions_exists source token here parts (at ∷ places) [] = tt

expressions_subquery : (source : List ℕ) (token : Token) (here : ℕ) (parts : Parts) (places : List ℕ) (queries : List BuiltQuery) → Right source token here (mark.Expression e_mark.Subquery) (record parts { leaves = record parts.leaves { places = places }; queries = record parts.queries { whole = queries } })
expressions_subquery source token here parts (at ∷ places) (q ∷ queries) = (q.depth, record { put = refl; covers = omega arith }, omega arith)
expressions_subquery source token here parts [] queries = tt
expressions_subquery source token here parts (at ∷ places) [] = tt

expressions_body_subquery : (source : List ℕ) (token : Token) (here : ℕ) (parts : Parts) (places : List ℕ) (bodies : List BuiltBody) → Right source token here (mark.Expression e_mark.BodySubquery) (record parts { leaves = record parts.leaves { places = places }; queries = record parts.queries { bodies = bodies } })
expressions_body_subquery source token here parts (at ∷ places) (b ∷ bodies) =
    deep_right {S = List ℕ × List Built × List BuiltBody} {R = Leaves × Expressions × Queries} (effect (mark.Expression e_mark.BodySubquery)).puts (taken (mark.Expression e_mark.BodySubquery) (record parts { leaves = record parts.leaves { places = at ∷ places }; queries = record parts.queries { bodies = b ∷ bodies } })) (max b.depth 0 + 1) (max b.depth 0 + 1) (λ depth. let query = roll-Query (record { at = b.at; body = b.tree; order_by = []; limit = None }) in (places, built_from (unwrap_or b.bracket at) at (kind.Subquery query) depth ∷ parts.expressions.whole, bodies)) (λ x. (record parts.leaves { places = x.0 }, record parts.expressions { whole = x.1 }, record parts.queries { bodies = x.2 })) (λ x. record parts { leaves = x.0; expressions = x.1; queries = x.2 }) refl (omega arith, omega arith, omega arith)
expressions_body_subquery source token here parts [] bodies = tt
expressions_body_subquery source token here parts (at ∷ places) [] = tt

expressions_digits : (source : List ℕ) (token : Token) (here : ℕ) (parts : Parts) (texts : List PlacedText) → Right source token here (mark.Expression e_mark.Digits) (record parts { leaves = record parts.leaves { texts = texts } })
expressions_digits source token here parts (t ∷ texts) = (0, record { put = refl; covers = omega arith }, omega arith)
expressions_digits source token here parts [] = tt

expressions_interval : (source : List ℕ) (token : Token) (here : ℕ) (sign : Sign) (unit : IntervalUnit) (parts : Parts) (expressions : List Built) (counts : List ℕ) → Right source token here (mark.Expression (e_mark.Interval sign unit)) (record parts { expressions = record parts.expressions { whole = expressions; counts = counts } })
expressions_interval source token here sign unit parts (a ∷ below) (count ∷ counts) =
    deep_right {S = List Built × List ℕ} {R = Leaves × Expressions × Queries} (effect (mark.Expression (e_mark.Interval sign unit))).puts (taken (mark.Expression (e_mark.Interval sign unit)) (record parts { expressions = record parts.expressions { whole = a ∷ below; counts = count ∷ counts } })) (max a.depth 0 + 1) (max a.depth 0 + 1) (λ depth. (built a.start (kind.Interval a.tree sign count unit) depth ∷ below, counts)) (λ x. (parts.leaves, record parts.expressions { whole = x.0; counts = x.1 }, parts.queries)) (λ x. record parts { leaves = x.0; expressions = x.1; queries = x.2 }) refl (omega arith, omega arith, omega arith)
expressions_interval source token here sign unit parts [] counts = tt
expressions_interval source token here sign unit parts (a ∷ below) [] = tt

expressions_first : (source : List ℕ) (token : Token) (here : ℕ) (parts : Parts) (expressions : List Built) → Right source token here (mark.Expression e_mark.First) (record parts { expressions = record parts.expressions { whole = expressions } })
expressions_first source token here parts (e ∷ expressions) = (e.depth, record { put = refl; covers = omega arith }, omega arith)
expressions_first source token here parts [] = tt

expressions_next : (source : List ℕ) (token : Token) (here : ℕ) (parts : Parts) (expressions : List Built) (lists : List BuiltList) → Right source token here (mark.Expression e_mark.Next) (record parts { expressions = record parts.expressions { whole = expressions; lists = lists } })
expressions_next source token here parts (e ∷ expressions) (list ∷ below) = ((max list.depth e.depth), record { put = refl; covers = omega arith }, omega arith)
expressions_next source token here parts [] lists = tt
expressions_next source token here parts (e ∷ expressions) [] = tt

expressions_written : (source : List ℕ) (token : Token) (here : ℕ) (parts : Parts) (expressions : List Built) → Right source token here (mark.Expression e_mark.Written) (record parts { expressions = record parts.expressions { whole = expressions } })
expressions_written source token here parts (e ∷ expressions) = (e.depth, record { put = refl; covers = omega arith }, omega arith)
expressions_written source token here parts [] = tt

expressions_right : (source : List ℕ) (token : Token) (here : ℕ) (m : ExpressionMark) (parts : Parts) → Right source token here (mark.Expression m) parts
expressions_right source token here e_mark.Literal parts = expressions_literal source token here parts parts.leaves.literals
expressions_right source token here e_mark.Column parts = expressions_column source token here parts parts.leaves.names
expressions_right source token here e_mark.Qualified parts = expressions_qualified source token here parts parts.leaves.names
expressions_right source token here e_mark.Bracket parts = expressions_bracket source token here parts parts.leaves.places parts.expressions.whole
expressions_right source token here (e_mark.Signed sign) parts = expressions_signed source token here sign parts parts.leaves.places parts.expressions.whole
expressions_right source token here e_mark.Not parts = expressions_not source token here parts parts.leaves.places parts.expressions.whole
expressions_right source token here (e_mark.Binary operator) parts = expressions_binary source token here operator parts parts.expressions.whole
expressions_right source token here (e_mark.IsNull negated) parts = expressions_is_null source token here negated parts parts.expressions.whole
expressions_right source token here e_mark.Between parts = expressions_between source token here parts parts.leaves.flags parts.expressions.whole
expressions_right source token here e_mark.Like parts = expressions_like source token here parts parts.leaves.flags parts.expressions.whole
expressions_right source token here e_mark.LikeEscape parts = expressions_like_escape source token here parts parts.leaves.flags parts.leaves.texts parts.expressions.whole
expressions_right source token here e_mark.InList parts = expressions_in_list source token here parts parts.leaves.flags parts.expressions.whole parts.expressions.lists
expressions_right source token here e_mark.InQuery parts = expressions_in_query source token here parts parts.leaves.flags parts.expressions.whole parts.queries.whole
expressions_right source token here e_mark.Exists parts = expressions_exists source token here parts parts.leaves.places parts.queries.whole
expressions_right source token here e_mark.Subquery parts = expressions_subquery source token here parts parts.leaves.places parts.queries.whole
expressions_right source token here e_mark.BodySubquery parts = expressions_body_subquery source token here parts parts.leaves.places parts.queries.bodies
expressions_right source token here e_mark.Digits parts = expressions_digits source token here parts parts.leaves.texts
expressions_right source token here (e_mark.Interval sign unit) parts = expressions_interval source token here sign unit parts parts.expressions.whole parts.expressions.counts
expressions_right source token here e_mark.First parts = expressions_first source token here parts parts.expressions.whole
expressions_right source token here e_mark.Next parts = expressions_next source token here parts parts.expressions.whole parts.expressions.lists
expressions_right source token here e_mark.Written parts = expressions_written source token here parts parts.expressions.whole
expressions_right source token here e_mark.Unwritten parts = (0, record { put = refl; covers = omega arith }, omega arith)

functions_cast : (source : List ℕ) (token : Token) (here : ℕ) (parts : Parts) (places : List ℕ) (types : List DataType) (expressions : List Built) → Right source token here (mark.Function f_mark.Cast) (record parts { leaves = record parts.leaves { places = places; types = types }; expressions = record parts.expressions { whole = expressions } })
functions_cast source token here parts (at ∷ places) (t ∷ types) (a ∷ below) =
    deep_right {S = List ℕ × List DataType × List Built} {R = Leaves × Expressions} (effect (mark.Function f_mark.Cast)).puts (taken (mark.Function f_mark.Cast) (record parts { leaves = record parts.leaves { places = at ∷ places; types = t ∷ types }; expressions = record parts.expressions { whole = a ∷ below } })) (max a.depth 0 + 1) (max a.depth 0 + 1) (λ depth. (places, types, built at (kind.Cast a.tree t) depth ∷ below)) (λ x. (record parts.leaves { places = x.0; types = x.1 }, record parts.expressions { whole = x.2 })) (λ x. record parts { leaves = x.0; expressions = x.1 }) refl (omega arith, omega arith, omega arith)
functions_cast source token here parts [] types expressions = tt
functions_cast source token here parts (at ∷ places) [] expressions = tt
functions_cast source token here parts (at ∷ places) (t ∷ types) [] = tt

functions_arm : (source : List ℕ) (token : Token) (here : ℕ) (parts : Parts) (cases : List BuiltCase) (expressions : List Built) → Right source token here (mark.Function f_mark.Arm) (record parts { expressions = record parts.expressions { cases = cases; whole = expressions } })
functions_arm source token here parts (c ∷ cases) (value ∷ test ∷ below) = ((max c.depth (max test.depth value.depth)), record { put = refl; covers = omega arith }, omega arith)
functions_arm source token here parts [] expressions = tt
functions_arm source token here parts (c ∷ cases) (value ∷ []) = tt
functions_arm source token here parts (c ∷ cases) [] = tt

functions_end : (source : List ℕ) (token : Token) (here : ℕ) (parts : Parts) (optional : List BuiltOptional) (cases : List BuiltCase) → Right source token here (mark.Function f_mark.End) (record parts { expressions = record parts.expressions { optional = optional; cases = cases } })
functions_end source token here parts (o ∷ optional) (c ∷ cases) =
    deep_right {S = List BuiltOptional × List BuiltCase × List Built} {R = Leaves × Expressions} (effect (mark.Function f_mark.End)).puts (taken (mark.Function f_mark.End) (record parts { expressions = record parts.expressions { optional = o ∷ optional; cases = c ∷ cases } })) (max c.depth o.depth + 1) (max c.depth o.depth + 1) (λ depth. (optional, cases, built c.at (kind.Case c.arms o.tree) depth ∷ parts.expressions.whole)) (λ x. (parts.leaves, record parts.expressions { optional = x.0; cases = x.1; whole = x.2 })) (λ x. record parts { leaves = x.0; expressions = x.1 }) refl (omega arith, omega arith, omega arith)
functions_end source token here parts [] cases = tt
functions_end source token here parts (o ∷ optional) [] = tt

functions_call : (source : List ℕ) (token : Token) (here : ℕ) (name : Function) (parts : Parts) (places : List ℕ) (lists : List BuiltList) → Right source token here (mark.Function (f_mark.Call name)) (record parts { leaves = record parts.leaves { places = places }; expressions = record parts.expressions { lists = lists } })
functions_call source token here name parts (at ∷ places) (list ∷ lists) =
    deep_right {S = List ℕ × List Built × List BuiltList} {R = Leaves × Expressions} (effect (mark.Function (f_mark.Call name))).puts (taken (mark.Function (f_mark.Call name)) (record parts { leaves = record parts.leaves { places = at ∷ places }; expressions = record parts.expressions { lists = list ∷ lists } })) (max list.depth 0 + 1) (max list.depth 0 + 1) (λ depth. (places, built at (kind.Call name list.trees) depth ∷ parts.expressions.whole, lists)) (λ x. (record parts.leaves { places = x.0 }, record parts.expressions { whole = x.1; lists = x.2 })) (λ x. record parts { leaves = x.0; expressions = x.1 }) refl (omega arith, omega arith, omega arith)
functions_call source token here name parts [] lists = tt
functions_call source token here name parts (at ∷ places) [] = tt

functions_substring : (source : List ℕ) (token : Token) (here : ℕ) (parts : Parts) (places : List ℕ) (expressions : List Built) → Right source token here (mark.Function f_mark.Substring) (record parts { leaves = record parts.leaves { places = places }; expressions = record parts.expressions { whole = expressions } })
functions_substring source token here parts (at ∷ places) (start ∷ text ∷ below) =
    deep_right {S = List ℕ × List Built} {R = Leaves × Expressions} (effect (mark.Function f_mark.Substring)).puts (taken (mark.Function f_mark.Substring) (record parts { leaves = record parts.leaves { places = at ∷ places }; expressions = record parts.expressions { whole = start ∷ text ∷ below } })) (max text.depth start.depth + 1) (max text.depth start.depth + 1) (λ depth. (places, built at (kind.Substring text.tree start.tree None) depth ∷ below)) (λ x. (record parts.leaves { places = x.0 }, record parts.expressions { whole = x.1 })) (λ x. record parts { leaves = x.0; expressions = x.1 }) refl (omega arith, omega arith, omega arith)
functions_substring source token here parts [] expressions = tt
functions_substring source token here parts (at ∷ places) (start ∷ []) = tt
functions_substring source token here parts (at ∷ places) [] = tt

functions_substring_for : (source : List ℕ) (token : Token) (here : ℕ) (parts : Parts) (places : List ℕ) (expressions : List Built) → Right source token here (mark.Function f_mark.SubstringFor) (record parts { leaves = record parts.leaves { places = places }; expressions = record parts.expressions { whole = expressions } })
functions_substring_for source token here parts (at ∷ places) (count ∷ start ∷ text ∷ below) =
    deep_right {S = List ℕ × List Built} {R = Leaves × Expressions} (effect (mark.Function f_mark.SubstringFor)).puts (taken (mark.Function f_mark.SubstringFor) (record parts { leaves = record parts.leaves { places = at ∷ places }; expressions = record parts.expressions { whole = count ∷ start ∷ text ∷ below } })) (max text.depth (max start.depth count.depth) + 1) (max text.depth (max start.depth count.depth) + 1) (λ depth. (places, built at (kind.Substring text.tree start.tree (Some count.tree)) depth ∷ below)) (λ x. (record parts.leaves { places = x.0 }, record parts.expressions { whole = x.1 })) (λ x. record parts { leaves = x.0; expressions = x.1 }) refl (omega arith, omega arith, omega arith)
functions_substring_for source token here parts [] expressions = tt
functions_substring_for source token here parts (at ∷ places) (count ∷ start ∷ []) = tt
functions_substring_for source token here parts (at ∷ places) (count ∷ []) = tt
functions_substring_for source token here parts (at ∷ places) [] = tt

functions_trim : (source : List ℕ) (token : Token) (here : ℕ) (parts : Parts) (places : List ℕ) (forms : List TrimForm) (expressions : List Built) → Right source token here (mark.Function f_mark.Trim) (record parts { leaves = record parts.leaves { places = places }; expressions = record parts.expressions { forms = forms; whole = expressions } })
functions_trim source token here parts (at ∷ places) (manner ∷ forms) (text ∷ below) =
    deep_right {S = List ℕ × List TrimForm × List Built} {R = Leaves × Expressions} (effect (mark.Function f_mark.Trim)).puts (taken (mark.Function f_mark.Trim) (record parts { leaves = record parts.leaves { places = at ∷ places }; expressions = record parts.expressions { forms = manner ∷ forms; whole = text ∷ below } })) (max text.depth 0 + 1) (max text.depth 0 + 1) (λ depth. (places, forms, built at (kind.Trim manner None text.tree) depth ∷ below)) (λ x. (record parts.leaves { places = x.0 }, record parts.expressions { forms = x.1; whole = x.2 })) (λ x. record parts { leaves = x.0; expressions = x.1 }) refl (omega arith, omega arith, omega arith)
functions_trim source token here parts [] forms expressions = tt
functions_trim source token here parts (at ∷ places) [] expressions = tt
functions_trim source token here parts (at ∷ places) (manner ∷ forms) [] = tt

functions_trim_character : (source : List ℕ) (token : Token) (here : ℕ) (parts : Parts) (places : List ℕ) (forms : List TrimForm) (expressions : List Built) → Right source token here (mark.Function f_mark.TrimCharacter) (record parts { leaves = record parts.leaves { places = places }; expressions = record parts.expressions { forms = forms; whole = expressions } })
functions_trim_character source token here parts (at ∷ places) (manner ∷ forms) (text ∷ character ∷ below) =
    deep_right {S = List ℕ × List TrimForm × List Built} {R = Leaves × Expressions} (effect (mark.Function f_mark.TrimCharacter)).puts (taken (mark.Function f_mark.TrimCharacter) (record parts { leaves = record parts.leaves { places = at ∷ places }; expressions = record parts.expressions { forms = manner ∷ forms; whole = text ∷ character ∷ below } })) (max character.depth text.depth + 1) (max character.depth text.depth + 1) (λ depth. (places, forms, built at (kind.Trim manner (Some character.tree) text.tree) depth ∷ below)) (λ x. (record parts.leaves { places = x.0 }, record parts.expressions { forms = x.1; whole = x.2 })) (λ x. record parts { leaves = x.0; expressions = x.1 }) refl (omega arith, omega arith, omega arith)
functions_trim_character source token here parts [] forms expressions = tt
functions_trim_character source token here parts (at ∷ places) [] expressions = tt
functions_trim_character source token here parts (at ∷ places) (manner ∷ forms) (text ∷ []) = tt
functions_trim_character source token here parts (at ∷ places) (manner ∷ forms) [] = tt

functions_extract : (source : List ℕ) (token : Token) (here : ℕ) (parts : Parts) (places : List ℕ) (fields : List DateField) (expressions : List Built) → Right source token here (mark.Function f_mark.Extract) (record parts { leaves = record parts.leaves { places = places }; expressions = record parts.expressions { fields = fields; whole = expressions } })
functions_extract source token here parts (at ∷ places) (field ∷ fields) (a ∷ below) =
    deep_right {S = List ℕ × List DateField × List Built} {R = Leaves × Expressions} (effect (mark.Function f_mark.Extract)).puts (taken (mark.Function f_mark.Extract) (record parts { leaves = record parts.leaves { places = at ∷ places }; expressions = record parts.expressions { fields = field ∷ fields; whole = a ∷ below } })) (max a.depth 0 + 1) (max a.depth 0 + 1) (λ depth. (places, fields, built at (kind.Extract field a.tree) depth ∷ below)) (λ x. (record parts.leaves { places = x.0 }, record parts.expressions { fields = x.1; whole = x.2 })) (λ x. record parts { leaves = x.0; expressions = x.1 }) refl (omega arith, omega arith, omega arith)
functions_extract source token here parts [] fields expressions = tt
functions_extract source token here parts (at ∷ places) [] expressions = tt
functions_extract source token here parts (at ∷ places) (field ∷ fields) [] = tt

functions_count_rows : (source : List ℕ) (token : Token) (here : ℕ) (parts : Parts) (places : List ℕ) → Right source token here (mark.Function f_mark.CountRows) (record parts { leaves = record parts.leaves { places = places } })
functions_count_rows source token here parts (at ∷ places) = (1, record { put = refl; covers = omega arith }, omega arith)
functions_count_rows source token here parts [] = tt

functions_aggregate : (source : List ℕ) (token : Token) (here : ℕ) (name : Aggregate) (parts : Parts) (places : List ℕ) (flags : List Bool) (expressions : List Built) → Right source token here (mark.Function (f_mark.Aggregate name)) (record parts { leaves = record parts.leaves { places = places; flags = flags }; expressions = record parts.expressions { whole = expressions } })
functions_aggregate source token here name parts (at ∷ places) (distinct ∷ flags) (a ∷ below) =
    deep_right {S = List ℕ × List Bool × List Built} {R = Leaves × Expressions} (effect (mark.Function (f_mark.Aggregate name))).puts (taken (mark.Function (f_mark.Aggregate name)) (record parts { leaves = record parts.leaves { places = at ∷ places; flags = distinct ∷ flags }; expressions = record parts.expressions { whole = a ∷ below } })) (max a.depth 0 + 1) (max a.depth 0 + 1) (λ depth. (places, flags, built at (kind.Aggregate name distinct a.tree) depth ∷ below)) (λ x. (record parts.leaves { places = x.0; flags = x.1 }, record parts.expressions { whole = x.2 })) (λ x. record parts { leaves = x.0; expressions = x.1 }) refl (omega arith, omega arith, omega arith)
functions_aggregate source token here name parts [] flags expressions = tt
functions_aggregate source token here name parts (at ∷ places) [] expressions = tt
functions_aggregate source token here name parts (at ∷ places) (distinct ∷ flags) [] = tt

functions_right : (source : List ℕ) (token : Token) (here : ℕ) (m : FunctionMark) (parts : Parts) → Right source token here (mark.Function m) parts
functions_right source token here f_mark.Cast parts = functions_cast source token here parts parts.leaves.places parts.leaves.types parts.expressions.whole
functions_right source token here f_mark.Case parts = (0, record { put = refl; covers = omega arith }, omega arith)
functions_right source token here f_mark.Arm parts = functions_arm source token here parts parts.expressions.cases parts.expressions.whole
functions_right source token here f_mark.End parts = functions_end source token here parts parts.expressions.optional parts.expressions.cases
functions_right source token here (f_mark.Call name) parts = functions_call source token here name parts parts.leaves.places parts.expressions.lists
functions_right source token here f_mark.Substring parts = functions_substring source token here parts parts.leaves.places parts.expressions.whole
functions_right source token here f_mark.SubstringFor parts = functions_substring_for source token here parts parts.leaves.places parts.expressions.whole
functions_right source token here (f_mark.Form manner) parts = (0, record { put = refl; covers = omega arith }, omega arith)
functions_right source token here f_mark.Trim parts = functions_trim source token here parts parts.leaves.places parts.expressions.forms parts.expressions.whole
functions_right source token here f_mark.TrimCharacter parts = functions_trim_character source token here parts parts.leaves.places parts.expressions.forms parts.expressions.whole
functions_right source token here (f_mark.Field field) parts = (0, record { put = refl; covers = omega arith }, omega arith)
functions_right source token here f_mark.Extract parts = functions_extract source token here parts parts.leaves.places parts.expressions.fields parts.expressions.whole
functions_right source token here f_mark.CountRows parts = functions_count_rows source token here parts parts.leaves.places
functions_right source token here (f_mark.Aggregate name) parts = functions_aggregate source token here name parts parts.leaves.places parts.leaves.flags parts.expressions.whole

queries_select : (source : List ℕ) (token : Token) (here : ℕ) (parts : Parts) (places : List ℕ) (flags : List Bool) → Right source token here (mark.Query q_mark.Select) (record parts { leaves = record parts.leaves { places = places; flags = flags } })
queries_select source token here parts (at ∷ places) (distinct ∷ flags) = (0, record { put = refl; covers = omega arith }, omega arith)
queries_select source token here parts [] flags = tt
queries_select source token here parts (at ∷ places) [] = tt

queries_every : (source : List ℕ) (token : Token) (here : ℕ) (parts : Parts) (selects : List BuiltSelect) → Right source token here (mark.Query q_mark.Every) (record parts { queries = record parts.queries { selects = selects } })
queries_every source token here parts (s ∷ below) = (s.depth, record { put = refl; covers = omega arith }, omega arith)
queries_every source token here parts [] = tt

queries_item : (source : List ℕ) (token : Token) (here : ℕ) (parts : Parts) (aliases : List (Option Identifier)) (expressions : List Built) (selects : List BuiltSelect) → Right source token here (mark.Query q_mark.Item) (record parts { leaves = record parts.leaves { aliases = aliases }; expressions = record parts.expressions { whole = expressions }; queries = record parts.queries { selects = selects } })
queries_item source token here parts (alias ∷ aliases) (e ∷ expressions) (s ∷ below) = ((max s.depth e.depth), record { put = refl; covers = omega arith }, omega arith)
queries_item source token here parts [] expressions selects = tt
queries_item source token here parts (alias ∷ aliases) [] selects = tt
queries_item source token here parts (alias ∷ aliases) (e ∷ expressions) [] = tt

queries_table : (source : List ℕ) (token : Token) (here : ℕ) (parts : Parts) (names : List Identifier) (aliases : List (Option Identifier)) → Right source token here (mark.Query q_mark.Table) (record parts { leaves = record parts.leaves { names = names; aliases = aliases } })
queries_table source token here parts (name ∷ names) (alias ∷ aliases) = (0, record { put = refl; covers = omega arith }, omega arith)
queries_table source token here parts [] aliases = tt
queries_table source token here parts (name ∷ names) [] = tt

queries_derived : (source : List ℕ) (token : Token) (here : ℕ) (parts : Parts) (names : List Identifier) (queries : List BuiltQuery) → Right source token here (mark.Query q_mark.Derived) (record parts { leaves = record parts.leaves { names = names }; queries = record parts.queries { whole = queries } })
queries_derived source token here parts (name ∷ names) (q ∷ queries) = (q.depth, record { put = refl; covers = omega arith }, omega arith)
queries_derived source token here parts [] queries = tt
queries_derived source token here parts (name ∷ names) [] = tt

queries_from : (source : List ℕ) (token : Token) (here : ℕ) (parts : Parts) (tables : List BuiltTable) → Right source token here (mark.Query q_mark.From) (record parts { queries = record parts.queries { tables = tables } })
queries_from source token here parts (t ∷ tables) = (t.depth, record { put = refl; covers = omega arith }, omega arith)
queries_from source token here parts [] = tt

queries_join : (source : List ℕ) (token : Token) (here : ℕ) (outer : Bool) (parts : Parts) (expressions : List Built) (tables : List BuiltTable) (froms : List BuiltFrom) → Right source token here (mark.Query (q_mark.Join outer)) (record parts { expressions = record parts.expressions { whole = expressions }; queries = record parts.queries { tables = tables; froms = froms } })
queries_join source token here outer parts (e ∷ expressions) (t ∷ tables) (f ∷ below) = ((max f.depth (max t.depth e.depth)), record { put = refl; covers = omega arith }, omega arith)
queries_join source token here outer parts [] tables froms = tt
queries_join source token here outer parts (e ∷ expressions) [] froms = tt
queries_join source token here outer parts (e ∷ expressions) (t ∷ tables) [] = tt

queries_cross_join : (source : List ℕ) (token : Token) (here : ℕ) (parts : Parts) (tables : List BuiltTable) (froms : List BuiltFrom) → Right source token here (mark.Query q_mark.CrossJoin) (record parts { queries = record parts.queries { tables = tables; froms = froms } })
queries_cross_join source token here parts (t ∷ tables) (f ∷ below) = ((max f.depth t.depth), record { put = refl; covers = omega arith }, omega arith)
queries_cross_join source token here parts [] froms = tt
queries_cross_join source token here parts (t ∷ tables) [] = tt

queries_add_from : (source : List ℕ) (token : Token) (here : ℕ) (parts : Parts) (froms : List BuiltFrom) (selects : List BuiltSelect) → Right source token here (mark.Query q_mark.AddFrom) (record parts { queries = record parts.queries { froms = froms; selects = selects } })
queries_add_from source token here parts (f ∷ froms) (s ∷ below) = ((max s.depth f.depth), record { put = refl; covers = omega arith }, omega arith)
queries_add_from source token here parts [] selects = tt
queries_add_from source token here parts (f ∷ froms) [] = tt

queries_group : (source : List ℕ) (token : Token) (here : ℕ) (parts : Parts) (expressions : List Built) (selects : List BuiltSelect) → Right source token here (mark.Query q_mark.Group) (record parts { expressions = record parts.expressions { whole = expressions }; queries = record parts.queries { selects = selects } })
queries_group source token here parts (e ∷ expressions) (s ∷ below) = ((max s.depth e.depth), record { put = refl; covers = omega arith }, omega arith)
queries_group source token here parts [] selects = tt
queries_group source token here parts (e ∷ expressions) [] = tt

queries_select_body : (source : List ℕ) (token : Token) (here : ℕ) (parts : Parts) (optional : List BuiltOptional) (selects : List BuiltSelect) → Right source token here (mark.Query q_mark.SelectBody) (record parts { expressions = record parts.expressions { optional = optional }; queries = record parts.queries { selects = selects } })
queries_select_body source token here parts (v ∷ w ∷ optional) (s ∷ selects) = ((max s.depth (max w.depth v.depth)), record { put = refl; covers = omega arith }, omega arith)
queries_select_body source token here parts [] selects = tt
queries_select_body source token here parts (v ∷ []) selects = tt
queries_select_body source token here parts (v ∷ w ∷ optional) [] = tt

queries_row : (source : List ℕ) (token : Token) (here : ℕ) (parts : Parts) (lists : List BuiltList) (rows : List BuiltRows) → Right source token here (mark.Query q_mark.Row) (record parts { expressions = record parts.expressions { lists = lists }; queries = record parts.queries { rows = rows } })
queries_row source token here parts (list ∷ lists) (v ∷ below) = ((max v.depth list.depth), record { put = refl; covers = omega arith }, omega arith)
queries_row source token here parts [] rows = tt
queries_row source token here parts (list ∷ lists) [] = tt

queries_values_body : (source : List ℕ) (token : Token) (here : ℕ) (parts : Parts) (rows : List BuiltRows) → Right source token here (mark.Query q_mark.ValuesBody) (record parts { queries = record parts.queries { rows = rows } })
queries_values_body source token here parts (v ∷ rows) = (v.depth, record { put = refl; covers = omega arith }, omega arith)
queries_values_body source token here parts [] = tt

queries_bracket_body : (source : List ℕ) (token : Token) (here : ℕ) (parts : Parts) (places : List ℕ) (bodies : List BuiltBody) → Right source token here (mark.Query q_mark.BracketBody) (record parts { leaves = record parts.leaves { places = places }; queries = record parts.queries { bodies = bodies } })
queries_bracket_body source token here parts (at ∷ places) (b ∷ below) = (b.depth, record { put = refl; covers = omega arith }, omega arith)
queries_bracket_body source token here parts [] bodies = tt
queries_bracket_body source token here parts (at ∷ places) [] = tt

queries_set_operation : (source : List ℕ) (token : Token) (here : ℕ) (operator : SetOperator) (parts : Parts) (bodies : List BuiltBody) → Right source token here (mark.Query (q_mark.SetOperation operator)) (record parts { queries = record parts.queries { bodies = bodies } })
queries_set_operation source token here operator parts (b ∷ a ∷ below) =
    deep_right {S = List BuiltBody} {R = Leaves × Expressions × Queries} (effect (mark.Query (q_mark.SetOperation operator))).puts (taken (mark.Query (q_mark.SetOperation operator)) (record parts { queries = record parts.queries { bodies = b ∷ a ∷ below } })) (max a.depth b.depth + 1) (max a.depth b.depth + 1) (λ depth. body_at a.at (body.SetOperation operator a.tree b.tree) depth ∷ below) (λ x. (parts.leaves, parts.expressions, record parts.queries { bodies = x })) (λ x. record parts { leaves = x.0; expressions = x.1; queries = x.2 }) refl (omega arith, omega arith, omega arith)
queries_set_operation source token here operator parts (b ∷ []) = tt
queries_set_operation source token here operator parts [] = tt

queries_query : (source : List ℕ) (token : Token) (here : ℕ) (parts : Parts) (bodies : List BuiltBody) → Right source token here (mark.Query q_mark.Query) (record parts { queries = record parts.queries { bodies = bodies } })
queries_query source token here parts (b ∷ bodies) =
    deep_right {S = List BuiltBody × List BuiltQuery} {R = Leaves × Expressions × Queries} (effect (mark.Query q_mark.Query)).puts (taken (mark.Query q_mark.Query) (record parts { queries = record parts.queries { bodies = b ∷ bodies } })) (max b.depth 0 + 1) (max b.depth 0 + 1) (λ depth. (bodies, record { body = b.tree; order_by = []; limit = None; depth = depth; at = b.at } ∷ parts.queries.whole)) (λ x. (parts.leaves, parts.expressions, record parts.queries { bodies = x.0; whole = x.1 })) (λ x. record parts { leaves = x.0; expressions = x.1; queries = x.2 }) refl (omega arith, omega arith, omega arith)
queries_query source token here parts [] = tt

queries_key : (source : List ℕ) (token : Token) (here : ℕ) (descending : Bool) (parts : Parts) (expressions : List Built) (queries : List BuiltQuery) → Right source token here (mark.Query (q_mark.Key descending)) (record parts { expressions = record parts.expressions { whole = expressions }; queries = record parts.queries { whole = queries } })
queries_key source token here descending parts (e ∷ expressions) (q ∷ below) =
    deep_right {S = List Built × List BuiltQuery} {R = Leaves × Expressions × Queries} (effect (mark.Query (q_mark.Key descending))).puts (taken (mark.Query (q_mark.Key descending)) (record parts { expressions = record parts.expressions { whole = e ∷ expressions }; queries = record parts.queries { whole = q ∷ below } })) (max e.depth 0 + 1) (max q.depth (max e.depth 0 + 1)) (λ depth. let key = roll-SortKey (record { at = e.start; value = e.tree; descending = descending }) in (expressions, record q { order_by = q.order_by ++ key ∷ []; depth = max q.depth depth } ∷ below)) (λ x. (parts.leaves, record parts.expressions { whole = x.0 }, record parts.queries { whole = x.1 })) (λ x. record parts { leaves = x.0; expressions = x.1; queries = x.2 }) refl (omega arith, omega arith, omega arith)
queries_key source token here descending parts [] queries = tt
queries_key source token here descending parts (e ∷ expressions) [] = tt

queries_limit : (source : List ℕ) (token : Token) (here : ℕ) (parts : Parts) (numbers : List PlacedNumber) (queries : List BuiltQuery) → Right source token here (mark.Query q_mark.Limit) (record parts { leaves = record parts.leaves { numbers = numbers }; queries = record parts.queries { whole = queries } })
queries_limit source token here parts (n ∷ numbers) (q ∷ below) = (q.depth, record { put = refl; covers = omega arith }, omega arith)
queries_limit source token here parts [] queries = tt
queries_limit source token here parts (n ∷ numbers) [] = tt

queries_offset : (source : List ℕ) (token : Token) (here : ℕ) (parts : Parts) (numbers : List PlacedNumber) (queries : List BuiltQuery) → Right source token here (mark.Query q_mark.Offset) (record parts { leaves = record parts.leaves { numbers = numbers }; queries = record parts.queries { whole = queries } })
queries_offset source token here parts (n ∷ numbers) (q ∷ below) = (q.depth, record { put = refl; covers = omega arith }, omega arith)
queries_offset source token here parts [] queries = tt
queries_offset source token here parts (n ∷ numbers) [] = tt

queries_right : (source : List ℕ) (token : Token) (here : ℕ) (m : QueryMark) (parts : Parts) → Right source token here (mark.Query m) parts
queries_right source token here q_mark.Select parts = queries_select source token here parts parts.leaves.places parts.leaves.flags
queries_right source token here q_mark.Every parts = queries_every source token here parts parts.queries.selects
queries_right source token here q_mark.Item parts = queries_item source token here parts parts.leaves.aliases parts.expressions.whole parts.queries.selects
queries_right source token here q_mark.Table parts = queries_table source token here parts parts.leaves.names parts.leaves.aliases
queries_right source token here q_mark.Derived parts = queries_derived source token here parts parts.leaves.names parts.queries.whole
queries_right source token here q_mark.From parts = queries_from source token here parts parts.queries.tables
queries_right source token here (q_mark.Join outer) parts = queries_join source token here outer parts parts.expressions.whole parts.queries.tables parts.queries.froms
queries_right source token here q_mark.CrossJoin parts = queries_cross_join source token here parts parts.queries.tables parts.queries.froms
queries_right source token here q_mark.AddFrom parts = queries_add_from source token here parts parts.queries.froms parts.queries.selects
queries_right source token here q_mark.Group parts = queries_group source token here parts parts.expressions.whole parts.queries.selects
queries_right source token here q_mark.SelectBody parts = queries_select_body source token here parts parts.expressions.optional parts.queries.selects
queries_right source token here q_mark.Values parts = (0, record { put = refl; covers = omega arith }, omega arith)
queries_right source token here q_mark.Row parts = queries_row source token here parts parts.expressions.lists parts.queries.rows
queries_right source token here q_mark.ValuesBody parts = queries_values_body source token here parts parts.queries.rows
queries_right source token here q_mark.BracketBody parts = queries_bracket_body source token here parts parts.leaves.places parts.queries.bodies
queries_right source token here (q_mark.SetOperation operator) parts = queries_set_operation source token here operator parts parts.queries.bodies
queries_right source token here q_mark.Query parts = queries_query source token here parts parts.queries.bodies
queries_right source token here (q_mark.Key descending) parts = queries_key source token here descending parts parts.expressions.whole parts.queries.whole
queries_right source token here q_mark.Limit parts = queries_limit source token here parts parts.leaves.numbers parts.queries.whole
queries_right source token here q_mark.Offset parts = queries_offset source token here parts parts.leaves.numbers parts.queries.whole

changes_query_statement : (source : List ℕ) (token : Token) (here : ℕ) (parts : Parts) (queries : List BuiltQuery) → PartsCover (record parts { queries = record parts.queries { whole = queries } }) → Right source token here (mark.Change c_mark.QueryStatement) (record parts { queries = record parts.queries { whole = queries } })
changes_query_statement source token here parts (q ∷ queries) h = ((query_depth_of (query_of q)), record { put = refl; covers = omega (arith, query_covered q h.queries.whole.0) }, omega (arith, query_covered q h.queries.whole.0))
changes_query_statement source token here parts [] h = tt

changes_insert : (source : List ℕ) (token : Token) (here : ℕ) (parts : Parts) (names : List Identifier) → Right source token here (mark.Change c_mark.Insert) (record parts { leaves = record parts.leaves { names = names } })
changes_insert source token here parts (table ∷ names) = (0, record { put = refl; covers = omega arith }, omega arith)
changes_insert source token here parts [] = tt

changes_insert_columns : (source : List ℕ) (token : Token) (here : ℕ) (parts : Parts) (places : List ℕ) (name_lists : List (List Identifier)) (targets : List InsertTarget) → Right source token here (mark.Change c_mark.InsertColumns) (record parts { leaves = record parts.leaves { places = places; name_lists = name_lists }; changes = record parts.changes { targets = targets } })
changes_insert_columns source token here parts (at ∷ places) (columns ∷ lists) (t ∷ below) = (0, record { put = refl; covers = omega arith }, omega arith)
changes_insert_columns source token here parts [] name_lists targets = tt
changes_insert_columns source token here parts (at ∷ places) [] targets = tt
changes_insert_columns source token here parts (at ∷ places) (columns ∷ lists) [] = tt

changes_tuple_value : (source : List ℕ) (token : Token) (here : ℕ) (parts : Parts) (expressions : List Built) (tuples : List BuiltTuple) → Right source token here (mark.Change c_mark.TupleValue) (record parts { expressions = record parts.expressions { whole = expressions }; changes = record parts.changes { tuples = tuples } })
changes_tuple_value source token here parts (e ∷ expressions) (t ∷ below) = ((max t.depth e.depth), record { put = refl; covers = omega arith }, omega arith)
changes_tuple_value source token here parts [] tuples = tt
changes_tuple_value source token here parts (e ∷ expressions) [] = tt

changes_tuple_default : (source : List ℕ) (token : Token) (here : ℕ) (parts : Parts) (tuples : List BuiltTuple) → Right source token here (mark.Change c_mark.TupleDefault) (record parts { changes = record parts.changes { tuples = tuples } })
changes_tuple_default source token here parts (t ∷ below) = (t.depth, record { put = refl; covers = omega arith }, omega arith)
changes_tuple_default source token here parts [] = tt

changes_add_tuple : (source : List ℕ) (token : Token) (here : ℕ) (parts : Parts) (tuples : List BuiltTuple) (tuple_lists : List BuiltTuples) → Right source token here (mark.Change c_mark.AddTuple) (record parts { changes = record parts.changes { tuples = tuples; tuple_lists = tuple_lists } })
changes_add_tuple source token here parts (t ∷ tuples) (list ∷ below) = ((max list.depth t.depth), record { put = refl; covers = omega arith }, omega arith)
changes_add_tuple source token here parts [] tuple_lists = tt
changes_add_tuple source token here parts (t ∷ tuples) [] = tt

changes_tuples_body : (source : List ℕ) (token : Token) (here : ℕ) (parts : Parts) (tuple_lists : List BuiltTuples) → Right source token here (mark.Change c_mark.TuplesBody) (record parts { changes = record parts.changes { tuple_lists = tuple_lists } })
changes_tuples_body source token here parts (list ∷ lists) = (list.depth, record { put = refl; covers = omega arith }, omega arith)
changes_tuples_body source token here parts [] = tt

changes_insert_tuples : (source : List ℕ) (token : Token) (here : ℕ) (parts : Parts) (targets : List InsertTarget) (tuple_lists : List BuiltTuples) → PartsCover (record parts { changes = record parts.changes { targets = targets; tuple_lists = tuple_lists } }) → Right source token here (mark.Change c_mark.InsertTuples) (record parts { changes = record parts.changes { targets = targets; tuple_lists = tuple_lists } })
changes_insert_tuples source token here parts (t ∷ targets) (list ∷ lists) h = ((deepest (map values_depth list.tuples)), record { put = refl; covers = omega (arith, h.changes.tuple_lists.0) }, omega (arith, h.changes.tuple_lists.0))
changes_insert_tuples source token here parts [] tuple_lists h = tt
changes_insert_tuples source token here parts (t ∷ targets) [] h = tt

changes_insert_query : (source : List ℕ) (token : Token) (here : ℕ) (parts : Parts) (targets : List InsertTarget) (queries : List BuiltQuery) → PartsCover (record parts { queries = record parts.queries { whole = queries }; changes = record parts.changes { targets = targets } }) → Right source token here (mark.Change c_mark.InsertQuery) (record parts { queries = record parts.queries { whole = queries }; changes = record parts.changes { targets = targets } })
changes_insert_query source token here parts (t ∷ targets) (q ∷ queries) h = ((query_depth_of (query_of q)), record { put = refl; covers = omega (arith, query_covered q h.queries.whole.0) }, omega (arith, query_covered q h.queries.whole.0))
changes_insert_query source token here parts [] queries h = tt
changes_insert_query source token here parts (t ∷ targets) [] h = tt

changes_update : (source : List ℕ) (token : Token) (here : ℕ) (parts : Parts) (names : List Identifier) (aliases : List (Option Identifier)) → Right source token here (mark.Change c_mark.Update) (record parts { leaves = record parts.leaves { names = names; aliases = aliases } })
changes_update source token here parts (table ∷ names) (alias ∷ aliases) = (0, record { put = refl; covers = omega arith }, omega arith)
changes_update source token here parts [] aliases = tt
changes_update source token here parts (table ∷ names) [] = tt

changes_assign : (source : List ℕ) (token : Token) (here : ℕ) (parts : Parts) (names : List Identifier) (expressions : List Built) (updates : List Update) → PartsCover (record parts { leaves = record parts.leaves { names = names }; expressions = record parts.expressions { whole = expressions }; changes = record parts.changes { updates = updates } }) → Right source token here (mark.Change c_mark.Assign) (record parts { leaves = record parts.leaves { names = names }; expressions = record parts.expressions { whole = expressions }; changes = record parts.changes { updates = updates } })
changes_assign source token here parts (column ∷ names) (e ∷ expressions) (u ∷ below) h = ((update_depth (assigned u column (value.Expression e.tree))), record { put = refl; covers = omega (arith, h.expressions.whole.0, pushed assigned_depth u.assignments (record { column = column; value = value.Expression e.tree })) }, omega (arith, h.expressions.whole.0, pushed assigned_depth u.assignments (record { column = column; value = value.Expression e.tree })))
changes_assign source token here parts [] expressions updates h = tt
changes_assign source token here parts (column ∷ names) [] updates h = tt
changes_assign source token here parts (column ∷ names) (e ∷ expressions) [] h = tt

changes_assign_default : (source : List ℕ) (token : Token) (here : ℕ) (parts : Parts) (names : List Identifier) (updates : List Update) → Right source token here (mark.Change c_mark.AssignDefault) (record parts { leaves = record parts.leaves { names = names }; changes = record parts.changes { updates = updates } })
changes_assign_default source token here parts (column ∷ names) (u ∷ below) = ((update_depth (assigned u column (value.Default token.start))), record { put = refl; covers = omega (arith, pushed assigned_depth u.assignments (record { column = column; value = value.Default token.start })) }, omega (arith, pushed assigned_depth u.assignments (record { column = column; value = value.Default token.start })))
changes_assign_default source token here parts [] updates = tt
changes_assign_default source token here parts (column ∷ names) [] = tt

changes_update_statement : (source : List ℕ) (token : Token) (here : ℕ) (parts : Parts) (optional : List BuiltOptional) (updates : List Update) → PartsCover (record parts { expressions = record parts.expressions { optional = optional }; changes = record parts.changes { updates = updates } }) → Right source token here (mark.Change c_mark.UpdateStatement) (record parts { expressions = record parts.expressions { optional = optional }; changes = record parts.changes { updates = updates } })
changes_update_statement source token here parts (w ∷ optional) (u ∷ updates) h = ((max (update_depth u) (filter_depth_of w.tree)), record { put = refl; covers = omega (arith, h.expressions.optional.0) }, omega (arith, h.expressions.optional.0))
changes_update_statement source token here parts [] updates h = tt
changes_update_statement source token here parts (w ∷ optional) [] h = tt

changes_delete : (source : List ℕ) (token : Token) (here : ℕ) (parts : Parts) (names : List Identifier) (aliases : List (Option Identifier)) → Right source token here (mark.Change c_mark.Delete) (record parts { leaves = record parts.leaves { names = names; aliases = aliases } })
changes_delete source token here parts (table ∷ names) (alias ∷ aliases) = (0, record { put = refl; covers = omega arith }, omega arith)
changes_delete source token here parts [] aliases = tt
changes_delete source token here parts (table ∷ names) [] = tt

changes_delete_statement : (source : List ℕ) (token : Token) (here : ℕ) (parts : Parts) (optional : List BuiltOptional) (deletes : List Delete) → PartsCover (record parts { expressions = record parts.expressions { optional = optional }; changes = record parts.changes { deletes = deletes } }) → Right source token here (mark.Change c_mark.DeleteStatement) (record parts { expressions = record parts.expressions { optional = optional }; changes = record parts.changes { deletes = deletes } })
changes_delete_statement source token here parts (w ∷ optional) (d ∷ deletes) h = ((filter_depth_of w.tree), record { put = refl; covers = omega (arith, h.expressions.optional.0) }, omega (arith, h.expressions.optional.0))
changes_delete_statement source token here parts [] deletes h = tt
changes_delete_statement source token here parts (w ∷ optional) [] h = tt

changes_locked : (source : List ℕ) (token : Token) (here : ℕ) (write : Bool) (parts : Parts) (names : List Identifier) (locks : List (List LockedTable)) → Right source token here (mark.Change (c_mark.Locked write)) (record parts { leaves = record parts.leaves { names = names }; changes = record parts.changes { locks = locks } })
changes_locked source token here write parts (table ∷ names) (all ∷ below) = (0, record { put = refl; covers = omega arith }, omega arith)
changes_locked source token here write parts [] locks = tt
changes_locked source token here write parts (table ∷ names) [] = tt

changes_lock_statement : (source : List ℕ) (token : Token) (here : ℕ) (parts : Parts) (locks : List (List LockedTable)) → Right source token here (mark.Change c_mark.LockStatement) (record parts { changes = record parts.changes { locks = locks } })
changes_lock_statement source token here parts (all ∷ locks) = (0, record { put = refl; covers = omega arith }, omega arith)
changes_lock_statement source token here parts [] = tt

changes_right : (source : List ℕ) (token : Token) (here : ℕ) (m : ChangeMark) (parts : Parts) → PartsCover parts → Right source token here (mark.Change m) parts
changes_right source token here c_mark.QueryStatement parts covers = changes_query_statement source token here parts parts.queries.whole covers
changes_right source token here c_mark.Insert parts covers = changes_insert source token here parts parts.leaves.names
changes_right source token here c_mark.InsertColumns parts covers = changes_insert_columns source token here parts parts.leaves.places parts.leaves.name_lists parts.changes.targets
changes_right source token here c_mark.Tuples parts covers = (0, record { put = refl; covers = omega arith }, omega arith)
changes_right source token here c_mark.Tuple parts covers = (0, record { put = refl; covers = omega arith }, omega arith)
changes_right source token here c_mark.TupleValue parts covers = changes_tuple_value source token here parts parts.expressions.whole parts.changes.tuples
changes_right source token here c_mark.TupleDefault parts covers = changes_tuple_default source token here parts parts.changes.tuples
changes_right source token here c_mark.AddTuple parts covers = changes_add_tuple source token here parts parts.changes.tuples parts.changes.tuple_lists
changes_right source token here c_mark.TuplesBody parts covers = changes_tuples_body source token here parts parts.changes.tuple_lists
changes_right source token here c_mark.InsertTuples parts covers = changes_insert_tuples source token here parts parts.changes.targets parts.changes.tuple_lists covers
changes_right source token here c_mark.InsertQuery parts covers = changes_insert_query source token here parts parts.changes.targets parts.queries.whole covers
changes_right source token here c_mark.Update parts covers = changes_update source token here parts parts.leaves.names parts.leaves.aliases
changes_right source token here c_mark.Assign parts covers = changes_assign source token here parts parts.leaves.names parts.expressions.whole parts.changes.updates covers
changes_right source token here c_mark.AssignDefault parts covers = changes_assign_default source token here parts parts.leaves.names parts.changes.updates
changes_right source token here c_mark.UpdateStatement parts covers = changes_update_statement source token here parts parts.expressions.optional parts.changes.updates covers
changes_right source token here c_mark.Delete parts covers = changes_delete source token here parts parts.leaves.names parts.leaves.aliases
changes_right source token here c_mark.DeleteStatement parts covers = changes_delete_statement source token here parts parts.expressions.optional parts.changes.deletes covers
changes_right source token here c_mark.Lock parts covers = (0, record { put = refl; covers = omega arith }, omega arith)
changes_right source token here (c_mark.Locked write) parts covers = changes_locked source token here write parts parts.leaves.names parts.changes.locks
changes_right source token here c_mark.LockStatement parts covers = changes_lock_statement source token here parts parts.changes.locks

definitions_create : (source : List ℕ) (token : Token) (here : ℕ) (storage : Storage) (parts : Parts) (names : List Identifier) → Right source token here (mark.Definition (d_mark.Create storage)) (record parts { leaves = record parts.leaves { names = names } })
definitions_create source token here storage parts (name ∷ names) = (0, record { put = refl; covers = omega arith }, omega arith)
definitions_create source token here storage parts [] = tt

definitions_column_element : (source : List ℕ) (token : Token) (here : ℕ) (parts : Parts) (columns : List ColumnDefinition) (tables : List CreateTable) → Right source token here (mark.Definition d_mark.ColumnElement) (record parts { definitions = record parts.definitions { columns = columns; tables = tables } })
definitions_column_element source token here parts (c ∷ columns) (t ∷ below) = ((table_depth (record t { elements = t.elements ++ element.Column c ∷ [] })), record { put = refl; covers = omega (arith, pushed element_depth_of t.elements (element.Column c)) }, omega (arith, pushed element_depth_of t.elements (element.Column c)))
definitions_column_element source token here parts [] tables = tt
definitions_column_element source token here parts (c ∷ columns) [] = tt

definitions_constraint_element : (source : List ℕ) (token : Token) (here : ℕ) (parts : Parts) (constraints : List TableConstraint) (tables : List CreateTable) → Right source token here (mark.Definition d_mark.ConstraintElement) (record parts { definitions = record parts.definitions { constraints = constraints; tables = tables } })
definitions_constraint_element source token here parts (c ∷ constraints) (t ∷ below) = ((table_depth (record t { elements = t.elements ++ element.Constraint c ∷ [] })), record { put = refl; covers = omega (arith, pushed element_depth_of t.elements (element.Constraint c)) }, omega (arith, pushed element_depth_of t.elements (element.Constraint c)))
definitions_constraint_element source token here parts [] tables = tt
definitions_constraint_element source token here parts (c ∷ constraints) [] = tt

definitions_create_statement : (source : List ℕ) (token : Token) (here : ℕ) (parts : Parts) (tables : List CreateTable) → Right source token here (mark.Definition d_mark.CreateStatement) (record parts { definitions = record parts.definitions { tables = tables } })
definitions_create_statement source token here parts (t ∷ tables) = ((table_depth t), record { put = refl; covers = omega arith }, omega arith)
definitions_create_statement source token here parts [] = tt

definitions_create_index : (source : List ℕ) (token : Token) (here : ℕ) (parts : Parts) (names : List Identifier) (name_lists : List (List Identifier)) → Right source token here (mark.Definition d_mark.CreateIndex) (record parts { leaves = record parts.leaves { names = names; name_lists = name_lists } })
definitions_create_index source token here parts (t ∷ name ∷ names) (columns ∷ lists) = (0, record { put = refl; covers = omega arith }, omega arith)
definitions_create_index source token here parts (t ∷ []) name_lists = tt
definitions_create_index source token here parts [] name_lists = tt
definitions_create_index source token here parts (t ∷ name ∷ names) [] = tt

definitions_define : (source : List ℕ) (token : Token) (here : ℕ) (parts : Parts) (names : List Identifier) (types : List DataType) → Right source token here (mark.Definition d_mark.Define) (record parts { leaves = record parts.leaves { names = names; types = types } })
definitions_define source token here parts (name ∷ names) (t ∷ types) = (0, record { put = refl; covers = omega arith }, omega arith)
definitions_define source token here parts [] types = tt
definitions_define source token here parts (name ∷ names) [] = tt

definitions_default : (source : List ℕ) (token : Token) (here : ℕ) (parts : Parts) (literals : List PlacedLiteral) (columns : List ColumnDefinition) → Right source token here (mark.Definition d_mark.Default) (record parts { leaves = record parts.leaves { literals = literals }; definitions = record parts.definitions { columns = columns } })
definitions_default source token here parts (l ∷ literals) (c ∷ below) = ((column_depth c), record { put = refl; covers = omega arith }, omega arith)
definitions_default source token here parts [] columns = tt
definitions_default source token here parts (l ∷ literals) [] = tt

definitions_named : (source : List ℕ) (token : Token) (here : ℕ) (parts : Parts) (places : List ℕ) (names : List Identifier) → Right source token here (mark.Definition d_mark.Named) (record parts { leaves = record parts.leaves { places = places; names = names } })
definitions_named source token here parts (at ∷ places) (name ∷ names) = (0, record { put = refl; covers = omega arith }, omega arith)
definitions_named source token here parts [] names = tt
definitions_named source token here parts (at ∷ places) [] = tt

definitions_unnamed : (source : List ℕ) (token : Token) (here : ℕ) (parts : Parts) (places : List ℕ) → Right source token here (mark.Definition d_mark.Unnamed) (record parts { leaves = record parts.leaves { places = places } })
definitions_unnamed source token here parts (at ∷ places) = (0, record { put = refl; covers = omega arith }, omega arith)
definitions_unnamed source token here parts [] = tt

definitions_not_null : (source : List ℕ) (token : Token) (here : ℕ) (parts : Parts) (headers : List ConstraintHeader) (columns : List ColumnDefinition) → Right source token here (mark.Definition d_mark.NotNull) (record parts { definitions = record parts.definitions { headers = headers; columns = columns } })
definitions_not_null source token here parts (h ∷ headers) (c ∷ below) = ((column_depth (with_rule c h column.NotNull)), record { put = refl; covers = omega (arith, pushed rule_depth c.constraints (ruled_by h column.NotNull)) }, omega (arith, pushed rule_depth c.constraints (ruled_by h column.NotNull)))
definitions_not_null source token here parts [] columns = tt
definitions_not_null source token here parts (h ∷ headers) [] = tt

definitions_column_primary : (source : List ℕ) (token : Token) (here : ℕ) (parts : Parts) (headers : List ConstraintHeader) (columns : List ColumnDefinition) → Right source token here (mark.Definition d_mark.ColumnPrimary) (record parts { definitions = record parts.definitions { headers = headers; columns = columns } })
definitions_column_primary source token here parts (h ∷ headers) (c ∷ below) = ((column_depth (with_rule c h column.PrimaryKey)), record { put = refl; covers = omega (arith, pushed rule_depth c.constraints (ruled_by h column.PrimaryKey)) }, omega (arith, pushed rule_depth c.constraints (ruled_by h column.PrimaryKey)))
definitions_column_primary source token here parts [] columns = tt
definitions_column_primary source token here parts (h ∷ headers) [] = tt

definitions_column_unique : (source : List ℕ) (token : Token) (here : ℕ) (parts : Parts) (headers : List ConstraintHeader) (columns : List ColumnDefinition) → Right source token here (mark.Definition d_mark.ColumnUnique) (record parts { definitions = record parts.definitions { headers = headers; columns = columns } })
definitions_column_unique source token here parts (h ∷ headers) (c ∷ below) = ((column_depth (with_rule c h column.Unique)), record { put = refl; covers = omega (arith, pushed rule_depth c.constraints (ruled_by h column.Unique)) }, omega (arith, pushed rule_depth c.constraints (ruled_by h column.Unique)))
definitions_column_unique source token here parts [] columns = tt
definitions_column_unique source token here parts (h ∷ headers) [] = tt

definitions_column_check : (source : List ℕ) (token : Token) (here : ℕ) (parts : Parts) (expressions : List Built) (headers : List ConstraintHeader) (columns : List ColumnDefinition) → PartsCover (record parts { expressions = record parts.expressions { whole = expressions }; definitions = record parts.definitions { headers = headers; columns = columns } }) → Right source token here (mark.Definition d_mark.ColumnCheck) (record parts { expressions = record parts.expressions { whole = expressions }; definitions = record parts.definitions { headers = headers; columns = columns } })
definitions_column_check source token here parts (e ∷ expressions) (h ∷ headers) (c ∷ below) k = ((column_depth (with_rule c h (column.Check e.tree))), record { put = refl; covers = omega (arith, k.expressions.whole.0, pushed rule_depth c.constraints (ruled_by h (column.Check e.tree))) }, omega (arith, k.expressions.whole.0, pushed rule_depth c.constraints (ruled_by h (column.Check e.tree))))
definitions_column_check source token here parts [] headers columns k = tt
definitions_column_check source token here parts (e ∷ expressions) [] columns k = tt
definitions_column_check source token here parts (e ∷ expressions) (h ∷ headers) [] k = tt

definitions_column_references : (source : List ℕ) (token : Token) (here : ℕ) (parts : Parts) (keys : List ForeignKey) (headers : List ConstraintHeader) (columns : List ColumnDefinition) → Right source token here (mark.Definition d_mark.ColumnReferences) (record parts { definitions = record parts.definitions { keys = keys; headers = headers; columns = columns } })
definitions_column_references source token here parts (k ∷ keys) (h ∷ headers) (c ∷ below) = ((column_depth (with_rule c h (column.References k))), record { put = refl; covers = omega (arith, pushed rule_depth c.constraints (ruled_by h (column.References k))) }, omega (arith, pushed rule_depth c.constraints (ruled_by h (column.References k))))
definitions_column_references source token here parts [] headers columns = tt
definitions_column_references source token here parts (k ∷ keys) [] columns = tt
definitions_column_references source token here parts (k ∷ keys) (h ∷ headers) [] = tt

definitions_references : (source : List ℕ) (token : Token) (here : ℕ) (parts : Parts) (names : List Identifier) → Right source token here (mark.Definition d_mark.References) (record parts { leaves = record parts.leaves { names = names } })
definitions_references source token here parts (name ∷ names) = (0, record { put = refl; covers = omega arith }, omega arith)
definitions_references source token here parts [] = tt

definitions_parent_columns : (source : List ℕ) (token : Token) (here : ℕ) (parts : Parts) (name_lists : List (List Identifier)) (keys : List ForeignKey) → Right source token here (mark.Definition d_mark.ParentColumns) (record parts { leaves = record parts.leaves { name_lists = name_lists }; definitions = record parts.definitions { keys = keys } })
definitions_parent_columns source token here parts (columns ∷ lists) (k ∷ below) = (0, record { put = refl; covers = omega arith }, omega arith)
definitions_parent_columns source token here parts [] keys = tt
definitions_parent_columns source token here parts (columns ∷ lists) [] = tt

definitions_on_delete : (source : List ℕ) (token : Token) (here : ℕ) (parts : Parts) (actions : List ReferentialAction) (keys : List ForeignKey) → Right source token here (mark.Definition d_mark.OnDelete) (record parts { definitions = record parts.definitions { actions = actions; keys = keys } })
definitions_on_delete source token here parts (a ∷ actions) (k ∷ below) = (0, record { put = refl; covers = omega arith }, omega arith)
definitions_on_delete source token here parts [] keys = tt
definitions_on_delete source token here parts (a ∷ actions) [] = tt

definitions_on_update : (source : List ℕ) (token : Token) (here : ℕ) (parts : Parts) (actions : List ReferentialAction) (keys : List ForeignKey) → Right source token here (mark.Definition d_mark.OnUpdate) (record parts { definitions = record parts.definitions { actions = actions; keys = keys } })
definitions_on_update source token here parts (a ∷ actions) (k ∷ below) = (0, record { put = refl; covers = omega arith }, omega arith)
definitions_on_update source token here parts [] keys = tt
definitions_on_update source token here parts (a ∷ actions) [] = tt

definitions_table_primary : (source : List ℕ) (token : Token) (here : ℕ) (parts : Parts) (headers : List ConstraintHeader) (name_lists : List (List Identifier)) → Right source token here (mark.Definition d_mark.TablePrimary) (record parts { leaves = record parts.leaves { name_lists = name_lists }; definitions = record parts.definitions { headers = headers } })
definitions_table_primary source token here parts (h ∷ headers) (columns ∷ lists) = (0, record { put = refl; covers = omega arith }, omega arith)
definitions_table_primary source token here parts [] name_lists = tt
definitions_table_primary source token here parts (h ∷ headers) [] = tt

definitions_table_unique : (source : List ℕ) (token : Token) (here : ℕ) (parts : Parts) (headers : List ConstraintHeader) (name_lists : List (List Identifier)) → Right source token here (mark.Definition d_mark.TableUnique) (record parts { leaves = record parts.leaves { name_lists = name_lists }; definitions = record parts.definitions { headers = headers } })
definitions_table_unique source token here parts (h ∷ headers) (columns ∷ lists) = (0, record { put = refl; covers = omega arith }, omega arith)
definitions_table_unique source token here parts [] name_lists = tt
definitions_table_unique source token here parts (h ∷ headers) [] = tt

definitions_table_check : (source : List ℕ) (token : Token) (here : ℕ) (parts : Parts) (expressions : List Built) (headers : List ConstraintHeader) → PartsCover (record parts { expressions = record parts.expressions { whole = expressions }; definitions = record parts.definitions { headers = headers } }) → Right source token here (mark.Definition d_mark.TableCheck) (record parts { expressions = record parts.expressions { whole = expressions }; definitions = record parts.definitions { headers = headers } })
definitions_table_check source token here parts (e ∷ expressions) (h ∷ headers) k = ((depth_of e.tree), record { put = refl; covers = omega (arith, k.expressions.whole.0) }, omega (arith, k.expressions.whole.0))
definitions_table_check source token here parts [] headers k = tt
definitions_table_check source token here parts (e ∷ expressions) [] k = tt

definitions_table_foreign : (source : List ℕ) (token : Token) (here : ℕ) (parts : Parts) (headers : List ConstraintHeader) (name_lists : List (List Identifier)) (keys : List ForeignKey) → Right source token here (mark.Definition d_mark.TableForeign) (record parts { leaves = record parts.leaves { name_lists = name_lists }; definitions = record parts.definitions { headers = headers; keys = keys } })
definitions_table_foreign source token here parts (h ∷ headers) (columns ∷ lists) (k ∷ keys) = (0, record { put = refl; covers = omega arith }, omega arith)
definitions_table_foreign source token here parts [] name_lists keys = tt
definitions_table_foreign source token here parts (h ∷ headers) [] keys = tt
definitions_table_foreign source token here parts (h ∷ headers) (columns ∷ lists) [] = tt

definitions_add_column : (source : List ℕ) (token : Token) (here : ℕ) (parts : Parts) (names : List Identifier) (columns : List ColumnDefinition) → Right source token here (mark.Definition d_mark.AddColumn) (record parts { leaves = record parts.leaves { names = names }; definitions = record parts.definitions { columns = columns } })
definitions_add_column source token here parts (t ∷ names) (c ∷ columns) = ((column_depth c), record { put = refl; covers = omega arith }, omega arith)
definitions_add_column source token here parts [] columns = tt
definitions_add_column source token here parts (t ∷ names) [] = tt

definitions_add_constraint : (source : List ℕ) (token : Token) (here : ℕ) (parts : Parts) (names : List Identifier) (constraints : List TableConstraint) → Right source token here (mark.Definition d_mark.AddConstraint) (record parts { leaves = record parts.leaves { names = names }; definitions = record parts.definitions { constraints = constraints } })
definitions_add_constraint source token here parts (t ∷ names) (c ∷ constraints) = ((constraint_depth c), record { put = refl; covers = omega arith }, omega arith)
definitions_add_constraint source token here parts [] constraints = tt
definitions_add_constraint source token here parts (t ∷ names) [] = tt

definitions_drop_constraint : (source : List ℕ) (token : Token) (here : ℕ) (parts : Parts) (names : List Identifier) → Right source token here (mark.Definition d_mark.DropConstraint) (record parts { leaves = record parts.leaves { names = names } })
definitions_drop_constraint source token here parts (name ∷ t ∷ names) = (0, record { put = refl; covers = omega arith }, omega arith)
definitions_drop_constraint source token here parts (name ∷ []) = tt
definitions_drop_constraint source token here parts [] = tt

definitions_drop_table : (source : List ℕ) (token : Token) (here : ℕ) (parts : Parts) (names : List Identifier) → Right source token here (mark.Definition d_mark.DropTable) (record parts { leaves = record parts.leaves { names = names } })
definitions_drop_table source token here parts (name ∷ names) = (0, record { put = refl; covers = omega arith }, omega arith)
definitions_drop_table source token here parts [] = tt

definitions_drop_index : (source : List ℕ) (token : Token) (here : ℕ) (parts : Parts) (names : List Identifier) → Right source token here (mark.Definition d_mark.DropIndex) (record parts { leaves = record parts.leaves { names = names } })
definitions_drop_index source token here parts (name ∷ names) = (0, record { put = refl; covers = omega arith }, omega arith)
definitions_drop_index source token here parts [] = tt

definitions_right : (source : List ℕ) (token : Token) (here : ℕ) (m : DefinitionMark) (parts : Parts) → PartsCover parts → Right source token here (mark.Definition m) parts
definitions_right source token here (d_mark.Create storage) parts covers = definitions_create source token here storage parts parts.leaves.names
definitions_right source token here d_mark.ColumnElement parts covers = definitions_column_element source token here parts parts.definitions.columns parts.definitions.tables
definitions_right source token here d_mark.ConstraintElement parts covers = definitions_constraint_element source token here parts parts.definitions.constraints parts.definitions.tables
definitions_right source token here d_mark.CreateStatement parts covers = definitions_create_statement source token here parts parts.definitions.tables
definitions_right source token here d_mark.CreateIndex parts covers = definitions_create_index source token here parts parts.leaves.names parts.leaves.name_lists
definitions_right source token here d_mark.Define parts covers = definitions_define source token here parts parts.leaves.names parts.leaves.types
definitions_right source token here d_mark.Default parts covers = definitions_default source token here parts parts.leaves.literals parts.definitions.columns
definitions_right source token here d_mark.Named parts covers = definitions_named source token here parts parts.leaves.places parts.leaves.names
definitions_right source token here d_mark.Unnamed parts covers = definitions_unnamed source token here parts parts.leaves.places
definitions_right source token here d_mark.NotNull parts covers = definitions_not_null source token here parts parts.definitions.headers parts.definitions.columns
definitions_right source token here d_mark.ColumnPrimary parts covers = definitions_column_primary source token here parts parts.definitions.headers parts.definitions.columns
definitions_right source token here d_mark.ColumnUnique parts covers = definitions_column_unique source token here parts parts.definitions.headers parts.definitions.columns
definitions_right source token here d_mark.ColumnCheck parts covers = definitions_column_check source token here parts parts.expressions.whole parts.definitions.headers parts.definitions.columns covers
definitions_right source token here d_mark.ColumnReferences parts covers = definitions_column_references source token here parts parts.definitions.keys parts.definitions.headers parts.definitions.columns
definitions_right source token here d_mark.References parts covers = definitions_references source token here parts parts.leaves.names
definitions_right source token here d_mark.ParentColumns parts covers = definitions_parent_columns source token here parts parts.leaves.name_lists parts.definitions.keys
definitions_right source token here (d_mark.Action _) parts covers = (0, record { put = refl; covers = omega arith }, omega arith)
definitions_right source token here d_mark.OnDelete parts covers = definitions_on_delete source token here parts parts.definitions.actions parts.definitions.keys
definitions_right source token here d_mark.OnUpdate parts covers = definitions_on_update source token here parts parts.definitions.actions parts.definitions.keys
definitions_right source token here d_mark.TablePrimary parts covers = definitions_table_primary source token here parts parts.definitions.headers parts.leaves.name_lists
definitions_right source token here d_mark.TableUnique parts covers = definitions_table_unique source token here parts parts.definitions.headers parts.leaves.name_lists
definitions_right source token here d_mark.TableCheck parts covers = definitions_table_check source token here parts parts.expressions.whole parts.definitions.headers covers
definitions_right source token here d_mark.TableForeign parts covers = definitions_table_foreign source token here parts parts.definitions.headers parts.leaves.name_lists parts.definitions.keys
definitions_right source token here d_mark.AddColumn parts covers = definitions_add_column source token here parts parts.leaves.names parts.definitions.columns
definitions_right source token here d_mark.AddConstraint parts covers = definitions_add_constraint source token here parts parts.leaves.names parts.definitions.constraints
definitions_right source token here d_mark.DropConstraint parts covers = definitions_drop_constraint source token here parts parts.leaves.names
definitions_right source token here d_mark.DropTable parts covers = definitions_drop_table source token here parts parts.leaves.names
definitions_right source token here d_mark.DropIndex parts covers = definitions_drop_index source token here parts parts.leaves.names

sessions_level : (source : List ℕ) (token : Token) (here : ℕ) (isolation : Isolation) (parts : Parts) (modes : List Modes) → Right source token here (mark.Session (s_mark.Level isolation)) (record parts { modes = modes })
sessions_level source token here isolation parts (m ∷ below) = (0, record { put = refl; covers = omega arith }, omega arith)
sessions_level source token here isolation parts [] = tt

sessions_access : (source : List ℕ) (token : Token) (here : ℕ) (access : Access) (parts : Parts) (modes : List Modes) → Right source token here (mark.Session (s_mark.Access access)) (record parts { modes = modes })
sessions_access source token here access parts (m ∷ below) = (0, record { put = refl; covers = omega arith }, omega arith)
sessions_access source token here access parts [] = tt

sessions_set_transaction : (source : List ℕ) (token : Token) (here : ℕ) (parts : Parts) (modes : List Modes) → Right source token here (mark.Session s_mark.SetTransaction) (record parts { modes = modes })
sessions_set_transaction source token here parts (m ∷ modes) = (0, record { put = refl; covers = omega arith }, omega arith)
sessions_set_transaction source token here parts [] = tt

sessions_set_characteristics : (source : List ℕ) (token : Token) (here : ℕ) (parts : Parts) (modes : List Modes) → Right source token here (mark.Session s_mark.SetCharacteristics) (record parts { modes = modes })
sessions_set_characteristics source token here parts (m ∷ modes) = (0, record { put = refl; covers = omega arith }, omega arith)
sessions_set_characteristics source token here parts [] = tt

sessions_start : (source : List ℕ) (token : Token) (here : ℕ) (parts : Parts) (modes : List Modes) → Right source token here (mark.Session s_mark.Start) (record parts { modes = modes })
sessions_start source token here parts (m ∷ modes) = (0, record { put = refl; covers = omega arith }, omega arith)
sessions_start source token here parts [] = tt

sessions_savepoint : (source : List ℕ) (token : Token) (here : ℕ) (parts : Parts) (names : List Identifier) → Right source token here (mark.Session s_mark.Savepoint) (record parts { leaves = record parts.leaves { names = names } })
sessions_savepoint source token here parts (n ∷ names) = (0, record { put = refl; covers = omega arith }, omega arith)
sessions_savepoint source token here parts [] = tt

sessions_rollback_to : (source : List ℕ) (token : Token) (here : ℕ) (parts : Parts) (names : List Identifier) → Right source token here (mark.Session s_mark.RollbackTo) (record parts { leaves = record parts.leaves { names = names } })
sessions_rollback_to source token here parts (n ∷ names) = (0, record { put = refl; covers = omega arith }, omega arith)
sessions_rollback_to source token here parts [] = tt

sessions_release : (source : List ℕ) (token : Token) (here : ℕ) (parts : Parts) (names : List Identifier) → Right source token here (mark.Session s_mark.Release) (record parts { leaves = record parts.leaves { names = names } })
sessions_release source token here parts (n ∷ names) = (0, record { put = refl; covers = omega arith }, omega arith)
sessions_release source token here parts [] = tt

sessions_right : (source : List ℕ) (token : Token) (here : ℕ) (m : SessionMark) (parts : Parts) → Right source token here (mark.Session m) parts
sessions_right source token here s_mark.Modes parts = (0, record { put = refl; covers = omega arith }, omega arith)
sessions_right source token here (s_mark.Level isolation) parts = sessions_level source token here isolation parts parts.modes
sessions_right source token here (s_mark.Access access) parts = sessions_access source token here access parts parts.modes
sessions_right source token here s_mark.SetTransaction parts = sessions_set_transaction source token here parts parts.modes
sessions_right source token here s_mark.SetCharacteristics parts = sessions_set_characteristics source token here parts parts.modes
sessions_right source token here s_mark.Start parts = sessions_start source token here parts parts.modes
sessions_right source token here s_mark.Commit parts = (0, record { put = refl; covers = omega arith }, omega arith)
sessions_right source token here s_mark.Rollback parts = (0, record { put = refl; covers = omega arith }, omega arith)
sessions_right source token here s_mark.Savepoint parts = sessions_savepoint source token here parts parts.leaves.names
sessions_right source token here s_mark.RollbackTo parts = sessions_rollback_to source token here parts parts.leaves.names
sessions_right source token here s_mark.Release parts = sessions_release source token here parts parts.leaves.names
sessions_right source token here (s_mark.Autocommit on) parts = (0, record { put = refl; covers = omega arith }, omega arith)
sessions_right source token here (s_mark.Control control) parts = (0, record { put = refl; covers = omega arith }, omega arith)
sessions_right source token here (s_mark.DefaultLevel isolation) parts = (0, record { put = refl; covers = omega arith }, omega arith)
sessions_right source token here s_mark.WriteDelayFalse parts = (0, record { put = refl; covers = omega arith }, omega arith)
sessions_right source token here s_mark.Checkpoint parts = (0, record { put = refl; covers = omega arith }, omega arith)
sessions_right source token here s_mark.Shutdown parts = (0, record { put = refl; covers = omega arith }, omega arith)

pub step_right : (source : List ℕ) (token : Token) (here : ℕ) (m : Mark) (parts : Parts) → PartsCover parts → Right source token here m parts
step_right source token here (mark.Leaf m) parts covers = leaves_right source token here m parts
step_right source token here (mark.Expression m) parts covers = expressions_right source token here m parts
step_right source token here (mark.Function m) parts covers = functions_right source token here m parts
step_right source token here (mark.Query m) parts covers = queries_right source token here m parts
step_right source token here (mark.Change m) parts covers = changes_right source token here m parts covers
step_right source token here (mark.Definition m) parts covers = definitions_right source token here m parts covers
step_right source token here (mark.Session m) parts covers = sessions_right source token here m parts

-- ---- what follows for the heights of the stacks

-- a step that is never wrong, and leaves stacks of these heights
abbrev pub Follows : Option Heights → Step Parts → Type 0
Follows None x = Unit {0}
Follows (Some s) (stands p) = heights p ≡ s
Follows (Some s) (deep p) = heights p ≡ s
Follows (Some s) wrong = ⊥

by_put : (o : Option Heights) (s : Heights) (x : Step Parts) → o ≡ Some s → Follows (Some s) x → Follows o x
by_put o s x e h = subst (λ z. Follows z x) (sym e) h

by_taken : (is : List ℕ) (o : Option (ℕ × Levels)) (x : Step Parts) → Goes is o x → Follows (and_next (shape_behind o) (pushes is)) x
by_taken is None x g = tt
by_taken is (Some (m, w)) (stands q) g = by_put (pushes is (shapes w)) (heights q) (stands q) (one_shape is g.0 w (levels q) g.1.put) refl
by_taken is (Some (m, w)) (deep q) g = by_put (pushes is (shapes w)) (heights q) (deep q) (one_shape is g.0 w (levels q) g.1.put) refl
by_taken is (Some (m, w)) wrong g = absurd g

pub step_follows : (source : List ℕ) (token : Token) (here : ℕ) (m : Mark) (parts : Parts) → PartsCover parts → Follows (changed (effect m) (heights parts)) (step source token here m parts)
step_follows source token here m parts covers =
    let e = effect m in
    subst (λ z. Follows (and_next z (pushes e.puts)) (step source token here m parts)) (sym (takes_shape e.takes 0 (levels parts))) (by_taken e.puts (taken m parts) (step source token here m parts) (step_right source token here m parts covers))

-- ---- and for their depths

-- all parts are within 256 behind a step exactly where they were, and never behind a tree that is too deep
abbrev pub Keeps : Parts → Step Parts → Type 0
Keeps p (stands q) = (Within (levels p) → Within (levels q)) × (Within (levels q) → Within (levels p))
Keeps p (deep q) = Within (levels q) → ⊥
Keeps p wrong = Unit {0}

over_256 : (d : ℕ) → 256 < d → d ≤ 256 → ⊥
over_256 d a b = omega (arith, a, b)

by_levels : (is : List ℕ) (p : Parts) (o : Option (ℕ × Levels)) (x : Step Parts) → AllParted (levels p) 0 o → Goes is o x → Keeps p x
by_levels is p None (stands q) a g = absurd g
by_levels is p None (deep q) a g = absurd g
by_levels is p None wrong a g = tt
by_levels is p (Some (m, w)) (stands q) a g = (forth (levels p) w (levels q) is m g.0 a g.1 g.2, back (levels p) w (levels q) is m g.0 a g.1)
by_levels is p (Some (m, w)) (deep q) a g = λ x. over_256 g.0 g.2 (put_within w (levels q) is m g.0 g.1 x)
by_levels is p (Some (m, w)) wrong a g = absurd g

pub step_keeps_depths : (source : List ℕ) (token : Token) (here : ℕ) (m : Mark) (parts : Parts) → PartsCover parts → Keeps parts (step source token here m parts)
step_keeps_depths source token here m parts covers =
    let e = effect m in
    by_levels e.puts parts (taken m parts) (step source token here m parts) (takes_parted e.takes 0 (levels parts)) (step_right source token here m parts covers)
