-- Each step that builds an expression keeps depths that are those of the trees.
use Rattle.std.proofs.Common.{◌≡◌, ℕ, ◌+◌, Bool, List, [], ◌∷◌, map, Option, Some, None, arith, refl, ◌∙◌}
use Rattle.std.specs.Prelude.{max, unwrap_or}
use Rattle.hs_ast.specs.Depth.{deepest, depth_of, query_depth_of, filter_depth_of}
use Rattle.hs_ast.specs.declared.definition.DataType.{DataType}
use Rattle.hs_ast.specs.declared.expression.Aggregate.{Aggregate}
use Rattle.hs_ast.specs.declared.expression.BinaryOperator.{BinaryOperator}
use Rattle.hs_ast.specs.declared.expression.CaseArm.{CaseArm, roll-CaseArm}
use Rattle.hs_ast.specs.declared.expression.Expression.{Expression}
use Rattle.hs_ast.specs.declared.expression.DateField.{DateField}
use Rattle.hs_ast.specs.declared.expression.ExpressionKind.{ExpressionKind}
use Rattle.hs_ast.specs.declared.expression.ExpressionKind.TheVariants as kind
use Rattle.hs_ast.specs.declared.expression.Function.{Function}
use Rattle.hs_ast.specs.declared.expression.IntervalUnit.{IntervalUnit}
use Rattle.hs_ast.specs.declared.expression.Sign.{Sign}
use Rattle.hs_ast.specs.declared.expression.TrimForm.{TrimForm}
use Rattle.hs_ast.specs.declared.query.Query.{roll-Query}
use Rattle.hs_ast.specs.declared.word.Identifier.{Identifier}
use Rattle.hs_lexer.specs.declared.token.Token.{Token}
use Rattle.hs_builder.specs.declared.part.Built.{Built}
use Rattle.hs_builder.specs.declared.part.BuiltBody.{BuiltBody}
use Rattle.hs_builder.specs.declared.part.BuiltCase.{BuiltCase}
use Rattle.hs_builder.specs.declared.part.BuiltList.{BuiltList}
use Rattle.hs_builder.specs.declared.part.BuiltOptional.{BuiltOptional}
use Rattle.hs_builder.specs.declared.part.BuiltQuery.{BuiltQuery}
use Rattle.hs_builder.specs.declared.part.PlacedLiteral.{PlacedLiteral}
use Rattle.hs_builder.specs.declared.part.PlacedText.{PlacedText}
use Rattle.hs_builder.specs.Expressions as spec
use Rattle.hs_builder.specs.Functions as function
use Rattle.hs_builder_laws.proofs.Covering.{Every, Then, made, deepest_first, pushed}
use Rattle.hs_builder_laws.proofs.Covers.{BuiltCovers, ListCovers, CaseCovers, OptionalCovers, BodyCovers, QueryCovers}
use Rattle.hs_builder_laws.proofs.Trees as tree
use Rattle.hs_builder_laws.proofs.Trees.{kind_depth, arm_depth}

-- ---- what is put on a stack

pub built_covers : (at start : ℕ) (k : ExpressionKind) (d : ℕ) → kind_depth k ≡ d → BuiltCovers (spec.built_from at start k d)
built_covers at start k d e = tree.expression_is at k ∙ e

pub query_covered : (q : BuiltQuery) → QueryCovers q → query_depth_of (spec.query_of q) ≡ q.depth
query_covered q h = tree.query_is q.at q.body q.order_by q.limit ∙ h

-- ---- the stacks of a step

-- the expressions stand second of two or three, or last of three
abbrev pub Second : {A : Type 0} → A × List Built → Type 0
Second x = Every BuiltCovers x.1

abbrev pub Middle : {A C : Type 0} → A × List Built × C → Type 0
Middle x = Every BuiltCovers x.1

abbrev pub Last : {A B : Type 0} → A × B × List Built → Type 0
Last x = Every BuiltCovers x.2

abbrev pub WithLists : {A : Type 0} → A × List Built × List BuiltList → Type 0
WithLists x = Every BuiltCovers x.1 × Every ListCovers x.2

abbrev pub WithQueries : {A : Type 0} → A × List Built × List BuiltQuery → Type 0
WithQueries x = Every BuiltCovers x.1 × Every QueryCovers x.2

abbrev pub WithBodies : {A : Type 0} → A × List Built × List BuiltBody → Type 0
WithBodies x = Every BuiltCovers x.1 × Every BodyCovers x.2

abbrev pub First : {B : Type 0} → List Built × B → Type 0
First x = Every BuiltCovers x.0

abbrev pub Gathers : List Built × List BuiltList → Type 0
Gathers x = Every BuiltCovers x.0 × Every ListCovers x.1

abbrev pub Cases : List BuiltCase × List Built → Type 0
Cases x = Every CaseCovers x.0 × Every BuiltCovers x.1

-- ---- operators, predicates, subqueries

pub literal : (x : List PlacedLiteral × List Built) → Second x → Then (λ (z : List PlacedLiteral × List Built). Second z) (spec.literal x)
literal ((l ∷ literals), below) h = (built_covers l.at l.at (kind.Literal l.literal) 0 (tree.literal_is l.literal), h)
literal ([], below) h = tt

pub column : (x : List Identifier × List Built) → Second x → Then (λ (z : List Identifier × List Built). Second z) (spec.column x)
column ((name ∷ names), below) h =
    (built_covers name.at name.at (kind.Column (record { table = None; column = name.name })) 0 (tree.column_is (record { table = None; column = name.name })), h)
column ([], below) h = tt

pub qualified : (x : List Identifier × List Built) → Second x → Then (λ (z : List Identifier × List Built). Second z) (spec.qualified x)
qualified ((name ∷ table ∷ names), below) h =
    (built_covers table.at table.at (kind.Column (record { table = Some table.name; column = name.name })) 0 (tree.column_is (record { table = Some table.name; column = name.name })), h)
qualified ((name ∷ []), below) h = tt
qualified ([], below) h = tt

pub bracket : (x : List ℕ × List Built) → Second x → Then (λ (z : List ℕ × List Built). Second z) (spec.bracket x)
bracket ((at ∷ places), (a ∷ below)) (h, hs) = (h, hs)
bracket ((at ∷ places), []) h = tt
bracket ([], es) h = tt

pub signed : (sign : Sign) → (x : List ℕ × List Built) → Second x → Then (λ (z : List ℕ × List Built). Second z) (spec.signed sign x)
signed sign ((at ∷ places), (a ∷ below)) (h, hs) =
    made (λ (z : List ℕ × List Built). Second z) (max a.depth 0 + 1) (λ depth. (places, spec.built_from at at (kind.Signed sign a.tree) depth ∷ below)) (
    let e = tree.signed_is sign a.tree in (built_covers at at (kind.Signed sign a.tree) (max a.depth 0 + 1) (omega (arith, h)), hs))
signed sign ((at ∷ places), []) h = tt
signed sign ([], es) h = tt

pub negation : (x : List ℕ × List Built) → Second x → Then (λ (z : List ℕ × List Built). Second z) (spec.negation x)
negation ((at ∷ places), (a ∷ below)) (h, hs) =
    made (λ (z : List ℕ × List Built). Second z) (max a.depth 0 + 1) (λ depth. (places, spec.built_from at at (kind.Not a.tree) depth ∷ below)) (
    let e = tree.not_is a.tree in (built_covers at at (kind.Not a.tree) (max a.depth 0 + 1) (omega (arith, h)), hs))
negation ((at ∷ places), []) h = tt
negation ([], es) h = tt

pub binary : (operator : BinaryOperator) → (x : List Built) → Every BuiltCovers x → Then (λ (z : List Built). Every BuiltCovers z) (spec.binary operator x)
binary operator (b ∷ a ∷ below) (i, (h, hs)) =
    made (λ (z : List Built). Every BuiltCovers z) (max a.depth b.depth + 1) (λ depth. spec.built_from a.start a.start (kind.Binary operator a.tree b.tree) depth ∷ below) (
    let e = tree.binary_is operator a.tree b.tree in (built_covers a.start a.start (kind.Binary operator a.tree b.tree) (max a.depth b.depth + 1) (omega (arith, h, i)), hs))
binary operator (b ∷ []) h = tt
binary operator [] h = tt

pub is_null : (negated : Bool) → (x : List Built) → Every BuiltCovers x → Then (λ (z : List Built). Every BuiltCovers z) (spec.is_null negated x)
is_null negated (a ∷ below) (h, hs) =
    made (λ (z : List Built). Every BuiltCovers z) (max a.depth 0 + 1) (λ depth. spec.built_from a.start a.start (kind.IsNull a.tree negated) depth ∷ below) (
    let e = tree.is_null_is a.tree negated in (built_covers a.start a.start (kind.IsNull a.tree negated) (max a.depth 0 + 1) (omega (arith, h)), hs))
is_null negated [] h = tt

pub between : (x : List Bool × List Built) → Second x → Then (λ (z : List Bool × List Built). Second z) (spec.between x)
between ((negated ∷ flags), (high ∷ low ∷ a ∷ below)) (j, (i, (h, hs))) =
    made (λ (z : List Bool × List Built). Second z) (max a.depth (max low.depth high.depth) + 1) (λ depth. (flags, spec.built_from a.start a.start (kind.Between a.tree negated low.tree high.tree) depth ∷ below)) (
    let e = tree.between_is a.tree negated low.tree high.tree in (built_covers a.start a.start (kind.Between a.tree negated low.tree high.tree) (max a.depth (max low.depth high.depth) + 1) (omega (arith, h, i, j)), hs))
between ((negated ∷ flags), (high ∷ low ∷ [])) h = tt
between ((negated ∷ flags), (high ∷ [])) h = tt
between ((negated ∷ flags), []) h = tt
between ([], es) h = tt

pub like : (x : List Bool × List Built) → Second x → Then (λ (z : List Bool × List Built). Second z) (spec.like x)
like ((negated ∷ flags), (pattern ∷ a ∷ below)) (i, (h, hs)) =
    made (λ (z : List Bool × List Built). Second z) (max a.depth pattern.depth + 1) (λ depth. (flags, spec.built_from a.start a.start (kind.Like a.tree negated pattern.tree None) depth ∷ below)) (
    let e = tree.like_is a.tree negated pattern.tree None in (built_covers a.start a.start (kind.Like a.tree negated pattern.tree None) (max a.depth pattern.depth + 1) (omega (arith, h, i)), hs))
like ((negated ∷ flags), (pattern ∷ [])) h = tt
like ((negated ∷ flags), []) h = tt
like ([], es) h = tt

pub like_escape : (x : List Bool × List PlacedText × List Built) → Last x → Then (λ (z : List Bool × List PlacedText × List Built). Last z) (spec.like_escape x)
like_escape ((negated ∷ flags), (escape ∷ texts), (pattern ∷ a ∷ below)) (i, (h, hs)) =
    made (λ (z : List Bool × List PlacedText × List Built). Last z) (max a.depth pattern.depth + 1) (λ depth. (flags, texts, spec.built_from a.start a.start (kind.Like a.tree negated pattern.tree (Some escape.text)) depth ∷ below)) (
    let e = tree.like_is a.tree negated pattern.tree (Some escape.text) in (built_covers a.start a.start (kind.Like a.tree negated pattern.tree (Some escape.text)) (max a.depth pattern.depth + 1) (omega (arith, h, i)), hs))
like_escape ((negated ∷ flags), (escape ∷ texts), (pattern ∷ [])) h = tt
like_escape ((negated ∷ flags), (escape ∷ texts), []) h = tt
like_escape ((negated ∷ flags), [], es) h = tt
like_escape ([], texts, es) h = tt

pub in_list : (x : List Bool × List Built × List BuiltList) → WithLists x → Then (λ (z : List Bool × List Built × List BuiltList). WithLists z) (spec.in_list x)
in_list ((negated ∷ flags), (a ∷ below), (list ∷ lists)) ((h, hs), (i, is)) =
    made (λ (z : List Bool × List Built × List BuiltList). WithLists z) (max a.depth list.depth + 1) (λ depth. (flags, spec.built_from a.start a.start (kind.InList a.tree negated list.trees) depth ∷ below, lists)) (
    let e = tree.in_list_is a.tree negated list.trees in ((built_covers a.start a.start (kind.InList a.tree negated list.trees) (max a.depth list.depth + 1) (omega (arith, h, i, deepest_first (depth_of a.tree) (map depth_of list.trees))), hs), is))
in_list ((negated ∷ flags), (a ∷ below), []) h = tt
in_list ((negated ∷ flags), [], lists) h = tt
in_list ([], es, lists) h = tt

pub in_query : (x : List Bool × List Built × List BuiltQuery) → WithQueries x → Then (λ (z : List Bool × List Built × List BuiltQuery). WithQueries z) (spec.in_query x)
in_query ((negated ∷ flags), (a ∷ below), (q ∷ queries)) ((h, hs), (i, is)) =
    made (λ (z : List Bool × List Built × List BuiltQuery). WithQueries z) (max a.depth q.depth + 1) (λ depth. (flags, spec.built_from a.start a.start (kind.InQuery a.tree negated (spec.query_of q)) depth ∷ below, queries)) (
    let e = tree.in_query_is a.tree negated (spec.query_of q) in ((built_covers a.start a.start (kind.InQuery a.tree negated (spec.query_of q)) (max a.depth q.depth + 1) (omega (arith, h, query_covered q i)), hs), is))
in_query ((negated ∷ flags), (a ∷ below), []) h = tt
in_query ((negated ∷ flags), [], queries) h = tt
in_query ([], es, queries) h = tt

pub exists : (x : List ℕ × List Built × List BuiltQuery) → WithQueries x → Then (λ (z : List ℕ × List Built × List BuiltQuery). WithQueries z) (spec.exists x)
exists ((at ∷ places), below, (q ∷ queries)) (hs, (i, is)) =
    made (λ (z : List ℕ × List Built × List BuiltQuery). WithQueries z) (max q.depth 0 + 1) (λ depth. (places, spec.built_from at at (kind.Exists (spec.query_of q)) depth ∷ below, queries)) (
    let e = tree.exists_is (spec.query_of q) in ((built_covers at at (kind.Exists (spec.query_of q)) (max q.depth 0 + 1) (omega (arith, query_covered q i)), hs), is))
exists ((at ∷ places), below, []) h = tt
exists ([], es, queries) h = tt

pub subquery : (x : List ℕ × List Built × List BuiltQuery) → WithQueries x → Then (λ (z : List ℕ × List Built × List BuiltQuery). WithQueries z) (spec.subquery x)
subquery ((at ∷ places), below, (q ∷ queries)) (hs, (i, is)) =
    let e = tree.subquery_is (spec.query_of q) in
    ((built_covers at at (kind.Subquery (spec.query_of q)) q.depth (omega (arith, query_covered q i)), hs), is)
subquery ((at ∷ places), below, []) h = tt
subquery ([], es, queries) h = tt

pub body_subquery : (x : List ℕ × List Built × List BuiltBody) → WithBodies x → Then (λ (z : List ℕ × List Built × List BuiltBody). WithBodies z) (spec.body_subquery x)
body_subquery ((at ∷ places), below, (b ∷ bodies)) (hs, (i, is)) =
    made (λ (z : List ℕ × List Built × List BuiltBody). WithBodies z) (max b.depth 0 + 1) (λ depth. (places, spec.built_from (unwrap_or b.bracket at) at (kind.Subquery (roll-Query (record { at = b.at; body = b.tree; order_by = []; limit = None }))) depth ∷ below, bodies)) (
    let e = tree.subquery_is (roll-Query (record { at = b.at; body = b.tree; order_by = []; limit = None })) in ((built_covers (unwrap_or b.bracket at) at (kind.Subquery (roll-Query (record { at = b.at; body = b.tree; order_by = []; limit = None }))) (max b.depth 0 + 1) (omega (arith, i, tree.query_is b.at b.tree [] None)), hs), is))
body_subquery ((at ∷ places), below, []) h = tt
body_subquery ([], es, bodies) h = tt

pub interval : (sign : Sign) → (unit : IntervalUnit) → (x : List Built × List ℕ) → First x → Then (λ (z : List Built × List ℕ). First z) (spec.interval sign unit x)
interval sign unit ((a ∷ below), (count ∷ counts)) (h, hs) =
    made (λ (z : List Built × List ℕ). First z) (max a.depth 0 + 1) (λ depth. (spec.built_from a.start a.start (kind.Interval a.tree sign count unit) depth ∷ below, counts)) (
    let e = tree.interval_is a.tree sign count unit in (built_covers a.start a.start (kind.Interval a.tree sign count unit) (max a.depth 0 + 1) (omega (arith, h)), hs))
interval sign unit ((a ∷ below), []) h = tt
interval sign unit ([], counts) h = tt

pub first : (x : List Built × List BuiltList) → Gathers x → Then (λ (z : List Built × List BuiltList). Gathers z) (spec.first x)
first ((e ∷ expressions), lists) ((h, hs), is) = (hs, (omega (arith, h), is))
first ([], lists) h = tt

pub next : (x : List Built × List BuiltList) → Gathers x → Then (λ (z : List Built × List BuiltList). Gathers z) (spec.next x)
next ((e ∷ expressions), (list ∷ below)) ((h, hs), (i, is)) = (hs, (omega (arith, h, i, pushed depth_of list.trees e.tree), is))
next ((e ∷ expressions), []) h = tt
next ([], lists) h = tt

abbrev pub MayStand : List Built × List BuiltOptional → Type 0
MayStand x = Every BuiltCovers x.0 × Every OptionalCovers x.1

pub written : (x : List Built × List BuiltOptional) → MayStand x → Then (λ (z : List Built × List BuiltOptional). MayStand z) (spec.written x)
written ((e ∷ expressions), below) ((h, hs), i) = (hs, (h, i))
written ([], below) h = tt

pub unwritten : (x : List BuiltOptional) → Every OptionalCovers x → Then (λ (z : List BuiltOptional). Every OptionalCovers z) (spec.unwritten x)
unwritten below h = (refl, h)

-- ---- what begins with a word of its own

pub cast : (x : List ℕ × List DataType × List Built) → Last x → Then (λ (z : List ℕ × List DataType × List Built). Last z) (function.cast x)
cast ((at ∷ places), (t ∷ types), (a ∷ below)) (h, hs) =
    made (λ (z : List ℕ × List DataType × List Built). Last z) (max a.depth 0 + 1) (λ depth. (places, types, spec.built_from at at (kind.Cast a.tree t) depth ∷ below)) (
    let e = tree.cast_is a.tree t in (built_covers at at (kind.Cast a.tree t) (max a.depth 0 + 1) (omega (arith, h)), hs))
cast ((at ∷ places), (t ∷ types), []) h = tt
cast ((at ∷ places), [], es) h = tt
cast ([], types, es) h = tt

pub begin_case : (token : Token) (x : List BuiltCase) → Every CaseCovers x → Then (λ (z : List BuiltCase). Every CaseCovers z) (function.begin_case token x)
begin_case token below h = (refl, h)

pub arm : (x : List BuiltCase × List Built) → Cases x → Then (λ (z : List BuiltCase × List Built). Cases z) (function.arm x)
arm ((c ∷ cases), (value ∷ test ∷ below)) ((g, gs), (i, (h, hs))) =
    let e = tree.arm_is test.tree value.tree in
    let more = pushed arm_depth c.arms (roll-CaseArm (record { test = test.tree; value = value.tree })) in
    ((omega (arith, g, h, i), gs), hs)
arm ((c ∷ cases), (value ∷ [])) h = tt
arm ((c ∷ cases), []) h = tt
arm ([], es) h = tt

case_covered : (arms : List CaseArm) (otherwise : Option Expression) → kind_depth (kind.Case arms otherwise) ≡ max (deepest (map arm_depth arms)) (filter_depth_of otherwise) + 1
case_covered arms None = tree.case_none_is arms
case_covered arms (Some x) = tree.case_some_is arms x

abbrev pub Ends : List BuiltOptional × List BuiltCase × List Built → Type 0
Ends x = Every OptionalCovers x.0 × Every CaseCovers x.1 × Every BuiltCovers x.2

pub end_case : (x : List BuiltOptional × List BuiltCase × List Built) → Ends x → Then (λ (z : List BuiltOptional × List BuiltCase × List Built). Ends z) (function.end_case x)
end_case ((o ∷ optional), (c ∷ cases), below) ((i, is), (g, gs), hs) =
    made (λ (z : List BuiltOptional × List BuiltCase × List Built). Ends z) (max c.depth o.depth + 1) (λ depth. (optional, cases, spec.built c.at (kind.Case c.arms o.tree) depth ∷ below))
    (is, gs, (built_covers c.at c.at (kind.Case c.arms o.tree) (max c.depth o.depth + 1) (omega (arith, g, i, case_covered c.arms o.tree)), hs))
end_case ([], cases, below) h = tt
end_case ((o ∷ optional), [], below) h = tt

pub call : (name : Function) → (x : List ℕ × List Built × List BuiltList) → WithLists x → Then (λ (z : List ℕ × List Built × List BuiltList). WithLists z) (function.call name x)
call name ((at ∷ places), below, (list ∷ lists)) (hs, (i, is)) =
    made (λ (z : List ℕ × List Built × List BuiltList). WithLists z) (max list.depth 0 + 1) (λ depth. (places, spec.built_from at at (kind.Call name list.trees) depth ∷ below, lists)) (
    let e = tree.call_is name list.trees in ((built_covers at at (kind.Call name list.trees) (max list.depth 0 + 1) (omega (arith, i)), hs), is))
call name ((at ∷ places), below, []) h = tt
call name ([], es, lists) h = tt

pub substring : (x : List ℕ × List Built) → Second x → Then (λ (z : List ℕ × List Built). Second z) (function.substring x)
substring ((at ∷ places), (start ∷ text ∷ below)) (i, (h, hs)) =
    made (λ (z : List ℕ × List Built). Second z) (max text.depth start.depth + 1) (λ depth. (places, spec.built_from at at (kind.Substring text.tree start.tree None) depth ∷ below)) (
    let e = tree.substring_none_is text.tree start.tree in (built_covers at at (kind.Substring text.tree start.tree None) (max text.depth start.depth + 1) (omega (arith, h, i)), hs))
substring ((at ∷ places), (start ∷ [])) h = tt
substring ((at ∷ places), []) h = tt
substring ([], es) h = tt

pub substring_for : (x : List ℕ × List Built) → Second x → Then (λ (z : List ℕ × List Built). Second z) (function.substring_for x)
substring_for ((at ∷ places), (count ∷ start ∷ text ∷ below)) (j, (i, (h, hs))) =
    made (λ (z : List ℕ × List Built). Second z) (max text.depth (max start.depth count.depth) + 1) (λ depth. (places, spec.built_from at at (kind.Substring text.tree start.tree (Some count.tree)) depth ∷ below)) (
    let e = tree.substring_some_is text.tree start.tree count.tree in (built_covers at at (kind.Substring text.tree start.tree (Some count.tree)) (max text.depth (max start.depth count.depth) + 1) (omega (arith, h, i, j)), hs))
substring_for ((at ∷ places), (count ∷ start ∷ [])) h = tt
substring_for ((at ∷ places), (count ∷ [])) h = tt
substring_for ((at ∷ places), []) h = tt
substring_for ([], es) h = tt

pub trim : (x : List ℕ × List TrimForm × List Built) → Last x → Then (λ (z : List ℕ × List TrimForm × List Built). Last z) (function.trim x)
trim ((at ∷ places), (manner ∷ forms), (text ∷ below)) (h, hs) =
    made (λ (z : List ℕ × List TrimForm × List Built). Last z) (max text.depth 0 + 1) (λ depth. (places, forms, spec.built_from at at (kind.Trim manner None text.tree) depth ∷ below)) (
    let e = tree.trim_none_is manner text.tree in (built_covers at at (kind.Trim manner None text.tree) (max text.depth 0 + 1) (omega (arith, h)), hs))
trim ((at ∷ places), (manner ∷ forms), []) h = tt
trim ((at ∷ places), [], es) h = tt
trim ([], forms, es) h = tt

pub trim_character : (x : List ℕ × List TrimForm × List Built) → Last x → Then (λ (z : List ℕ × List TrimForm × List Built). Last z) (function.trim_character x)
trim_character ((at ∷ places), (manner ∷ forms), (text ∷ character ∷ below)) (i, (h, hs)) =
    made (λ (z : List ℕ × List TrimForm × List Built). Last z) (max character.depth text.depth + 1) (λ depth. (places, forms, spec.built_from at at (kind.Trim manner (Some character.tree) text.tree) depth ∷ below)) (
    let e = tree.trim_some_is manner character.tree text.tree in (built_covers at at (kind.Trim manner (Some character.tree) text.tree) (max character.depth text.depth + 1) (omega (arith, h, i)), hs))
trim_character ((at ∷ places), (manner ∷ forms), (text ∷ [])) h = tt
trim_character ((at ∷ places), (manner ∷ forms), []) h = tt
trim_character ((at ∷ places), [], es) h = tt
trim_character ([], forms, es) h = tt

pub extract : (x : List ℕ × List DateField × List Built) → Last x → Then (λ (z : List ℕ × List DateField × List Built). Last z) (function.extract x)
extract ((at ∷ places), (field ∷ fields), (a ∷ below)) (h, hs) =
    made (λ (z : List ℕ × List DateField × List Built). Last z) (max a.depth 0 + 1) (λ depth. (places, fields, spec.built_from at at (kind.Extract field a.tree) depth ∷ below)) (
    let e = tree.extract_is field a.tree in (built_covers at at (kind.Extract field a.tree) (max a.depth 0 + 1) (omega (arith, h)), hs))
extract ((at ∷ places), (field ∷ fields), []) h = tt
extract ((at ∷ places), [], es) h = tt
extract ([], fields, es) h = tt

pub count_rows : (x : List ℕ × List Built) → Second x → Then (λ (z : List ℕ × List Built). Second z) (function.count_rows x)
count_rows ((at ∷ places), below) h = let e = tree.count_rows_is in (built_covers at at kind.CountRows 1 (omega arith), h)
count_rows ([], below) h = tt

pub aggregate : (name : Aggregate) → (x : List ℕ × List Bool × List Built) → Last x → Then (λ (z : List ℕ × List Bool × List Built). Last z) (function.aggregate name x)
aggregate name ((at ∷ places), (distinct ∷ flags), (a ∷ below)) (h, hs) =
    made (λ (z : List ℕ × List Bool × List Built). Last z) (max a.depth 0 + 1) (λ depth. (places, flags, spec.built_from at at (kind.Aggregate name distinct a.tree) depth ∷ below)) (
    let e = tree.aggregate_is name distinct a.tree in (built_covers at at (kind.Aggregate name distinct a.tree) (max a.depth 0 + 1) (omega (arith, h)), hs))
aggregate name ((at ∷ places), (distinct ∷ flags), []) h = tt
aggregate name ((at ∷ places), [], es) h = tt
aggregate name ([], flags, es) h = tt
