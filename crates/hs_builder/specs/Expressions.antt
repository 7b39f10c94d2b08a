-- The steps that build operators, predicates and subqueries. Each takes parts from the tops of stacks.
use Rattle.std.specs.Prelude.{◌≡◌, ℕ, Bool, List, [], ◌∷◌, ◌++◌, Some, None, unwrap_or, max}
use Rattle.hs_ast.specs.declared.expression.BinaryOperator.{BinaryOperator}
use Rattle.hs_ast.specs.declared.expression.Expression.{roll-Expression}
use Rattle.hs_ast.specs.declared.expression.ExpressionKind.{ExpressionKind}
use Rattle.hs_ast.specs.declared.expression.ExpressionKind.TheVariants as kind
use Rattle.hs_ast.specs.declared.expression.IntervalUnit.{IntervalUnit}
use Rattle.hs_ast.specs.declared.expression.Sign.{Sign}
use Rattle.hs_ast.specs.declared.query.Query.{Query, roll-Query}
use Rattle.hs_ast.specs.declared.word.Identifier.{Identifier}
use Rattle.hs_builder.specs.declared.part.Built.{Built}
use Rattle.hs_builder.specs.declared.part.BuiltBody.{BuiltBody}
use Rattle.hs_builder.specs.declared.part.BuiltList.{BuiltList}
use Rattle.hs_builder.specs.declared.part.BuiltOptional.{BuiltOptional}
use Rattle.hs_builder.specs.declared.part.BuiltQuery.{BuiltQuery}
use Rattle.hs_builder.specs.declared.part.PlacedLiteral.{PlacedLiteral}
use Rattle.hs_builder.specs.declared.part.PlacedText.{PlacedText}
use Rattle.hs_builder.specs.Steps.{Step, stands, wrong, over, at_depth}

-- an expression with its place, that of its first byte with its parentheses, and its depth
abbrev pub built_from : ℕ → ℕ → ExpressionKind → ℕ → Built
built_from at start kind depth = record { tree = roll-Expression (record { at = at; kind = kind }); depth = depth; start = start }

-- one that begins where its first word or operand does
abbrev pub built : ℕ → ExpressionKind → ℕ → Built
built start = built_from start start

-- the query that is read so far, whole
abbrev pub query_of : BuiltQuery → Query
query_of q = roll-Query (record { at = q.at; body = q.body; order_by = q.order_by; limit = q.limit })

-- this is the topmost query, whole, with its depth
abbrev pub TakesQuery : Query → ℕ → List BuiltQuery → List BuiltQuery → Type 0
TakesQuery query depth [] after = ⊥
TakesQuery query depth (q ∷ below) after = (query ≡ query_of q) × (depth ≡ q.depth) × (below ≡ after)

abbrev pub literal : List PlacedLiteral × List Built → Step (List PlacedLiteral × List Built)
literal ((l ∷ literals), below) = stands (literals, built l.at (kind.Literal l.literal) 0 ∷ below)
literal _ = wrong

abbrev pub column : List Identifier × List Built → Step (List Identifier × List Built)
column ((name ∷ names), below) = stands (names, built name.at (kind.Column (record { table = None; column = name.name })) 0 ∷ below)
column _ = wrong

abbrev pub qualified : List Identifier × List Built → Step (List Identifier × List Built)
qualified ((name ∷ table ∷ names), below) = stands (names, built table.at (kind.Column (record { table = Some table.name; column = name.name })) 0 ∷ below)
qualified _ = wrong

abbrev pub bracket : List ℕ × List Built → Step (List ℕ × List Built)
bracket ((at ∷ places), (a ∷ below)) = stands (places, record { tree = a.tree; depth = a.depth; start = at } ∷ below)
bracket _ = wrong

abbrev pub signed : Sign → List ℕ × List Built → Step (List ℕ × List Built)
signed sign ((at ∷ places), (a ∷ below)) = at_depth (over a.depth 0) (λ depth. (places, built at (kind.Signed sign a.tree) depth ∷ below))
signed _ _ = wrong

abbrev pub negation : List ℕ × List Built → Step (List ℕ × List Built)
negation ((at ∷ places), (a ∷ below)) = at_depth (over a.depth 0) (λ depth. (places, built at (kind.Not a.tree) depth ∷ below))
negation _ = wrong

abbrev pub binary : BinaryOperator → List Built → Step (List Built)
binary operator (b ∷ a ∷ below) = at_depth (over a.depth b.depth) (λ depth. built a.start (kind.Binary operator a.tree b.tree) depth ∷ below)
binary _ _ = wrong

abbrev pub is_null : Bool → List Built → Step (List Built)
is_null negated (a ∷ below) = at_depth (over a.depth 0) (λ depth. built a.start (kind.IsNull a.tree negated) depth ∷ below)
is_null _ _ = wrong

abbrev pub between : List Bool × List Built → Step (List Bool × List Built)
between ((negated ∷ flags), (high ∷ low ∷ a ∷ below)) =
    at_depth (over a.depth (max low.depth high.depth)) (λ depth. (flags, built a.start (kind.Between a.tree negated low.tree high.tree) depth ∷ below))
between _ = wrong

abbrev pub like : List Bool × List Built → Step (List Bool × List Built)
like ((negated ∷ flags), (pattern ∷ a ∷ below)) =
    at_depth (over a.depth pattern.depth) (λ depth. (flags, built a.start (kind.Like a.tree negated pattern.tree None) depth ∷ below))
like _ = wrong

abbrev pub like_escape : List Bool × List PlacedText × List Built → Step (List Bool × List PlacedText × List Built)
like_escape ((negated ∷ flags), (escape ∷ texts), (pattern ∷ a ∷ below)) =
    at_depth (over a.depth pattern.depth) (λ depth. (flags, texts, built a.start (kind.Like a.tree negated pattern.tree (Some escape.text)) depth ∷ below))
like_escape _ = wrong

abbrev pub in_list : List Bool × List Built × List BuiltList → Step (List Bool × List Built × List BuiltList)
in_list ((negated ∷ flags), (a ∷ below), (list ∷ lists)) =
    at_depth (over a.depth list.depth) (λ depth. (flags, built a.start (kind.InList a.tree negated list.trees) depth ∷ below, lists))
in_list _ = wrong

abbrev pub in_query : List Bool × List Built × List BuiltQuery → Step (List Bool × List Built × List BuiltQuery)
in_query ((negated ∷ flags), (a ∷ below), (q ∷ queries)) =
    at_depth (over a.depth q.depth) (λ depth. (flags, built a.start (kind.InQuery a.tree negated (query_of q)) depth ∷ below, queries))
in_query _ = wrong

abbrev pub exists : List ℕ × List Built × List BuiltQuery → Step (List ℕ × List Built × List BuiltQuery)
exists ((at ∷ places), below, (q ∷ queries)) =
    at_depth (over q.depth 0) (λ depth. (places, built at (kind.Exists (query_of q)) depth ∷ below, queries))
exists _ = wrong

abbrev pub subquery : List ℕ × List Built × List BuiltQuery → Step (List ℕ × List Built × List BuiltQuery)
subquery ((at ∷ places), below, (q ∷ queries)) = stands (places, built at (kind.Subquery (query_of q)) q.depth ∷ below, queries)
subquery _ = wrong

-- it stands at the innermost of the parentheses that hold nothing but its body
abbrev pub body_subquery : List ℕ × List Built × List BuiltBody → Step (List ℕ × List Built × List BuiltBody)
body_subquery ((at ∷ places), below, (b ∷ bodies)) =
    let query = roll-Query (record { at = b.at; body = b.tree; order_by = []; limit = None }) in
    at_depth (over b.depth 0) (λ depth. (places, built_from (unwrap_or b.bracket at) at (kind.Subquery query) depth ∷ below, bodies))
body_subquery _ = wrong

abbrev pub interval : Sign → IntervalUnit → List Built × List ℕ → Step (List Built × List ℕ)
interval sign unit ((a ∷ below), (count ∷ counts)) =
    at_depth (over a.depth 0) (λ depth. (built a.start (kind.Interval a.tree sign count unit) depth ∷ below, counts))
interval _ _ _ = wrong

abbrev pub first : List Built × List BuiltList → Step (List Built × List BuiltList)
first ((e ∷ expressions), lists) = stands (expressions, record { trees = e.tree ∷ []; depth = e.depth } ∷ lists)
first _ = wrong

abbrev pub next : List Built × List BuiltList → Step (List Built × List BuiltList)
next ((e ∷ expressions), (list ∷ below)) = stands (expressions, record { trees = list.trees ++ e.tree ∷ []; depth = max list.depth e.depth } ∷ below)
next _ = wrong

-- ---- what may be left out

abbrev pub written : List Built × List BuiltOptional → Step (List Built × List BuiltOptional)
written ((e ∷ expressions), below) = stands (expressions, record { tree = Some e.tree; depth = e.depth } ∷ below)
written _ = wrong

abbrev pub unwritten : List BuiltOptional → Step (List BuiltOptional)
unwritten below = stands (record { tree = None; depth = 0 } ∷ below)
