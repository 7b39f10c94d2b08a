-- The steps that build queries.
use Rattle.std.specs.Prelude.{ℕ, Bool, true, false, List, [], ◌∷◌, ◌++◌, Option, Some, None, unwrap_or, max}
use Rattle.hs_ast.specs.declared.expression.Expression.{Expression}
use Rattle.hs_ast.specs.declared.query.FromItem.{roll-FromItem}
use Rattle.hs_ast.specs.declared.query.Join.{Join}
use Rattle.hs_ast.specs.declared.query.Join.TheVariants as join
use Rattle.hs_ast.specs.declared.query.Limit.{Limit}
use Rattle.hs_ast.specs.declared.query.QueryBody.{QueryBody}
use Rattle.hs_ast.specs.declared.query.QueryBody.TheVariants as body
use Rattle.hs_ast.specs.declared.query.Select.{roll-Select}
use Rattle.hs_ast.specs.declared.query.SelectItem.TheVariants as shown
use Rattle.hs_ast.specs.declared.query.SetOperator.{SetOperator}
use Rattle.hs_ast.specs.declared.query.SortKey.{roll-SortKey}
use Rattle.hs_ast.specs.declared.query.TableReference.{TableReference}
use Rattle.hs_ast.specs.declared.query.TableReference.TheVariants as table
use Rattle.hs_ast.specs.declared.query.ValuesRow.{roll-ValuesRow}
use Rattle.hs_ast.specs.declared.word.Identifier.{Identifier}
use Rattle.hs_lexer.specs.declared.token.Token.{Token}
use Rattle.hs_builder.specs.declared.part.Built.{Built}
use Rattle.hs_builder.specs.declared.part.BuiltBody.{BuiltBody}
use Rattle.hs_builder.specs.declared.part.BuiltFrom.{BuiltFrom}
use Rattle.hs_builder.specs.declared.part.BuiltList.{BuiltList}
use Rattle.hs_builder.specs.declared.part.BuiltOptional.{BuiltOptional}
use Rattle.hs_builder.specs.declared.part.BuiltQuery.{BuiltQuery}
use Rattle.hs_builder.specs.declared.part.BuiltRows.{BuiltRows}
use Rattle.hs_builder.specs.declared.part.BuiltSelect.{BuiltSelect}
use Rattle.hs_builder.specs.declared.part.BuiltTable.{BuiltTable}
use Rattle.hs_builder.specs.declared.part.PlacedNumber.{PlacedNumber}
use Rattle.hs_builder.specs.Expressions.{query_of}
use Rattle.hs_builder.specs.Steps.{Step, stands, wrong, over, at_depth, natural}

-- ---- SELECT

abbrev pub begin_select : List ℕ × List Bool × List BuiltSelect → Step (List ℕ × List Bool × List BuiltSelect)
begin_select ((at ∷ places), (distinct ∷ flags), below) =
    stands (places, flags, record { distinct = distinct; items = []; from = []; group_by = []; depth = 0; at = at } ∷ below)
begin_select _ = wrong

abbrev pub every : Token → List BuiltSelect → Step (List BuiltSelect)
every token (s ∷ below) = stands (record s { items = s.items ++ shown.Every token.start ∷ [] } ∷ below)
every _ _ = wrong

-- an item begins with its parentheses
abbrev pub item : List (Option Identifier) × List Built × List BuiltSelect → Step (List (Option Identifier) × List Built × List BuiltSelect)
item ((alias ∷ aliases), (e ∷ expressions), (s ∷ below)) =
    stands (aliases, expressions, record s { items = s.items ++ shown.One e.start e.tree alias ∷ []; depth = max s.depth e.depth } ∷ below)
item _ = wrong

abbrev pub add_from : List BuiltFrom × List BuiltSelect → Step (List BuiltFrom × List BuiltSelect)
add_from ((f ∷ froms), (s ∷ below)) =
    stands (froms, record s { from = s.from ++ roll-FromItem (record { table = f.table; joins = f.joins }) ∷ []; depth = max s.depth f.depth } ∷ below)
add_from _ = wrong

abbrev pub group : List Built × List BuiltSelect → Step (List Built × List BuiltSelect)
group ((e ∷ expressions), (s ∷ below)) = stands (expressions, record s { group_by = s.group_by ++ e.tree ∷ []; depth = max s.depth e.depth } ∷ below)
group _ = wrong

-- ---- FROM

abbrev pub named_table : List Identifier × List (Option Identifier) × List BuiltTable → Step (List Identifier × List (Option Identifier) × List BuiltTable)
named_table ((name ∷ names), (alias ∷ aliases), below) = stands (names, aliases, record { table = table.Named name alias; depth = 0 } ∷ below)
named_table _ = wrong

abbrev pub derived_table : List Identifier × List BuiltQuery × List BuiltTable → Step (List Identifier × List BuiltQuery × List BuiltTable)
derived_table ((name ∷ names), (q ∷ queries), below) = stands (names, queries, record { table = table.Derived (query_of q) name; depth = q.depth } ∷ below)
derived_table _ = wrong

abbrev pub begin_from : List BuiltTable × List BuiltFrom → Step (List BuiltTable × List BuiltFrom)
begin_from ((t ∷ tables), below) = stands (tables, record { table = t.table; joins = []; depth = t.depth } ∷ below)
begin_from _ = wrong

abbrev pub join_of : Bool → TableReference → Expression → Join
join_of true = join.Left
join_of false = join.Inner

abbrev pub join_on : Bool → List Built × List BuiltTable × List BuiltFrom → Step (List Built × List BuiltTable × List BuiltFrom)
join_on outer ((e ∷ expressions), (t ∷ tables), (f ∷ below)) =
    stands (expressions, tables, record f { joins = f.joins ++ join_of outer t.table e.tree ∷ []; depth = max f.depth (max t.depth e.depth) } ∷ below)
join_on _ _ = wrong

abbrev pub cross_join : List BuiltTable × List BuiltFrom → Step (List BuiltTable × List BuiltFrom)
cross_join ((t ∷ tables), (f ∷ below)) = stands (tables, record f { joins = f.joins ++ join.Cross t.table ∷ []; depth = max f.depth t.depth } ∷ below)
cross_join _ = wrong

-- ---- bodies

-- a body with no parentheses round it
abbrev pub body_at : ℕ → QueryBody → ℕ → BuiltBody
body_at at tree depth = record { tree = tree; depth = depth; at = at; bracket = None }

-- of the parts that may be left out HAVING's is the topmost, and WHERE's the next one
abbrev pub select_body : List BuiltOptional × List BuiltSelect × List BuiltBody → Step (List BuiltOptional × List BuiltSelect × List BuiltBody)
select_body ((having ∷ filter ∷ optional), (s ∷ selects), below) =
    let select = roll-Select (record { distinct = s.distinct; items = s.items; from = s.from; filter = filter.tree; group_by = s.group_by; having = having.tree }) in
    stands (optional, selects, body_at s.at (body.Select select) (max s.depth (max filter.depth having.depth)) ∷ below)
select_body _ = wrong

abbrev pub begin_values : Token → List BuiltRows → Step (List BuiltRows)
begin_values token below = stands (record { rows = []; depth = 0; at = token.start } ∷ below)

abbrev pub row : List BuiltList × List BuiltRows → Step (List BuiltList × List BuiltRows)
row ((list ∷ lists), (v ∷ below)) = stands (lists, record v { rows = v.rows ++ roll-ValuesRow (record { values = list.trees }) ∷ []; depth = max v.depth list.depth } ∷ below)
row _ = wrong

abbrev pub values_body : List BuiltRows × List BuiltBody → Step (List BuiltRows × List BuiltBody)
values_body ((v ∷ rows), below) = stands (rows, body_at v.at (body.Values v.rows) v.depth ∷ below)
values_body _ = wrong

-- the innermost parenthesis is kept
abbrev pub bracket_body : List ℕ × List BuiltBody → Step (List ℕ × List BuiltBody)
bracket_body ((at ∷ places), (b ∷ below)) = stands (places, record b { bracket = Some (unwrap_or b.bracket at) } ∷ below)
bracket_body _ = wrong

abbrev pub set_operation : SetOperator → List BuiltBody → Step (List BuiltBody)
set_operation operator (b ∷ a ∷ below) = at_depth (over a.depth b.depth) (λ depth. body_at a.at (body.SetOperation operator a.tree b.tree) depth ∷ below)
set_operation _ _ = wrong

-- ---- queries. A query is one level above its body and its keys.

abbrev pub begin_query : List BuiltBody × List BuiltQuery → Step (List BuiltBody × List BuiltQuery)
begin_query ((b ∷ bodies), below) = at_depth (over b.depth 0) (λ depth. (bodies, record { body = b.tree; order_by = []; limit = None; depth = depth; at = b.at } ∷ below))
begin_query _ = wrong

abbrev pub key : Bool → List Built × List BuiltQuery → Step (List Built × List BuiltQuery)
key descending ((e ∷ expressions), (q ∷ below)) =
    let key = roll-SortKey (record { at = e.start; value = e.tree; descending = descending }) in
    at_depth (over e.depth 0) (λ depth. (expressions, record q { order_by = q.order_by ++ key ∷ []; depth = max q.depth depth } ∷ below))
key _ _ = wrong

abbrev pub limit : List PlacedNumber × List BuiltQuery → Step (List PlacedNumber × List BuiltQuery)
limit ((n ∷ numbers), (q ∷ below)) = stands (numbers, record q { limit = Some (record { count = natural n.number.units; offset = None }) } ∷ below)
limit _ = wrong

abbrev pub with_offset : Option Limit → ℕ → Option Limit
with_offset (Some l) offset = Some (record { count = l.count; offset = Some offset })
with_offset None offset = None

abbrev pub offset : List PlacedNumber × List BuiltQuery → Step (List PlacedNumber × List BuiltQuery)
offset ((n ∷ numbers), (q ∷ below)) = stands (numbers, record q { limit = with_offset q.limit (natural n.number.units) } ∷ below)
offset _ = wrong
