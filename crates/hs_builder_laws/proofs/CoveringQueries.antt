-- Each step that builds a query keeps depths that are those of the trees.
use Rattle.std.proofs.Common.{◌≡◌, ℕ, ◌+◌, Bool, true, false, List, [], ◌∷◌, ◌++◌, Option, None, arith, refl, ◌∙◌}
use Rattle.std.specs.Prelude.{max}
use Rattle.hs_ast.specs.Depth.{depth_of}
use Rattle.hs_ast.specs.declared.expression.Expression.{Expression}
use Rattle.hs_ast.specs.declared.query.FromItem.{roll-FromItem}
use Rattle.hs_ast.specs.declared.query.Join.TheVariants as join
use Rattle.hs_ast.specs.declared.query.QueryBody.TheVariants as body
use Rattle.hs_ast.specs.declared.query.Select.{roll-Select}
use Rattle.hs_ast.specs.declared.query.SelectItem.TheVariants as shown
use Rattle.hs_ast.specs.declared.query.SetOperator.{SetOperator}
use Rattle.hs_ast.specs.declared.query.SortKey.{roll-SortKey}
use Rattle.hs_ast.specs.declared.query.TableReference.{TableReference}
use Rattle.hs_ast.specs.declared.query.ValuesRow.{roll-ValuesRow}
use Rattle.hs_ast.specs.declared.word.Identifier.{Identifier}
use Rattle.hs_lexer.specs.declared.token.Token.{Token}
use Rattle.hs_builder.specs.declared.part.Built.{Built}
use Rattle.hs_builder.specs.declared.part.BuiltBody.{BuiltBody}
use Rattle.hs_builder.specs.declared.part.BuiltFrom.{BuiltFrom}
use Rattle.hs_builder.specs.declared.part.BuiltList.{BuiltList}
use Rattle.hs_builder.specs.declared.part.BuiltOptional.{BuiltOptional}
use Rattle.hs_builder.specs.declared.part.BuiltQuery.{BuiltQuery}
use Rattle.hs_builder.specs.declared.part.BuiltRows.{BuiltRows}
use Rattle.hs_builder.specs.declared.part.BuiltSelect.{BuiltSelect}
use Rattle.hs_builder.specs.declared.part.BuiltTable.{BuiltTable}
use Rattle.hs_builder.specs.declared.part.PlacedNumber.{PlacedNumber}
use Rattle.hs_builder.specs.Expressions.{query_of}
use Rattle.hs_builder.specs.Queries as spec
use Rattle.hs_builder_laws.proofs.Covering.{Every, Then, made, pushed}
use Rattle.hs_builder_laws.proofs.Covers.{BuiltCovers, ListCovers, OptionalCovers, SelectCovers, TableCovers, FromCovers, RowsCover, BodyCovers, QueryCovers}
use Rattle.hs_builder_laws.proofs.CoveringExpressions.{query_covered}
use Rattle.hs_builder_laws.proofs.Trees as tree
use Rattle.hs_builder_laws.proofs.Trees.{key_depth, item_depth, table_depth, join_depth, from_depth, row_depth}

-- ---- SELECT

abbrev pub Started : {A B : Type 0} → A × B × List BuiltSelect → Type 0
Started x = Every SelectCovers x.2

abbrev pub Items : {A : Type 0} → A × List Built × List BuiltSelect → Type 0
Items x = Every BuiltCovers x.1 × Every SelectCovers x.2

abbrev pub Parts : List Built × List BuiltSelect → Type 0
Parts x = Every BuiltCovers x.0 × Every SelectCovers x.1

abbrev pub Froms : List BuiltFrom × List BuiltSelect → Type 0
Froms x = Every FromCovers x.0 × Every SelectCovers x.1

pub begin_select : (x : List ℕ × List Bool × List BuiltSelect) → Started x → Then (λ (z : List ℕ × List Bool × List BuiltSelect). Started z) (spec.begin_select x)
begin_select ((at ∷ places), (distinct ∷ flags), below) h = (refl, h)
begin_select ((at ∷ places), [], below) h = tt
begin_select ([], flags, below) h = tt

pub every : (token : Token) (x : List BuiltSelect) → Every SelectCovers x → Then (λ (z : List BuiltSelect). Every SelectCovers z) (spec.every token x)
every token (s ∷ below) (g, gs) =
    let e = tree.every_is token.start in
    let more = pushed item_depth s.items (shown.Every token.start) in
    (omega (arith, g), gs)
every token [] h = tt

pub item : (x : List (Option Identifier) × List Built × List BuiltSelect) → Items x → Then (λ (z : List (Option Identifier) × List Built × List BuiltSelect). Items z) (spec.item x)
item ((alias ∷ aliases), (e ∷ expressions), (s ∷ below)) ((h, hs), (g, gs)) =
    let is = tree.one_is e.start e.tree alias in
    let more = pushed item_depth s.items (shown.One e.start e.tree alias) in
    (hs, (omega (arith, g, h), gs))
item ((alias ∷ aliases), (e ∷ expressions), []) h = tt
item ((alias ∷ aliases), [], selects) h = tt
item ([], es, selects) h = tt

pub add_from : (x : List BuiltFrom × List BuiltSelect) → Froms x → Then (λ (z : List BuiltFrom × List BuiltSelect). Froms z) (spec.add_from x)
add_from ((f ∷ froms), (s ∷ below)) ((h, hs), (g, gs)) =
    let is = tree.from_is f.table f.joins in
    let more = pushed from_depth s.from (roll-FromItem (record { table = f.table; joins = f.joins })) in
    (hs, (omega (arith, g, h), gs))
add_from ((f ∷ froms), []) h = tt
add_from ([], selects) h = tt

pub group : (x : List Built × List BuiltSelect) → Parts x → Then (λ (z : List Built × List BuiltSelect). Parts z) (spec.group x)
group ((e ∷ expressions), (s ∷ below)) ((h, hs), (g, gs)) = (hs, (omega (arith, g, h, pushed depth_of s.group_by e.tree), gs))
group ((e ∷ expressions), []) h = tt
group ([], selects) h = tt

-- ---- FROM

abbrev pub Named : {A B : Type 0} → A × B × List BuiltTable → Type 0
Named x = Every TableCovers x.2

abbrev pub Derived : {A : Type 0} → A × List BuiltQuery × List BuiltTable → Type 0
Derived x = Every QueryCovers x.1 × Every TableCovers x.2

abbrev pub Tables : List BuiltTable × List BuiltFrom → Type 0
Tables x = Every TableCovers x.0 × Every FromCovers x.1

abbrev pub Joins : List Built × List BuiltTable × List BuiltFrom → Type 0
Joins x = Every BuiltCovers x.0 × Every TableCovers x.1 × Every FromCovers x.2

pub named_table : (x : List Identifier × List (Option Identifier) × List BuiltTable) → Named x → Then (λ (z : List Identifier × List (Option Identifier) × List BuiltTable). Named z) (spec.named_table x)
named_table ((name ∷ names), (alias ∷ aliases), below) h = (tree.named_is name alias, h)
named_table ((name ∷ names), [], below) h = tt
named_table ([], aliases, below) h = tt

pub derived_table : (x : List Identifier × List BuiltQuery × List BuiltTable) → Derived x → Then (λ (z : List Identifier × List BuiltQuery × List BuiltTable). Derived z) (spec.derived_table x)
derived_table ((name ∷ names), (q ∷ queries), below) ((g, gs), hs) = (gs, (tree.derived_is (query_of q) name ∙ query_covered q g, hs))
derived_table ((name ∷ names), [], below) h = tt
derived_table ([], queries, below) h = tt

pub begin_from : (x : List BuiltTable × List BuiltFrom) → Tables x → Then (λ (z : List BuiltTable × List BuiltFrom). Tables z) (spec.begin_from x)
begin_from ((t ∷ tables), below) ((g, gs), hs) = (gs, (omega (arith, g), hs))
begin_from ([], below) h = tt

joined : (outer : Bool) (t : TableReference) (e : Expression) → join_depth (spec.join_of outer t e) ≡ max (table_depth t) (depth_of e)
joined true t e = tree.left_is t e
joined false t e = tree.inner_is t e

pub join_on : (outer : Bool) (x : List Built × List BuiltTable × List BuiltFrom) → Joins x → Then (λ (z : List Built × List BuiltTable × List BuiltFrom). Joins z) (spec.join_on outer x)
join_on outer ((e ∷ expressions), (t ∷ tables), (f ∷ below)) ((h, hs), (g, gs), (k, ks)) =
    let is = joined outer t.table e.tree in
    let more = pushed join_depth f.joins (spec.join_of outer t.table e.tree) in
    (hs, gs, (omega (arith, h, g, k), ks))
join_on outer ((e ∷ expressions), (t ∷ tables), []) h = tt
join_on outer ((e ∷ expressions), [], froms) h = tt
join_on outer ([], tables, froms) h = tt

pub cross_join : (x : List BuiltTable × List BuiltFrom) → Tables x → Then (λ (z : List BuiltTable × List BuiltFrom). Tables z) (spec.cross_join x)
cross_join ((t ∷ tables), (f ∷ below)) ((g, gs), (k, ks)) =
    let is = tree.cross_is t.table in
    let more = pushed join_depth f.joins (join.Cross t.table) in
    (gs, (omega (arith, g, k), ks))
cross_join ((t ∷ tables), []) h = tt
cross_join ([], froms) h = tt

-- ---- bodies

abbrev pub Selects : List BuiltOptional × List BuiltSelect × List BuiltBody → Type 0
Selects x = Every OptionalCovers x.0 × Every SelectCovers x.1 × Every BodyCovers x.2

abbrev pub Rows : List BuiltList × List BuiltRows → Type 0
Rows x = Every ListCovers x.0 × Every RowsCover x.1

abbrev pub Values : List BuiltRows × List BuiltBody → Type 0
Values x = Every RowsCover x.0 × Every BodyCovers x.1

abbrev pub Bodies : {A : Type 0} → A × List BuiltBody → Type 0
Bodies x = Every BodyCovers x.1

pub select_body : (x : List BuiltOptional × List BuiltSelect × List BuiltBody) → Selects x → Then (λ (z : List BuiltOptional × List BuiltSelect × List BuiltBody). Selects z) (spec.select_body x)
select_body ((v ∷ w ∷ optional), (s ∷ selects), below) ((h, (i, is)), (g, gs), hs) =
    let e = tree.select_body_is (roll-Select (record { distinct = s.distinct; items = s.items; from = s.from; filter = w.tree; group_by = s.group_by; having = v.tree })) in
    (is, gs, (omega (arith, g, h, i, tree.select_is s.distinct s.items s.from w.tree s.group_by v.tree), hs))
select_body ([], selects, below) h = tt
select_body ((v ∷ []), selects, below) h = tt
select_body ((v ∷ w ∷ optional), [], below) h = tt

pub begin_values : (token : Token) (x : List BuiltRows) → Every RowsCover x → Then (λ (z : List BuiltRows). Every RowsCover z) (spec.begin_values token x)
begin_values token below h = (refl, h)

pub row : (x : List BuiltList × List BuiltRows) → Rows x → Then (λ (z : List BuiltList × List BuiltRows). Rows z) (spec.row x)
row ((list ∷ lists), (v ∷ below)) ((g, gs), (h, hs)) =
    let e = tree.row_is list.trees in
    let more = pushed row_depth v.rows (roll-ValuesRow (record { values = list.trees })) in
    (gs, (omega (arith, g, h), hs))
row ((list ∷ lists), []) h = tt
row ([], rows) h = tt

pub values_body : (x : List BuiltRows × List BuiltBody) → Values x → Then (λ (z : List BuiltRows × List BuiltBody). Values z) (spec.values_body x)
values_body ((v ∷ rows), below) ((g, gs), hs) = (gs, (tree.values_body_is v.rows ∙ g, hs))
values_body ([], below) h = tt

pub bracket_body : (x : List ℕ × List BuiltBody) → Bodies x → Then (λ (z : List ℕ × List BuiltBody). Bodies z) (spec.bracket_body x)
bracket_body ((at ∷ places), (b ∷ below)) (h, hs) = (h, hs)
bracket_body ((at ∷ places), []) h = tt
bracket_body ([], bodies) h = tt

pub set_operation : (operator : SetOperator) (x : List BuiltBody) → Every BodyCovers x → Then (λ (z : List BuiltBody). Every BodyCovers z) (spec.set_operation operator x)
set_operation operator (b ∷ a ∷ below) (i, (h, hs)) =
    made (λ (z : List BuiltBody). Every BodyCovers z) (max a.depth b.depth + 1) (λ depth. spec.body_at a.at (body.SetOperation operator a.tree b.tree) depth ∷ below)
    (let e = tree.set_operation_is operator a.tree b.tree in (omega (arith, h, i), hs))
set_operation operator (b ∷ []) h = tt
set_operation operator [] h = tt

-- ---- queries

abbrev pub Begun : List BuiltBody × List BuiltQuery → Type 0
Begun x = Every BodyCovers x.0 × Every QueryCovers x.1

abbrev pub Keys : List Built × List BuiltQuery → Type 0
Keys x = Every BuiltCovers x.0 × Every QueryCovers x.1

abbrev pub Limits : {A : Type 0} → A × List BuiltQuery → Type 0
Limits x = Every QueryCovers x.1

pub begin_query : (x : List BuiltBody × List BuiltQuery) → Begun x → Then (λ (z : List BuiltBody × List BuiltQuery). Begun z) (spec.begin_query x)
begin_query ((b ∷ bodies), below) ((g, gs), hs) =
    made (λ (z : List BuiltBody × List BuiltQuery). Begun z) (max b.depth 0 + 1) (λ depth. (bodies, record { body = b.tree; order_by = []; limit = None; depth = depth; at = b.at } ∷ below))
    (gs, (omega (arith, g), hs))
begin_query ([], below) h = tt

pub key : (descending : Bool) (x : List Built × List BuiltQuery) → Keys x → Then (λ (z : List Built × List BuiltQuery). Keys z) (spec.key descending x)
key descending ((e ∷ expressions), (q ∷ below)) ((h, hs), (g, gs)) =
    let key = roll-SortKey (record { at = e.start; value = e.tree; descending = descending }) in
    let is = tree.key_is e.start e.tree descending in
    let more = pushed key_depth q.order_by key in
    made (λ (z : List Built × List BuiltQuery). Keys z) (max e.depth 0 + 1) (λ depth. (expressions, record q { order_by = q.order_by ++ key ∷ []; depth = max q.depth depth } ∷ below))
    (hs, (omega (arith, g, h), gs))
key descending ((e ∷ expressions), []) h = tt
key descending ([], queries) h = tt

pub limit : (x : List PlacedNumber × List BuiltQuery) → Limits x → Then (λ (z : List PlacedNumber × List BuiltQuery). Limits z) (spec.limit x)
limit ((n ∷ numbers), (q ∷ below)) (g, gs) = (g, gs)
limit ((n ∷ numbers), []) h = tt
limit ([], queries) h = tt

pub offset : (x : List PlacedNumber × List BuiltQuery) → Limits x → Then (λ (z : List PlacedNumber × List BuiltQuery). Limits z) (spec.offset x)
offset ((n ∷ numbers), (q ∷ below)) (g, gs) = (g, gs)
offset ((n ∷ numbers), []) h = tt
offset ([], queries) h = tt
