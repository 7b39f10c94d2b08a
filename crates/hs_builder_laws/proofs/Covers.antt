-- The depths that parts carry are those of their trees.
use Rattle.std.specs.Prelude.{◌≡◌, ℕ, ◌+◌, max, List, map}
use Rattle.hs_ast.specs.Depth.{deepest, depth_of, filter_depth_of, value_depth_of}
use Rattle.hs_ast.specs.declared.change.NewValue.{NewValue}
use Rattle.hs_builder.specs.declared.part.Built.{Built}
use Rattle.hs_builder.specs.declared.part.BuiltBody.{BuiltBody}
use Rattle.hs_builder.specs.declared.part.BuiltCase.{BuiltCase}
use Rattle.hs_builder.specs.declared.part.BuiltFrom.{BuiltFrom}
use Rattle.hs_builder.specs.declared.part.BuiltList.{BuiltList}
use Rattle.hs_builder.specs.declared.part.BuiltQuery.{BuiltQuery}
use Rattle.hs_builder.specs.declared.part.BuiltRows.{BuiltRows}
use Rattle.hs_builder.specs.declared.part.BuiltSelect.{BuiltSelect}
use Rattle.hs_builder.specs.declared.part.BuiltTable.{BuiltTable}
use Rattle.hs_builder.specs.declared.part.BuiltTuple.{BuiltTuple}
use Rattle.hs_builder.specs.declared.part.BuiltTuples.{BuiltTuples}
use Rattle.hs_builder.specs.declared.part.Changes.{Changes}
use Rattle.hs_builder.specs.declared.part.Expressions.{Expressions}
use Rattle.hs_builder.specs.declared.part.Parts.{Parts}
use Rattle.hs_builder.specs.declared.part.Queries.{Queries}
use Rattle.hs_builder.specs.declared.part.BuiltOptional.{BuiltOptional}
use Rattle.hs_builder_laws.proofs.Covering.{Every}
use Rattle.hs_builder_laws.proofs.Trees.{arm_depth, join_depth, body_depth, item_depth, table_depth, from_depth, key_depth, row_depth}

-- ---- expressions

abbrev pub BuiltCovers : Built → Type 0
BuiltCovers b = depth_of b.tree ≡ b.depth

abbrev pub ListCovers : BuiltList → Type 0
ListCovers l = deepest (map depth_of l.trees) ≡ l.depth

abbrev pub CaseCovers : BuiltCase → Type 0
CaseCovers c = deepest (map arm_depth c.arms) ≡ c.depth

abbrev pub OptionalCovers : BuiltOptional → Type 0
OptionalCovers o = filter_depth_of o.tree ≡ o.depth

-- ---- queries

abbrev pub SelectCovers : BuiltSelect → Type 0
SelectCovers s = max (deepest (map item_depth s.items)) (max (deepest (map from_depth s.from)) (deepest (map depth_of s.group_by))) ≡ s.depth

abbrev pub TableCovers : BuiltTable → Type 0
TableCovers t = table_depth t.table ≡ t.depth

abbrev pub FromCovers : BuiltFrom → Type 0
FromCovers f = max (table_depth f.table) (deepest (map join_depth f.joins)) ≡ f.depth

abbrev pub RowsCover : BuiltRows → Type 0
RowsCover v = deepest (map row_depth v.rows) ≡ v.depth

abbrev pub BodyCovers : BuiltBody → Type 0
BodyCovers b = body_depth b.tree ≡ b.depth

abbrev pub QueryCovers : BuiltQuery → Type 0
QueryCovers q = max (body_depth q.body) (deepest (map key_depth q.order_by)) + 1 ≡ q.depth

-- ---- rows of an INSERT

abbrev pub values_depth : List NewValue → ℕ
values_depth values = deepest (map value_depth_of values)

abbrev pub TupleCovers : BuiltTuple → Type 0
TupleCovers t = values_depth t.values ≡ t.depth

abbrev pub TuplesCover : BuiltTuples → Type 0
TuplesCover t = deepest (map values_depth t.tuples) ≡ t.depth

-- ---- all parts

pub record ExpressionsCover (es : Expressions) : Type 0 where
  pub whole : Every BuiltCovers es.whole
  pub lists : Every ListCovers es.lists
  pub cases : Every CaseCovers es.cases
  pub optional : Every OptionalCovers es.optional

pub record QueriesCover (qs : Queries) : Type 0 where
  pub selects : Every SelectCovers qs.selects
  pub tables : Every TableCovers qs.tables
  pub froms : Every FromCovers qs.froms
  pub rows : Every RowsCover qs.rows
  pub bodies : Every BodyCovers qs.bodies
  pub whole : Every QueryCovers qs.whole

pub record ChangesCover (cs : Changes) : Type 0 where
  pub tuples : Every TupleCovers cs.tuples
  pub tuple_lists : Every TuplesCover cs.tuple_lists

pub record PartsCover (p : Parts) : Type 0 where
  pub expressions : ExpressionsCover p.expressions
  pub queries : QueriesCover p.queries
  pub changes : ChangesCover p.changes
