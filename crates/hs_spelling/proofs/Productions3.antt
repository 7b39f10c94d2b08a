-- Productions of the literal grammar keep what their rules mean, made by grammar/make_spelling.py.
use Rattle.std.proofs.Common.{ℕ, List, [], ◌∷◌, refl, sym, subst, arith}
use Rattle.hs_builder.specs.Steps.{over}
use Rattle.hs_syntax.specs.Literal.{word, mark, rule, to}
use Rattle.hs_syntax.specs.Marks as m
use Rattle.hs_syntax.specs.Names as class
use Rattle.hs_spelling.specs.Expressions as X
use Rattle.hs_spelling.specs.Literals as L
use Rattle.hs_spelling.specs.Statements as Z
use Rattle.hs_spelling.specs.Tokens as T
use Rattle.hs_spelling.proofs.Meanings.{first_at, made_body, loose_body, loosest_body, in_brackets, whole_source, grew_on, set_no_tuples, no_tuples, begins_otherwise, more_of_tuples, more_of_values}
use Rattle.hs_spelling.proofs.Promises.{Promise, on_depth}
use Rattle.hs_spelling.proofs.Rules.{means, Kept}

module _ (text : List ℕ) where
  pub production_120 : Kept text (to class.item (rule class.e ∷ rule class.alias ∷ mark m.item ∷ []))
  production_120 last rest p K k = subst (λ z. Promise text (means text) (rule class.e ∷ rule class.alias ∷ mark m.item ∷ []) last rest z K) (sym k.7) (λ x1 l1 r1 s1. λ x2 l2 r2 s2. k.8 _ _ _ _ (X.item s1.at s1.spelled s2))

  pub production_121 : Kept text (to class.alias (word class.AS ∷ rule class.name ∷ mark m.alias ∷ []))
  production_121 last rest p K k = λ r1 w1. λ x2 l2 r2 s2. k _ _ _ (L.alias (T.written_out w1) s2)

  pub production_122 : Kept text (to class.alias (rule class.name ∷ mark m.alias ∷ []))
  production_122 last rest p K k = λ x1 l1 r1 s1. k _ _ _ (L.alias T.left_out s1)

  pub production_123 : Kept text (to class.alias (mark m.no_alias ∷ []))
  production_123 last rest p K k = k _ _ _ L.no_alias

  pub production_124 : Kept text (to class.from (rule class.table ∷ mark m.from ∷ rule class.joins ∷ mark m.add_from ∷ []))
  production_124 last rest p K k = subst (λ z. Promise text (means text) (rule class.table ∷ mark m.from ∷ rule class.joins ∷ mark m.add_from ∷ []) last rest z K) (sym k.7) (λ x1 l1 r1 s1. (_, _, refl, _, X.alone s1, λ x3 l3 r3 s3. k.8 _ _ _ _ _ s3))

  pub production_125 : Kept text (to class.joins (word class.INNER ∷ word class.JOIN ∷ rule class.table ∷ word class.ON ∷ rule class.e ∷ mark m.inner_join ∷ rule class.joins ∷ []))
  production_125 last rest p K k = subst (λ z. Promise text (means text) (word class.INNER ∷ word class.JOIN ∷ rule class.table ∷ word class.ON ∷ rule class.e ∷ mark m.inner_join ∷ rule class.joins ∷ []) last rest z K) (sym k.2) (λ r1 w1. λ r2 w2. λ x3 l3 r3 s3. λ r4 w4. λ x5 l5 r5 s5. (_, _, refl, _, X.inner_join k.4 (T.written_out w1) w2 s3 w4 s5.spelled, λ x7 l7 r7 s7. k.5 _ _ _ s7))

  pub production_126 : Kept text (to class.joins (word class.JOIN ∷ rule class.table ∷ word class.ON ∷ rule class.e ∷ mark m.inner_join ∷ rule class.joins ∷ []))
  production_126 last rest p K k = subst (λ z. Promise text (means text) (word class.JOIN ∷ rule class.table ∷ word class.ON ∷ rule class.e ∷ mark m.inner_join ∷ rule class.joins ∷ []) last rest z K) (sym k.2) (λ r1 w1. λ x2 l2 r2 s2. λ r3 w3. λ x4 l4 r4 s4. (_, _, refl, _, X.inner_join k.4 T.left_out w1 s2 w3 s4.spelled, λ x6 l6 r6 s6. k.5 _ _ _ s6))

  pub production_127 : Kept text (to class.joins (word class.LEFT ∷ rule class.outer ∷ word class.JOIN ∷ rule class.table ∷ word class.ON ∷ rule class.e ∷ mark m.left_join ∷ rule class.joins ∷ []))
  production_127 last rest p K k = subst (λ z. Promise text (means text) (word class.LEFT ∷ rule class.outer ∷ word class.JOIN ∷ rule class.table ∷ word class.ON ∷ rule class.e ∷ mark m.left_join ∷ rule class.joins ∷ []) last rest z K) (sym k.2) (λ r1 w1. λ l2 r2 s2. λ r3 w3. λ x4 l4 r4 s4. λ r5 w5. λ x6 l6 r6 s6. (_, _, refl, _, X.left_join k.4 w1 s2 w3 s4 w5 s6.spelled, λ x8 l8 r8 s8. k.5 _ _ _ s8))

  pub production_128 : Kept text (to class.joins (word class.CROSS ∷ word class.JOIN ∷ rule class.table ∷ mark m.cross_join ∷ rule class.joins ∷ []))
  production_128 last rest p K k = subst (λ z. Promise text (means text) (word class.CROSS ∷ word class.JOIN ∷ rule class.table ∷ mark m.cross_join ∷ rule class.joins ∷ []) last rest z K) (sym k.2) (λ r1 w1. λ r2 w2. λ x3 l3 r3 s3. (_, _, refl, _, X.cross_join k.4 w1 w2 s3, λ x5 l5 r5 s5. k.5 _ _ _ s5))

  pub production_129 : Kept text (to class.joins ([]))
  production_129 last rest p K k = subst (λ z. Promise text (means text) ([]) last rest z K) (sym k.2) (k.5 _ _ _ k.4)

  pub production_130 : Kept text (to class.outer (word class.OUTER ∷ []))
  production_130 last rest p K k = λ r1 w1. k _ _ (T.written_out w1)

  pub production_131 : Kept text (to class.outer ([]))
  production_131 last rest p K k = k _ _ T.left_out

  pub production_132 : Kept text (to class.table (rule class.name ∷ rule class.alias ∷ mark m.table ∷ []))
  production_132 last rest p K k = λ x1 l1 r1 s1. λ x2 l2 r2 s2. k _ _ _ (X.named s1 s2)

  pub production_133 : Kept text (to class.table (word class.left_parenthesis ∷ rule class.query ∷ word class.right_parenthesis ∷ rule class.as_part ∷ rule class.name ∷ mark m.derived ∷ []))
  production_133 last rest p K k = λ r1 w1. λ x2 l2 r2 s2. λ r3 w3. λ l4 r4 s4. λ x5 l5 r5 s5. k _ _ _ (X.derived w1 s2 w3 s4 s5)

  pub production_134 : Kept text (to class.as_part (word class.AS ∷ []))
  production_134 last rest p K k = λ r1 w1. k _ _ (T.written_out w1)

  pub production_135 : Kept text (to class.as_part ([]))
  production_135 last rest p K k = k _ _ T.left_out

  pub production_136 : Kept text (to class.key (rule class.e ∷ rule class.direction ∷ []))
  production_136 last rest p K k = subst (λ z. Promise text (means text) (rule class.e ∷ rule class.direction ∷ []) last rest z K) (sym k.6) (λ x1 l1 r1 s1. (_, _, _, _, _, _, _, refl, _, s1, λ x2 y2 l2 r2 s2. k.7 _ _ _ _ s2))

  pub production_137 : Kept text (to class.direction (word class.ASC ∷ mark m.ascending ∷ []))
  production_137 last rest p K k = subst (λ z. Promise text (means text) (word class.ASC ∷ mark m.ascending ∷ []) last rest z K) (sym k.7) (λ r1 w1. on_depth (over k.0.depth 0) _ _ _ _ (λ d2. k.10 _ _ _ _ (X.key k.9.at k.9.spelled (X.ascending w1))))

  pub production_138 : Kept text (to class.direction (word class.DESC ∷ mark m.descending ∷ []))
  production_138 last rest p K k = subst (λ z. Promise text (means text) (word class.DESC ∷ mark m.descending ∷ []) last rest z K) (sym k.7) (λ r1 w1. on_depth (over k.0.depth 0) _ _ _ _ (λ d2. k.10 _ _ _ _ (X.key k.9.at k.9.spelled (X.descending w1))))

  pub production_139 : Kept text (to class.direction (mark m.ascending ∷ []))
  production_139 last rest p K k = subst (λ z. Promise text (means text) (mark m.ascending ∷ []) last rest z K) (sym k.7) (on_depth (over k.0.depth 0) _ _ _ _ (λ d1. k.10 _ _ _ _ (X.key k.9.at k.9.spelled X.no_direction)))

  pub production_140 : Kept text (to class.insert (word class.INSERT ∷ word class.INTO ∷ rule class.name ∷ mark m.insert ∷ rule class.source ∷ []))
  production_140 last rest p K k = λ r1 w1. λ r2 w2. λ x3 l3 r3 s3. (_, _, refl, _, (_, _, w1, w2, s3), λ x5 l5 r5 s5. k _ _ _ s5)

  pub production_141 : Kept text (to class.source (word class.left_parenthesis ∷ mark m.at ∷ rule class.names ∷ word class.right_parenthesis ∷ mark m.insert_columns ∷ rule class.contents ∷ []))
  production_141 last rest p K k = subst (λ z. Promise text (means text) (word class.left_parenthesis ∷ mark m.at ∷ rule class.names ∷ word class.right_parenthesis ∷ mark m.insert_columns ∷ rule class.contents ∷ []) last rest z K) (sym k.2) (λ r1 w1. λ x3 l3 r3 s3. λ r4 w4. (_, _, _, refl, _, (_, _, _, k.4.2, k.4.3, k.4.4, Z.columns w1 s3 w4), λ x6 l6 r6 s6. k.5 _ _ _ s6))

  pub production_142 : Kept text (to class.source (rule class.contents ∷ []))
  production_142 last rest p K k = subst (λ z. Promise text (means text) (rule class.contents ∷ []) last rest z K) (sym k.2) ((_, _, _, refl, _, (_, _, _, k.4.2, k.4.3, k.4.4, Z.no_columns), λ x1 l1 r1 s1. k.5 _ _ _ s1))

  pub production_143 : Kept text (to class.contents (word class.VALUES ∷ mark m.tuples ∷ rule class.tuples ∷ mark m.insert_tuples ∷ []))
  production_143 last rest p K k = subst (λ z. Promise text (means text) (word class.VALUES ∷ mark m.tuples ∷ rule class.tuples ∷ mark m.insert_tuples ∷ []) last rest z K) (sym k.3) (λ r1 w1. (_, _, _, refl, λ x3 y3 l3 r3 s3. k.6 _ _ _ (Z.insert k.5.3 k.5.4 k.5.5 k.5.6 (Z.tuples w1 s3))))

  pub production_144 : Kept text (to class.contents (rule class.inserted_query ∷ mark m.insert_query ∷ []))
  production_144 last rest p K k = subst (λ z. Promise text (means text) (rule class.inserted_query ∷ mark m.insert_query ∷ []) last rest z K) (sym k.3) (λ x1 l1 r1 s1. k.6 _ _ _ (Z.insert k.5.3 k.5.4 k.5.5 k.5.6 s1))

  pub production_145 : Kept text (to class.tuples (rule class.tuple ∷ rule class.tuples_more ∷ []))
  production_145 last rest p K k = subst (λ z. Promise text (means text) (rule class.tuple ∷ rule class.tuples_more ∷ []) last rest z K) (sym k.3) ((_, _, _, _, refl, λ x1 y1 l1 r1 s1. (_, _, _, _, refl, _, Z.one_tuple s1, λ x2 y2 l2 r2 s2. k.4 _ _ _ _ s2)))

  pub production_146 : Kept text (to class.tuples_more (word class.comma ∷ rule class.tuple ∷ rule class.tuples_more ∷ []))
  production_146 last rest p K k = subst (λ z. Promise text (means text) (word class.comma ∷ rule class.tuple ∷ rule class.tuples_more ∷ []) last rest z K) (sym k.4) (λ r1 w1. (_, _, _, _, refl, λ x2 y2 l2 r2 s2. (_, _, _, _, refl, _, Z.more_tuples k.6 w1 s2, λ x3 y3 l3 r3 s3. k.7 _ _ _ _ s3)))

  pub production_147 : Kept text (to class.tuples_more ([]))
  production_147 last rest p K k = subst (λ z. Promise text (means text) ([]) last rest z K) (sym k.4) (k.7 _ _ _ _ k.6)

  pub production_148 : Kept text (to class.tuple (word class.left_parenthesis ∷ mark m.tuple ∷ rule class.tuple_value ∷ rule class.values_more ∷ word class.right_parenthesis ∷ mark m.add_tuple ∷ []))
  production_148 last rest p K k = subst (λ z. Promise text (means text) (word class.left_parenthesis ∷ mark m.tuple ∷ rule class.tuple_value ∷ rule class.values_more ∷ word class.right_parenthesis ∷ mark m.add_tuple ∷ []) last rest z K) (sym k.4) (λ r1 w1. (_, _, _, refl, λ x3 y3 l3 r3 s3. (_, _, _, refl, _, Z.one_value s3, λ x4 y4 l4 r4 s4. λ r5 w5. k.5 _ _ _ _ (Z.tuple w1 s4 w5))))

  pub production_149 : Kept text (to class.values_more (word class.comma ∷ rule class.tuple_value ∷ rule class.values_more ∷ []))
  production_149 last rest p K k = subst (λ z. Promise text (means text) (word class.comma ∷ rule class.tuple_value ∷ rule class.values_more ∷ []) last rest z K) (sym k.3) (λ r1 w1. (_, _, _, refl, λ x2 y2 l2 r2 s2. (_, _, _, refl, _, Z.more_values k.5 w1 s2, λ x3 y3 l3 r3 s3. k.6 _ _ _ _ s3)))

  pub production_150 : Kept text (to class.values_more ([]))
  production_150 last rest p K k = subst (λ z. Promise text (means text) ([]) last rest z K) (sym k.3) (k.6 _ _ _ _ k.5)

  pub production_151 : Kept text (to class.tuple_value (rule class.e ∷ mark m.tuple_value ∷ []))
  production_151 last rest p K k = subst (λ z. Promise text (means text) (rule class.e ∷ mark m.tuple_value ∷ []) last rest z K) (sym k.3) (λ x1 l1 r1 s1. k.4 _ _ _ _ (Z.of_expression s1.spelled))

  pub production_152 : Kept text (to class.tuple_value (word class.DEFAULT ∷ mark m.tuple_default ∷ []))
  production_152 last rest p K k = subst (λ z. Promise text (means text) (word class.DEFAULT ∷ mark m.tuple_default ∷ []) last rest z K) (sym k.3) (λ r1 w1. k.4 _ _ _ _ (Z.default_value (first_at w1) w1))

  pub production_153 : Kept text (to class.inserted_query (word class.SELECT ∷ mark m.at ∷ rule class.select ∷ rule class.query_tail ∷ []))
  production_153 last rest p K k = λ r1 w1. (_, _, refl, _, (w1, first_at w1), λ x3 l3 r3 s3. (_, _, refl, _, (loose_body s3, begins_otherwise (λ e. omega (arith, e)) w1), λ x4 l4 r4 s4. k _ _ _ s4))

  pub production_154 : Kept text (to class.inserted_query (word class.left_parenthesis ∷ mark m.at ∷ rule class.body ∷ word class.right_parenthesis ∷ mark m.bracket_body ∷ rule class.query_tail ∷ []))
  production_154 last rest p K k = λ r1 w1. λ x3 l3 r3 s3. λ r4 w4. (_, _, refl, _, (loose_body (in_brackets w1 s3 w4), begins_otherwise (λ e. omega (arith, e)) w1), λ x6 l6 r6 s6. k _ _ _ s6)

  pub production_155 : Kept text (to class.inserted_query (word class.VALUES ∷ mark m.tuples ∷ rule class.rows_of_values ∷ mark m.tuples_body ∷ rule class.behind_rows ∷ []))
  production_155 last rest p K k = λ r1 w1. (_, _, _, refl, λ x3 y3 l3 r3 s3. (_, _, refl, _, made_body (X.values (first_at w1) w1 s3), λ x5 l5 r5 s5. k _ _ _ s5))

  pub production_156 : Kept text (to class.query_tail (rule class.term_more ∷ rule class.body_more ∷ mark m.query ∷ rule class.ordering ∷ rule class.limiting ∷ []))
  production_156 last rest p K k = subst (λ z. Promise text (means text) (rule class.term_more ∷ rule class.body_more ∷ mark m.query ∷ rule class.ordering ∷ rule class.limiting ∷ []) last rest z K) (sym k.2) ((_, _, refl, _, k.4.0, λ x1 l1 r1 s1. (_, _, refl, _, loose_body s1.0, λ x2 l2 r2 s2. on_depth (over x2.depth 0) _ _ _ _ (λ d3. (_, _, _, _, refl, λ x4 y4 l4 r4 s4. (_, _, _, _, _, refl, λ x5 l5 r5 s5. k.5 _ _ _ (whole_source s2.0.spelled (no_tuples x1.tree x2.tree (no_tuples k.0.tree x1.tree k.4.1 s1.1) s2.1) s4 s5)))))))

  pub production_157 : Kept text (to class.rows_of_values (rule class.row_of_values ∷ rule class.rows_of_values_more ∷ []))
  production_157 last rest p K k = subst (λ z. Promise text (means text) (rule class.row_of_values ∷ rule class.rows_of_values_more ∷ []) last rest z K) (sym k.3) ((_, _, _, _, refl, λ x1 y1 l1 r1 s1. (_, _, _, _, refl, _, X.one_row s1, λ x2 y2 l2 r2 s2. k.4 _ _ _ _ s2)))

  pub production_158 : Kept text (to class.rows_of_values_more (word class.comma ∷ rule class.row_of_values ∷ rule class.rows_of_values_more ∷ []))
  production_158 last rest p K k = subst (λ z. Promise text (means text) (word class.comma ∷ rule class.row_of_values ∷ rule class.rows_of_values_more ∷ []) last rest z K) (sym k.4) (λ r1 w1. (_, _, _, _, refl, λ x2 y2 l2 r2 s2. (_, _, _, _, refl, _, more_of_tuples k.0 x2 k.6 w1 s2, λ x3 y3 l3 r3 s3. k.7 _ _ _ _ s3)))

  pub production_159 : Kept text (to class.rows_of_values_more ([]))
  production_159 last rest p K k = subst (λ z. Promise text (means text) ([]) last rest z K) (sym k.4) (k.7 _ _ _ _ k.6)

  pub production_160 : Kept text (to class.row_of_values (word class.left_parenthesis ∷ mark m.tuple ∷ rule class.e ∷ mark m.tuple_value ∷ rule class.row_of_values_more ∷ word class.right_parenthesis ∷ mark m.add_tuple ∷ []))
  production_160 last rest p K k = subst (λ z. Promise text (means text) (word class.left_parenthesis ∷ mark m.tuple ∷ rule class.e ∷ mark m.tuple_value ∷ rule class.row_of_values_more ∷ word class.right_parenthesis ∷ mark m.add_tuple ∷ []) last rest z K) (sym k.4) (λ r1 w1. λ x3 l3 r3 s3. (_, _, _, refl, _, X.one_expression s3.spelled, λ x5 y5 l5 r5 s5. λ r6 w6. k.5 _ _ _ _ (X.row w1 s5 w6)))

  pub production_161 : Kept text (to class.row_of_values_more (word class.comma ∷ rule class.e ∷ mark m.tuple_value ∷ rule class.row_of_values_more ∷ []))
  production_161 last rest p K k = subst (λ z. Promise text (means text) (word class.comma ∷ rule class.e ∷ mark m.tuple_value ∷ rule class.row_of_values_more ∷ []) last rest z K) (sym k.3) (λ r1 w1. λ x2 l2 r2 s2. (_, _, _, refl, _, more_of_values k.0 x2.tree k.5 w1 s2.spelled, λ x4 y4 l4 r4 s4. k.6 _ _ _ _ s4))

  pub production_162 : Kept text (to class.row_of_values_more ([]))
  production_162 last rest p K k = subst (λ z. Promise text (means text) ([]) last rest z K) (sym k.3) (k.6 _ _ _ _ k.5)

  pub production_163 : Kept text (to class.behind_rows (word class.INTERSECT ∷ rule class.core ∷ mark m.intersect ∷ rule class.query_tail ∷ []))
  production_163 last rest p K k = subst (λ z. Promise text (means text) (word class.INTERSECT ∷ rule class.core ∷ mark m.intersect ∷ rule class.query_tail ∷ []) last rest z K) (sym k.2) (λ r1 w1. λ x2 l2 r2 s2. on_depth (over k.0.depth x2.depth) _ _ _ _ (λ d3. (_, _, refl, _, (made_body (X.intersect (X.closer_body k.4.spelled) w1 s2.spelled), Z.set_operation _ _ _), λ x4 l4 r4 s4. k.5 _ _ _ s4)))

  pub production_164 : Kept text (to class.behind_rows (word class.UNION ∷ rule class.union ∷ rule class.body_more ∷ mark m.query ∷ rule class.ordering ∷ rule class.limiting ∷ []))
  production_164 last rest p K k = subst (λ z. Promise text (means text) (word class.UNION ∷ rule class.union ∷ rule class.body_more ∷ mark m.query ∷ rule class.ordering ∷ rule class.limiting ∷ []) last rest z K) (sym k.2) (λ r1 w1. (_, _, refl, _, (_, loosest_body k.4, w1), λ x2 l2 r2 s2. (_, _, refl, _, s2.0, λ x3 l3 r3 s3. on_depth (over x3.depth 0) _ _ _ _ (λ d4. (_, _, _, _, refl, λ x5 y5 l5 r5 s5. (_, _, _, _, _, refl, λ x6 l6 r6 s6. k.5 _ _ _ (whole_source s3.0.spelled (set_no_tuples (grew_on x2.tree x3.tree s2.1 s3.1)) s5 s6)))))))

  pub production_165 : Kept text (to class.behind_rows (word class.EXCEPT ∷ rule class.term ∷ mark m.except ∷ rule class.body_more ∷ mark m.query ∷ rule class.ordering ∷ rule class.limiting ∷ []))
  production_165 last rest p K k = subst (λ z. Promise text (means text) (word class.EXCEPT ∷ rule class.term ∷ mark m.except ∷ rule class.body_more ∷ mark m.query ∷ rule class.ordering ∷ rule class.limiting ∷ []) last rest z K) (sym k.2) (λ r1 w1. λ x2 l2 r2 s2. on_depth (over k.0.depth x2.depth) _ _ _ _ (λ d3. (_, _, refl, _, made_body (X.except (X.closer_body (X.closer_body k.4.spelled)) w1 s2.spelled), λ x4 l4 r4 s4. on_depth (over x4.depth 0) _ _ _ _ (λ d5. (_, _, _, _, refl, λ x6 y6 l6 r6 s6. (_, _, _, _, _, refl, λ x7 l7 r7 s7. k.5 _ _ _ (whole_source s4.0.spelled (set_no_tuples (grew_on _ x4.tree (_, _, _, refl) s4.1)) s6 s7)))))))

  pub production_166 : Kept text (to class.behind_rows (mark m.query ∷ rule class.ordered ∷ []))
  production_166 last rest p K k = subst (λ z. Promise text (means text) (mark m.query ∷ rule class.ordered ∷ []) last rest z K) (sym k.2) (on_depth (over k.0.depth 0) _ _ _ _ (λ d1. (_, _, _, _, refl, λ x2 y2 z2 l2 r2 s2. k.5 _ _ _ (Z.of_ordered (X.closer_body (X.closer_body k.4.spelled)) s2))))

  pub production_167 : Kept text (to class.update (word class.UPDATE ∷ rule class.name ∷ rule class.alias ∷ mark m.update ∷ word class.SET ∷ rule class.pair ∷ rule class.pairs_more ∷ rule class.update_where ∷ mark m.update_statement ∷ []))
  production_167 last rest p K k = λ r1 w1. λ x2 l2 r2 s2. λ x3 l3 r3 s3. λ r5 w5. (_, _, _, _, _, refl, λ x6 l6 r6 s6. (_, _, _, _, _, refl, _, Z.one_assignment s6, λ x7 l7 r7 s7. λ x8 l8 r8 s8. k _ _ _ (Z.update w1 s2 s3 w5 s7 s8)))

  pub production_168 : Kept text (to class.pairs_more (word class.comma ∷ rule class.pair ∷ rule class.pairs_more ∷ []))
  production_168 last rest p K k = subst (λ z. Promise text (means text) (word class.comma ∷ rule class.pair ∷ rule class.pairs_more ∷ []) last rest z K) (sym k.5) (λ r1 w1. (_, _, _, _, _, refl, λ x2 l2 r2 s2. (_, _, _, _, _, refl, _, Z.more_assignments k.7 w1 s2, λ x3 l3 r3 s3. k.8 _ _ _ s3)))

  pub production_169 : Kept text (to class.pairs_more ([]))
  production_169 last rest p K k = subst (λ z. Promise text (means text) ([]) last rest z K) (sym k.5) (k.8 _ _ _ k.7)

  pub production_170 : Kept text (to class.pair (rule class.name ∷ word class.equal ∷ rule class.value ∷ []))
  production_170 last rest p K k = subst (λ z. Promise text (means text) (rule class.name ∷ word class.equal ∷ rule class.value ∷ []) last rest z K) (sym k.5) (λ x1 l1 r1 s1. λ r2 w2. (_, _, _, _, _, _, refl, _, (_, s1, w2), λ x3 l3 r3 s3. k.6 _ _ _ s3))

  pub production_171 : Kept text (to class.value (rule class.e ∷ mark m.assign ∷ []))
  production_171 last rest p K k = subst (λ z. Promise text (means text) (rule class.e ∷ mark m.assign ∷ []) last rest z K) (sym k.6) (λ x1 l1 r1 s1. k.9 _ _ _ (Z.assignment k.8.1 k.8.2 (Z.of_expression s1.spelled)))

  pub production_172 : Kept text (to class.value (word class.DEFAULT ∷ mark m.assign_default ∷ []))
  production_172 last rest p K k = subst (λ z. Promise text (means text) (word class.DEFAULT ∷ mark m.assign_default ∷ []) last rest z K) (sym k.6) (λ r1 w1. k.9 _ _ _ (Z.assignment k.8.1 k.8.2 (Z.default_value (first_at w1) w1)))

  pub production_173 : Kept text (to class.update_where (word class.WHERE ∷ rule class.e ∷ mark m.written ∷ []))
  production_173 last rest p K k = λ r1 w1. λ x2 l2 r2 s2. k _ _ _ (X.behind w1 s2.spelled)

  pub production_174 : Kept text (to class.update_where (mark m.unwritten ∷ []))
  production_174 last rest p K k = k _ _ _ X.nothing_behind

  pub production_175 : Kept text (to class.delete (word class.DELETE ∷ word class.FROM ∷ rule class.name ∷ rule class.alias ∷ mark m.delete ∷ rule class.delete_where ∷ mark m.delete_statement ∷ []))
  production_175 last rest p K k = λ r1 w1. λ r2 w2. λ x3 l3 r3 s3. λ x4 l4 r4 s4. λ x6 l6 r6 s6. k _ _ _ (Z.delete w1 w2 s3 s4 s6)

  pub production_176 : Kept text (to class.delete_where (word class.WHERE ∷ rule class.e ∷ mark m.written ∷ []))
  production_176 last rest p K k = λ r1 w1. λ x2 l2 r2 s2. k _ _ _ (X.behind w1 s2.spelled)

  pub production_177 : Kept text (to class.delete_where (mark m.unwritten ∷ []))
  production_177 last rest p K k = k _ _ _ X.nothing_behind

  pub production_178 : Kept text (to class.lock (word class.LOCK ∷ word class.TABLE ∷ mark m.lock ∷ rule class.claim ∷ rule class.claims_more ∷ mark m.lock_statement ∷ []))
  production_178 last rest p K k = λ r1 w1. λ r2 w2. (_, _, refl, λ x4 l4 r4 s4. (_, _, refl, _, Z.one_claim s4, λ x5 l5 r5 s5. k _ _ _ (Z.lock w1 w2 s5)))

  pub production_179 : Kept text (to class.claims_more (word class.comma ∷ rule class.claim ∷ rule class.claims_more ∷ []))
  production_179 last rest p K k = subst (λ z. Promise text (means text) (word class.comma ∷ rule class.claim ∷ rule class.claims_more ∷ []) last rest z K) (sym k.2) (λ r1 w1. (_, _, refl, λ x2 l2 r2 s2. (_, _, refl, _, Z.more_claims k.4 w1 s2, λ x3 l3 r3 s3. k.5 _ _ _ s3)))
