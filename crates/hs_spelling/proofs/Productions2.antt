-- Productions of the literal grammar keep what their rules mean, made by grammar/make_spelling.py.
use Rattle.std.proofs.Common.{ℕ, List, [], ◌∷◌, refl, sym, subst, inl, inr}
use Rattle.hs_builder.specs.Steps.{over}
use Rattle.hs_syntax.specs.Literal.{word, span, mark, rule, to}
use Rattle.hs_syntax.specs.Marks as m
use Rattle.hs_syntax.specs.Names as class
use Rattle.hs_spelling.specs.Expressions as X
use Rattle.hs_spelling.specs.Literals as L
use Rattle.hs_spelling.specs.Tokens as T
use Rattle.hs_spelling.proofs.Meanings.{first_at, numeral, told, whole_number, made_body, loose_body, in_brackets, whole_query, grew_on, unordered, by_keys}
use Rattle.hs_spelling.proofs.Promises.{Promise, on_depth}
use Rattle.hs_spelling.proofs.Rules.{means, Kept}

module _ (text : List ℕ) where
  pub production_60 : Kept text (to class.names (rule class.name ∷ mark m.first_name ∷ rule class.names_more ∷ []))
  production_60 last rest p K k = λ x1 l1 r1 s1. (_, _, refl, _, L.one_name s1, λ x3 l3 r3 s3. k _ _ _ s3)

  pub production_61 : Kept text (to class.names_more (word class.comma ∷ rule class.name ∷ mark m.next_name ∷ rule class.names_more ∷ []))
  production_61 last rest p K k = subst (λ z. Promise text (means text) (word class.comma ∷ rule class.name ∷ mark m.next_name ∷ rule class.names_more ∷ []) last rest z K) (sym k.2) (λ r1 w1. λ x2 l2 r2 s2. (_, _, refl, _, L.more_names k.4 w1 s2, λ x4 l4 r4 s4. k.5 _ _ _ s4))

  pub production_62 : Kept text (to class.names_more ([]))
  production_62 last rest p K k = subst (λ z. Promise text (means text) ([]) last rest z K) (sym k.2) (k.5 _ _ _ k.4)

  pub production_63 : Kept text (to class.number (span class.number_0 class.fraction ∷ mark m.number ∷ []))
  production_63 last rest p K k = λ r1 w1. k _ _ _ (numeral text w1, first_at w1)

  pub production_64 : Kept text (to class.text (span class.digit_text class.other_text ∷ mark m.text ∷ []))
  production_64 last rest p K k = λ r1 w1. k _ _ _ (told text w1, first_at w1)

  pub production_65 : Kept text (to class.literal (rule class.number ∷ mark m.number_literal ∷ []))
  production_65 last rest p K k = λ x1 l1 r1 s1. k _ _ _ (L.a_number s1.0, s1.1)

  pub production_66 : Kept text (to class.literal (rule class.text ∷ mark m.text_literal ∷ []))
  production_66 last rest p K k = λ x1 l1 r1 s1. k _ _ _ (L.a_text s1.0, s1.1)

  pub production_67 : Kept text (to class.literal (word class.TRUE ∷ mark m.true_mark ∷ []))
  production_67 last rest p K k = λ r1 w1. k _ _ _ (L.true_word w1, first_at w1)

  pub production_68 : Kept text (to class.literal (word class.FALSE ∷ mark m.false_mark ∷ []))
  production_68 last rest p K k = λ r1 w1. k _ _ _ (L.false_word w1, first_at w1)

  pub production_69 : Kept text (to class.literal (word class.NULL ∷ mark m.null ∷ []))
  production_69 last rest p K k = λ r1 w1. k _ _ _ (L.null_word w1, first_at w1)

  pub production_70 : Kept text (to class.literal (word class.DATE ∷ mark m.at ∷ rule class.text ∷ mark m.date ∷ []))
  production_70 last rest p K k = λ r1 w1. λ x3 l3 r3 s3. k _ _ _ (L.a_date w1 s3.0, first_at w1)

  pub production_71 : Kept text (to class.literal (word class.TIMESTAMP ∷ mark m.at ∷ rule class.text ∷ mark m.timestamp ∷ []))
  production_71 last rest p K k = λ r1 w1. λ x3 l3 r3 s3. k _ _ _ (L.a_timestamp w1 s3.0, first_at w1)

  pub production_72 : Kept text (to class.query (rule class.body ∷ mark m.query ∷ rule class.ordering ∷ rule class.limiting ∷ []))
  production_72 last rest p K k = λ x1 l1 r1 s1. on_depth (over x1.depth 0) _ _ _ _ (λ d2. (_, _, _, _, refl, λ x3 y3 l3 r3 s3. (_, _, _, _, _, refl, λ x4 l4 r4 s4. k _ _ _ (whole_query s1.spelled s3 s4))))

  pub production_73 : Kept text (to class.ordering (word class.ORDER ∷ word class.BY ∷ rule class.keys ∷ []))
  production_73 last rest p K k = subst (λ z. Promise text (means text) (word class.ORDER ∷ word class.BY ∷ rule class.keys ∷ []) last rest z K) (sym k.4) (λ r1 w1. λ r2 w2. (_, _, _, _, _, refl, λ x3 y3 l3 r3 s3. k.5 _ _ _ _ (by_keys w1 w2 s3)))

  pub production_74 : Kept text (to class.ordering ([]))
  production_74 last rest p K k = subst (λ z. Promise text (means text) ([]) last rest z K) (sym k.4) (k.5 _ _ _ _ unordered)

  pub production_75 : Kept text (to class.keys (rule class.key ∷ rule class.keys_more ∷ []))
  production_75 last rest p K k = subst (λ z. Promise text (means text) (rule class.key ∷ rule class.keys_more ∷ []) last rest z K) (sym k.5) ((_, _, _, _, _, _, refl, λ x1 y1 l1 r1 s1. (_, _, _, _, _, _, refl, _, X.one_key s1, λ x2 y2 l2 r2 s2. k.6 _ _ _ _ s2)))

  pub production_76 : Kept text (to class.keys_more (word class.comma ∷ rule class.key ∷ rule class.keys_more ∷ []))
  production_76 last rest p K k = subst (λ z. Promise text (means text) (word class.comma ∷ rule class.key ∷ rule class.keys_more ∷ []) last rest z K) (sym k.6) (λ r1 w1. (_, _, _, _, _, _, refl, λ x2 y2 l2 r2 s2. (_, _, _, _, _, _, refl, _, X.more_keys k.8 w1 s2, λ x3 y3 l3 r3 s3. k.9 _ _ _ _ s3)))

  pub production_77 : Kept text (to class.keys_more ([]))
  production_77 last rest p K k = subst (λ z. Promise text (means text) ([]) last rest z K) (sym k.6) (k.9 _ _ _ _ k.8)

  pub production_78 : Kept text (to class.limiting (word class.LIMIT ∷ rule class.limit ∷ []))
  production_78 last rest p K k = subst (λ z. Promise text (means text) (word class.LIMIT ∷ rule class.limit ∷ []) last rest z K) (sym k.5) (λ r1 w1. (_, _, _, _, _, refl, λ x2 l2 r2 s2. k.6 _ _ _ (X.limiting w1 s2)))

  pub production_79 : Kept text (to class.limiting ([]))
  production_79 last rest p K k = subst (λ z. Promise text (means text) ([]) last rest z K) (sym k.5) (k.6 _ _ _ X.no_limit)

  pub production_80 : Kept text (to class.limit (span class.number_1 class.above ∷ mark m.number ∷ mark m.limit ∷ rule class.offset ∷ []))
  production_80 last rest p K k = subst (λ z. Promise text (means text) (span class.number_1 class.above ∷ mark m.number ∷ mark m.limit ∷ rule class.offset ∷ []) last rest z K) (sym k.5) (λ r1 w1. (_, _, _, _, _, _, refl, λ x4 l4 r4 s4. k.6 _ _ _ (X.limit (whole_number text w1) s4)))

  pub production_81 : Kept text (to class.offset (word class.OFFSET ∷ span class.number_0 class.above ∷ mark m.number ∷ mark m.offset ∷ []))
  production_81 last rest p K k = subst (λ z. Promise text (means text) (word class.OFFSET ∷ span class.number_0 class.above ∷ mark m.number ∷ mark m.offset ∷ []) last rest z K) (sym k.6) (λ r1 w1. λ r2 w2. k.7 _ _ _ (X.offset w1 (whole_number text w2)))

  pub production_82 : Kept text (to class.offset ([]))
  production_82 last rest p K k = subst (λ z. Promise text (means text) ([]) last rest z K) (sym k.6) (k.7 _ _ _ X.no_offset)

  pub production_83 : Kept text (to class.body (rule class.term ∷ rule class.body_more ∷ []))
  production_83 last rest p K k = λ x1 l1 r1 s1. (_, _, refl, _, loose_body s1, λ x2 l2 r2 s2. k _ _ _ s2.0)

  pub production_84 : Kept text (to class.body_more (word class.UNION ∷ rule class.union ∷ rule class.body_more ∷ []))
  production_84 last rest p K k = subst (λ z. Promise text (means text) (word class.UNION ∷ rule class.union ∷ rule class.body_more ∷ []) last rest z K) (sym k.2) (λ r1 w1. (_, _, refl, _, (_, k.4, w1), λ x2 l2 r2 s2. (_, _, refl, _, s2.0, λ x3 l3 r3 s3. k.5 _ _ _ (s3.0, inr (grew_on x2.tree x3.tree s2.1 s3.1)))))

  pub production_85 : Kept text (to class.body_more (word class.EXCEPT ∷ rule class.term ∷ mark m.except ∷ rule class.body_more ∷ []))
  production_85 last rest p K k = subst (λ z. Promise text (means text) (word class.EXCEPT ∷ rule class.term ∷ mark m.except ∷ rule class.body_more ∷ []) last rest z K) (sym k.2) (λ r1 w1. λ x2 l2 r2 s2. on_depth (over k.0.depth x2.depth) _ _ _ _ (λ d3. (_, _, refl, _, made_body (X.except k.4.spelled w1 s2.spelled), λ x4 l4 r4 s4. k.5 _ _ _ (s4.0, inr (grew_on _ x4.tree (_, _, _, refl) s4.1)))))

  pub production_86 : Kept text (to class.body_more ([]))
  production_86 last rest p K k = subst (λ z. Promise text (means text) ([]) last rest z K) (sym k.2) (k.5 _ _ _ (k.4, inl refl))

  pub production_87 : Kept text (to class.union (word class.ALL ∷ rule class.term ∷ mark m.union_all ∷ []))
  production_87 last rest p K k = subst (λ z. Promise text (means text) (word class.ALL ∷ rule class.term ∷ mark m.union_all ∷ []) last rest z K) (sym k.2) (λ r1 w1. λ x2 l2 r2 s2. on_depth (over k.0.depth x2.depth) _ _ _ _ (λ d3. k.5 _ _ _ (made_body (X.union_all k.4.1.spelled k.4.2 w1 s2.spelled), (_, _, _, refl))))

  pub production_88 : Kept text (to class.union (rule class.term ∷ mark m.union ∷ []))
  production_88 last rest p K k = subst (λ z. Promise text (means text) (rule class.term ∷ mark m.union ∷ []) last rest z K) (sym k.2) (λ x1 l1 r1 s1. on_depth (over k.0.depth x1.depth) _ _ _ _ (λ d2. k.5 _ _ _ (made_body (X.union k.4.1.spelled k.4.2 s1.spelled), (_, _, _, refl))))

  pub production_89 : Kept text (to class.term (rule class.core ∷ rule class.term_more ∷ []))
  production_89 last rest p K k = λ x1 l1 r1 s1. (_, _, refl, _, loose_body s1, λ x2 l2 r2 s2. k _ _ _ s2.0)

  pub production_90 : Kept text (to class.term_more (word class.INTERSECT ∷ rule class.core ∷ mark m.intersect ∷ rule class.term_more ∷ []))
  production_90 last rest p K k = subst (λ z. Promise text (means text) (word class.INTERSECT ∷ rule class.core ∷ mark m.intersect ∷ rule class.term_more ∷ []) last rest z K) (sym k.2) (λ r1 w1. λ x2 l2 r2 s2. on_depth (over k.0.depth x2.depth) _ _ _ _ (λ d3. (_, _, refl, _, made_body (X.intersect k.4.spelled w1 s2.spelled), λ x4 l4 r4 s4. k.5 _ _ _ (s4.0, inr (grew_on _ x4.tree (_, _, _, refl) s4.1)))))

  pub production_91 : Kept text (to class.term_more ([]))
  production_91 last rest p K k = subst (λ z. Promise text (means text) ([]) last rest z K) (sym k.2) (k.5 _ _ _ (k.4, inl refl))

  pub production_92 : Kept text (to class.core (word class.SELECT ∷ mark m.at ∷ rule class.select ∷ []))
  production_92 last rest p K k = λ r1 w1. (_, _, refl, _, (w1, first_at w1), λ x3 l3 r3 s3. k _ _ _ s3)

  pub production_93 : Kept text (to class.core (word class.VALUES ∷ mark m.values ∷ rule class.rows ∷ mark m.values_body ∷ []))
  production_93 last rest p K k = λ r1 w1. (_, _, _, refl, λ x3 y3 l3 r3 s3. k _ _ _ (made_body (X.values (first_at w1) w1 s3)))

  pub production_94 : Kept text (to class.core (word class.left_parenthesis ∷ mark m.at ∷ rule class.body ∷ word class.right_parenthesis ∷ mark m.bracket_body ∷ []))
  production_94 last rest p K k = λ r1 w1. λ x3 l3 r3 s3. λ r4 w4. k _ _ _ (in_brackets w1 s3 w4)

  pub production_95 : Kept text (to class.select (rule class.distinct ∷ mark m.select ∷ rule class.items ∷ word class.FROM ∷ rule class.froms ∷ rule class.where_part ∷ rule class.group ∷ rule class.having ∷ mark m.select_body ∷ []))
  production_95 last rest p K k = subst (λ z. Promise text (means text) (rule class.distinct ∷ mark m.select ∷ rule class.items ∷ word class.FROM ∷ rule class.froms ∷ rule class.where_part ∷ rule class.group ∷ rule class.having ∷ mark m.select_body ∷ []) last rest z K) (sym k.2) (λ x1 l1 r1 s1. (_, _, _, _, refl, λ x3 y3 l3 r3 s3. λ r4 w4. (_, _, _, _, _, _, refl, λ x5 y5 l5 r5 s5. λ x6 l6 r6 s6. (_, _, _, _, _, _, refl, λ x7 y7 l7 r7 s7. λ x8 l8 r8 s8. k.5 _ _ _ (made_body (X.select k.4.1 k.4.0 s1 s3 w4 s5 s6 s7 s8))))))

  pub production_96 : Kept text (to class.distinct (word class.DISTINCT ∷ mark m.yes ∷ []))
  production_96 last rest p K k = λ r1 w1. k _ _ _ (T.yes w1)

  pub production_97 : Kept text (to class.distinct (mark m.no ∷ []))
  production_97 last rest p K k = k _ _ _ T.no

  pub production_98 : Kept text (to class.items (word class.star ∷ mark m.every ∷ []))
  production_98 last rest p K k = subst (λ z. Promise text (means text) (word class.star ∷ mark m.every ∷ []) last rest z K) (sym k.4) (λ r1 w1. k.5 _ _ _ _ (X.every (first_at w1) w1))

  pub production_99 : Kept text (to class.items (rule class.item ∷ rule class.items_more ∷ []))
  production_99 last rest p K k = subst (λ z. Promise text (means text) (rule class.item ∷ rule class.items_more ∷ []) last rest z K) (sym k.4) ((_, _, _, _, _, _, _, refl, λ x1 y1 l1 r1 s1. (_, _, _, _, _, _, _, refl, _, X.one_item s1, λ x2 y2 l2 r2 s2. k.5 _ _ _ _ (X.listed s2))))

  pub production_100 : Kept text (to class.items_more (word class.comma ∷ rule class.item ∷ rule class.items_more ∷ []))
  production_100 last rest p K k = subst (λ z. Promise text (means text) (word class.comma ∷ rule class.item ∷ rule class.items_more ∷ []) last rest z K) (sym k.7) (λ r1 w1. (_, _, _, _, _, _, _, refl, λ x2 y2 l2 r2 s2. (_, _, _, _, _, _, _, refl, _, X.more_items k.9 w1 s2, λ x3 y3 l3 r3 s3. k.10 _ _ _ _ s3)))

  pub production_101 : Kept text (to class.items_more ([]))
  production_101 last rest p K k = subst (λ z. Promise text (means text) ([]) last rest z K) (sym k.7) (k.10 _ _ _ _ k.9)

  pub production_102 : Kept text (to class.froms (rule class.from ∷ rule class.froms_more ∷ []))
  production_102 last rest p K k = subst (λ z. Promise text (means text) (rule class.from ∷ rule class.froms_more ∷ []) last rest z K) (sym k.6) ((_, _, _, _, _, _, _, refl, λ x1 y1 z1 l1 r1 s1. (_, _, _, _, _, _, _, refl, _, X.one_from s1, λ x2 y2 l2 r2 s2. k.7 _ _ _ _ s2)))

  pub production_103 : Kept text (to class.froms_more (word class.comma ∷ rule class.from ∷ rule class.froms_more ∷ []))
  production_103 last rest p K k = subst (λ z. Promise text (means text) (word class.comma ∷ rule class.from ∷ rule class.froms_more ∷ []) last rest z K) (sym k.7) (λ r1 w1. (_, _, _, _, _, _, _, refl, λ x2 y2 z2 l2 r2 s2. (_, _, _, _, _, _, _, refl, _, X.more_froms k.9 w1 s2, λ x3 y3 l3 r3 s3. k.10 _ _ _ _ s3)))

  pub production_104 : Kept text (to class.froms_more ([]))
  production_104 last rest p K k = subst (λ z. Promise text (means text) ([]) last rest z K) (sym k.7) (k.10 _ _ _ _ k.9)

  pub production_105 : Kept text (to class.where_part (word class.WHERE ∷ rule class.e ∷ mark m.written ∷ []))
  production_105 last rest p K k = λ r1 w1. λ x2 l2 r2 s2. k _ _ _ (X.behind w1 s2.spelled)

  pub production_106 : Kept text (to class.where_part (mark m.unwritten ∷ []))
  production_106 last rest p K k = k _ _ _ X.nothing_behind

  pub production_107 : Kept text (to class.group (word class.GROUP ∷ word class.BY ∷ rule class.e ∷ mark m.group ∷ rule class.group_more ∷ []))
  production_107 last rest p K k = subst (λ z. Promise text (means text) (word class.GROUP ∷ word class.BY ∷ rule class.e ∷ mark m.group ∷ rule class.group_more ∷ []) last rest z K) (sym k.6) (λ r1 w1. λ r2 w2. λ x3 l3 r3 s3. (_, _, _, _, _, _, _, refl, _, X.one_expression s3.spelled, λ x5 y5 l5 r5 s5. k.7 _ _ _ _ (X.group w1 w2 s5)))

  pub production_108 : Kept text (to class.group ([]))
  production_108 last rest p K k = subst (λ z. Promise text (means text) ([]) last rest z K) (sym k.6) (k.7 _ _ _ _ X.no_group)

  pub production_109 : Kept text (to class.group_more (word class.comma ∷ rule class.e ∷ mark m.group ∷ rule class.group_more ∷ []))
  production_109 last rest p K k = subst (λ z. Promise text (means text) (word class.comma ∷ rule class.e ∷ mark m.group ∷ rule class.group_more ∷ []) last rest z K) (sym k.7) (λ r1 w1. λ x2 l2 r2 s2. (_, _, _, _, _, _, _, refl, _, X.more_expressions k.9 w1 s2.spelled, λ x4 y4 l4 r4 s4. k.10 _ _ _ _ s4))

  pub production_110 : Kept text (to class.group_more ([]))
  production_110 last rest p K k = subst (λ z. Promise text (means text) ([]) last rest z K) (sym k.7) (k.10 _ _ _ _ k.9)

  pub production_111 : Kept text (to class.having (word class.HAVING ∷ rule class.e ∷ mark m.written ∷ []))
  production_111 last rest p K k = λ r1 w1. λ x2 l2 r2 s2. k _ _ _ (X.behind w1 s2.spelled)

  pub production_112 : Kept text (to class.having (mark m.unwritten ∷ []))
  production_112 last rest p K k = k _ _ _ X.nothing_behind

  pub production_113 : Kept text (to class.es (rule class.e ∷ mark m.first ∷ rule class.es_more ∷ []))
  production_113 last rest p K k = λ x1 l1 r1 s1. (_, _, refl, _, X.one_expression s1.spelled, λ x3 l3 r3 s3. k _ _ _ s3)

  pub production_114 : Kept text (to class.es_more (word class.comma ∷ rule class.e ∷ mark m.next ∷ rule class.es_more ∷ []))
  production_114 last rest p K k = subst (λ z. Promise text (means text) (word class.comma ∷ rule class.e ∷ mark m.next ∷ rule class.es_more ∷ []) last rest z K) (sym k.2) (λ r1 w1. λ x2 l2 r2 s2. (_, _, refl, _, X.more_expressions k.4 w1 s2.spelled, λ x4 l4 r4 s4. k.5 _ _ _ s4))

  pub production_115 : Kept text (to class.es_more ([]))
  production_115 last rest p K k = subst (λ z. Promise text (means text) ([]) last rest z K) (sym k.2) (k.5 _ _ _ k.4)

  pub production_116 : Kept text (to class.rows (rule class.row ∷ rule class.rows_more ∷ []))
  production_116 last rest p K k = subst (λ z. Promise text (means text) (rule class.row ∷ rule class.rows_more ∷ []) last rest z K) (sym k.3) ((_, _, _, _, refl, λ x1 y1 l1 r1 s1. (_, _, _, _, refl, _, X.one_row s1, λ x2 y2 l2 r2 s2. k.4 _ _ _ _ s2)))

  pub production_117 : Kept text (to class.rows_more (word class.comma ∷ rule class.row ∷ rule class.rows_more ∷ []))
  production_117 last rest p K k = subst (λ z. Promise text (means text) (word class.comma ∷ rule class.row ∷ rule class.rows_more ∷ []) last rest z K) (sym k.4) (λ r1 w1. (_, _, _, _, refl, λ x2 y2 l2 r2 s2. (_, _, _, _, refl, _, X.more_rows k.6 w1 s2, λ x3 y3 l3 r3 s3. k.7 _ _ _ _ s3)))

  pub production_118 : Kept text (to class.rows_more ([]))
  production_118 last rest p K k = subst (λ z. Promise text (means text) ([]) last rest z K) (sym k.4) (k.7 _ _ _ _ k.6)

  pub production_119 : Kept text (to class.row (word class.left_parenthesis ∷ rule class.es ∷ word class.right_parenthesis ∷ mark m.row ∷ []))
  production_119 last rest p K k = subst (λ z. Promise text (means text) (word class.left_parenthesis ∷ rule class.es ∷ word class.right_parenthesis ∷ mark m.row ∷ []) last rest z K) (sym k.4) (λ r1 w1. λ x2 l2 r2 s2. λ r3 w3. k.5 _ _ _ _ (X.row w1 s2 w3))
