-- Productions of the literal grammar keep what their rules mean, made by grammar/make_spelling.py.
use Rattle.std.proofs.Common.{ℕ, List, [], ◌∷◌, refl, sym, subst, max}
use Rattle.hs_builder.specs.Steps.{over}
use Rattle.hs_syntax.specs.Literal.{word, mark, rule, to}
use Rattle.hs_syntax.specs.Marks as m
use Rattle.hs_syntax.specs.Names as class
use Rattle.hs_spelling.specs.Expressions as X
use Rattle.hs_spelling.specs.Statements as Z
use Rattle.hs_spelling.specs.Tokens as T
use Rattle.hs_spelling.proofs.Meanings.{first_at, made, loose}
use Rattle.hs_spelling.proofs.Promises.{Promise, on_depth}
use Rattle.hs_spelling.proofs.Rules.{means, Kept}

module _ (text : List ℕ) where
  pub production_240 : Kept text (to class.alter (word class.ALTER ∷ word class.TABLE ∷ rule class.name ∷ rule class.altered ∷ []))
  production_240 last rest p K k = λ r1 w1. λ r2 w2. λ x3 l3 r3 s3. (_, _, refl, _, (_, _, w1, w2, s3), λ x4 l4 r4 s4. k _ _ _ s4)

  pub production_241 : Kept text (to class.altered (word class.ADD ∷ rule class.added ∷ []))
  production_241 last rest p K k = subst (λ z. Promise text (means text) (word class.ADD ∷ rule class.added ∷ []) last rest z K) (sym k.2) (λ r1 w1. (_, _, refl, _, (_, _, _, k.4.2, k.4.3, k.4.4, w1), λ x2 l2 r2 s2. k.5 _ _ _ s2))

  pub production_242 : Kept text (to class.altered (word class.DROP ∷ word class.CONSTRAINT ∷ rule class.name ∷ mark m.drop_constraint ∷ []))
  production_242 last rest p K k = subst (λ z. Promise text (means text) (word class.DROP ∷ word class.CONSTRAINT ∷ rule class.name ∷ mark m.drop_constraint ∷ []) last rest z K) (sym k.2) (λ r1 w1. λ r2 w2. λ x3 l3 r3 s3. k.5 _ _ _ (Z.alter_table k.4.2 k.4.3 k.4.4 (Z.drop_constraint w1 w2 s3)))

  pub production_243 : Kept text (to class.added (word class.COLUMN ∷ rule class.column ∷ mark m.add_column ∷ []))
  production_243 last rest p K k = subst (λ z. Promise text (means text) (word class.COLUMN ∷ rule class.column ∷ mark m.add_column ∷ []) last rest z K) (sym k.2) (λ r1 w1. λ x2 l2 r2 s2. k.5 _ _ _ (Z.alter_table k.4.3 k.4.4 k.4.5 (Z.add_column k.4.6 w1 s2)))

  pub production_244 : Kept text (to class.added (rule class.table_constraint ∷ mark m.add_constraint ∷ []))
  production_244 last rest p K k = subst (λ z. Promise text (means text) (rule class.table_constraint ∷ mark m.add_constraint ∷ []) last rest z K) (sym k.2) (λ x1 l1 r1 s1. k.5 _ _ _ (Z.alter_table k.4.3 k.4.4 k.4.5 (Z.add_constraint k.4.6 s1)))

  pub production_245 : Kept text (to class.drop (word class.DROP ∷ rule class.dropped ∷ []))
  production_245 last rest p K k = λ r1 w1. λ x2 l2 r2 s2. k _ _ _ (s2 _ w1)

  pub production_246 : Kept text (to class.dropped (word class.TABLE ∷ rule class.name ∷ mark m.drop_table ∷ []))
  production_246 last rest p K k = λ r1 w1. λ x2 l2 r2 s2. k _ _ _ (λ a v. Z.drop_table v w1 s2)

  pub production_247 : Kept text (to class.dropped (word class.INDEX ∷ rule class.name ∷ mark m.drop_index ∷ []))
  production_247 last rest p K k = λ r1 w1. λ x2 l2 r2 s2. k _ _ _ (λ a v. Z.drop_index v w1 s2)

  pub production_248 : Kept text (to class.set (word class.SET ∷ rule class.setting ∷ []))
  production_248 last rest p K k = λ r1 w1. λ x2 l2 r2 s2. k _ _ _ (s2 _ w1)

  pub production_249 : Kept text (to class.setting (word class.DATABASE ∷ rule class.database_setting ∷ []))
  production_249 last rest p K k = λ r1 w1. λ x2 l2 r2 s2. k _ _ _ (λ a v. s2 _ _ v w1)

  pub production_250 : Kept text (to class.setting (word class.AUTOCOMMIT ∷ rule class.truth ∷ []))
  production_250 last rest p K k = λ r1 w1. λ x2 l2 r2 s2. k _ _ _ (λ a v. s2 _ _ v w1)

  pub production_251 : Kept text (to class.setting (word class.TRANSACTION ∷ rule class.modes ∷ mark m.set_transaction ∷ []))
  production_251 last rest p K k = λ r1 w1. λ x2 l2 r2 s2. k _ _ _ (λ a v. Z.set_transaction v w1 s2)

  pub production_252 : Kept text (to class.setting (word class.SESSION ∷ word class.CHARACTERISTICS ∷ word class.AS ∷ word class.TRANSACTION ∷ rule class.modes ∷ mark m.set_characteristics ∷ []))
  production_252 last rest p K k = λ r1 w1. λ r2 w2. λ r3 w3. λ r4 w4. λ x5 l5 r5 s5. k _ _ _ (λ a v. Z.set_characteristics v w1 w2 w3 w4 s5)

  pub production_253 : Kept text (to class.setting (word class.FILES ∷ word class.WRITE ∷ word class.DELAY ∷ rule class.write_delay ∷ []))
  production_253 last rest p K k = λ r1 w1. λ r2 w2. λ r3 w3. λ x4 l4 r4 s4. k _ _ _ (λ a v. s4 _ _ _ _ v w1 w2 w3)

  pub production_254 : Kept text (to class.database_setting (word class.TRANSACTION ∷ word class.CONTROL ∷ rule class.control ∷ []))
  production_254 last rest p K k = λ r1 w1. λ r2 w2. λ x3 l3 r3 s3. k _ _ _ (λ a b v w. s3 _ _ _ _ v w w1 w2)

  pub production_255 : Kept text (to class.database_setting (word class.DEFAULT ∷ word class.ISOLATION ∷ word class.LEVEL ∷ rule class.default_level ∷ []))
  production_255 last rest p K k = λ r1 w1. λ r2 w2. λ r3 w3. λ x4 l4 r4 s4. k _ _ _ (λ a b v w. s4 _ _ _ _ _ v w w1 w2 w3)

  pub production_256 : Kept text (to class.control (word class.LOCKS ∷ mark m.control_locks ∷ []))
  production_256 last rest p K k = λ r1 w1. k _ _ _ (λ a b c d v w x y. Z.set_locks v w x y w1)

  pub production_257 : Kept text (to class.control (word class.MVLOCKS ∷ mark m.control_mvlocks ∷ []))
  production_257 last rest p K k = λ r1 w1. k _ _ _ (λ a b c d v w x y. Z.set_mvlocks v w x y w1)

  pub production_258 : Kept text (to class.control (word class.MVCC ∷ mark m.control_mvcc ∷ []))
  production_258 last rest p K k = λ r1 w1. k _ _ _ (λ a b c d v w x y. Z.set_mvcc v w x y w1)

  pub production_259 : Kept text (to class.default_level (word class.READ ∷ rule class.default_committed ∷ []))
  production_259 last rest p K k = λ r1 w1. λ x2 l2 r2 s2. k _ _ _ (λ a b c d e v w x y z. s2 _ _ _ _ _ _ v w x y z w1)

  pub production_260 : Kept text (to class.default_level (word class.SERIALIZABLE ∷ mark m.default_serializable ∷ []))
  production_260 last rest p K k = λ r1 w1. k _ _ _ (λ a b c d e v w x y z. Z.default_serializable v w x y z w1)

  pub production_261 : Kept text (to class.default_committed (word class.COMMITTED ∷ mark m.default_read_committed ∷ []))
  production_261 last rest p K k = λ r1 w1. k _ _ _ (λ a b c d e f v w x y z u. Z.default_read_committed v w x y z u w1)

  pub production_262 : Kept text (to class.truth (word class.TRUE ∷ mark m.autocommit_true ∷ []))
  production_262 last rest p K k = λ r1 w1. k _ _ _ (λ a b v w. Z.autocommit_on v w w1)

  pub production_263 : Kept text (to class.truth (word class.FALSE ∷ mark m.autocommit_false ∷ []))
  production_263 last rest p K k = λ r1 w1. k _ _ _ (λ a b v w. Z.autocommit_off v w w1)

  pub production_264 : Kept text (to class.write_delay (word class.FALSE ∷ mark m.write_delay_false ∷ []))
  production_264 last rest p K k = λ r1 w1. k _ _ _ (λ a b c d v w x y. Z.write_delay_false v w x y w1)

  pub production_265 : Kept text (to class.e (rule class.conjunction ∷ rule class.or_more ∷ []))
  production_265 last rest p K k = λ x1 l1 r1 s1. (_, _, refl, _, loose s1, λ x2 l2 r2 s2. k _ _ _ s2)

  pub production_266 : Kept text (to class.or_more (word class.OR ∷ rule class.conjunction ∷ mark m.or ∷ rule class.or_more ∷ []))
  production_266 last rest p K k = subst (λ z. Promise text (means text) (word class.OR ∷ rule class.conjunction ∷ mark m.or ∷ rule class.or_more ∷ []) last rest z K) (sym k.2) (λ r1 w1. λ x2 l2 r2 s2. on_depth (over k.0.depth x2.depth) _ _ _ _ (λ d3. (_, _, refl, _, made k.4.at (X.binary X.or k.4.spelled w1 s2.spelled), λ x4 l4 r4 s4. k.5 _ _ _ s4)))

  pub production_267 : Kept text (to class.or_more ([]))
  production_267 last rest p K k = subst (λ z. Promise text (means text) ([]) last rest z K) (sym k.2) (k.5 _ _ _ k.4)

  pub production_268 : Kept text (to class.conjunction (rule class.negation ∷ rule class.and_more ∷ []))
  production_268 last rest p K k = λ x1 l1 r1 s1. (_, _, refl, _, loose s1, λ x2 l2 r2 s2. k _ _ _ s2)

  pub production_269 : Kept text (to class.and_more (word class.AND ∷ rule class.negation ∷ mark m.and ∷ rule class.and_more ∷ []))
  production_269 last rest p K k = subst (λ z. Promise text (means text) (word class.AND ∷ rule class.negation ∷ mark m.and ∷ rule class.and_more ∷ []) last rest z K) (sym k.2) (λ r1 w1. λ x2 l2 r2 s2. on_depth (over k.0.depth x2.depth) _ _ _ _ (λ d3. (_, _, refl, _, made k.4.at (X.binary X.and k.4.spelled w1 s2.spelled), λ x4 l4 r4 s4. k.5 _ _ _ s4)))

  pub production_270 : Kept text (to class.and_more ([]))
  production_270 last rest p K k = subst (λ z. Promise text (means text) ([]) last rest z K) (sym k.2) (k.5 _ _ _ k.4)

  pub production_271 : Kept text (to class.negation (word class.NOT ∷ mark m.at ∷ rule class.negation ∷ mark m.not ∷ []))
  production_271 last rest p K k = λ r1 w1. λ x3 l3 r3 s3. on_depth (over x3.depth 0) _ _ _ _ (λ d4. k _ _ _ (made (first_at w1) (X.not w1 s3.spelled)))

  pub production_272 : Kept text (to class.negation (word class.EXISTS ∷ mark m.at ∷ word class.left_parenthesis ∷ rule class.query ∷ word class.right_parenthesis ∷ mark m.exists ∷ []))
  production_272 last rest p K k = λ r1 w1. λ r3 w3. λ x4 l4 r4 s4. λ r5 w5. on_depth (over x4.depth 0) _ _ _ _ (λ d6. k _ _ _ (made (first_at w1) (X.exists w1 w3 s4 w5)))

  pub production_273 : Kept text (to class.negation (rule class.sum ∷ rule class.compared ∷ []))
  production_273 last rest p K k = λ x1 l1 r1 s1. (_, _, refl, _, s1, λ x2 l2 r2 s2. k _ _ _ s2)

  pub production_274 : Kept text (to class.compared (rule class.comparison ∷ []))
  production_274 last rest p K k = subst (λ z. Promise text (means text) (rule class.comparison ∷ []) last rest z K) (sym k.2) ((_, _, refl, _, k.4, λ x1 l1 r1 s1. k.5 _ _ _ s1))

  pub production_275 : Kept text (to class.compared ([]))
  production_275 last rest p K k = subst (λ z. Promise text (means text) ([]) last rest z K) (sym k.2) (k.5 _ _ _ (loose k.4))

  pub production_276 : Kept text (to class.comparison (word class.equal ∷ rule class.sum ∷ mark m.equal ∷ []))
  production_276 last rest p K k = subst (λ z. Promise text (means text) (word class.equal ∷ rule class.sum ∷ mark m.equal ∷ []) last rest z K) (sym k.2) (λ r1 w1. λ x2 l2 r2 s2. on_depth (over k.0.depth x2.depth) _ _ _ _ (λ d3. k.5 _ _ _ (made k.4.at (X.binary X.equal k.4.spelled w1 s2.spelled))))

  pub production_277 : Kept text (to class.comparison (word class.unequal ∷ rule class.sum ∷ mark m.not_equal ∷ []))
  production_277 last rest p K k = subst (λ z. Promise text (means text) (word class.unequal ∷ rule class.sum ∷ mark m.not_equal ∷ []) last rest z K) (sym k.2) (λ r1 w1. λ x2 l2 r2 s2. on_depth (over k.0.depth x2.depth) _ _ _ _ (λ d3. k.5 _ _ _ (made k.4.at (X.binary X.unequal k.4.spelled w1 s2.spelled))))

  pub production_278 : Kept text (to class.comparison (word class.not_equal ∷ rule class.sum ∷ mark m.not_equal ∷ []))
  production_278 last rest p K k = subst (λ z. Promise text (means text) (word class.not_equal ∷ rule class.sum ∷ mark m.not_equal ∷ []) last rest z K) (sym k.2) (λ r1 w1. λ x2 l2 r2 s2. on_depth (over k.0.depth x2.depth) _ _ _ _ (λ d3. k.5 _ _ _ (made k.4.at (X.binary X.not_equal k.4.spelled w1 s2.spelled))))

  pub production_279 : Kept text (to class.comparison (word class.less ∷ rule class.sum ∷ mark m.less ∷ []))
  production_279 last rest p K k = subst (λ z. Promise text (means text) (word class.less ∷ rule class.sum ∷ mark m.less ∷ []) last rest z K) (sym k.2) (λ r1 w1. λ x2 l2 r2 s2. on_depth (over k.0.depth x2.depth) _ _ _ _ (λ d3. k.5 _ _ _ (made k.4.at (X.binary X.less k.4.spelled w1 s2.spelled))))

  pub production_280 : Kept text (to class.comparison (word class.less_or_equal ∷ rule class.sum ∷ mark m.less_or_equal ∷ []))
  production_280 last rest p K k = subst (λ z. Promise text (means text) (word class.less_or_equal ∷ rule class.sum ∷ mark m.less_or_equal ∷ []) last rest z K) (sym k.2) (λ r1 w1. λ x2 l2 r2 s2. on_depth (over k.0.depth x2.depth) _ _ _ _ (λ d3. k.5 _ _ _ (made k.4.at (X.binary X.less_or_equal k.4.spelled w1 s2.spelled))))

  pub production_281 : Kept text (to class.comparison (word class.greater ∷ rule class.sum ∷ mark m.greater ∷ []))
  production_281 last rest p K k = subst (λ z. Promise text (means text) (word class.greater ∷ rule class.sum ∷ mark m.greater ∷ []) last rest z K) (sym k.2) (λ r1 w1. λ x2 l2 r2 s2. on_depth (over k.0.depth x2.depth) _ _ _ _ (λ d3. k.5 _ _ _ (made k.4.at (X.binary X.greater k.4.spelled w1 s2.spelled))))

  pub production_282 : Kept text (to class.comparison (word class.greater_or_equal ∷ rule class.sum ∷ mark m.greater_or_equal ∷ []))
  production_282 last rest p K k = subst (λ z. Promise text (means text) (word class.greater_or_equal ∷ rule class.sum ∷ mark m.greater_or_equal ∷ []) last rest z K) (sym k.2) (λ r1 w1. λ x2 l2 r2 s2. on_depth (over k.0.depth x2.depth) _ _ _ _ (λ d3. k.5 _ _ _ (made k.4.at (X.binary X.greater_or_equal k.4.spelled w1 s2.spelled))))

  pub production_283 : Kept text (to class.comparison (word class.IS ∷ rule class.is ∷ []))
  production_283 last rest p K k = subst (λ z. Promise text (means text) (word class.IS ∷ rule class.is ∷ []) last rest z K) (sym k.2) (λ r1 w1. (_, _, refl, _, (_, k.4, w1), λ x2 l2 r2 s2. k.5 _ _ _ s2))

  pub production_284 : Kept text (to class.comparison (word class.NOT ∷ mark m.yes ∷ rule class.negated ∷ []))
  production_284 last rest p K k = subst (λ z. Promise text (means text) (word class.NOT ∷ mark m.yes ∷ rule class.negated ∷ []) last rest z K) (sym k.2) (λ r1 w1. (_, _, _, refl, _, (_, k.4, T.yes w1), λ x3 l3 r3 s3. k.5 _ _ _ s3))

  pub production_285 : Kept text (to class.comparison (mark m.no ∷ rule class.negated ∷ []))
  production_285 last rest p K k = subst (λ z. Promise text (means text) (mark m.no ∷ rule class.negated ∷ []) last rest z K) (sym k.2) ((_, _, _, refl, _, (_, k.4, T.no), λ x2 l2 r2 s2. k.5 _ _ _ s2))

  pub production_286 : Kept text (to class.is (word class.NULL ∷ mark m.is_null ∷ []))
  production_286 last rest p K k = subst (λ z. Promise text (means text) (word class.NULL ∷ mark m.is_null ∷ []) last rest z K) (sym k.2) (λ r1 w1. on_depth (over k.0.depth 0) _ _ _ _ (λ d2. k.5 _ _ _ (made k.4.1.at (X.is_null k.4.1.spelled k.4.2 T.no w1))))

  pub production_287 : Kept text (to class.is (word class.NOT ∷ word class.NULL ∷ mark m.is_not_null ∷ []))
  production_287 last rest p K k = subst (λ z. Promise text (means text) (word class.NOT ∷ word class.NULL ∷ mark m.is_not_null ∷ []) last rest z K) (sym k.2) (λ r1 w1. λ r2 w2. on_depth (over k.0.depth 0) _ _ _ _ (λ d3. k.5 _ _ _ (made k.4.1.at (X.is_null k.4.1.spelled k.4.2 (T.yes w1) w2))))

  pub production_288 : Kept text (to class.negated (word class.BETWEEN ∷ rule class.sum ∷ word class.AND ∷ rule class.sum ∷ mark m.between ∷ []))
  production_288 last rest p K k = subst (λ z. Promise text (means text) (word class.BETWEEN ∷ rule class.sum ∷ word class.AND ∷ rule class.sum ∷ mark m.between ∷ []) last rest z K) (sym k.3) (λ r1 w1. λ x2 l2 r2 s2. λ r3 w3. λ x4 l4 r4 s4. on_depth (over k.1.depth (max x2.depth x4.depth)) _ _ _ _ (λ d5. k.6 _ _ _ (made k.5.1.at (X.between k.5.1.spelled k.5.2 w1 s2.spelled w3 s4.spelled))))

  pub production_289 : Kept text (to class.negated (word class.IN ∷ word class.left_parenthesis ∷ rule class.in_part ∷ []))
  production_289 last rest p K k = subst (λ z. Promise text (means text) (word class.IN ∷ word class.left_parenthesis ∷ rule class.in_part ∷ []) last rest z K) (sym k.3) (λ r1 w1. λ r2 w2. (_, _, _, refl, _, (_, _, _, k.5.1, k.5.2, w1, w2), λ x3 l3 r3 s3. k.6 _ _ _ s3))

  pub production_290 : Kept text (to class.negated (word class.LIKE ∷ rule class.sum ∷ rule class.escape ∷ []))
  production_290 last rest p K k = subst (λ z. Promise text (means text) (word class.LIKE ∷ rule class.sum ∷ rule class.escape ∷ []) last rest z K) (sym k.3) (λ r1 w1. λ x2 l2 r2 s2. (_, _, _, _, refl, _, (_, _, _, k.5.1, k.5.2, w1, s2), λ x3 l3 r3 s3. k.6 _ _ _ s3))

  pub production_291 : Kept text (to class.in_part (rule class.query ∷ word class.right_parenthesis ∷ mark m.in_query ∷ []))
  production_291 last rest p K k = subst (λ z. Promise text (means text) (rule class.query ∷ word class.right_parenthesis ∷ mark m.in_query ∷ []) last rest z K) (sym k.3) (λ x1 l1 r1 s1. λ r2 w2. on_depth (over k.1.depth x1.depth) _ _ _ _ (λ d3. k.6 _ _ _ (made k.5.3.at (X.in_query k.5.3.spelled k.5.4 k.5.5 k.5.6 s1 w2))))

  pub production_292 : Kept text (to class.in_part (rule class.es ∷ word class.right_parenthesis ∷ mark m.in_list ∷ []))
  production_292 last rest p K k = subst (λ z. Promise text (means text) (rule class.es ∷ word class.right_parenthesis ∷ mark m.in_list ∷ []) last rest z K) (sym k.3) (λ x1 l1 r1 s1. λ r2 w2. on_depth (over k.1.depth x1.depth) _ _ _ _ (λ d3. k.6 _ _ _ (made k.5.3.at (X.in_list k.5.3.spelled k.5.4 k.5.5 k.5.6 s1 w2))))

  pub production_293 : Kept text (to class.escape (word class.ESCAPE ∷ rule class.text ∷ mark m.like_escape ∷ []))
  production_293 last rest p K k = subst (λ z. Promise text (means text) (word class.ESCAPE ∷ rule class.text ∷ mark m.like_escape ∷ []) last rest z K) (sym k.4) (λ r1 w1. λ x2 l2 r2 s2. on_depth (over k.2.depth k.1.depth) _ _ _ _ (λ d3. k.7 _ _ _ (made k.6.3.at (X.like k.6.3.spelled k.6.4 k.6.5 k.6.6.spelled (X.escape w1 s2.0)))))

  pub production_294 : Kept text (to class.escape (mark m.like ∷ []))
  production_294 last rest p K k = subst (λ z. Promise text (means text) (mark m.like ∷ []) last rest z K) (sym k.4) (on_depth (over k.2.depth k.1.depth) _ _ _ _ (λ d1. k.7 _ _ _ (made k.6.3.at (X.like k.6.3.spelled k.6.4 k.6.5 k.6.6.spelled X.no_escape))))

  pub production_295 : Kept text (to class.sum (rule class.product ∷ rule class.sum_more ∷ []))
  production_295 last rest p K k = λ x1 l1 r1 s1. (_, _, refl, _, loose s1, λ x2 l2 r2 s2. k _ _ _ s2)

  pub production_296 : Kept text (to class.sum_more (rule class.addition ∷ rule class.sum_more ∷ []))
  production_296 last rest p K k = subst (λ z. Promise text (means text) (rule class.addition ∷ rule class.sum_more ∷ []) last rest z K) (sym k.2) ((_, _, refl, _, k.4, λ x1 l1 r1 s1. (_, _, refl, _, s1, λ x2 l2 r2 s2. k.5 _ _ _ s2)))

  pub production_297 : Kept text (to class.sum_more ([]))
  production_297 last rest p K k = subst (λ z. Promise text (means text) ([]) last rest z K) (sym k.2) (k.5 _ _ _ k.4)

  pub production_298 : Kept text (to class.addition (word class.plus ∷ rule class.product ∷ mark m.add ∷ []))
  production_298 last rest p K k = subst (λ z. Promise text (means text) (word class.plus ∷ rule class.product ∷ mark m.add ∷ []) last rest z K) (sym k.2) (λ r1 w1. λ x2 l2 r2 s2. on_depth (over k.0.depth x2.depth) _ _ _ _ (λ d3. k.5 _ _ _ (made k.4.at (X.binary X.add k.4.spelled w1 s2.spelled))))

  pub production_299 : Kept text (to class.addition (word class.minus ∷ rule class.product ∷ mark m.subtract ∷ []))
  production_299 last rest p K k = subst (λ z. Promise text (means text) (word class.minus ∷ rule class.product ∷ mark m.subtract ∷ []) last rest z K) (sym k.2) (λ r1 w1. λ x2 l2 r2 s2. on_depth (over k.0.depth x2.depth) _ _ _ _ (λ d3. k.5 _ _ _ (made k.4.at (X.binary X.subtract k.4.spelled w1 s2.spelled))))
