-- Productions of the literal grammar keep what their rules mean, made by grammar/make_spelling.py.
use Rattle.std.proofs.Common.{ℕ, List, [], ◌∷◌, refl, sym, subst, max}
use Rattle.hs_builder.specs.Steps.{over}
use Rattle.hs_syntax.specs.Literal.{word, mark, rule, to}
use Rattle.hs_syntax.specs.Marks as m
use Rattle.hs_syntax.specs.Names as class
use Rattle.hs_spelling.specs.Expressions as X
use Rattle.hs_spelling.specs.Literals as L
use Rattle.hs_spelling.proofs.Meanings.{first_at, named_at, digits, made, loose, made_subquery}
use Rattle.hs_spelling.proofs.Promises.{Promise, on_depth}
use Rattle.hs_spelling.proofs.Rules.{means, Kept}

module _ (text : List ℕ) where
  pub production_300 : Kept text (to class.addition (word class.concatenate ∷ rule class.product ∷ mark m.concatenate ∷ []))
  production_300 last rest p K k = subst (λ z. Promise text (means text) (word class.concatenate ∷ rule class.product ∷ mark m.concatenate ∷ []) last rest z K) (sym k.2) (λ r1 w1. λ x2 l2 r2 s2. on_depth (over k.0.depth x2.depth) _ _ _ _ (λ d3. k.5 _ _ _ (made k.4.at (X.binary X.concatenate k.4.spelled w1 s2.spelled))))

  pub production_301 : Kept text (to class.product (rule class.unary ∷ rule class.product_more ∷ []))
  production_301 last rest p K k = λ x1 l1 r1 s1. (_, _, refl, _, loose s1, λ x2 l2 r2 s2. k _ _ _ s2)

  pub production_302 : Kept text (to class.product_more (rule class.multiplication ∷ rule class.product_more ∷ []))
  production_302 last rest p K k = subst (λ z. Promise text (means text) (rule class.multiplication ∷ rule class.product_more ∷ []) last rest z K) (sym k.2) ((_, _, refl, _, k.4, λ x1 l1 r1 s1. (_, _, refl, _, s1, λ x2 l2 r2 s2. k.5 _ _ _ s2)))

  pub production_303 : Kept text (to class.product_more ([]))
  production_303 last rest p K k = subst (λ z. Promise text (means text) ([]) last rest z K) (sym k.2) (k.5 _ _ _ k.4)

  pub production_304 : Kept text (to class.multiplication (word class.star ∷ rule class.unary ∷ mark m.multiply ∷ []))
  production_304 last rest p K k = subst (λ z. Promise text (means text) (word class.star ∷ rule class.unary ∷ mark m.multiply ∷ []) last rest z K) (sym k.2) (λ r1 w1. λ x2 l2 r2 s2. on_depth (over k.0.depth x2.depth) _ _ _ _ (λ d3. k.5 _ _ _ (made k.4.at (X.binary X.multiply k.4.spelled w1 s2.spelled))))

  pub production_305 : Kept text (to class.multiplication (word class.slash ∷ rule class.unary ∷ mark m.divide ∷ []))
  production_305 last rest p K k = subst (λ z. Promise text (means text) (word class.slash ∷ rule class.unary ∷ mark m.divide ∷ []) last rest z K) (sym k.2) (λ r1 w1. λ x2 l2 r2 s2. on_depth (over k.0.depth x2.depth) _ _ _ _ (λ d3. k.5 _ _ _ (made k.4.at (X.binary X.divide k.4.spelled w1 s2.spelled))))

  pub production_306 : Kept text (to class.unary (rule class.sign ∷ []))
  production_306 last rest p K k = λ x1 l1 r1 s1. k _ _ _ s1

  pub production_307 : Kept text (to class.unary (rule class.primary ∷ []))
  production_307 last rest p K k = λ x1 l1 r1 s1. k _ _ _ (loose s1)

  pub production_308 : Kept text (to class.sign (word class.minus ∷ mark m.at ∷ rule class.primary ∷ mark m.minus ∷ []))
  production_308 last rest p K k = λ r1 w1. λ x3 l3 r3 s3. on_depth (over x3.depth 0) _ _ _ _ (λ d4. k _ _ _ (made (first_at w1) (X.signed L.minus_sign w1 s3.spelled)))

  pub production_309 : Kept text (to class.sign (word class.plus ∷ mark m.at ∷ rule class.primary ∷ mark m.plus ∷ []))
  production_309 last rest p K k = λ r1 w1. λ x3 l3 r3 s3. on_depth (over x3.depth 0) _ _ _ _ (λ d4. k _ _ _ (made (first_at w1) (X.signed L.plus_sign w1 s3.spelled)))

  pub production_310 : Kept text (to class.primary (rule class.simple ∷ rule class.intervals ∷ []))
  production_310 last rest p K k = λ x1 l1 r1 s1. (_, _, refl, _, s1, λ x2 l2 r2 s2. k _ _ _ s2)

  pub production_311 : Kept text (to class.primary (word class.left_parenthesis ∷ mark m.at ∷ rule class.e ∷ word class.right_parenthesis ∷ mark m.bracket ∷ rule class.intervals ∷ []))
  production_311 last rest p K k = λ r1 w1. λ x3 l3 r3 s3. λ r4 w4. (_, _, refl, _, record { spelled = X.in_parentheses w1 s3.spelled w4; at = first_at w1 }, λ x6 l6 r6 s6. k _ _ _ s6)

  pub production_312 : Kept text (to class.primary (word class.left_parenthesis ∷ mark m.at ∷ rule class.body ∷ word class.right_parenthesis ∷ mark m.body_subquery ∷ rule class.intervals ∷ []))
  production_312 last rest p K k = λ r1 w1. λ x3 l3 r3 s3. λ r4 w4. on_depth (over x3.depth 0) _ _ _ _ (λ d5. (_, _, refl, _, made_subquery w1 s3 w4, λ x6 l6 r6 s6. k _ _ _ s6))

  pub production_313 : Kept text (to class.primary (word class.left_parenthesis ∷ mark m.at ∷ rule class.body ∷ mark m.query ∷ rule class.ordered ∷ word class.right_parenthesis ∷ mark m.subquery ∷ rule class.intervals ∷ []))
  production_313 last rest p K k = λ r1 w1. λ x3 l3 r3 s3. on_depth (over x3.depth 0) _ _ _ _ (λ d4. (_, _, _, _, refl, λ x5 y5 z5 l5 r5 s5. λ r6 w6. (_, _, refl, _, made (first_at w1) (X.ordered_subquery w1 s3.spelled s5 w6), λ x8 l8 r8 s8. k _ _ _ s8)))

  pub production_314 : Kept text (to class.ordered (word class.ORDER ∷ word class.BY ∷ rule class.keys ∷ rule class.limiting ∷ []))
  production_314 last rest p K k = subst (λ z. Promise text (means text) (word class.ORDER ∷ word class.BY ∷ rule class.keys ∷ rule class.limiting ∷ []) last rest z K) (sym k.4) (λ r1 w1. λ r2 w2. (_, _, _, _, _, refl, λ x3 y3 l3 r3 s3. (_, _, _, _, _, refl, λ x4 l4 r4 s4. k.5 _ _ _ _ _ (X.ordered w1 w2 s3 s4))))

  pub production_315 : Kept text (to class.ordered (word class.LIMIT ∷ rule class.limit ∷ []))
  production_315 last rest p K k = subst (λ z. Promise text (means text) (word class.LIMIT ∷ rule class.limit ∷ []) last rest z K) (sym k.4) (λ r1 w1. (_, _, _, _, _, refl, λ x2 l2 r2 s2. k.5 _ _ _ _ _ (X.limited w1 s2)))

  pub production_316 : Kept text (to class.intervals (rule class.interval ∷ rule class.intervals ∷ []))
  production_316 last rest p K k = subst (λ z. Promise text (means text) (rule class.interval ∷ rule class.intervals ∷ []) last rest z K) (sym k.2) ((_, _, refl, _, k.4, λ x1 l1 r1 s1. (_, _, refl, _, s1, λ x2 l2 r2 s2. k.5 _ _ _ s2)))

  pub production_317 : Kept text (to class.intervals ([]))
  production_317 last rest p K k = subst (λ z. Promise text (means text) ([]) last rest z K) (sym k.2) (k.5 _ _ _ k.4)

  pub production_318 : Kept text (to class.interval (word class.plus ∷ word class.INTERVAL ∷ word class.digit_text ∷ mark m.text ∷ mark m.digits ∷ rule class.plus_unit ∷ []))
  production_318 last rest p K k = subst (λ z. Promise text (means text) (word class.plus ∷ word class.INTERVAL ∷ word class.digit_text ∷ mark m.text ∷ mark m.digits ∷ rule class.plus_unit ∷ []) last rest z K) (sym k.2) (λ r1 w1. λ r2 w2. λ r3 w3. (_, _, _, refl, _, (_, _, _, k.4, w1, w2, digits text w3), λ x6 l6 r6 s6. k.5 _ _ _ s6))

  pub production_319 : Kept text (to class.interval (word class.minus ∷ word class.INTERVAL ∷ word class.digit_text ∷ mark m.text ∷ mark m.digits ∷ rule class.minus_unit ∷ []))
  production_319 last rest p K k = subst (λ z. Promise text (means text) (word class.minus ∷ word class.INTERVAL ∷ word class.digit_text ∷ mark m.text ∷ mark m.digits ∷ rule class.minus_unit ∷ []) last rest z K) (sym k.2) (λ r1 w1. λ r2 w2. λ r3 w3. (_, _, _, refl, _, (_, _, _, k.4, w1, w2, digits text w3), λ x6 l6 r6 s6. k.5 _ _ _ s6))

  pub production_320 : Kept text (to class.plus_unit (word class.DAY ∷ mark m.plus_days ∷ []))
  production_320 last rest p K k = subst (λ z. Promise text (means text) (word class.DAY ∷ mark m.plus_days ∷ []) last rest z K) (sym k.3) (λ r1 w1. on_depth (over k.0.depth 0) _ _ _ _ (λ d2. k.6 _ _ _ (made k.5.3.at (X.interval L.plus_sign X.days k.5.3.spelled k.5.4 k.5.5 k.5.6 w1))))

  pub production_321 : Kept text (to class.plus_unit (word class.MONTH ∷ mark m.plus_months ∷ []))
  production_321 last rest p K k = subst (λ z. Promise text (means text) (word class.MONTH ∷ mark m.plus_months ∷ []) last rest z K) (sym k.3) (λ r1 w1. on_depth (over k.0.depth 0) _ _ _ _ (λ d2. k.6 _ _ _ (made k.5.3.at (X.interval L.plus_sign X.months k.5.3.spelled k.5.4 k.5.5 k.5.6 w1))))

  pub production_322 : Kept text (to class.minus_unit (word class.DAY ∷ mark m.minus_days ∷ []))
  production_322 last rest p K k = subst (λ z. Promise text (means text) (word class.DAY ∷ mark m.minus_days ∷ []) last rest z K) (sym k.3) (λ r1 w1. on_depth (over k.0.depth 0) _ _ _ _ (λ d2. k.6 _ _ _ (made k.5.3.at (X.interval L.minus_sign X.days k.5.3.spelled k.5.4 k.5.5 k.5.6 w1))))

  pub production_323 : Kept text (to class.minus_unit (word class.MONTH ∷ mark m.minus_months ∷ []))
  production_323 last rest p K k = subst (λ z. Promise text (means text) (word class.MONTH ∷ mark m.minus_months ∷ []) last rest z K) (sym k.3) (λ r1 w1. on_depth (over k.0.depth 0) _ _ _ _ (λ d2. k.6 _ _ _ (made k.5.3.at (X.interval L.minus_sign X.months k.5.3.spelled k.5.4 k.5.5 k.5.6 w1))))

  pub production_324 : Kept text (to class.simple (rule class.literal ∷ mark m.literal ∷ []))
  production_324 last rest p K k = λ x1 l1 r1 s1. k _ _ _ (made s1.1 (X.literal s1.0))

  pub production_325 : Kept text (to class.simple (rule class.name ∷ rule class.qualified ∷ []))
  production_325 last rest p K k = λ x1 l1 r1 s1. (_, _, refl, _, s1, λ x2 l2 r2 s2. k _ _ _ s2)

  pub production_326 : Kept text (to class.simple (word class.CAST ∷ mark m.at ∷ word class.left_parenthesis ∷ rule class.e ∷ word class.AS ∷ rule class.type ∷ word class.right_parenthesis ∷ mark m.cast ∷ []))
  production_326 last rest p K k = λ r1 w1. λ r3 w3. λ x4 l4 r4 s4. λ r5 w5. λ x6 l6 r6 s6. λ r7 w7. on_depth (over x4.depth 0) _ _ _ _ (λ d8. k _ _ _ (made (first_at w1) (X.cast w1 w3 s4.spelled w5 s6 w7)))

  pub production_327 : Kept text (to class.simple (word class.CASE ∷ mark m.case ∷ rule class.arms ∷ rule class.else ∷ word class.END ∷ mark m.end ∷ []))
  production_327 last rest p K k = λ r1 w1. (_, _, _, _, refl, _, X.no_arms, λ x3 y3 l3 r3 s3. λ x4 l4 r4 s4. λ r5 w5. on_depth (over y3 x4.depth) _ _ _ _ (λ d6. k _ _ _ (made (first_at w1) (X.case w1 s3 s4 w5))))

  pub production_328 : Kept text (to class.simple (word class.COALESCE ∷ mark m.at ∷ word class.left_parenthesis ∷ rule class.es ∷ word class.right_parenthesis ∷ mark m.coalesce ∷ []))
  production_328 last rest p K k = λ r1 w1. λ r3 w3. λ x4 l4 r4 s4. λ r5 w5. on_depth (over x4.depth 0) _ _ _ _ (λ d6. k _ _ _ (made (first_at w1) (X.call X.coalesce w1 w3 s4 w5)))

  pub production_329 : Kept text (to class.simple (word class.NULLIF ∷ mark m.at ∷ word class.left_parenthesis ∷ rule class.es ∷ word class.right_parenthesis ∷ mark m.nullif ∷ []))
  production_329 last rest p K k = λ r1 w1. λ r3 w3. λ x4 l4 r4 s4. λ r5 w5. on_depth (over x4.depth 0) _ _ _ _ (λ d6. k _ _ _ (made (first_at w1) (X.call X.nullif w1 w3 s4 w5)))

  pub production_330 : Kept text (to class.simple (word class.ABS ∷ mark m.at ∷ word class.left_parenthesis ∷ rule class.es ∷ word class.right_parenthesis ∷ mark m.abs ∷ []))
  production_330 last rest p K k = λ r1 w1. λ r3 w3. λ x4 l4 r4 s4. λ r5 w5. on_depth (over x4.depth 0) _ _ _ _ (λ d6. k _ _ _ (made (first_at w1) (X.call X.abs w1 w3 s4 w5)))

  pub production_331 : Kept text (to class.simple (word class.MOD ∷ mark m.at ∷ word class.left_parenthesis ∷ rule class.es ∷ word class.right_parenthesis ∷ mark m.mod_mark ∷ []))
  production_331 last rest p K k = λ r1 w1. λ r3 w3. λ x4 l4 r4 s4. λ r5 w5. on_depth (over x4.depth 0) _ _ _ _ (λ d6. k _ _ _ (made (first_at w1) (X.call X.mod_call w1 w3 s4 w5)))

  pub production_332 : Kept text (to class.simple (word class.UPPER ∷ mark m.at ∷ word class.left_parenthesis ∷ rule class.es ∷ word class.right_parenthesis ∷ mark m.upper ∷ []))
  production_332 last rest p K k = λ r1 w1. λ r3 w3. λ x4 l4 r4 s4. λ r5 w5. on_depth (over x4.depth 0) _ _ _ _ (λ d6. k _ _ _ (made (first_at w1) (X.call X.upper w1 w3 s4 w5)))

  pub production_333 : Kept text (to class.simple (word class.LOWER ∷ mark m.at ∷ word class.left_parenthesis ∷ rule class.es ∷ word class.right_parenthesis ∷ mark m.lower ∷ []))
  production_333 last rest p K k = λ r1 w1. λ r3 w3. λ x4 l4 r4 s4. λ r5 w5. on_depth (over x4.depth 0) _ _ _ _ (λ d6. k _ _ _ (made (first_at w1) (X.call X.lower w1 w3 s4 w5)))

  pub production_334 : Kept text (to class.simple (word class.CHAR_LENGTH ∷ mark m.at ∷ word class.left_parenthesis ∷ rule class.es ∷ word class.right_parenthesis ∷ mark m.char_length ∷ []))
  production_334 last rest p K k = λ r1 w1. λ r3 w3. λ x4 l4 r4 s4. λ r5 w5. on_depth (over x4.depth 0) _ _ _ _ (λ d6. k _ _ _ (made (first_at w1) (X.call X.char_length w1 w3 s4 w5)))

  pub production_335 : Kept text (to class.simple (word class.SUBSTRING ∷ mark m.at ∷ word class.left_parenthesis ∷ rule class.e ∷ word class.FROM ∷ rule class.e ∷ rule class.for ∷ []))
  production_335 last rest p K k = λ r1 w1. λ r3 w3. λ x4 l4 r4 s4. λ r5 w5. λ x6 l6 r6 s6. (_, _, _, _, refl, _, (_, _, _, _, first_at w1, w1, w3, s4, w5, s6), λ x7 l7 r7 s7. k _ _ _ s7)

  pub production_336 : Kept text (to class.simple (word class.TRIM ∷ mark m.at ∷ word class.left_parenthesis ∷ rule class.trim ∷ word class.right_parenthesis ∷ []))
  production_336 last rest p K k = λ r1 w1. λ r3 w3. (_, _, refl, _, (_, first_at w1, w1, w3), λ x4 l4 r4 s4. λ r5 w5. k _ _ _ (s4 _ w5))

  pub production_337 : Kept text (to class.simple (word class.EXTRACT ∷ mark m.at ∷ word class.left_parenthesis ∷ rule class.field ∷ word class.FROM ∷ rule class.e ∷ word class.right_parenthesis ∷ mark m.extract ∷ []))
  production_337 last rest p K k = λ r1 w1. λ r3 w3. λ x4 l4 r4 s4. λ r5 w5. λ x6 l6 r6 s6. λ r7 w7. on_depth (over x6.depth 0) _ _ _ _ (λ d8. k _ _ _ (made (first_at w1) (X.extract s4.1 w1 w3 s4.2 w5 s6.spelled w7)))

  pub production_338 : Kept text (to class.simple (word class.COUNT ∷ mark m.at ∷ word class.left_parenthesis ∷ rule class.count ∷ []))
  production_338 last rest p K k = λ r1 w1. λ r3 w3. (_, _, refl, _, (_, first_at w1, w1, w3), λ x4 l4 r4 s4. k _ _ _ s4)

  pub production_339 : Kept text (to class.simple (word class.SUM ∷ mark m.at ∷ word class.left_parenthesis ∷ rule class.counted ∷ word class.right_parenthesis ∷ mark m.sum ∷ []))
  production_339 last rest p K k = λ r1 w1. λ r3 w3. λ x4 y4 l4 r4 s4. λ r5 w5. on_depth (over y4.depth 0) _ _ _ _ (λ d6. k _ _ _ (made (first_at w1) (X.aggregate X.summed w1 w3 s4.1 s4.2.spelled w5)))

  pub production_340 : Kept text (to class.simple (word class.AVG ∷ mark m.at ∷ word class.left_parenthesis ∷ rule class.counted ∷ word class.right_parenthesis ∷ mark m.avg ∷ []))
  production_340 last rest p K k = λ r1 w1. λ r3 w3. λ x4 y4 l4 r4 s4. λ r5 w5. on_depth (over y4.depth 0) _ _ _ _ (λ d6. k _ _ _ (made (first_at w1) (X.aggregate X.avg w1 w3 s4.1 s4.2.spelled w5)))

  pub production_341 : Kept text (to class.simple (word class.MIN ∷ mark m.at ∷ word class.left_parenthesis ∷ rule class.counted ∷ word class.right_parenthesis ∷ mark m.min ∷ []))
  production_341 last rest p K k = λ r1 w1. λ r3 w3. λ x4 y4 l4 r4 s4. λ r5 w5. on_depth (over y4.depth 0) _ _ _ _ (λ d6. k _ _ _ (made (first_at w1) (X.aggregate X.least w1 w3 s4.1 s4.2.spelled w5)))

  pub production_342 : Kept text (to class.simple (word class.MAX ∷ mark m.at ∷ word class.left_parenthesis ∷ rule class.counted ∷ word class.right_parenthesis ∷ mark m.max ∷ []))
  production_342 last rest p K k = λ r1 w1. λ r3 w3. λ x4 y4 l4 r4 s4. λ r5 w5. on_depth (over y4.depth 0) _ _ _ _ (λ d6. k _ _ _ (made (first_at w1) (X.aggregate X.greatest w1 w3 s4.1 s4.2.spelled w5)))

  pub production_343 : Kept text (to class.qualified (word class.point ∷ rule class.name ∷ mark m.qualified ∷ []))
  production_343 last rest p K k = subst (λ z. Promise text (means text) (word class.point ∷ rule class.name ∷ mark m.qualified ∷ []) last rest z K) (sym k.2) (λ r1 w1. λ x2 l2 r2 s2. k.5 _ _ _ (made (named_at text k.4) (X.qualified k.4 w1 s2)))

  pub production_344 : Kept text (to class.qualified (mark m.column ∷ []))
  production_344 last rest p K k = subst (λ z. Promise text (means text) (mark m.column ∷ []) last rest z K) (sym k.2) (k.5 _ _ _ (made (named_at text k.4) (X.column k.4)))

  pub production_345 : Kept text (to class.arms (word class.WHEN ∷ rule class.e ∷ word class.THEN ∷ rule class.e ∷ mark m.arm ∷ rule class.arms ∷ []))
  production_345 last rest p K k = subst (λ z. Promise text (means text) (word class.WHEN ∷ rule class.e ∷ word class.THEN ∷ rule class.e ∷ mark m.arm ∷ rule class.arms ∷ []) last rest z K) (sym k.4) (λ r1 w1. λ x2 l2 r2 s2. λ r3 w3. λ x4 l4 r4 s4. (_, _, _, _, refl, _, X.more_arms k.6 w1 s2.spelled w3 s4.spelled, λ x6 y6 l6 r6 s6. k.7 _ _ _ _ s6))

  pub production_346 : Kept text (to class.arms ([]))
  production_346 last rest p K k = subst (λ z. Promise text (means text) ([]) last rest z K) (sym k.4) (k.7 _ _ _ _ k.6)

  pub production_347 : Kept text (to class.else (word class.ELSE ∷ rule class.e ∷ mark m.written ∷ []))
  production_347 last rest p K k = λ r1 w1. λ x2 l2 r2 s2. k _ _ _ (X.behind w1 s2.spelled)

  pub production_348 : Kept text (to class.else (mark m.unwritten ∷ []))
  production_348 last rest p K k = k _ _ _ X.nothing_behind

  pub production_349 : Kept text (to class.for (word class.FOR ∷ rule class.e ∷ word class.right_parenthesis ∷ mark m.substring_for ∷ []))
  production_349 last rest p K k = subst (λ z. Promise text (means text) (word class.FOR ∷ rule class.e ∷ word class.right_parenthesis ∷ mark m.substring_for ∷ []) last rest z K) (sym k.4) (λ r1 w1. λ x2 l2 r2 s2. λ r3 w3. on_depth (over k.2.depth (max k.1.depth x2.depth)) _ _ _ _ (λ d4. k.7 _ _ _ (made k.6.4 (X.substring k.6.5 k.6.6 k.6.7.spelled k.6.8 k.6.9.spelled (X.behind w1 s2.spelled) w3))))

  pub production_350 : Kept text (to class.for (word class.right_parenthesis ∷ mark m.substring ∷ []))
  production_350 last rest p K k = subst (λ z. Promise text (means text) (word class.right_parenthesis ∷ mark m.substring ∷ []) last rest z K) (sym k.4) (λ r1 w1. on_depth (over k.2.depth k.1.depth) _ _ _ _ (λ d2. k.7 _ _ _ (made k.6.4 (X.substring k.6.5 k.6.6 k.6.7.spelled k.6.8 k.6.9.spelled X.nothing_behind w1))))

  pub production_351 : Kept text (to class.trim (word class.LEADING ∷ mark m.leading ∷ rule class.trim_side ∷ []))
  production_351 last rest p K k = subst (λ z. Promise text (means text) (word class.LEADING ∷ mark m.leading ∷ rule class.trim_side ∷ []) last rest z K) (sym k.2) (λ r1 w1. (_, _, _, refl, _, (_, _, k.4.1, k.4.2, k.4.3, X.leading w1), λ x3 l3 r3 s3. k.5 _ _ _ s3))

  pub production_352 : Kept text (to class.trim (word class.TRAILING ∷ mark m.trailing ∷ rule class.trim_side ∷ []))
  production_352 last rest p K k = subst (λ z. Promise text (means text) (word class.TRAILING ∷ mark m.trailing ∷ rule class.trim_side ∷ []) last rest z K) (sym k.2) (λ r1 w1. (_, _, _, refl, _, (_, _, k.4.1, k.4.2, k.4.3, X.trailing w1), λ x3 l3 r3 s3. k.5 _ _ _ s3))

  pub production_353 : Kept text (to class.trim (word class.BOTH ∷ mark m.both ∷ rule class.trim_side ∷ []))
  production_353 last rest p K k = subst (λ z. Promise text (means text) (word class.BOTH ∷ mark m.both ∷ rule class.trim_side ∷ []) last rest z K) (sym k.2) (λ r1 w1. (_, _, _, refl, _, (_, _, k.4.1, k.4.2, k.4.3, X.both w1), λ x3 l3 r3 s3. k.5 _ _ _ s3))

  pub production_354 : Kept text (to class.trim (word class.FROM ∷ mark m.from_form ∷ rule class.e ∷ mark m.trim ∷ []))
  production_354 last rest p K k = subst (λ z. Promise text (means text) (word class.FROM ∷ mark m.from_form ∷ rule class.e ∷ mark m.trim ∷ []) last rest z K) (sym k.2) (λ r1 w1. λ x3 l3 r3 s3. on_depth (over x3.depth 0) _ _ _ _ (λ d4. k.5 _ _ _ (λ c v. made k.4.1 (X.trim_from k.4.2 k.4.3 X.no_side X.no_character w1 s3.spelled v))))

  pub production_355 : Kept text (to class.trim (rule class.e ∷ rule class.trim_tail ∷ []))
  production_355 last rest p K k = subst (λ z. Promise text (means text) (rule class.e ∷ rule class.trim_tail ∷ []) last rest z K) (sym k.2) (λ x1 l1 r1 s1. (_, _, _, refl, _, (_, _, k.4.1, k.4.2, k.4.3, s1), λ x2 l2 r2 s2. k.5 _ _ _ s2))

  pub production_356 : Kept text (to class.trim_side (word class.FROM ∷ rule class.e ∷ mark m.trim ∷ []))
  production_356 last rest p K k = subst (λ z. Promise text (means text) (word class.FROM ∷ rule class.e ∷ mark m.trim ∷ []) last rest z K) (sym k.3) (λ r1 w1. λ x2 l2 r2 s2. on_depth (over x2.depth 0) _ _ _ _ (λ d3. k.6 _ _ _ (λ c v. made k.5.2 (X.trim_from k.5.3 k.5.4 k.5.5 X.no_character w1 s2.spelled v))))

  pub production_357 : Kept text (to class.trim_side (rule class.e ∷ word class.FROM ∷ rule class.e ∷ mark m.trim_character ∷ []))
  production_357 last rest p K k = subst (λ z. Promise text (means text) (rule class.e ∷ word class.FROM ∷ rule class.e ∷ mark m.trim_character ∷ []) last rest z K) (sym k.3) (λ x1 l1 r1 s1. λ r2 w2. λ x3 l3 r3 s3. on_depth (over x1.depth x3.depth) _ _ _ _ (λ d4. k.6 _ _ _ (λ c v. made k.5.2 (X.trim_from k.5.3 k.5.4 k.5.5 (X.character s1.spelled) w2 s3.spelled v))))

  pub production_358 : Kept text (to class.trim_tail (word class.FROM ∷ mark m.from_form ∷ rule class.e ∷ mark m.trim_character ∷ []))
  production_358 last rest p K k = subst (λ z. Promise text (means text) (word class.FROM ∷ mark m.from_form ∷ rule class.e ∷ mark m.trim_character ∷ []) last rest z K) (sym k.3) (λ r1 w1. λ x3 l3 r3 s3. on_depth (over k.1.depth x3.depth) _ _ _ _ (λ d4. k.6 _ _ _ (λ c v. made k.5.2 (X.trim_from k.5.3 k.5.4 X.no_side (X.character k.5.5.spelled) w1 s3.spelled v))))

  pub production_359 : Kept text (to class.trim_tail (mark m.bare ∷ mark m.trim ∷ []))
  production_359 last rest p K k = subst (λ z. Promise text (means text) (mark m.bare ∷ mark m.trim ∷ []) last rest z K) (sym k.3) (on_depth (over k.1.depth 0) _ _ _ _ (λ d2. k.6 _ _ _ (λ c v. made k.5.2 (X.trim k.5.3 k.5.4 k.5.5.spelled v))))
