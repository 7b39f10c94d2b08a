-- Productions of the literal grammar keep what their rules mean, made by grammar/make_spelling.py.
use Rattle.std.proofs.Common.{ℕ, List, [], ◌∷◌, sym, subst}
use Rattle.hs_builder.specs.Steps.{over}
use Rattle.hs_syntax.specs.Literal.{word, mark, rule, to}
use Rattle.hs_syntax.specs.Marks as m
use Rattle.hs_syntax.specs.Names as class
use Rattle.hs_spelling.specs.Expressions as X
use Rattle.hs_spelling.specs.Tokens as T
use Rattle.hs_spelling.proofs.Meanings.{made}
use Rattle.hs_spelling.proofs.Promises.{Promise, on_depth}
use Rattle.hs_spelling.proofs.Rules.{means, Kept}

module _ (text : List ℕ) where
  pub production_360 : Kept text (to class.field (word class.YEAR ∷ mark m.year ∷ []))
  production_360 last rest p K k = λ r1 w1. k _ _ _ (_, X.year, w1)

  pub production_361 : Kept text (to class.field (word class.MONTH ∷ mark m.month ∷ []))
  production_361 last rest p K k = λ r1 w1. k _ _ _ (_, X.month, w1)

  pub production_362 : Kept text (to class.field (word class.DAY ∷ mark m.day ∷ []))
  production_362 last rest p K k = λ r1 w1. k _ _ _ (_, X.day, w1)

  pub production_363 : Kept text (to class.field (word class.HOUR ∷ mark m.hour ∷ []))
  production_363 last rest p K k = λ r1 w1. k _ _ _ (_, X.hour, w1)

  pub production_364 : Kept text (to class.field (word class.MINUTE ∷ mark m.minute ∷ []))
  production_364 last rest p K k = λ r1 w1. k _ _ _ (_, X.minute, w1)

  pub production_365 : Kept text (to class.field (word class.SECOND ∷ mark m.second ∷ []))
  production_365 last rest p K k = λ r1 w1. k _ _ _ (_, X.second, w1)

  pub production_366 : Kept text (to class.count (word class.star ∷ word class.right_parenthesis ∷ mark m.count_rows ∷ []))
  production_366 last rest p K k = subst (λ z. Promise text (means text) (word class.star ∷ word class.right_parenthesis ∷ mark m.count_rows ∷ []) last rest z K) (sym k.2) (λ r1 w1. λ r2 w2. k.5 _ _ _ (made k.4.1 (X.count_rows k.4.2 k.4.3 w1 w2)))

  pub production_367 : Kept text (to class.count (rule class.counted ∷ word class.right_parenthesis ∷ mark m.count ∷ []))
  production_367 last rest p K k = subst (λ z. Promise text (means text) (rule class.counted ∷ word class.right_parenthesis ∷ mark m.count ∷ []) last rest z K) (sym k.2) (λ x1 y1 l1 r1 s1. λ r2 w2. on_depth (over y1.depth 0) _ _ _ _ (λ d3. k.5 _ _ _ (made k.4.1 (X.aggregate X.count k.4.2 k.4.3 s1.1 s1.2.spelled w2))))

  pub production_368 : Kept text (to class.counted (word class.DISTINCT ∷ mark m.yes ∷ rule class.e ∷ []))
  production_368 last rest p K k = λ r1 w1. λ x3 l3 r3 s3. k _ _ _ _ (_, T.yes w1, s3)

  pub production_369 : Kept text (to class.counted (mark m.no ∷ rule class.e ∷ []))
  production_369 last rest p K k = λ x2 l2 r2 s2. k _ _ _ _ (_, T.no, s2)
