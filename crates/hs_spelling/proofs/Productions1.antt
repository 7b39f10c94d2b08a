-- Productions of the literal grammar keep what their rules mean, made by grammar/make_spelling.py.
use Rattle.std.proofs.Common.{ℕ, List, [], ◌∷◌, refl, sym, subst}
use Rattle.hs_syntax.specs.Literal.{word, mark, rule, to}
use Rattle.hs_syntax.specs.Marks as m
use Rattle.hs_syntax.specs.Names as class
use Rattle.hs_syntax.specs.Words.{name_classes}
use Rattle.hs_spelling.specs.Statements as Z
use Rattle.hs_spelling.specs.Tokens as T
use Rattle.hs_spelling.proofs.Meanings.{with_modes, name_word}
use Rattle.hs_spelling.proofs.Promises.{Promise}
use Rattle.hs_spelling.proofs.Rules.{means, Kept}

module _ (text : List ℕ) where
  pub production_0 : Kept text (to class.start (rule class.statement ∷ rule class.semicolon ∷ []))
  production_0 last rest p K k = λ x1 l1 r1 s1. λ l2 r2 s2. k _ _ _ (_, s1, s2)

  pub production_1 : Kept text (to class.semicolon (word class.semicolon_mark ∷ []))
  production_1 last rest p K k = λ r1 w1. k _ _ (T.written_out w1)

  pub production_2 : Kept text (to class.semicolon ([]))
  production_2 last rest p K k = k _ _ T.left_out

  pub production_3 : Kept text (to class.statement (rule class.query ∷ mark m.query_statement ∷ []))
  production_3 last rest p K k = λ x1 l1 r1 s1. k _ _ _ (Z.query s1)

  pub production_4 : Kept text (to class.statement (rule class.insert ∷ []))
  production_4 last rest p K k = λ x1 l1 r1 s1. k _ _ _ s1

  pub production_5 : Kept text (to class.statement (rule class.update ∷ []))
  production_5 last rest p K k = λ x1 l1 r1 s1. k _ _ _ s1

  pub production_6 : Kept text (to class.statement (rule class.delete ∷ []))
  production_6 last rest p K k = λ x1 l1 r1 s1. k _ _ _ s1

  pub production_7 : Kept text (to class.statement (rule class.lock ∷ []))
  production_7 last rest p K k = λ x1 l1 r1 s1. k _ _ _ s1

  pub production_8 : Kept text (to class.statement (rule class.create ∷ []))
  production_8 last rest p K k = λ x1 l1 r1 s1. k _ _ _ s1

  pub production_9 : Kept text (to class.statement (rule class.alter ∷ []))
  production_9 last rest p K k = λ x1 l1 r1 s1. k _ _ _ s1

  pub production_10 : Kept text (to class.statement (rule class.drop ∷ []))
  production_10 last rest p K k = λ x1 l1 r1 s1. k _ _ _ s1

  pub production_11 : Kept text (to class.statement (rule class.set ∷ []))
  production_11 last rest p K k = λ x1 l1 r1 s1. k _ _ _ s1

  pub production_12 : Kept text (to class.statement (word class.START ∷ word class.TRANSACTION ∷ mark m.modes ∷ rule class.start_modes ∷ mark m.start_transaction ∷ []))
  production_12 last rest p K k = λ r1 w1. λ r2 w2. (_, refl, λ x4 l4 r4 s4. k _ _ _ (Z.start_transaction w1 w2 s4))

  pub production_13 : Kept text (to class.statement (word class.COMMIT ∷ rule class.work ∷ mark m.commit ∷ []))
  production_13 last rest p K k = λ r1 w1. λ l2 r2 s2. k _ _ _ (Z.commit w1 s2)

  pub production_14 : Kept text (to class.statement (word class.ROLLBACK ∷ rule class.rollback ∷ []))
  production_14 last rest p K k = λ r1 w1. λ x2 l2 r2 s2. k _ _ _ (s2 _ w1)

  pub production_15 : Kept text (to class.statement (word class.SAVEPOINT ∷ rule class.name ∷ mark m.savepoint ∷ []))
  production_15 last rest p K k = λ r1 w1. λ x2 l2 r2 s2. k _ _ _ (Z.savepoint w1 s2)

  pub production_16 : Kept text (to class.statement (word class.RELEASE ∷ word class.SAVEPOINT ∷ rule class.name ∷ mark m.release_savepoint ∷ []))
  production_16 last rest p K k = λ r1 w1. λ r2 w2. λ x3 l3 r3 s3. k _ _ _ (Z.release_savepoint w1 w2 s3)

  pub production_17 : Kept text (to class.work (word class.WORK ∷ []))
  production_17 last rest p K k = λ r1 w1. k _ _ (T.written_out w1)

  pub production_18 : Kept text (to class.work ([]))
  production_18 last rest p K k = k _ _ T.left_out

  pub production_19 : Kept text (to class.rollback (word class.WORK ∷ mark m.rollback ∷ []))
  production_19 last rest p K k = λ r1 w1. k _ _ _ (λ a v. Z.rollback v (T.written_out w1))

  pub production_20 : Kept text (to class.rollback (word class.TO ∷ word class.SAVEPOINT ∷ rule class.name ∷ mark m.rollback_to ∷ []))
  production_20 last rest p K k = λ r1 w1. λ r2 w2. λ x3 l3 r3 s3. k _ _ _ (λ a v. Z.rollback_to v w1 w2 s3)

  pub production_21 : Kept text (to class.rollback (mark m.rollback ∷ []))
  production_21 last rest p K k = k _ _ _ (λ a v. Z.rollback v T.left_out)

  pub production_22 : Kept text (to class.start_modes (rule class.mode ∷ rule class.modes_more ∷ []))
  production_22 last rest p K k = subst (λ z. Promise text (means text) (rule class.mode ∷ rule class.modes_more ∷ []) last rest z K) (sym k.1) ((_, _, refl, λ x1 l1 r1 s1. (_, _, refl, _, Z.one_mode s1, λ x2 l2 r2 s2. k.2 _ _ _ (Z.with_modes s2))))

  pub production_23 : Kept text (to class.start_modes ([]))
  production_23 last rest p K k = subst (λ z. Promise text (means text) ([]) last rest z K) (sym k.1) (k.2 _ _ _ Z.without_modes)

  pub production_24 : Kept text (to class.modes (mark m.modes ∷ rule class.mode ∷ rule class.modes_more ∷ []))
  production_24 last rest p K k = (_, _, refl, λ x2 l2 r2 s2. (_, _, refl, _, Z.one_mode s2, λ x3 l3 r3 s3. k _ _ _ s3))

  pub production_25 : Kept text (to class.modes_more (word class.comma ∷ rule class.mode ∷ rule class.modes_more ∷ []))
  production_25 last rest p K k = subst (λ z. Promise text (means text) (word class.comma ∷ rule class.mode ∷ rule class.modes_more ∷ []) last rest z K) (sym k.2) (λ r1 w1. (_, _, refl, λ x2 l2 r2 s2. (_, _, refl, _, Z.more_modes k.4 w1 s2, λ x3 l3 r3 s3. k.5 _ _ _ s3)))

  pub production_26 : Kept text (to class.modes_more ([]))
  production_26 last rest p K k = subst (λ z. Promise text (means text) ([]) last rest z K) (sym k.2) (k.5 _ _ _ k.4)

  pub production_27 : Kept text (to class.mode (word class.ISOLATION ∷ word class.LEVEL ∷ rule class.level ∷ []))
  production_27 last rest p K k = subst (λ z. Promise text (means text) (word class.ISOLATION ∷ word class.LEVEL ∷ rule class.level ∷ []) last rest z K) (sym k.2) (λ r1 w1. λ r2 w2. (_, _, refl, _, (_, w1, w2), λ x3 l3 r3 s3. k.3 _ _ _ s3))

  pub production_28 : Kept text (to class.mode (word class.READ ∷ rule class.access ∷ []))
  production_28 last rest p K k = subst (λ z. Promise text (means text) (word class.READ ∷ rule class.access ∷ []) last rest z K) (sym k.2) (λ r1 w1. (_, _, refl, _, w1, λ x2 l2 r2 s2. k.3 _ _ _ s2))

  pub production_29 : Kept text (to class.access (word class.ONLY ∷ mark m.read_only ∷ []))
  production_29 last rest p K k = subst (λ z. Promise text (means text) (word class.ONLY ∷ mark m.read_only ∷ []) last rest z K) (sym k.2) (λ r1 w1. k.5 _ _ _ (Z.read_only k.4 w1))

  pub production_30 : Kept text (to class.access (word class.WRITE ∷ mark m.read_write ∷ []))
  production_30 last rest p K k = subst (λ z. Promise text (means text) (word class.WRITE ∷ mark m.read_write ∷ []) last rest z K) (sym k.2) (λ r1 w1. k.5 _ _ _ (Z.read_write k.4 w1))

  pub production_31 : Kept text (to class.level (word class.READ ∷ rule class.committed ∷ []))
  production_31 last rest p K k = subst (λ z. Promise text (means text) (word class.READ ∷ rule class.committed ∷ []) last rest z K) (sym k.2) (λ r1 w1. (_, _, refl, _, (_, _, k.4.1, k.4.2, w1), λ x2 l2 r2 s2. k.5 _ _ _ s2))

  pub production_32 : Kept text (to class.level (word class.REPEATABLE ∷ word class.READ ∷ mark m.repeatable_read ∷ []))
  production_32 last rest p K k = subst (λ z. Promise text (means text) (word class.REPEATABLE ∷ word class.READ ∷ mark m.repeatable_read ∷ []) last rest z K) (sym k.2) (λ r1 w1. λ r2 w2. k.5 _ _ _ (Z.repeatable_read k.4.1 k.4.2 w1 w2))

  pub production_33 : Kept text (to class.level (word class.SERIALIZABLE ∷ mark m.serializable ∷ []))
  production_33 last rest p K k = subst (λ z. Promise text (means text) (word class.SERIALIZABLE ∷ mark m.serializable ∷ []) last rest z K) (sym k.2) (λ r1 w1. k.5 _ _ _ (Z.serializable k.4.1 k.4.2 w1))

  pub production_34 : Kept text (to class.committed (word class.COMMITTED ∷ mark m.read_committed ∷ []))
  production_34 last rest p K k = subst (λ z. Promise text (means text) (word class.COMMITTED ∷ mark m.read_committed ∷ []) last rest z K) (sym k.2) (λ r1 w1. k.5 _ _ _ (Z.read_committed k.4.2 k.4.3 k.4.4 w1))

  pub production_35 : Kept text (to class.name (word class.identifier ∷ mark m.name ∷ []))
  unfolding name_classes
  production_35 last rest p K k = λ r1 w1. k _ _ _ (name_word text refl w1)

  pub production_36 : Kept text (to class.name (word class.ACTION ∷ mark m.name ∷ []))
  unfolding name_classes
  production_36 last rest p K k = λ r1 w1. k _ _ _ (name_word text refl w1)

  pub production_37 : Kept text (to class.name (word class.AUTOCOMMIT ∷ mark m.name ∷ []))
  unfolding name_classes
  production_37 last rest p K k = λ r1 w1. k _ _ _ (name_word text refl w1)

  pub production_38 : Kept text (to class.name (word class.CACHED ∷ mark m.name ∷ []))
  unfolding name_classes
  production_38 last rest p K k = λ r1 w1. k _ _ _ (name_word text refl w1)

  pub production_39 : Kept text (to class.name (word class.CHARACTERISTICS ∷ mark m.name ∷ []))
  unfolding name_classes
  production_39 last rest p K k = λ r1 w1. k _ _ _ (name_word text refl w1)

  pub production_40 : Kept text (to class.name (word class.CHECKPOINT ∷ mark m.name ∷ []))
  unfolding name_classes
  production_40 last rest p K k = λ r1 w1. k _ _ _ (name_word text refl w1)

  pub production_41 : Kept text (to class.name (word class.COMMITTED ∷ mark m.name ∷ []))
  unfolding name_classes
  production_41 last rest p K k = λ r1 w1. k _ _ _ (name_word text refl w1)

  pub production_42 : Kept text (to class.name (word class.CONTROL ∷ mark m.name ∷ []))
  unfolding name_classes
  production_42 last rest p K k = λ r1 w1. k _ _ _ (name_word text refl w1)

  pub production_43 : Kept text (to class.name (word class.DATABASE ∷ mark m.name ∷ []))
  unfolding name_classes
  production_43 last rest p K k = λ r1 w1. k _ _ _ (name_word text refl w1)

  pub production_44 : Kept text (to class.name (word class.DELAY ∷ mark m.name ∷ []))
  unfolding name_classes
  production_44 last rest p K k = λ r1 w1. k _ _ _ (name_word text refl w1)

  pub production_45 : Kept text (to class.name (word class.FILES ∷ mark m.name ∷ []))
  unfolding name_classes
  production_45 last rest p K k = λ r1 w1. k _ _ _ (name_word text refl w1)

  pub production_46 : Kept text (to class.name (word class.ISOLATION ∷ mark m.name ∷ []))
  unfolding name_classes
  production_46 last rest p K k = λ r1 w1. k _ _ _ (name_word text refl w1)

  pub production_47 : Kept text (to class.name (word class.KEY ∷ mark m.name ∷ []))
  unfolding name_classes
  production_47 last rest p K k = λ r1 w1. k _ _ _ (name_word text refl w1)

  pub production_48 : Kept text (to class.name (word class.LEVEL ∷ mark m.name ∷ []))
  unfolding name_classes
  production_48 last rest p K k = λ r1 w1. k _ _ _ (name_word text refl w1)

  pub production_49 : Kept text (to class.name (word class.LOCKS ∷ mark m.name ∷ []))
  unfolding name_classes
  production_49 last rest p K k = λ r1 w1. k _ _ _ (name_word text refl w1)

  pub production_50 : Kept text (to class.name (word class.MEMORY ∷ mark m.name ∷ []))
  unfolding name_classes
  production_50 last rest p K k = λ r1 w1. k _ _ _ (name_word text refl w1)

  pub production_51 : Kept text (to class.name (word class.MVCC ∷ mark m.name ∷ []))
  unfolding name_classes
  production_51 last rest p K k = λ r1 w1. k _ _ _ (name_word text refl w1)

  pub production_52 : Kept text (to class.name (word class.MVLOCKS ∷ mark m.name ∷ []))
  unfolding name_classes
  production_52 last rest p K k = λ r1 w1. k _ _ _ (name_word text refl w1)

  pub production_53 : Kept text (to class.name (word class.REPEATABLE ∷ mark m.name ∷ []))
  unfolding name_classes
  production_53 last rest p K k = λ r1 w1. k _ _ _ (name_word text refl w1)

  pub production_54 : Kept text (to class.name (word class.SERIALIZABLE ∷ mark m.name ∷ []))
  unfolding name_classes
  production_54 last rest p K k = λ r1 w1. k _ _ _ (name_word text refl w1)

  pub production_55 : Kept text (to class.name (word class.SESSION ∷ mark m.name ∷ []))
  unfolding name_classes
  production_55 last rest p K k = λ r1 w1. k _ _ _ (name_word text refl w1)

  pub production_56 : Kept text (to class.name (word class.SHUTDOWN ∷ mark m.name ∷ []))
  unfolding name_classes
  production_56 last rest p K k = λ r1 w1. k _ _ _ (name_word text refl w1)

  pub production_57 : Kept text (to class.name (word class.TRANSACTION ∷ mark m.name ∷ []))
  unfolding name_classes
  production_57 last rest p K k = λ r1 w1. k _ _ _ (name_word text refl w1)

  pub production_58 : Kept text (to class.name (word class.WORK ∷ mark m.name ∷ []))
  unfolding name_classes
  production_58 last rest p K k = λ r1 w1. k _ _ _ (name_word text refl w1)

  pub production_59 : Kept text (to class.name (word class.WRITE ∷ mark m.name ∷ []))
  unfolding name_classes
  production_59 last rest p K k = λ r1 w1. k _ _ _ (name_word text refl w1)
