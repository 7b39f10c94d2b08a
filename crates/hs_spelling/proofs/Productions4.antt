-- Productions of the literal grammar keep what their rules mean, made by grammar/make_spelling.py.
use Rattle.std.proofs.Common.{ℕ, List, [], ◌∷◌, refl, sym, subst}
use Rattle.hs_syntax.specs.Literal.{word, span, scaled, mark, rule, to}
use Rattle.hs_syntax.specs.Marks as m
use Rattle.hs_syntax.specs.Names as class
use Rattle.hs_spelling.specs.Literals as L
use Rattle.hs_spelling.specs.Statements as Z
use Rattle.hs_spelling.specs.Tokens as T
use Rattle.hs_spelling.proofs.Meanings.{first_at, whole_number, precision_of, scale_of}
use Rattle.hs_spelling.proofs.Promises.{Promise}
use Rattle.hs_spelling.proofs.Rules.{means, Kept}

module _ (text : List ℕ) where
  pub production_180 : Kept text (to class.claims_more ([]))
  production_180 last rest p K k = subst (λ z. Promise text (means text) ([]) last rest z K) (sym k.2) (k.5 _ _ _ k.4)

  pub production_181 : Kept text (to class.claim (rule class.name ∷ rule class.claimed ∷ []))
  production_181 last rest p K k = subst (λ z. Promise text (means text) (rule class.name ∷ rule class.claimed ∷ []) last rest z K) (sym k.2) (λ x1 l1 r1 s1. (_, _, _, refl, _, s1, λ x2 l2 r2 s2. k.3 _ _ _ s2))

  pub production_182 : Kept text (to class.claimed (word class.READ ∷ mark m.lock_read ∷ []))
  production_182 last rest p K k = subst (λ z. Promise text (means text) (word class.READ ∷ mark m.lock_read ∷ []) last rest z K) (sym k.3) (λ r1 w1. k.6 _ _ _ (Z.read_claim k.5 w1))

  pub production_183 : Kept text (to class.claimed (word class.WRITE ∷ mark m.lock_write ∷ []))
  production_183 last rest p K k = subst (λ z. Promise text (means text) (word class.WRITE ∷ mark m.lock_write ∷ []) last rest z K) (sym k.3) (λ r1 w1. k.6 _ _ _ (Z.write_claim k.5 w1))

  pub production_184 : Kept text (to class.create (word class.CREATE ∷ rule class.created ∷ []))
  production_184 last rest p K k = λ r1 w1. λ x2 l2 r2 s2. k _ _ _ (s2 _ w1)

  pub production_185 : Kept text (to class.created (word class.MEMORY ∷ word class.TABLE ∷ rule class.table_definition ∷ []))
  production_185 last rest p K k = λ r1 w1. λ r2 w2. λ x3 l3 r3 s3. k _ _ _ (λ a v. s3 a (_, _, v, T.written_out w1, w2))

  pub production_186 : Kept text (to class.created (word class.TABLE ∷ rule class.table_definition ∷ []))
  production_186 last rest p K k = λ r1 w1. λ x2 l2 r2 s2. k _ _ _ (λ a v. s2 a (_, _, v, T.left_out, w1))

  pub production_187 : Kept text (to class.created (word class.INDEX ∷ rule class.name ∷ word class.ON ∷ rule class.name ∷ word class.left_parenthesis ∷ rule class.names ∷ word class.right_parenthesis ∷ mark m.create_index ∷ []))
  production_187 last rest p K k = λ r1 w1. λ x2 l2 r2 s2. λ r3 w3. λ x4 l4 r4 s4. λ r5 w5. λ x6 l6 r6 s6. λ r7 w7. k _ _ _ (λ a v. Z.create_index v w1 s2 w3 s4 w5 s6 w7)

  pub production_188 : Kept text (to class.table_definition (rule class.name ∷ mark m.memory ∷ word class.left_parenthesis ∷ rule class.element ∷ rule class.elements_more ∷ word class.right_parenthesis ∷ mark m.create_statement ∷ []))
  production_188 last rest p K k = λ x1 l1 r1 s1. λ r3 w3. (_, _, _, _, refl, λ x4 l4 r4 s4. (_, _, _, _, refl, _, Z.one_element s4, λ x5 l5 r5 s5. λ r6 w6. k _ _ _ (λ a v. Z.create_table v.2 v.3 v.4 s1 w3 s5 w6)))

  pub production_189 : Kept text (to class.elements_more (word class.comma ∷ rule class.element ∷ rule class.elements_more ∷ []))
  production_189 last rest p K k = subst (λ z. Promise text (means text) (word class.comma ∷ rule class.element ∷ rule class.elements_more ∷ []) last rest z K) (sym k.4) (λ r1 w1. (_, _, _, _, refl, λ x2 l2 r2 s2. (_, _, _, _, refl, _, Z.more_elements k.6 w1 s2, λ x3 l3 r3 s3. k.7 _ _ _ s3)))

  pub production_190 : Kept text (to class.elements_more ([]))
  production_190 last rest p K k = subst (λ z. Promise text (means text) ([]) last rest z K) (sym k.4) (k.7 _ _ _ k.6)

  pub production_191 : Kept text (to class.element (rule class.column ∷ mark m.column_element ∷ []))
  production_191 last rest p K k = subst (λ z. Promise text (means text) (rule class.column ∷ mark m.column_element ∷ []) last rest z K) (sym k.4) (λ x1 l1 r1 s1. k.5 _ _ _ (Z.column_element s1))

  pub production_192 : Kept text (to class.element (rule class.table_constraint ∷ mark m.constraint_element ∷ []))
  production_192 last rest p K k = subst (λ z. Promise text (means text) (rule class.table_constraint ∷ mark m.constraint_element ∷ []) last rest z K) (sym k.4) (λ x1 l1 r1 s1. k.5 _ _ _ (Z.constraint_element s1))

  pub production_193 : Kept text (to class.column (rule class.name ∷ rule class.type ∷ mark m.define ∷ rule class.default ∷ rule class.column_constraints ∷ []))
  production_193 last rest p K k = λ x1 l1 r1 s1. λ x2 l2 r2 s2. (_, _, _, _, refl, λ x4 l4 r4 s4. (_, _, _, _, _, refl, _, Z.no_constraints, λ x5 l5 r5 s5. k _ _ _ (Z.column_of s1 s2 s4 s5)))

  pub production_194 : Kept text (to class.default (word class.DEFAULT ∷ rule class.signed_literal ∷ mark m.default ∷ []))
  production_194 last rest p K k = subst (λ z. Promise text (means text) (word class.DEFAULT ∷ rule class.signed_literal ∷ mark m.default ∷ []) last rest z K) (sym k.4) (λ r1 w1. λ x2 l2 r2 s2. k.5 _ _ _ (Z.a_default w1 s2.1 s2.0))

  pub production_195 : Kept text (to class.default ([]))
  production_195 last rest p K k = subst (λ z. Promise text (means text) ([]) last rest z K) (sym k.4) (k.5 _ _ _ Z.no_default)

  pub production_196 : Kept text (to class.signed_literal (rule class.literal ∷ []))
  production_196 last rest p K k = λ x1 l1 r1 s1. k _ _ _ (L.unsigned s1.0, s1.1)

  pub production_197 : Kept text (to class.signed_literal (word class.plus ∷ mark m.at ∷ rule class.number ∷ mark m.plus_number ∷ []))
  production_197 last rest p K k = λ r1 w1. λ x3 l3 r3 s3. k _ _ _ (L.with_a_sign L.plus_sign w1 s3.0, first_at w1)

  pub production_198 : Kept text (to class.signed_literal (word class.minus ∷ mark m.at ∷ rule class.number ∷ mark m.minus_number ∷ []))
  production_198 last rest p K k = λ r1 w1. λ x3 l3 r3 s3. k _ _ _ (L.with_a_sign L.minus_sign w1 s3.0, first_at w1)

  pub production_199 : Kept text (to class.column_constraints (word class.CONSTRAINT ∷ mark m.at ∷ rule class.name ∷ mark m.named ∷ rule class.column_rule ∷ rule class.column_constraints ∷ []))
  production_199 last rest p K k = subst (λ z. Promise text (means text) (word class.CONSTRAINT ∷ mark m.at ∷ rule class.name ∷ mark m.named ∷ rule class.column_rule ∷ rule class.column_constraints ∷ []) last rest z K) (sym k.5) (λ r1 w1. λ x3 l3 r3 s3. (_, _, _, _, _, _, _, refl, _, (Z.named w1 s3, first_at w1), λ x5 l5 r5 s5. (_, _, _, _, _, refl, _, Z.more_constraints k.7 s5, λ x6 l6 r6 s6. k.8 _ _ _ s6)))

  pub production_200 : Kept text (to class.column_constraints (mark m.here ∷ mark m.unnamed ∷ rule class.column_rule ∷ rule class.column_constraints ∷ []))
  production_200 last rest p K k = subst (λ z. Promise text (means text) (mark m.here ∷ mark m.unnamed ∷ rule class.column_rule ∷ rule class.column_constraints ∷ []) last rest z K) (sym k.5) ((_, _, _, _, _, _, _, refl, _, (Z.unnamed, refl), λ x3 l3 r3 s3. (_, _, _, _, _, refl, _, Z.more_constraints k.7 s3, λ x4 l4 r4 s4. k.8 _ _ _ s4)))

  pub production_201 : Kept text (to class.column_constraints ([]))
  production_201 last rest p K k = subst (λ z. Promise text (means text) ([]) last rest z K) (sym k.5) (k.8 _ _ _ k.7)

  pub production_202 : Kept text (to class.column_rule (word class.NOT ∷ word class.NULL ∷ mark m.not_null ∷ []))
  production_202 last rest p K k = subst (λ z. Promise text (means text) (word class.NOT ∷ word class.NULL ∷ mark m.not_null ∷ []) last rest z K) (sym k.7) (λ r1 w1. λ r2 w2. k.10 _ _ _ (Z.column_constraint k.9.1 k.9.0 (Z.not_null w1 w2)))

  pub production_203 : Kept text (to class.column_rule (word class.PRIMARY ∷ word class.KEY ∷ mark m.column_primary ∷ []))
  production_203 last rest p K k = subst (λ z. Promise text (means text) (word class.PRIMARY ∷ word class.KEY ∷ mark m.column_primary ∷ []) last rest z K) (sym k.7) (λ r1 w1. λ r2 w2. k.10 _ _ _ (Z.column_constraint k.9.1 k.9.0 (Z.column_primary w1 w2)))

  pub production_204 : Kept text (to class.column_rule (word class.UNIQUE ∷ mark m.column_unique ∷ []))
  production_204 last rest p K k = subst (λ z. Promise text (means text) (word class.UNIQUE ∷ mark m.column_unique ∷ []) last rest z K) (sym k.7) (λ r1 w1. k.10 _ _ _ (Z.column_constraint k.9.1 k.9.0 (Z.column_unique w1)))

  pub production_205 : Kept text (to class.column_rule (word class.CHECK ∷ word class.left_parenthesis ∷ rule class.e ∷ word class.right_parenthesis ∷ mark m.column_check ∷ []))
  production_205 last rest p K k = subst (λ z. Promise text (means text) (word class.CHECK ∷ word class.left_parenthesis ∷ rule class.e ∷ word class.right_parenthesis ∷ mark m.column_check ∷ []) last rest z K) (sym k.7) (λ r1 w1. λ r2 w2. λ x3 l3 r3 s3. λ r4 w4. k.10 _ _ _ (Z.column_constraint k.9.1 k.9.0 (Z.column_check w1 w2 s3.spelled w4)))

  pub production_206 : Kept text (to class.column_rule (word class.REFERENCES ∷ rule class.name ∷ mark m.references ∷ rule class.referenced_name ∷ rule class.actions ∷ mark m.column_references ∷ []))
  production_206 last rest p K k = subst (λ z. Promise text (means text) (word class.REFERENCES ∷ rule class.name ∷ mark m.references ∷ rule class.referenced_name ∷ rule class.actions ∷ mark m.column_references ∷ []) last rest z K) (sym k.7) (λ r1 w1. λ x2 l2 r2 s2. (_, _, _, _, refl, λ x4 l4 r4 s4. (_, _, _, refl, _, Z.no_changes, λ x5 l5 r5 s5. k.10 _ _ _ (Z.column_constraint k.9.1 k.9.0 (Z.references w1 s2 s4 s5)))))

  pub production_207 : Kept text (to class.referenced_name (word class.left_parenthesis ∷ rule class.name ∷ mark m.first_name ∷ word class.right_parenthesis ∷ mark m.parent_columns ∷ []))
  production_207 last rest p K k = subst (λ z. Promise text (means text) (word class.left_parenthesis ∷ rule class.name ∷ mark m.first_name ∷ word class.right_parenthesis ∷ mark m.parent_columns ∷ []) last rest z K) (sym k.4) (λ r1 w1. λ x2 l2 r2 s2. λ r4 w4. k.5 _ _ _ (Z.one_parent w1 s2 w4))

  pub production_208 : Kept text (to class.referenced_name ([]))
  production_208 last rest p K k = subst (λ z. Promise text (means text) ([]) last rest z K) (sym k.4) (k.5 _ _ _ Z.primary_key)

  pub production_209 : Kept text (to class.table_constraint (word class.CONSTRAINT ∷ mark m.at ∷ rule class.name ∷ mark m.named ∷ rule class.table_rule ∷ []))
  production_209 last rest p K k = λ r1 w1. λ x3 l3 r3 s3. (_, _, _, refl, _, (Z.named w1 s3, first_at w1), λ x5 l5 r5 s5. k _ _ _ s5)

  pub production_210 : Kept text (to class.table_constraint (mark m.here ∷ mark m.unnamed ∷ rule class.table_rule ∷ []))
  production_210 last rest p K k = (_, _, _, refl, _, (Z.unnamed, refl), λ x3 l3 r3 s3. k _ _ _ s3)

  pub production_211 : Kept text (to class.table_rule (word class.PRIMARY ∷ word class.KEY ∷ word class.left_parenthesis ∷ rule class.names ∷ word class.right_parenthesis ∷ mark m.table_primary ∷ []))
  production_211 last rest p K k = subst (λ z. Promise text (means text) (word class.PRIMARY ∷ word class.KEY ∷ word class.left_parenthesis ∷ rule class.names ∷ word class.right_parenthesis ∷ mark m.table_primary ∷ []) last rest z K) (sym k.3) (λ r1 w1. λ r2 w2. λ r3 w3. λ x4 l4 r4 s4. λ r5 w5. k.6 _ _ _ (Z.table_constraint k.5.1 k.5.0 (Z.table_primary w1 w2 w3 s4 w5)))

  pub production_212 : Kept text (to class.table_rule (word class.UNIQUE ∷ word class.left_parenthesis ∷ rule class.names ∷ word class.right_parenthesis ∷ mark m.table_unique ∷ []))
  production_212 last rest p K k = subst (λ z. Promise text (means text) (word class.UNIQUE ∷ word class.left_parenthesis ∷ rule class.names ∷ word class.right_parenthesis ∷ mark m.table_unique ∷ []) last rest z K) (sym k.3) (λ r1 w1. λ r2 w2. λ x3 l3 r3 s3. λ r4 w4. k.6 _ _ _ (Z.table_constraint k.5.1 k.5.0 (Z.table_unique w1 w2 s3 w4)))

  pub production_213 : Kept text (to class.table_rule (word class.CHECK ∷ word class.left_parenthesis ∷ rule class.e ∷ word class.right_parenthesis ∷ mark m.table_check ∷ []))
  production_213 last rest p K k = subst (λ z. Promise text (means text) (word class.CHECK ∷ word class.left_parenthesis ∷ rule class.e ∷ word class.right_parenthesis ∷ mark m.table_check ∷ []) last rest z K) (sym k.3) (λ r1 w1. λ r2 w2. λ x3 l3 r3 s3. λ r4 w4. k.6 _ _ _ (Z.table_constraint k.5.1 k.5.0 (Z.table_check w1 w2 s3.spelled w4)))

  pub production_214 : Kept text (to class.table_rule (word class.FOREIGN ∷ word class.KEY ∷ word class.left_parenthesis ∷ rule class.names ∷ word class.right_parenthesis ∷ word class.REFERENCES ∷ rule class.name ∷ mark m.references ∷ rule class.referenced_names ∷ rule class.actions ∷ mark m.table_foreign ∷ []))
  production_214 last rest p K k = subst (λ z. Promise text (means text) (word class.FOREIGN ∷ word class.KEY ∷ word class.left_parenthesis ∷ rule class.names ∷ word class.right_parenthesis ∷ word class.REFERENCES ∷ rule class.name ∷ mark m.references ∷ rule class.referenced_names ∷ rule class.actions ∷ mark m.table_foreign ∷ []) last rest z K) (sym k.3) (λ r1 w1. λ r2 w2. λ r3 w3. λ x4 l4 r4 s4. λ r5 w5. λ r6 w6. λ x7 l7 r7 s7. (_, _, _, _, refl, λ x9 l9 r9 s9. (_, _, _, refl, _, Z.no_changes, λ x10 l10 r10 s10. k.6 _ _ _ (Z.table_constraint k.5.1 k.5.0 (Z.foreign_key w1 w2 w3 s4 w5 w6 s7 s9 s10)))))

  pub production_215 : Kept text (to class.referenced_names (word class.left_parenthesis ∷ rule class.names ∷ word class.right_parenthesis ∷ mark m.parent_columns ∷ []))
  production_215 last rest p K k = subst (λ z. Promise text (means text) (word class.left_parenthesis ∷ rule class.names ∷ word class.right_parenthesis ∷ mark m.parent_columns ∷ []) last rest z K) (sym k.4) (λ r1 w1. λ x2 l2 r2 s2. λ r3 w3. k.5 _ _ _ (Z.columns w1 s2 w3))

  pub production_216 : Kept text (to class.referenced_names ([]))
  production_216 last rest p K k = subst (λ z. Promise text (means text) ([]) last rest z K) (sym k.4) (k.5 _ _ _ Z.no_columns)

  pub production_217 : Kept text (to class.actions (word class.ON ∷ rule class.acting ∷ rule class.actions ∷ []))
  production_217 last rest p K k = subst (λ z. Promise text (means text) (word class.ON ∷ rule class.acting ∷ rule class.actions ∷ []) last rest z K) (sym k.3) (λ r1 w1. (_, _, refl, _, w1, λ x2 l2 r2 s2. (_, _, _, refl, _, Z.more_changes k.5 s2, λ x3 l3 r3 s3. k.6 _ _ _ s3)))

  pub production_218 : Kept text (to class.actions ([]))
  production_218 last rest p K k = subst (λ z. Promise text (means text) ([]) last rest z K) (sym k.3) (k.6 _ _ _ k.5)

  pub production_219 : Kept text (to class.acting (word class.DELETE ∷ rule class.action ∷ mark m.on_delete ∷ []))
  production_219 last rest p K k = subst (λ z. Promise text (means text) (word class.DELETE ∷ rule class.action ∷ mark m.on_delete ∷ []) last rest z K) (sym k.2) (λ r1 w1. λ x2 l2 r2 s2. k.5 _ _ _ (Z.on_delete k.4 w1 s2))

  pub production_220 : Kept text (to class.acting (word class.UPDATE ∷ rule class.action ∷ mark m.on_update ∷ []))
  production_220 last rest p K k = subst (λ z. Promise text (means text) (word class.UPDATE ∷ rule class.action ∷ mark m.on_update ∷ []) last rest z K) (sym k.2) (λ r1 w1. λ x2 l2 r2 s2. k.5 _ _ _ (Z.on_update k.4 w1 s2))

  pub production_221 : Kept text (to class.action (word class.CASCADE ∷ mark m.cascade ∷ []))
  production_221 last rest p K k = λ r1 w1. k _ _ _ (Z.cascade w1)

  pub production_222 : Kept text (to class.action (word class.SET ∷ rule class.set_to ∷ []))
  production_222 last rest p K k = λ r1 w1. λ x2 l2 r2 s2. k _ _ _ (s2 _ w1)

  pub production_223 : Kept text (to class.action (word class.RESTRICT ∷ mark m.restrict ∷ []))
  production_223 last rest p K k = λ r1 w1. k _ _ _ (Z.restrict w1)

  pub production_224 : Kept text (to class.action (word class.NO ∷ word class.ACTION ∷ mark m.no_action ∷ []))
  production_224 last rest p K k = λ r1 w1. λ r2 w2. k _ _ _ (Z.no_action w1 w2)

  pub production_225 : Kept text (to class.set_to (word class.NULL ∷ mark m.set_null ∷ []))
  production_225 last rest p K k = λ r1 w1. k _ _ _ (λ a v. Z.set_null v w1)

  pub production_226 : Kept text (to class.set_to (word class.DEFAULT ∷ mark m.set_default ∷ []))
  production_226 last rest p K k = λ r1 w1. k _ _ _ (λ a v. Z.set_default v w1)

  pub production_227 : Kept text (to class.type (word class.SMALLINT ∷ mark m.smallint ∷ []))
  production_227 last rest p K k = λ r1 w1. k _ _ _ (L.type_word L.smallint w1)

  pub production_228 : Kept text (to class.type (word class.INTEGER ∷ mark m.integer ∷ []))
  production_228 last rest p K k = λ r1 w1. k _ _ _ (L.type_word L.integer w1)

  pub production_229 : Kept text (to class.type (word class.INT ∷ mark m.integer ∷ []))
  production_229 last rest p K k = λ r1 w1. k _ _ _ (L.type_word L.int w1)

  pub production_230 : Kept text (to class.type (word class.BIGINT ∷ mark m.bigint ∷ []))
  production_230 last rest p K k = λ r1 w1. k _ _ _ (L.type_word L.bigint w1)

  pub production_231 : Kept text (to class.type (word class.DECIMAL ∷ rule class.decimal ∷ []))
  production_231 last rest p K k = λ r1 w1. λ x2 l2 r2 s2. k _ _ _ (s2 _ (L.decimal w1))

  pub production_232 : Kept text (to class.type (word class.NUMERIC ∷ rule class.decimal ∷ []))
  production_232 last rest p K k = λ r1 w1. λ x2 l2 r2 s2. k _ _ _ (s2 _ (L.numeric w1))

  pub production_233 : Kept text (to class.type (word class.VARCHAR ∷ word class.left_parenthesis ∷ span class.number_1 class.number_4000 ∷ mark m.number ∷ word class.right_parenthesis ∷ mark m.varchar ∷ []))
  production_233 last rest p K k = λ r1 w1. λ r2 w2. λ r3 w3. λ r5 w5. k _ _ _ (L.varchar w1 w2 (whole_number text w3) w5)

  pub production_234 : Kept text (to class.type (word class.BOOLEAN ∷ mark m.boolean ∷ []))
  production_234 last rest p K k = λ r1 w1. k _ _ _ (L.type_word L.boolean w1)

  pub production_235 : Kept text (to class.type (word class.DATE ∷ mark m.date_type ∷ []))
  production_235 last rest p K k = λ r1 w1. k _ _ _ (L.type_word L.date w1)

  pub production_236 : Kept text (to class.type (word class.TIMESTAMP ∷ mark m.timestamp_type ∷ []))
  production_236 last rest p K k = λ r1 w1. k _ _ _ (L.type_word L.timestamp w1)

  pub production_237 : Kept text (to class.decimal (word class.left_parenthesis ∷ span class.number_1 class.number_38 ∷ mark m.number ∷ mark m.decimal ∷ word class.right_parenthesis ∷ []))
  production_237 last rest p K k = λ r1 w1. λ r2 w2. λ r5 w5. k _ _ _ (λ a v. L.decimal_of v w1 (whole_number text w2) w5)

  pub production_238 : Kept text (to class.decimal (word class.left_parenthesis ∷ scaled ∷ mark m.decimal_scale ∷ word class.right_parenthesis ∷ []))
  production_238 last rest p K k = λ r1 w1. λ r2 w2. λ r4 w4. k _ _ _ (λ a v. L.decimal_scale v w1 (precision_of text w2) w2.comma (scale_of text w2) w2.not_above w4)

  pub production_239 : Kept text (to class.decimal (mark m.decimal_default ∷ []))
  production_239 last rest p K k = k _ _ _ (λ a v. L.decimal_alone v)
