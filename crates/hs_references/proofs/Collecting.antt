-- Foreign keys that are collected, table by table.
use Rattle.std.proofs.Common.{◌≡◌, ℕ, Bool, true, false, ◌&&◌, ◌||◌, cond, ◌==◌, Option, Some, None, filter, List, [], ◌∷◌, ◌++◌, length, refl, sym, ap, ◌∙◌, append-nil, append_assoc, arith}
use Rattle.std.proofs.lemmas.Bool.{eqb-true, eq-eqb}
use Rattle.std.specs.List.{find, flat_map}
use Rattle.std.specs.Option.{option_map_or}
use Rattle.hs_base.specs.declared.numbers.TableNo.{TableNo}
use Rattle.hs_schema.specs.Catalogue.{children_of, columns_in, constraints_in, is_of, is_table, own, table_with}
use Rattle.hs_schema.specs.declared.table.Table.{Table}
use Rattle.hs_schema.specs.declared.thing.Thing.{Thing}
use Rattle.hs_actions.specs.declared.reference.Reference.{Reference}
use Rattle.hs_references.specs.Collected.{has_table, or_these, table_of, told, with_thing}
use Rattle.hs_references.specs.Referenced.{child_reference, references_on}

right_false : (a b : Bool) → (a || b) ≡ false → b ≡ false
right_false true b h = absurd (let no : true ≡ false = h in cc)
right_false false b h = h

-- ---- one table

module _ {X : Type 0} where
  pub behind_more : (b : Bool) (xs ys : List X) (y : X) → (xs ++ cond b ys []) ++ cond b (y ∷ []) [] ≡ xs ++ cond b (ys ++ y ∷ []) []
  behind_more true xs ys y = append_assoc xs ys (y ∷ [])
  behind_more false xs ys y = append-nil (xs ++ [])

  pub none_behind : (b : Bool) (xs : List X) → xs ≡ xs ++ cond b [] []
  none_behind true xs = sym (append-nil xs)
  none_behind false xs = sym (append-nil xs)

  pub one_behind : (b : Bool) (new old first ys : List X) (y : X) → new ≡ old ++ cond b (y ∷ []) [] → old ≡ first ++ cond b ys [] → new ≡ first ++ cond b (ys ++ y ∷ []) []
  one_behind b new old first ys y is was = is ∙ ap (λ xs. xs ++ cond b (y ∷ []) []) was ∙ behind_more b first ys y

  pub empty_from : (xs : List X) (r : Bool) → r ≡ (length xs == 0) → r ≡ true → xs ≡ []
  empty_from [] r is h = refl
  empty_from (x ∷ xs) r is h = let long : length (x ∷ xs) ≡ 0 = eqb-true (length (x ∷ xs)) 0 (sym is ∙ h) in absurd (omega arith)

  pub some_from : (xs : List X) (r : Bool) → r ≡ (length xs == 0) → r ≡ false → xs ≡ [] → ⊥
  some_from xs r is h none = let yes : r ≡ true = is ∙ eq-eqb (length xs) 0 (ap length none) in absurd (let no : true ≡ false = sym yes ∙ h in cc)

  or_kept : (xs those : List X) → (xs ≡ [] → ⊥) → or_these xs those ≡ xs
  or_kept [] those some = absurd (some refl)
  or_kept (x ∷ xs) those some = refl

  -- where a table has some already
  pub kept : (old : ℕ → List X) (a : ℕ) (those : List X) → (old a ≡ [] → ⊥) → (t : ℕ) → old t ≡ cond (t == a) (or_these (old t) those) (old t)
  kept old a those some t = by (t == a) refl
    where
      by : (b : Bool) → (t == a) ≡ b → old t ≡ cond b (or_these (old t) those) (old t)
      by true is = sym (or_kept (old t) those (λ none. some (ap old (sym (eqb-true t a is)) ∙ none)))
      by false is = refl

  -- where it has none yet
  pub put : (old new : ℕ → List X) (a : ℕ) (those : List X) → old a ≡ [] → ((t : ℕ) → new t ≡ old t ++ cond (t == a) those []) → (t : ℕ) → new t ≡ cond (t == a) (or_these (old t) those) (old t)
  put old new a those none is t = is t ∙ by (t == a) refl
    where
      by : (b : Bool) → (t == a) ≡ b → old t ++ cond b those [] ≡ cond b (or_these (old t) those) (old t)
      by true same =
          let empty : old t ≡ [] = ap old (eqb-true t a same) ∙ none in
          ap (λ xs. xs ++ those) empty ∙ sym (ap (λ xs. or_these xs those) empty)
      by false other = append-nil (old t)

  twice : (xs those : List X) → or_these (or_these xs those) those ≡ or_these xs those
  twice [] [] = refl
  twice [] (y ∷ ys) = refl
  twice (x ∷ xs) those = refl

-- ---- one thing after another

module _ (those : TableNo → List Reference) where
  pub told_on : (x : Thing) (rest : List Thing) (now next : ℕ → List Reference) → ((t : ℕ) → next t ≡ with_thing those x now t) → (t : ℕ) → told those rest next t ≡ told those (x ∷ rest) now t
  told_on x rest now next is t = into (is_table x.part) refl (t == x.table.0) refl (has_table rest t)
    where
      path : (a b : Bool) → is_table x.part ≡ a → (t == x.table.0) ≡ b → next t ≡ cond (a && b) (or_these (now t) (those x.table)) (now t)
      path a b h k = is t ∙ (λ i. cond (h i && k i) (or_these (now t) (those x.table)) (now t))

      here : (t == x.table.0) ≡ true → next t ≡ or_these (now t) (those x.table) → next t ≡ or_these (now t) (those (table_of t))
      here same h = h ∙ ap (λ n. or_these (now t) (those (table_of n))) (sym (eqb-true t x.table.0 same))

      into : (a : Bool) → is_table x.part ≡ a → (b : Bool) → (t == x.table.0) ≡ b → (c : Bool) → cond c (or_these (next t) (those (table_of t))) (next t) ≡ cond ((a && b) || c) (or_these (now t) (those (table_of t))) (now t)
      into true h true k true = ap (λ xs. or_these xs (those (table_of t))) (here k (path true true h k)) ∙ twice (now t) (those (table_of t))
      into true h true k false = here k (path true true h k)
      into true h false k c = ap (λ xs. cond c (or_these xs (those (table_of t))) xs) (path true false h k)
      into false h b k c = ap (λ xs. cond c (or_these xs (those (table_of t))) xs) (path false b h k)

-- ---- all things

-- a table that isn't there has none
not_there : (t : TableNo) (things : List Thing) → has_table things t.0 ≡ false → find (λ x. is_table x.part) (filter (is_of t) things) ≡ None
not_there t [] h = refl
not_there t (x ∷ xs) h = by (not_there t xs (right_false (is_table x.part && (t.0 == x.table.0)) (has_table xs t.0) h)) (is_of t x) refl (is_table x.part) refl
  where
    by : find (λ x. is_table x.part) (filter (is_of t) xs) ≡ None → (a : Bool) → is_of t x ≡ a → (b : Bool) → is_table x.part ≡ b → find (λ x. is_table x.part) (filter (is_of t) (x ∷ xs)) ≡ None
    by more false out b is = ap (λ a. find (λ x. is_table x.part) (cond a (x ∷ filter (is_of t) xs) (filter (is_of t) xs))) out ∙ more
    by more true own false is = ap (λ a. find (λ x. is_table x.part) (cond a (x ∷ filter (is_of t) xs) (filter (is_of t) xs))) own ∙ ap (λ b. cond b (Some x) (find (λ x. is_table x.part) (filter (is_of t) xs))) is ∙ more
    by more true own true is =
        let clash : true ≡ false = sym (λ i. (is i && own i) || has_table xs t.0) ∙ h in
        absurd (cc)

pub all_told : (things : List Thing) (t : TableNo) → told (references_on things) things (λ n. []) t.0 ≡ references_on things t
all_told things t = by (has_table things t.0) refl
  where
    by : (b : Bool) → has_table things t.0 ≡ b → cond b (or_these [] (references_on things t)) [] ≡ references_on things t
    by true is = refl
    by false out =
        sym (ap (λ (o : Option Thing). option_map_or (λ (table : Table). flat_map (child_reference things t) (children_of things table.name)) (option_map_or (λ x. table_with x.part t (flat_map (λ y. columns_in y.part) (own things t)) (flat_map (λ y. constraints_in y.part) (own things t))) o None) []) (not_there t things out))
