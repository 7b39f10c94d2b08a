-- What is told of two steps of a row, one after the other, tells of both together.
use Rattle.std.proofs.Common.{◌≡◌, ℕ, ◌+◌, Bool, true, false, ◌&&◌, cond, List, [], ◌∷◌, Option, Some, None, refl, sym, ◌∙◌}
use Rattle.std.specs.List.{list_all}
use Rattle.std.specs.Option.{option_map_or}
use Rattle.std.proofs.lemmas.Bool.{and_from, and_parts, both_ways}
use Rattle.std.proofs.lemmas.List.Folds.{list_all-append, list_all-map}
use Rattle.hs_base.specs.declared.numbers.TableNo.{TableNo}
use Rattle.hs_claims.specs.declared.key_names.KeyName.{KeyName}
use Rattle.hs_plan.specs.declared.definition.Constraint.{Constraint}
use Rattle.hs_values.specs.declared.value.Value.{Value}
use Rattle.hs_index.specs.Keys.{same_key}
use Rattle.hs_schema.specs.Catalogue.{Things, table_numbered}
use Rattle.hs_schema.specs.declared.table.Table.{Table}
use Rattle.hs_footprint.specs.Touched.{key_columns, key_name, key_of, keys_at, keys_between, keys_from, keys_over}
use Rattle.hs_validity.proofs.Equal.{same_through, same_turned}
use Rattle.hs_validity.proofs.Placed.{IsAlike, Teller, Told, number_at}

-- ---- one key

module _ (test : List Value → Bool) (alike : (a b : List Value) → same_key a b ≡ true → test a ≡ true → test b ≡ true) where
  abbrev Passed : Option (List Value) → Option (List Value) → Type 0
  Passed a b = list_all test (keys_between a b) ≡ true

  one : (x : List Value) → test x ≡ true → list_all test (x ∷ []) ≡ true
  one x h = and_from (test x) true h refl

  both : (x y : List Value) → test x ≡ true → test y ≡ true → list_all test (x ∷ y ∷ []) ≡ true
  both x y h k = and_from (test x) (test y && true) h (one y k)

  first_of : (x y : List Value) → list_all test (x ∷ y ∷ []) ≡ true → test x ≡ true
  first_of x y h = (and_parts (test x) (test y && true) h).0

  second_of : (x y : List Value) → list_all test (x ∷ y ∷ []) ≡ true → test y ≡ true
  second_of x y h = (and_parts (test y) true (and_parts (test x) (test y && true) h).1).0

  -- what was there went, or it is equal to what is there now
  left_passes : (x y : List Value) → Passed (Some x) (Some y) → test y ≡ true → test x ≡ true
  left_passes x y h passes = by (same_key x y) refl h
    where
      by : (b : Bool) → same_key x y ≡ b → list_all test (cond b [] (x ∷ y ∷ [])) ≡ true → test x ≡ true
      by true same h = alike y x (same_turned x y same) passes
      by false apart h = first_of x y h

  right_passes : (x y : List Value) → Passed (Some x) (Some y) → test x ≡ true → test y ≡ true
  right_passes x y h passes = by (same_key x y) refl h
    where
      by : (b : Bool) → same_key x y ≡ b → list_all test (cond b [] (x ∷ y ∷ [])) ≡ true → test y ≡ true
      by true same h = alike x y same passes
      by false apart h = second_of x y h

  -- of two that aren't equal, and one between them
  apart_pass : (x y z : List Value) → same_key x z ≡ false → Passed (Some x) (Some y) → Passed (Some y) (Some z) → (test x ≡ true) × (test z ≡ true)
  apart_pass x y z apart h k = by (same_key x y) refl (same_key y z) refl h k
    where
      by : (a : Bool) → same_key x y ≡ a → (b : Bool) → same_key y z ≡ b → list_all test (cond a [] (x ∷ y ∷ [])) ≡ true → list_all test (cond b [] (y ∷ z ∷ [])) ≡ true → (test x ≡ true) × (test z ≡ true)
      by true same true next h k = absurd (both_ways (same_key x z) apart (same_through x y z same next))
      by true same false next h k = (alike y x (same_turned x y same) (first_of y z k), second_of y z k)
      by false other true next h k = (first_of x y h, alike y z next (second_of x y h))
      by false other false next h k = (first_of x y h, second_of y z k)

  pass_on : (x z : List Value) → ((same_key x z ≡ false) → (test x ≡ true) × (test z ≡ true)) → Passed (Some x) (Some z)
  pass_on x z h = by (same_key x z) refl
    where
      by : (b : Bool) → same_key x z ≡ b → list_all test (cond b [] (x ∷ z ∷ [])) ≡ true
      by true same = refl
      by false apart = let p = h apart in both x z p.0 p.1

  through : (a b c : Option (List Value)) → Passed a b → Passed b c → Passed a c
  through None b None h k = refl
  through None None (Some z) h k = k
  through None (Some y) (Some z) h k = one z (right_passes y z k (and_parts (test y) true h).0)
  through (Some x) None None h k = h
  through (Some x) (Some y) None h k = one x (left_passes x y h (and_parts (test y) true k).0)
  through (Some x) None (Some z) h k = pass_on x z (λ apart. ((and_parts (test x) true h).0, (and_parts (test z) true k).0))
  through (Some x) (Some y) (Some z) h k = pass_on x z (λ apart. apart_pass x y z apart h k)

-- ---- all keys of a table

module _ (test : KeyName → Bool) (alike : IsAlike test) (table : TableNo) (a b c : Option (List Value)) where
  over_through : (place : ℕ) → (columns : Option (List ℕ)) → list_all test (keys_over table place a b columns) ≡ true → list_all test (keys_over table place b c columns) ≡ true → list_all test (keys_over table place a c columns) ≡ true
  over_through place None h k = refl
  over_through place (Some columns) h k =
      let own = λ (values : List Value). test (key_name table place values) in
      list_all-map test (key_name table place) (keys_between (key_of columns a) (key_of columns c))
      ∙ through own (λ x y same passes. alike table place x y same passes) (key_of columns a) (key_of columns b) (key_of columns c)
      (sym (list_all-map test (key_name table place) (keys_between (key_of columns a) (key_of columns b))) ∙ h)
      (sym (list_all-map test (key_name table place) (keys_between (key_of columns b) (key_of columns c))) ∙ k)

  from_through : (place : ℕ) (cs : List Constraint) → list_all test (keys_from table a b place cs) ≡ true → list_all test (keys_from table b c place cs) ≡ true → list_all test (keys_from table a c place cs) ≡ true
  from_through place [] h k = refl
  from_through place (x ∷ xs) h k =
      let first = and_parts (list_all test (keys_over table place a b (key_columns x.rule))) (list_all test (keys_from table a b (place + 1) xs)) (sym (list_all-append test (keys_over table place a b (key_columns x.rule)) (keys_from table a b (place + 1) xs)) ∙ h) in
      let second = and_parts (list_all test (keys_over table place b c (key_columns x.rule))) (list_all test (keys_from table b c (place + 1) xs)) (sym (list_all-append test (keys_over table place b c (key_columns x.rule)) (keys_from table b c (place + 1) xs)) ∙ k) in
      list_all-append test (keys_over table place a c (key_columns x.rule)) (keys_from table a c (place + 1) xs)
      ∙ and_from (list_all test (keys_over table place a c (key_columns x.rule))) (list_all test (keys_from table a c (place + 1) xs)) (over_through place (key_columns x.rule) first.0 second.0) (from_through (place + 1) xs first.1 second.1)

  abbrev keys_in : Option (List Value) → Option (List Value) → Option Table → List KeyName
  keys_in x y o = option_map_or (λ (t : Table). keys_from table x y 0 t.constraints) o []

  keys_through : (things : Things) → list_all test (keys_at things table a b) ≡ true → list_all test (keys_at things table b c) ≡ true → list_all test (keys_at things table a c) ≡ true
  keys_through things = by (table_numbered things table)
    where
      by : (o : Option Table) → list_all test (keys_in a b o) ≡ true → list_all test (keys_in b c o) ≡ true → list_all test (keys_in a c o) ≡ true
      by None h k = refl
      by (Some t) h k = from_through 0 t.constraints h k

pub told_through : (things : Things) (teller : Teller) (table : ℕ) (a b c : Option (List Value)) → Told things teller table a b → Told things teller table b c → Told things teller table a c
told_through things teller table a b c first second = record {
  keys = keys_through teller.key teller.keys_alike (number_at table) a b c things first.keys second.keys;
  parents = second.parents;
}
