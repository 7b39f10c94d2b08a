-- What a test that all keys pass which a row puts or removes says of each key that it has or had.
use Rattle.std.proofs.Common.{◌≡◌, ℕ, zero, suc, ◌+◌, Bool, true, false, ◌&&◌, cond, List, [], ◌∷◌, map, Option, Some, None, refl, sym, ap, ◌∙◌, arith, slice_get}
use Rattle.std.specs.List.{list_all}
use Rattle.std.specs.Option.{option_map_or}
use Rattle.std.proofs.lemmas.Bool.{and_parts, both_ways, false_from_ne_true}
use Rattle.std.proofs.lemmas.List.Folds.{list_all-append, list_all-map}
use Rattle.std.proofs.lemmas.Option.{none-some, same_Some}
use Rattle.hs_base.specs.declared.numbers.TableNo.{TableNo}
use Rattle.hs_claims.specs.declared.key_names.KeyName.{KeyName}
use Rattle.hs_plan.specs.declared.definition.Constraint.{Constraint}
use Rattle.hs_values.specs.declared.value.Value.{Value}
use Rattle.hs_index.specs.Keys.{key_in, has_null, same_key}
use Rattle.hs_index.specs.Table.{has_key}
use Rattle.hs_schema.specs.Catalogue.{Things, table_numbered}
use Rattle.hs_schema.specs.declared.table.Table.{Table}
use Rattle.hs_footprint.specs.Touched.{key_columns, key_name, key_of, keys_at, keys_between, keys_from, keys_over}
use Rattle.hs_validity.proofs.Equal.{has_equal, has_key-parts, has_own, own_full, same_turned}

-- ---- the key that a row has

pub key_is : (columns : List ℕ) (row : List Value) → has_null (key_in columns row) ≡ false → key_of columns (Some row) ≡ Some (key_in columns row)
key_is columns row full = ap (λ b. cond b None (Some (key_in columns row))) full

pub is_had : (columns : List ℕ) (k : List Value) → (row : Option (List Value)) → key_of columns row ≡ Some k → has_key columns k row ≡ true
is_had columns k None is = absurd (none-some k is)
is_had columns k (Some row) is = by (has_null (key_in columns row)) refl is
  where
    by : (b : Bool) → has_null (key_in columns row) ≡ b → cond b None (Some (key_in columns row)) ≡ Some k → has_key columns k (Some row) ≡ true
    by true null same = absurd (none-some k same)
    by false full same = ap (λ key. has_key columns key (Some row)) (sym (same_Some (key_in columns row) k same)) ∙ has_own columns row full

-- ---- one key

module _ (test : List Value → Bool) where
  new_passes : (own : List Value) → (old : Option (List Value)) → ((k : List Value) → old ≡ Some k → same_key k own ≡ false) → list_all test (keys_between old (Some own)) ≡ true → test own ≡ true
  new_passes own None apart h = (and_parts (test own) true h).0
  new_passes own (Some k) apart h =
      let all : list_all test (k ∷ own ∷ []) ≡ true = sym (ap (λ b. list_all test (cond b [] (k ∷ own ∷ []))) (apart k refl)) ∙ h in
      (and_parts (test own) true (and_parts (test k) (test own && true) all).1).0

  old_passes : (own : List Value) → (new : Option (List Value)) → ((k : List Value) → new ≡ Some k → same_key own k ≡ false) → list_all test (keys_between (Some own) new) ≡ true → test own ≡ true
  old_passes own None apart h = (and_parts (test own) true h).0
  old_passes own (Some k) apart h =
      let all : list_all test (own ∷ k ∷ []) ≡ true = sym (ap (λ b. list_all test (cond b [] (own ∷ k ∷ []))) (apart k refl)) ∙ h in
      (and_parts (test own) (test k && true) all).0

  -- equal keys pass alike
  module _ (alike : (a b : List Value) → same_key a b ≡ true → test a ≡ true → test b ≡ true) (columns : List ℕ) (key : List Value) where
    -- another row's key that is equal to one that is had is had too
    apart_from : (own k : List Value) (row : Option (List Value)) → same_key own key ≡ true → key_of columns row ≡ Some k → has_key columns key row ≡ false → same_key k own ≡ false
    apart_from own k row same is none = false_from_ne_true (same_key k own) (λ h. both_ways (has_key columns key row) none (has_equal columns own key row same (has_equal columns k own row h (is_had columns k row is))))

    pub put_passes : (old new : Option (List Value)) → list_all test (keys_between (key_of columns old) (key_of columns new)) ≡ true → has_key columns key new ≡ true → has_key columns key old ≡ false → test key ≡ true
    put_passes old None h has none = absurd (let no : false ≡ true = has in cc)
    put_passes old (Some row) h has none =
        let own = key_in columns row in
        let same = same_turned key own (has_key-parts columns key row has).0 in
        alike own key same
        (new_passes own (key_of columns old) (λ k is. apart_from own k old same is none)
        (sym (ap (λ o. list_all test (keys_between (key_of columns old) o)) (key_is columns row (own_full columns key row has))) ∙ h))

    pub gone_passes : (old new : Option (List Value)) → list_all test (keys_between (key_of columns old) (key_of columns new)) ≡ true → has_key columns key old ≡ true → has_key columns key new ≡ false → test key ≡ true
    gone_passes None new h has none = absurd (let no : false ≡ true = has in cc)
    gone_passes (Some row) new h has none =
        let own = key_in columns row in
        let same = same_turned key own (has_key-parts columns key row has).0 in
        alike own key same
        (old_passes own (key_of columns new) (λ k is. false_from_ne_true (same_key own k) (λ e. both_ways (same_key k own) (apart_from own k new same is none) (same_turned own k e)))
        (sym (ap (λ o. list_all test (keys_between o (key_of columns new))) (key_is columns row (own_full columns key row has))) ∙ h))

-- ---- the keys of a table

module _ (test : KeyName → Bool) (table : TableNo) (old new : Option (List Value)) where
  at_place : (cs : List Constraint) (from place : ℕ) (c : Constraint) (columns : List ℕ) → list_all test (keys_from table old new from cs) ≡ true → slice_get cs place ≡ Some c → key_columns c.rule ≡ Some columns
      → list_all (λ k. test (key_name table (from + place) k)) (keys_between (key_of columns old) (key_of columns new)) ≡ true
  at_place [] from place c columns h at is = absurd (none-some c at)
  at_place (x ∷ xs) from zero c columns h at is =
      let own = keys_over table from old new (key_columns x.rule) in
      let between = keys_between (key_of columns old) (key_of columns new) in
      let all = (and_parts (list_all test own) (list_all test (keys_from table old new (from + 1) xs)) (sym (list_all-append test own (keys_from table old new (from + 1) xs)) ∙ h)).0 in
      let here : key_columns x.rule ≡ Some columns = ap (λ (r : Constraint). key_columns r.rule) (same_Some x c at) ∙ is in
      let its : list_all test (map (key_name table from) between) ≡ true = sym (ap (λ o. list_all test (keys_over table from old new o)) here) ∙ all in
      let place : from + 0 ≡ from = omega arith in
      ap (λ n. list_all (λ k. test (key_name table n k)) between) place ∙ sym (list_all-map test (key_name table from) between) ∙ its
  at_place (x ∷ xs) from (suc place) c columns h at is =
      let own = keys_over table from old new (key_columns x.rule) in
      let all = (and_parts (list_all test own) (list_all test (keys_from table old new (from + 1) xs)) (sym (list_all-append test own (keys_from table old new (from + 1) xs)) ∙ h)).1 in
      let same : from + suc place ≡ from + 1 + place = omega arith in
      ap (λ n. list_all (λ k. test (key_name table n k)) (keys_between (key_of columns old) (key_of columns new))) same ∙ at_place xs (from + 1) place c columns all at is

  pub keys_pass : (things : Things) (t : Table) (place : ℕ) (c : Constraint) (columns : List ℕ) → table_numbered things table ≡ Some t → slice_get t.constraints place ≡ Some c → key_columns c.rule ≡ Some columns → list_all test (keys_at things table old new) ≡ true
      → list_all (λ k. test (key_name table place k)) (keys_between (key_of columns old) (key_of columns new)) ≡ true
  keys_pass things t place c columns found at is h =
      let all : list_all test (keys_from table old new 0 t.constraints) ≡ true = sym (ap (λ o. list_all test (option_map_or (λ (x : Table). keys_from table old new 0 x.constraints) o [])) found) ∙ h in
      let same : place ≡ 0 + place = omega arith in
      ap (λ n. list_all (λ k. test (key_name table n k)) (keys_between (key_of columns old) (key_of columns new))) same ∙ at_place t.constraints 0 place c columns all at is
