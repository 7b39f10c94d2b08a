-- Two lists of changes, each of which leaves all constraints met, leave them met together, where neither puts or removes a key that
-- the other puts, removes or names.
use Rattle.std.proofs.Common.{◌≡◌, ◌⊎◌, inl, inr, ℕ, Bool, true, false, if◌then◌else◌, List, [], ◌∷◌, map, Option, Some, None, refl, sym, ap, subst, ◌∙◌}
use Rattle.std.specs.FinMap.{empty, get}
use Rattle.std.specs.List.{Contains, flat_map, list_all}
use Rattle.std.specs.Option.{option_map_or}
use Rattle.std.proofs.lemmas.Bool.{and_parts, both_ways, cases_Bool, false_from_ne_true}
use Rattle.hs_base.specs.declared.numbers.TableNo.{TableNo}
use Rattle.hs_claims.specs.declared.key_names.KeyName.{KeyName}
use Rattle.hs_plan.specs.declared.definition.Constraint.{Constraint}
use Rattle.hs_plan.specs.declared.definition.ForeignKey.{ForeignKey}
use Rattle.hs_plan.specs.declared.definition.Rule.{Rule}
use Rattle.hs_plan.specs.declared.definition.Rule.TheVariants as rule
use Rattle.hs_values.specs.declared.value.Value.{Value}
use Rattle.hs_index.specs.Keys.{key_in, has_null}
use Rattle.hs_index.specs.Table.{has_key}
use Rattle.hs_changes.specs.Settings.{Maps}
use Rattle.hs_schema.specs.Catalogue.{Things, table_named, table_numbered}
use Rattle.hs_schema.specs.declared.table.Table.{Table}
use Rattle.hs_sentences.specs.Violations.{Checks, constraints_of, parents_of}
use Rattle.hs_footprint.specs.Touched.{columns_at, columns_or_none, key_columns, key_name, named_by, named_in, named_over, named_value}
use Rattle.hs_validity.specs.Meeting.{HasParents, Holder, IsUnique, Meets, MeetsAll}
use Rattle.hs_validity.proofs.Columns.{named_is, same_among, whole_held, whole_tells}
use Rattle.hs_validity.proofs.Equal.{has_key-parts, own_full, same_through, same_turned}
use Rattle.hs_validity.proofs.Keyed.{gone_passes, keys_pass, put_passes}
use Rattle.hs_validity.proofs.Lists.{all_in_flat, contained_get}
use Rattle.hs_validity.proofs.Placed.{AllPlaced, AllReferenced, IsAlike, IsFirsts, IsLeft, IsSeconds, NoCommon, Placed, Referenced, Teller, Told, number_at}

-- ---- keys that are told

module _ (things : Things) (teller : Teller) (c : ℕ × Constraint) (placed : Placed things c) (columns : List ℕ) (is : key_columns c.1.rule ≡ Some columns) (key : List Value) (old new : Option (List Value)) (told : Told things teller c.0 old new) where
  abbrev test : List Value → Bool
  test k = teller.key (key_name (number_at c.0) placed.place k)

  put_told : has_key columns key new ≡ true → has_key columns key old ≡ false → test key ≡ true
  put_told has none =
      put_passes test (λ a b same passes. teller.keys_alike (number_at c.0) placed.place a b same passes) columns key old new
      (keys_pass teller.key (number_at c.0) old new things placed.table placed.place c.1 columns placed.found placed.at is told.keys) has none

-- ---- the parent's key

module _ (things : Things) (key : ForeignKey) (ref : Referenced things key) (k : List Value) where
  abbrev parent_key : List Value → KeyName
  parent_key its = key_name ref.number ref.place (key_in ref.columns its)

  -- two rows that have it have one key of the parent's own
  one_key : (teller : KeyName → Bool) → IsAlike teller → (its other : List Value) → has_key key.parent_columns k (Some its) ≡ true → has_key key.parent_columns k (Some other) ≡ true → teller (parent_key its) ≡ true → teller (parent_key other) ≡ true
  one_key teller alike its other h p =
      let one = has_key-parts key.parent_columns k its h in
      let two = has_key-parts key.parent_columns k other p in
      let same = same_through (key_in key.parent_columns its) k (key_in key.parent_columns other) (same_turned k (key_in key.parent_columns its) one.0) two.0 in
      alike ref.number ref.place (key_in ref.columns its) (key_in ref.columns other) (same_among its other key.parent_columns ref.columns ref.are_referenced same)

  -- one that went is told of
  record Gone (test : KeyName → Bool) : Type 0 where
    its : List Value
    had : has_key key.parent_columns k (Some its) ≡ true
    told : test (parent_key its) ≡ true

  gone_told : (teller : Teller) (old new : Option (List Value)) → Told things teller ref.number.0 old new → has_key key.parent_columns k old ≡ true → has_key key.parent_columns k new ≡ false → Gone teller.key
  gone_told teller None new told has none = absurd (let no : false ≡ true = has in cc)
  gone_told teller (Some its) new told has none = record {
    its = its;
    had = has;
    told =
        gone_passes (λ w. teller.key (key_name ref.number ref.place w)) (λ a b same passes. teller.keys_alike ref.number ref.place a b same passes) ref.columns (key_in ref.columns its) (Some its) new
        (keys_pass teller.key ref.number (Some its) new things ref.table ref.place ref.own ref.columns ref.found ref.at ref.of_rule told.keys)
        (whole_held key.parent_columns ref.columns k its ref.are_referenced has)
        (false_from_ne_true (has_key ref.columns (key_in ref.columns its) new) (λ h. both_ways (has_key key.parent_columns k new) none (whole_tells key.parent_columns ref.columns k its ref.has_referenced has new h)));
  }

  columns_there : columns_at ref.table ref.place ≡ ref.columns
  columns_there = ap columns_or_none ref.at ∙ ap (λ o. option_map_or (λ (columns : List ℕ). columns) o []) ref.of_rule

  -- a row that names it tells of the own key of each row of the parent that has it
  module _ (c : ℕ × Constraint) (placed : Placed things c) (is : c.1.rule ≡ rule.ForeignKey key) where
    names_it : (row : List Value) → has_key key.columns k (Some row) ≡ true → named_by things row c.1.rule ≡ key_name ref.number ref.place (map (named_value key row) ref.columns) ∷ []
    names_it row has =
        let parent : table_named things key.parent ≡ Some ref.table = ap (λ o. option_map_or (table_numbered things) o None) ref.named ∙ ref.found in
        ap (named_by things row) is
        ∙ ap (λ b. if b then [] else named_in (table_named things key.parent) key row) (own_full key.columns k row has)
        ∙ ap (λ o. named_in o key row) parent
        ∙ ap (named_over ref.table key row) ref.over
        ∙ ap (λ n. key_name n ref.place (map (named_value key row) (columns_at ref.table ref.place)) ∷ []) ref.itself
        ∙ ap (λ columns. key_name ref.number ref.place (map (named_value key row) columns) ∷ []) columns_there

    parent_told : (teller : Teller) (its : List Value) → has_key key.parent_columns k (Some its) ≡ true → (old new : Option (List Value)) → Told things teller c.0 old new → has_key key.columns k new ≡ true → teller.parent (parent_key its) ≡ true
    parent_told teller its has old None told named = absurd (let no : false ≡ true = named in cc)
    parent_told teller its has old (Some row) told named =
        let own : list_all teller.parent (parents_of_table placed.table) ≡ true = sym (ap (λ o. list_all teller.parent (option_map_or parents_of_table o [])) placed.found) ∙ told.parents in
        let one = all_in_flat teller.parent (λ (x : Constraint). named_by things row x.rule) placed.table.constraints c.1 own (contained_get placed.table.constraints placed.place c.1 placed.at) in
        let name = key_name ref.number ref.place (map (named_value key row) ref.columns) in
        let passes : list_all teller.parent (name ∷ []) ≡ true = sym (ap (list_all teller.parent) (names_it row named)) ∙ one in
        teller.parents_alike ref.number ref.place (map (named_value key row) ref.columns) (key_in ref.columns its) (named_is key k row its ref.columns ref.are_referenced named has) (and_parts (teller.parent name) true passes).0
      where
        parents_of_table : Table → List KeyName
        parents_of_table t = flat_map (λ (x : Constraint). named_by things row x.rule) t.constraints

-- ---- both

module _ (checks : Checks) (things : Things) (own other : Teller) (keys : NoCommon own.key other.key) (parents : NoCommon own.parent other.key) (children : NoCommon own.key other.parent)
    (placed : AllPlaced things) (referenced : AllReferenced things) (before first second both : Maps) where
  abbrev First : ℕ → ℕ → Type 0
  First = IsFirsts things own before first second both

  abbrev Second : ℕ → ℕ → Type 0
  Second = IsSeconds things other before first second both

  abbrev Left : ℕ → ℕ → Type 0
  Left = IsLeft before first second both

  abbrev pub Turn : ℕ → ℕ → Type 0
  Turn table row = First table row ⊎ (Second table row ⊎ Left table row)

  module _ (turn : (table row : ℕ) → Turn table row) (met_first : MeetsAll checks things first) (met_second : MeetsAll checks things second) where
    -- it is as the first list leaves it, or the second's
    in_first : (table row : ℕ) → (get (both table) row ≡ get (first table) row) ⊎ Second table row
    in_first table row = by (turn table row)
      where
        by : Turn table row → (get (both table) row ≡ get (first table) row) ⊎ Second table row
        by (inl x) = inl x.is
        by (inr (inl y)) = inr y
        by (inr (inr z)) = inl (z.is ∙ sym z.in_first)

    in_second : (table row : ℕ) → (get (both table) row ≡ get (second table) row) ⊎ First table row
    in_second table row = by (turn table row)
      where
        by : Turn table row → (get (both table) row ≡ get (second table) row) ⊎ First table row
        by (inl x) = inr x
        by (inr (inl y)) = inl y.is
        by (inr (inr z)) = inl (z.is ∙ sym z.in_second)

    -- what each row has in each of them, it has in both
    pub each_row : (P : List Value → Type 0) (table : ℕ) → ((number : ℕ) (row : List Value) → get (first table) number ≡ Some row → P row) → ((number : ℕ) (row : List Value) → get (second table) number ≡ Some row → P row)
        → (number : ℕ) (row : List Value) → get (both table) number ≡ Some row → P row
    each_row P table f s number row there = elim (in_first table number) [
      | inl is ↦ f number row (sym is ∙ there)
      | inr y ↦ s number row (sym y.is ∙ there)
    ]

    module _ (c : ℕ × Constraint) (found : Contains (constraints_of things) c) where
      module _ (columns : List ℕ) (is : key_columns c.1.rule ≡ Some columns) (once_first : IsUnique columns (first c.0)) (once_second : IsUnique columns (second c.0)) (key : List Value) where
        has : Maps → ℕ → Bool
        has maps row = has_key columns key (get (maps c.0) row)

        moves : (row : ℕ) (x y : Option (List Value)) → x ≡ y → has_key columns key x ≡ true → has_key columns key y ≡ true
        moves row x y e h = sym (ap (has_key columns key) e) ∙ h

        crossed : (r s : ℕ) → First c.0 r → Second c.0 s → has_key columns key (get (both c.0) r) ≡ true → has_key columns key (get (both c.0) s) ≡ true → r ≡ s
        crossed r s x y hr hs = by (has_key columns key (get (before c.0) r)) refl (has_key columns key (get (before c.0) s)) refl
          where
            in_f : has_key columns key (get (first c.0) r) ≡ true
            in_f = moves r (get (both c.0) r) (get (first c.0) r) x.is hr

            in_s : has_key columns key (get (second c.0) s) ≡ true
            in_s = moves s (get (both c.0) s) (get (second c.0) s) y.is hs

            by : (was : Bool) → has_key columns key (get (before c.0) r) ≡ was → (had : Bool) → has_key columns key (get (before c.0) s) ≡ had → r ≡ s
            by true was had old = once_second key r s (moves r (get (before c.0) r) (get (second c.0) r) (sym x.stays) was) in_s
            by false was true old = once_first key r s in_f (moves s (get (before c.0) s) (get (first c.0) s) (sym y.stays) old)
            by false was false old =
                absurd (keys (key_name (number_at c.0) (placed c found).place key)
                (put_told things own c (placed c found) columns is key (get (before c.0) r) (get (first c.0) r) x.told in_f was)
                (put_told things other c (placed c found) columns is key (get (before c.0) s) (get (second c.0) s) y.told in_s old))

        once : (r s : ℕ) → has_key columns key (get (both c.0) r) ≡ true → has_key columns key (get (both c.0) s) ≡ true → r ≡ s
        once r s hr hs = by (in_first c.0 r) (in_first c.0 s)
          where
            both_second : Second c.0 r → (get (both c.0) s ≡ get (second c.0) s) ⊎ First c.0 s → r ≡ s
            both_second y (inl e) = once_second key r s (moves r (get (both c.0) r) (get (second c.0) r) y.is hr) (moves s (get (both c.0) s) (get (second c.0) s) e hs)
            both_second y (inr x) = sym (crossed s r x y hs hr)

            turned : (get (both c.0) r ≡ get (second c.0) r) ⊎ First c.0 r → Second c.0 s → r ≡ s
            turned (inl e) y = once_second key r s (moves r (get (both c.0) r) (get (second c.0) r) e hr) (moves s (get (both c.0) s) (get (second c.0) s) y.is hs)
            turned (inr x) y = crossed r s x y hr hs

            by : (get (both c.0) r ≡ get (first c.0) r) ⊎ Second c.0 r → (get (both c.0) s ≡ get (first c.0) s) ⊎ Second c.0 s → r ≡ s
            by (inl d) (inl e) = once_first key r s (moves r (get (both c.0) r) (get (first c.0) r) d hr) (moves s (get (both c.0) s) (get (first c.0) s) e hs)
            by (inl d) (inr y) = turned (in_second c.0 r) y
            by (inr y) e = both_second y (in_second c.0 s)

      module _ (key : ForeignKey) (is : c.1.rule ≡ rule.ForeignKey key) (par_first : HasParents key.columns key.parent_columns (first c.0) (parents_of things first key)) (par_second : HasParents key.columns key.parent_columns (second c.0) (parents_of things second key)) (k : List Value) where
        ref : Referenced things key
        ref = referenced c key found is

        abbrev p : ℕ
        p = (referenced c key found is).number.0

        rows_are : (maps : Maps) → parents_of things maps key ≡ maps p
        rows_are maps = ap (λ o. option_map_or (λ (table : TableNo). maps table.0) o empty) (referenced c key found is).named

        abbrev Has : Maps → Type 0
        Has maps = Holder key.parent_columns k (maps p)

        there : (maps : Maps) → Holder key.parent_columns k (parents_of things maps key) → Has maps
        there maps h = subst (Holder key.parent_columns k) (rows_are maps) h

        moved : (x y : Option (List Value)) → x ≡ y → has_key key.parent_columns k x ≡ true → has_key key.parent_columns k y ≡ true
        moved x y e h = sym (ap (has_key key.parent_columns k) e) ∙ h

        stands : (row : ℕ) (x : Option (List Value)) → get (both p) row ≡ x → has_key key.parent_columns k x ≡ true → Has both
        stands row x e h = record { number = row; holds = moved x (get (both p) row) (sym e) h }

        -- a parent that stands with the first, which the second took, is told by it
        taken_second : (row : ℕ) → Second p row → has_key key.parent_columns k (get (first p) row) ≡ true → Has both ⊎ Gone things key (referenced c key found is) k other.key
        taken_second row y h = elim (cases_Bool (has_key key.parent_columns k (get (second p) row))) [
          | inl still ↦ inl (stands row (get (second p) row) y.is still)
          | inr gone ↦ inr (gone_told things key (referenced c key found is) k other (get (before p) row) (get (second p) row) y.told (moved (get (first p) row) (get (before p) row) y.stays h) gone)
        ]

        taken_first : (row : ℕ) → First p row → has_key key.parent_columns k (get (second p) row) ≡ true → Has both ⊎ Gone things key (referenced c key found is) k own.key
        taken_first row x h = elim (cases_Bool (has_key key.parent_columns k (get (first p) row))) [
          | inl still ↦ inl (stands row (get (first p) row) x.is still)
          | inr gone ↦ inr (gone_told things key (referenced c key found is) k own (get (before p) row) (get (first p) row) x.told (moved (get (second p) row) (get (before p) row) x.stays h) gone)
        ]

        -- with the first's parent, unless the second took it
        by_first : (number : ℕ) → has_key key.columns k (get (first c.0) number) ≡ true → Has both ⊎ Gone things key (referenced c key found is) k other.key
        by_first number named =
            let h = there first (par_first k number named) in
            elim (in_first p h.number) [
              | inl e ↦ inl (stands h.number (get (first p) h.number) e h.holds)
              | inr y ↦ taken_second h.number y h.holds
            ]

        by_second : (number : ℕ) → has_key key.columns k (get (second c.0) number) ≡ true → Has both ⊎ Gone things key (referenced c key found is) k own.key
        by_second number named =
            let h = there second (par_second k number named) in
            elim (in_second p h.number) [
              | inl e ↦ inl (stands h.number (get (second p) h.number) e h.holds)
              | inr x ↦ taken_first h.number x h.holds
            ]

        has_parent : (number : ℕ) → has_key key.columns k (get (both c.0) number) ≡ true → Turn c.0 number → Has both
        has_parent number named (inl x) =
            let in_f = sym (ap (has_key key.columns k) x.is) ∙ named in
            elim (by_first number in_f) [
              | inl h ↦ h
              | inr g ↦ absurd (parents (parent_key things key (referenced c key found is) k g.its) (parent_told things key (referenced c key found is) k c (placed c found) is own g.its g.had (get (before c.0) number) (get (first c.0) number) x.told in_f) g.told)
            ]
        has_parent number named (inr (inl y)) =
            let in_s = sym (ap (has_key key.columns k) y.is) ∙ named in
            elim (by_second number in_s) [
              | inl h ↦ h
              | inr g ↦ absurd (children (parent_key things key (referenced c key found is) k g.its) g.told (parent_told things key (referenced c key found is) k c (placed c found) is other g.its g.had (get (before c.0) number) (get (second c.0) number) y.told in_s))
            ]
        has_parent number named (inr (inr z)) =
            let in_f = sym (ap (has_key key.columns k) (z.is ∙ sym z.in_first)) ∙ named in
            let in_s = sym (ap (has_key key.columns k) (z.is ∙ sym z.in_second)) ∙ named in
            elim (by_first number in_f) [
              | inl h ↦ h
              | inr g ↦ elim (by_second number in_s) [
                | inl h ↦ h
                | inr f ↦ absurd (keys (parent_key things key (referenced c key found is) k g.its) (one_key things key (referenced c key found is) k own.key own.keys_alike f.its g.its f.had g.had f.told) g.told)
              ]
            ]

        has_parents : (number : ℕ) → has_key key.columns k (get (both c.0) number) ≡ true → Holder key.parent_columns k (parents_of things both key)
        has_parents number named = subst (Holder key.parent_columns k) (sym (rows_are both)) (has_parent number named (turn c.0 number))

      meets_rule : (r : Rule) → c.1.rule ≡ r → Meets checks things first c.0 r → Meets checks things second c.0 r → Meets checks things both c.0 r
      meets_rule (rule.NotNull column) is f s = each_row (λ row. has_null (key_in (column ∷ []) row) ≡ false) c.0 f s
      meets_rule (rule.PrimaryKey columns) is f s = (each_row (λ row. has_null (key_in columns row) ≡ false) c.0 f.0 s.0, λ key a b. once columns (ap key_columns is) f.1 s.1 key a b)
      meets_rule (rule.Unique columns) is f s = λ key a b. once columns (ap key_columns is) f s key a b
      meets_rule (rule.Check condition) is f s = each_row (λ row. checks condition row ≡ true) c.0 f s
      meets_rule (rule.ForeignKey key) is f s = λ k number. has_parents key is f s k number
      meets_rule (rule.Index columns) is f s = tt

    pub met_both : MeetsAll checks things both
    met_both c found = meets_rule c found c.1.rule refl (met_first c found) (met_second c found)
