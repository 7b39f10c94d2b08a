-- New numbers of rows leave all constraints met.
use Rattle.std.proofs.Common.{◌≡◌, ℕ, true, false, List, [], ◌∷◌, Option, Some, None, refl, sym, ap, ◌∙◌}
use Rattle.std.specs.FinMap.{empty, get}
use Rattle.std.specs.Option.{option_map_or}
use Rattle.hs_base.specs.declared.numbers.TableNo.{TableNo}
use Rattle.hs_plan.specs.declared.definition.Rule.{Rule}
use Rattle.hs_plan.specs.declared.definition.Rule.TheVariants as rule
use Rattle.hs_values.specs.declared.value.Value.{Value}
use Rattle.hs_index.specs.Keys.{key_in, has_null}
use Rattle.hs_index.specs.Table.{has_key}
use Rattle.hs_changes.specs.Settings.{Maps}
use Rattle.hs_schema.specs.Catalogue.{Things, number_of}
use Rattle.hs_sentences.specs.Violations.{Checks}
use Rattle.hs_validity.specs.Meeting.{Holder, IsUnique, Meets, MeetsAll}

-- each row of the new tables is one of the old, which got this number, and the other way round
module _ (new old : Maps) (final : ℕ → ℕ)
    (back : (table number : ℕ) (row : List Value) → get (new table) number ≡ Some row → (seen : ℕ) × (get (old table) seen ≡ Some row) × (final seen ≡ number))
    (forth : (table number : ℕ) (row : List Value) → get (old table) number ≡ Some row → get (new table) (final number) ≡ Some row) where
  pub each_renamed : (P : List Value → Type 0) (table : ℕ) → ((number : ℕ) (row : List Value) → get (old table) number ≡ Some row → P row) → (number : ℕ) (row : List Value) → get (new table) number ≡ Some row → P row
  each_renamed P table h number row there = let k = back table number row there in h k.0 row k.1

  has_back : (table : ℕ) (columns : List ℕ) (key : List Value) (number : ℕ) → has_key columns key (get (new table) number) ≡ true → (seen : ℕ) × (has_key columns key (get (old table) seen) ≡ true) × (final seen ≡ number)
  has_back table columns key number = by (get (new table) number) refl
    where
      by : (o : Option (List Value)) → get (new table) number ≡ o → has_key columns key o ≡ true → (seen : ℕ) × (has_key columns key (get (old table) seen) ≡ true) × (final seen ≡ number)
      by None at h = absurd (let no : false ≡ true = h in cc)
      by (Some row) at h = let k = back table number row at in (k.0, ap (has_key columns key) k.1 ∙ h, k.2)

  has_forth : (table : ℕ) (columns : List ℕ) (key : List Value) (number : ℕ) → has_key columns key (get (old table) number) ≡ true → has_key columns key (get (new table) (final number)) ≡ true
  has_forth table columns key number = by (get (old table) number) refl
    where
      by : (o : Option (List Value)) → get (old table) number ≡ o → has_key columns key o ≡ true → has_key columns key (get (new table) (final number)) ≡ true
      by None at h = absurd (let no : false ≡ true = h in cc)
      by (Some row) at h = ap (has_key columns key) (forth table number row at) ∙ h

  once_renamed : (columns : List ℕ) (table : ℕ) → IsUnique columns (old table) → IsUnique columns (new table)
  once_renamed columns table once key a b ha hb =
      let k = has_back table columns key a ha in
      let l = has_back table columns key b hb in
      sym k.2 ∙ ap final (once key k.0 l.0 k.1 l.1) ∙ l.2

  holder_at : (columns : List ℕ) (key : List Value) → (o : Option TableNo) → Holder columns key (option_map_or (λ (table : TableNo). old table.0) o empty) → Holder columns key (option_map_or (λ (table : TableNo). new table.0) o empty)
  holder_at columns key None h = h
  holder_at columns key (Some n) h = record { number = final h.number; holds = has_forth n.0 columns key h.number h.holds }

  module _ (checks : Checks) (things : Things) where
    rule_renamed : (table : ℕ) (r : Rule) → Meets checks things old table r → Meets checks things new table r
    rule_renamed table (rule.NotNull column) h = each_renamed (λ row. has_null (key_in (column ∷ []) row) ≡ false) table h
    rule_renamed table (rule.PrimaryKey columns) h = (each_renamed (λ row. has_null (key_in columns row) ≡ false) table h.0, once_renamed columns table h.1)
    rule_renamed table (rule.Unique columns) h = once_renamed columns table h
    rule_renamed table (rule.Check condition) h = each_renamed (λ row. checks condition row ≡ true) table h
    rule_renamed table (rule.ForeignKey key) h = λ k number named.
        let b = has_back table key.columns k number named in
        holder_at key.parent_columns k (number_of things key.parent) (h k b.0 b.1)
    rule_renamed table (rule.Index columns) h = tt

    pub met_renamed : MeetsAll checks things old → MeetsAll checks things new
    met_renamed h c found = rule_renamed c.0 c.1.rule (h c found)
