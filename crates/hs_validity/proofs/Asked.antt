-- All constraints hold exactly where each has its sentence.
use Rattle.std.proofs.Common.{◌≡◌, inl, inr, ℕ, Bool, true, false, not, if◌then◌else◌, List, [], ◌∷◌, map, Option, Some, None, refl, sym, ap, ◌∙◌}
use Rattle.std.proofs.lemmas.Bool.{both_ways, false_from_ne_true, not-false}
use Rattle.std.specs.FinMap.{get}
use Rattle.std.specs.List.{Contains}
use Rattle.std.specs.Option.{option_or}
use Rattle.hs_plan.specs.declared.definition.Rule.{Rule}
use Rattle.hs_plan.specs.declared.definition.Rule.TheVariants as rule
use Rattle.hs_values.specs.declared.value.Value.{Value}
use Rattle.hs_index.specs.Keys.{key_in, same_key}
use Rattle.hs_index.specs.Table.{Rows, has_key}
use Rattle.hs_changes.specs.Settings.{Maps}
use Rattle.hs_rel.proofs.Selecting.{at_head, head_or_tail, in_tail, nothing_in}
use Rattle.hs_schema.specs.Catalogue.{Text, Things}
use Rattle.hs_sentences.specs.declared.violation.Violation.{Violation}
use Rattle.hs_sentences.specs.declared.violation.Violation.TheVariants as is
use Rattle.hs_sentences.specs.Asking.{Test, any_row, any_of}
use Rattle.hs_sentences.specs.Sentences.{has_gap, is_double, is_orphan}
use Rattle.hs_sentences.specs.Violations.{AllHold, Checks, Touched, constraints_of, first_some, first_violated, orphans, parents_of, violated, violation}
use Rattle.hs_sentences.proofs.Looking.{Found, any_row-found, any_row-from}
use Rattle.hs_sentences.proofs.Said.{unique_is, foreign_is}
use Rattle.hs_validity.specs.Meeting.{HasParents, Holder, IsUnique, Meets, MeetsAll}
use Rattle.hs_validity.proofs.Equal.{has_key-from, has_key-parts, has_own, own_full, same_through, same_turned}

-- ---- tests of rows

pub none_passes : (test : Test) (rows : Rows) → any_row test rows ≡ false → (number : ℕ) (row : List Value) → get rows number ≡ Some row → test number row ≡ false
none_passes test rows none number row there = false_from_ne_true (test number row) (λ passes. both_ways (any_row test rows) none (any_row-from test rows number row there passes))

pub none_from : (test : Test) (rows : Rows) → ((number : ℕ) (row : List Value) → get rows number ≡ Some row → test number row ≡ false) → any_row test rows ≡ false
none_from test rows fails = false_from_ne_true (any_row test rows) (λ h. let f : Found test rows = any_row-found test rows h in both_ways (test f.number f.row) (fails f.number f.row f.there) f.passes)

-- ---- keys

unique_to : (columns : List ℕ) (rows : Rows) → any_row (is_double columns rows) rows ≡ false → IsUnique columns rows
unique_to columns rows none key a b = by (get rows a) refl (get rows b) refl
  where
    by : (o : Option (List Value)) → get rows a ≡ o → (p : Option (List Value)) → get rows b ≡ p → has_key columns key o ≡ true → has_key columns key p ≡ true → a ≡ b
    by None at_a p at_b h k = absurd (let no : false ≡ true = h in cc)
    by (Some row) at_a None at_b h k = absurd (let no : false ≡ true = k in cc)
    by (Some row) at_a (Some its) at_b h k =
        let one = has_key-parts columns key row h in
        let other = has_key-parts columns key its k in
        (unique_is columns rows).0 none a b row its at_a at_b (own_full columns key row h) (same_through (key_in columns row) key (key_in columns its) (same_turned key (key_in columns row) one.0) other.0)

unique_from : (columns : List ℕ) (rows : Rows) → IsUnique columns rows → any_row (is_double columns rows) rows ≡ false
unique_from columns rows once = (unique_is columns rows).1 (λ a b row its at_a at_b full same.
    once (key_in columns row) a b
    (ap (has_key columns (key_in columns row)) at_a ∙ has_own columns row full)
    (ap (has_key columns (key_in columns row)) at_b ∙ has_key-from columns (key_in columns row) its same full))

parents_to : (columns parent_columns : List ℕ) (children parents : Rows) → any_row (is_orphan columns parent_columns parents) children ≡ false → HasParents columns parent_columns children parents
parents_to columns parent_columns children parents none key number = by (get children number) refl
  where
    by : (o : Option (List Value)) → get children number ≡ o → has_key columns key o ≡ true → Holder parent_columns key parents
    by None at h = absurd (let no : false ≡ true = h in cc)
    by (Some row) at h =
        let parts = has_key-parts columns key row h in
        let p = (foreign_is columns parent_columns children parents).0 none number row at (own_full columns key row h) in
        record {
          number = p.0;
          holds = ap (has_key parent_columns key) p.2 ∙ has_key-from parent_columns key p.1 (same_through key (key_in columns row) (key_in parent_columns p.1) parts.0 p.3) parts.1;
        }

parents_from : (columns parent_columns : List ℕ) (children parents : Rows) → HasParents columns parent_columns children parents → any_row (is_orphan columns parent_columns parents) children ≡ false
parents_from columns parent_columns children parents has = (foreign_is columns parent_columns children parents).1 (λ number row there full.
    let h = has (key_in columns row) number (ap (has_key columns (key_in columns row)) there ∙ has_own columns row full) in
    by (key_in columns row) h.number (get parents h.number) refl h.holds)
  where
    by : (key : List Value) (parent : ℕ) (o : Option (List Value)) → get parents parent ≡ o → has_key parent_columns key o ≡ true
        → (parent : ℕ) × (its : List Value) × (get parents parent ≡ Some its) × (same_key key (key_in parent_columns its) ≡ true)
    by key parent None at h = absurd (let no : false ≡ true = h in cc)
    by key parent (Some its) at h = (parent, its, at, (has_key-parts parent_columns key its h).0)

-- ---- one constraint

untold : (b : Bool) (v : Violation) (rest : Option Violation) → (if b then Some v else rest) ≡ None → (b ≡ false) × (rest ≡ None)
untold true v rest h = absurd (let no : Some v ≡ None = h in cc)
untold false v rest h = (refl, h)

module _ (checks : Checks) (things : Things) (maps : Maps) (table : ℕ) (name : Text) where
  abbrev shown : List ℕ → Rule → Option Violation
  shown touched r = violated checks things maps (λ test. any_row test (maps table)) (λ test. any_of touched test (maps table)) (λ key. any_row (orphans things maps key) (maps table)) table name r

  met : (touched : List ℕ) (r : Rule) → shown touched r ≡ None → Meets checks things maps table r
  met touched (rule.NotNull column) h = none_passes (has_gap (column ∷ [])) (maps table) (untold _ _ _ h).0
  met touched (rule.PrimaryKey columns) h =
      let first = untold _ _ _ h in
      (none_passes (has_gap columns) (maps table) first.0, unique_to columns (maps table) (untold _ _ _ first.1).0)
  met touched (rule.Unique columns) h = unique_to columns (maps table) (untold _ _ _ h).0
  met touched (rule.Check condition) h = λ number row there. not-false (checks condition row) (none_passes (λ number row. not (checks condition row)) (maps table) (untold _ _ _ h).0 number row there)
  met touched (rule.ForeignKey key) h = parents_to key.columns key.parent_columns (maps table) (parents_of things maps key) (untold _ _ _ (untold _ _ _ h).1).0
  met touched (rule.Index columns) h = tt

  unviolated : (r : Rule) → Meets checks things maps table r → shown [] r ≡ None
  unviolated (rule.NotNull column) h = ap (λ b. if b then Some (is.Null name) else None) (none_from (has_gap (column ∷ [])) (maps table) h)
  unviolated (rule.PrimaryKey columns) h =
      ap (λ b. if b then Some (is.Null name) else (if any_row (is_double columns (maps table)) (maps table) then Some (is.Unique name) else None)) (none_from (has_gap columns) (maps table) h.0)
      ∙ ap (λ b. if b then Some (is.Unique name) else None) (unique_from columns (maps table) h.1)
  unviolated (rule.Unique columns) h = ap (λ b. if b then Some (is.Unique name) else None) (unique_from columns (maps table) h)
  unviolated (rule.Check condition) h =
      ap (λ b. if b then Some (is.Check name) else None) (none_from (λ number row. not (checks condition row)) (maps table) (λ number row there. ap not (h number row there)))
  unviolated (rule.ForeignKey key) h =
      ap (λ b. if b then Some (is.Child name) else None) (parents_from key.columns key.parent_columns (maps table) (parents_of things maps key) h)
  unviolated (rule.Index columns) h = refl

-- ---- all of them

none_first : {X : Type 0} (x y : Option X) → option_or x y ≡ None → (x ≡ None) × (y ≡ None)
none_first None y h = (refl, h)
none_first (Some x) y h = absurd (let no : Some x ≡ None = h in cc)

none_at : {X Y : Type 0} (f : X → Option Y) (xs : List X) → first_some (map f xs) ≡ None → (x : X) → Contains xs x → f x ≡ None
none_at f [] h x found = absurd (nothing_in x found)
none_at f (y ∷ xs) h x found =
    let both = none_first (f y) (first_some (map f xs)) h in
    elim (head_or_tail y xs x found) [
      | inl here ↦ ap f (sym here) ∙ both.0
      | inr later ↦ none_at f xs both.1 x later
    ]

none_in_all : {X Y : Type 0} (f : X → Option Y) (xs : List X) → ((x : X) → Contains xs x → f x ≡ None) → first_some (map f xs) ≡ None
none_in_all f [] h = refl
none_in_all f (x ∷ xs) h = ap (λ o. option_or o (first_some (map f xs))) (h x (at_head x xs)) ∙ none_in_all f xs (λ y found. h y (in_tail x xs y found))

-- whichever rows are said to be touched
pub meets_all : (checks : Checks) (things : Things) (touched : Touched) (maps : Maps) → first_violated checks things touched maps ≡ None → MeetsAll checks things maps
meets_all checks things touched maps h c found =
    met checks things maps c.0 c.1.name (touched c.0) c.1.rule (none_at (violation checks things touched maps) (constraints_of things) h c found)

pub all_hold_from : (checks : Checks) (things : Things) (maps : Maps) → MeetsAll checks things maps → AllHold checks things maps
all_hold_from checks things maps h =
    none_in_all (violation checks things (λ table. []) maps) (constraints_of things) (λ c found. unviolated checks things maps c.0 c.1.name c.1.rule (h c found))
