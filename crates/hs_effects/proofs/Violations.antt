-- Which constraint is violated first depends on the tables that are written, on their parents and on their children.
use Rattle.std.proofs.Common.{◌≡◌, inl, inr, ℕ, Bool, true, false, ◌==◌, List, [], ◌∷◌, map, Option, None, Some, refl, sym, ap, subst, ◌∙◌}
use Rattle.std.specs.FinMap.{empty}
use Rattle.std.specs.List.{Contains}
use Rattle.std.specs.Option.{option_map_or, option_or}
use Rattle.std.specs.Prelude.{if◌then◌else◌, not}
use Rattle.std.proofs.lemmas.Bool.{cases_Bool, cond-false, ne_eqb}
use Rattle.hs_base.specs.declared.numbers.TableNo.{TableNo}
use Rattle.hs_plan.specs.declared.definition.Constraint.{Constraint}
use Rattle.hs_plan.specs.declared.definition.ForeignKey.{ForeignKey}
use Rattle.hs_plan.specs.declared.definition.Rule.{Rule}
use Rattle.hs_plan.specs.declared.definition.Rule.TheVariants as rule
use Rattle.hs_schema.specs.Catalogue.{Things, number_of}
use Rattle.hs_index.specs.Table.{Rows}
use Rattle.hs_changes.specs.Settings.{Maps, Setting, set_row, set_rows, with_values}
use Rattle.hs_rel.proofs.Selecting.{at_head, head_or_tail, in_tail, nothing_in}
use Rattle.hs_sentences.specs.declared.violation.Violation.{Violation}
use Rattle.hs_sentences.specs.declared.violation.Violation.TheVariants as is
use Rattle.hs_sentences.specs.Asking.{any_of, any_row}
use Rattle.hs_sentences.specs.Sentences.{has_gap, is_double, is_orphan}
use Rattle.hs_sentences.specs.Violations.{AllHold, Checks, Touched, constraints_of, first_some, first_violated, orphans, parents_of, violated, violation}
use Rattle.hs_effects.specs.Effects.{AgreeOn, IsRead}

-- ---- rows that are set

-- a table's rows after settings depend on its rows before
pub set_same : (a b : Maps) (settings : List Setting) (t : ℕ) → a t ≡ b t → set_rows a settings t ≡ set_rows b settings t
set_same a b [] t same = same
set_same a b (s ∷ settings) t same =
    set_same (set_row a s) (set_row b s) settings t (λ i. if t == s.table then with_values (same i) s.row s.values else same i)

-- a table of which no row is set stays as it is
pub set_elsewhere : (a : Maps) (settings : List Setting) (t : ℕ) → ((s : Setting) → Contains settings s → t ≡ s.table → ⊥) → set_rows a settings t ≡ a t
set_elsewhere a [] t other = refl
set_elsewhere a (s ∷ settings) t other =
    set_elsewhere (set_row a s) settings t (λ x found. other x (in_tail s settings x found))
    ∙ cond-false _ _ _ (ne_eqb t s.table (other s (at_head s settings)))

-- ---- the first of several

none_first : {X : Type 0} (x y : Option X) → option_or x y ≡ None → (x ≡ None) × (y ≡ None)
none_first None y h = (refl, h)
none_first (Some x) y h = absurd (cc)

none_at : {X Y : Type 0} (f : X → Option Y) (xs : List X) → first_some (map f xs) ≡ None → (x : X) → Contains xs x → f x ≡ None
none_at f [] h x found = absurd (nothing_in x found)
none_at f (y ∷ xs) h x found =
    let both = none_first (f y) (first_some (map f xs)) h in
    elim (head_or_tail y xs x found) [
      | inl here ↦ ap f (sym here) ∙ both.0
      | inr later ↦ none_at f xs both.1 x later
    ]

same_map : {X Y : Type 0} (f g : X → Y) (xs : List X) → ((x : X) → Contains xs x → f x ≡ g x) → map f xs ≡ map g xs
same_map f g [] same = refl
same_map f g (x ∷ xs) same =
    let first = same x (at_head x xs) in
    let rest = same_map f g xs (λ y found. same y (in_tail x xs y found)) in
    λ i. first i ∷ rest i

-- ---- one constraint

module _ (checks : Checks) (things : Things) (c : ℕ × Constraint) where
  -- how a rule is violated in a table with these rows, of which these were touched, and with these rows of the parent
  abbrev shown : Rows → Rows → List ℕ → Rule → Option Violation
  shown own parents touched (rule.NotNull column) = if any_row (has_gap (column ∷ [])) own then Some (is.Null c.1.name) else None
  shown own parents touched (rule.PrimaryKey columns) = if any_row (has_gap columns) own then Some (is.Null c.1.name) else (if any_row (is_double columns own) own then Some (is.Unique c.1.name) else None)
  shown own parents touched (rule.Unique columns) = if any_row (is_double columns own) own then Some (is.Unique c.1.name) else None
  shown own parents touched (rule.Check condition) = if any_row (λ number row. not (checks condition row)) own then Some (is.Check c.1.name) else None
  shown own parents touched (rule.ForeignKey key) =
      if any_of touched (is_orphan key.columns key.parent_columns parents) own then Some (is.Parent c.1.name)
      else (if any_row (is_orphan key.columns key.parent_columns parents) own then Some (is.Child c.1.name) else None)
  shown own parents touched (rule.Index columns) = None

  abbrev parents_in : Maps → Rule → Rows
  parents_in maps (rule.ForeignKey key) = parents_of things maps key
  parents_in maps r = empty

  abbrev violated_as : Touched → Maps → Rule → Option Violation
  violated_as touched maps r = violated checks things maps (λ test. any_row test (maps c.0)) (λ test. any_of (touched c.0) test (maps c.0)) (λ key. any_row (orphans things maps key) (maps c.0)) c.0 c.1.name r

  spelled : (touched : Touched) (maps : Maps) (r : Rule) → violated_as touched maps r ≡ shown (maps c.0) (parents_in maps r) (touched c.0) r
  spelled touched maps (rule.NotNull column) = refl
  spelled touched maps (rule.PrimaryKey columns) = refl
  spelled touched maps (rule.Unique columns) = refl
  spelled touched maps (rule.Check condition) = refl
  spelled touched maps (rule.ForeignKey key) = refl
  spelled touched maps (rule.Index columns) = refl

-- ---- two states of the tables

module _ (checks : Checks) (things : Things) (touched : Touched) (set written : ℕ → Bool) (a b : Maps) (settings : List Setting) (read : IsRead things set written) (agree : AgreeOn a b set) (sets : (s : Setting) → Contains settings s → written s.table ≡ true) (untouched : (t : ℕ) → written t ≡ false → touched t ≡ []) (hold_a : AllHold checks things a) (hold_b : AllHold checks things b) where
  not_written : (t : ℕ) → set t ≡ false → written t ≡ false
  not_written t out = elim (cases_Bool (written t)) [
    | inl is ↦ let clash : true ≡ false = sym (read.own t is) ∙ out in absurd (cc)
    | inr is ↦ is
  ]

  stays : (maps : Maps) (t : ℕ) → written t ≡ false → set_rows maps settings t ≡ maps t
  stays maps t out = set_elsewhere maps settings t (λ s found same. let clash : true ≡ false = sym (sets s found) ∙ ap written (sym same) ∙ out in absurd (cc))

  agrees : (t : ℕ) → set t ≡ true → set_rows a settings t ≡ set_rows b settings t
  agrees t inside = set_same a b settings t (agree t inside)

  module _ (c : ℕ × Constraint) (found : Contains (constraints_of things) c) where
    abbrev Shown : Maps → Rule → Option Violation
    Shown maps r = shown checks things c (maps c.0) (parents_in checks things c maps r) (touched c.0) r

    held : (maps : Maps) → AllHold checks things maps → (r : Rule) → c.1.rule ≡ r → shown checks things c (maps c.0) (parents_in checks things c maps r) [] r ≡ None
    held maps hold r is =
        subst (λ r. shown checks things c (maps c.0) (parents_in checks things c maps r) [] r ≡ None) is
        (sym (spelled checks things c (λ t. []) maps c.1.rule) ∙ none_at (violation checks things (λ t. []) maps) (constraints_of things) hold c found)

    none_in : (maps : Maps) → AllHold checks things maps → (r : Rule) → c.1.rule ≡ r → written c.0 ≡ false → parents_in checks things c (set_rows maps settings) r ≡ parents_in checks things c maps r → Shown (set_rows maps settings) r ≡ None
    none_in maps hold r is out parents =
        let own = stays maps c.0 out in
        let few = untouched c.0 out in
        (λ i. shown checks things c (own i) (parents i) (few i) r) ∙ held maps hold r is

    -- neither the table nor its parent is written
    lonely : (r : Rule) → c.1.rule ≡ r → written c.0 ≡ false → parents_in checks things c (set_rows a settings) r ≡ parents_in checks things c a r → parents_in checks things c (set_rows b settings) r ≡ parents_in checks things c b r → Shown (set_rows a settings) r ≡ Shown (set_rows b settings) r
    lonely r is out left right = none_in a hold_a r is out left ∙ sym (none_in b hold_b r is out right)

    -- the parent's rows don't tell
    alone : (r : Rule) → c.1.rule ≡ r → parents_in checks things c (set_rows a settings) r ≡ parents_in checks things c (set_rows b settings) r → parents_in checks things c (set_rows a settings) r ≡ parents_in checks things c a r → parents_in checks things c (set_rows b settings) r ≡ parents_in checks things c b r → Shown (set_rows a settings) r ≡ Shown (set_rows b settings) r
    alone r is both left right = elim (cases_Bool (set c.0)) [
      | inl inside ↦ let own = agrees c.0 inside in λ i. shown checks things c (own i) (both i) (touched c.0) r
      | inr out ↦ lonely r is (not_written c.0 out) left right
    ]

    parent_at : (maps : Maps) (key : ForeignKey) (p : TableNo) → number_of things key.parent ≡ Some p → parents_of things maps key ≡ maps p.0
    parent_at maps key p n = ap (λ o. option_map_or (λ (table : TableNo). maps table.0) o empty) n

    no_parent : (maps : Maps) (key : ForeignKey) → number_of things key.parent ≡ None → parents_of things maps key ≡ empty
    no_parent maps key n = ap (λ o. option_map_or (λ (table : TableNo). maps table.0) o empty) n

    with_parent : (key : ForeignKey) (p : TableNo) → c.1.rule ≡ rule.ForeignKey key → number_of things key.parent ≡ Some p → Shown (set_rows a settings) (rule.ForeignKey key) ≡ Shown (set_rows b settings) (rule.ForeignKey key)
    with_parent key p is n = elim (cases_Bool (set c.0)) [
      | inl inside ↦
          elim (cases_Bool (set p.0)) [
            | inl parent ↦
                let own = agrees c.0 inside in
                let both : parents_of things (set_rows a settings) key ≡ parents_of things (set_rows b settings) key = parent_at (set_rows a settings) key p n ∙ agrees p.0 parent ∙ sym (parent_at (set_rows b settings) key p n) in
                λ i. shown checks things c (own i) (both i) (touched c.0) (rule.ForeignKey key)
            | inr out ↦
                let child : written c.0 ≡ false = elim (cases_Bool (written c.0)) [
                  | inl here ↦ let clash : true ≡ false = sym (read.parents c key p found is n here) ∙ out in absurd (cc)
                  | inr here ↦ here
                ] in
                apart key p is n child (not_written p.0 out)
          ]
      | inr out ↦
          let parent : written p.0 ≡ false = elim (cases_Bool (written p.0)) [
            | inl here ↦ let clash : true ≡ false = sym (read.children c key p found is n here) ∙ out in absurd (cc)
            | inr here ↦ here
          ] in
          apart key p is n (not_written c.0 out) parent
    ]
      where
        apart : (key : ForeignKey) (p : TableNo) → c.1.rule ≡ rule.ForeignKey key → number_of things key.parent ≡ Some p → written c.0 ≡ false → written p.0 ≡ false → Shown (set_rows a settings) (rule.ForeignKey key) ≡ Shown (set_rows b settings) (rule.ForeignKey key)
        apart key p is n child parent =
            lonely (rule.ForeignKey key) is child
            (parent_at (set_rows a settings) key p n ∙ stays a p.0 parent ∙ sym (parent_at a key p n))
            (parent_at (set_rows b settings) key p n ∙ stays b p.0 parent ∙ sym (parent_at b key p n))

    by_parent : (key : ForeignKey) → c.1.rule ≡ rule.ForeignKey key → (o : Option TableNo) → number_of things key.parent ≡ o → Shown (set_rows a settings) (rule.ForeignKey key) ≡ Shown (set_rows b settings) (rule.ForeignKey key)
    by_parent key is None n =
        alone (rule.ForeignKey key) is
        (no_parent (set_rows a settings) key n ∙ sym (no_parent (set_rows b settings) key n))
        (no_parent (set_rows a settings) key n ∙ sym (no_parent a key n))
        (no_parent (set_rows b settings) key n ∙ sym (no_parent b key n))
    by_parent key is (Some p) n = with_parent key p is n

    shown_same : (r : Rule) → c.1.rule ≡ r → Shown (set_rows a settings) r ≡ Shown (set_rows b settings) r
    shown_same (rule.NotNull column) is = alone (rule.NotNull column) is refl refl refl
    shown_same (rule.PrimaryKey columns) is = alone (rule.PrimaryKey columns) is refl refl refl
    shown_same (rule.Unique columns) is = alone (rule.Unique columns) is refl refl refl
    shown_same (rule.Check condition) is = alone (rule.Check condition) is refl refl refl
    shown_same (rule.ForeignKey key) is = by_parent key is (number_of things key.parent) refl
    shown_same (rule.Index columns) is = refl

    violation_same : violation checks things touched (set_rows a settings) c ≡ violation checks things touched (set_rows b settings) c
    violation_same =
        spelled checks things c touched (set_rows a settings) c.1.rule
        ∙ shown_same c.1.rule refl
        ∙ sym (spelled checks things c touched (set_rows b settings) c.1.rule)

  pub first_same : first_violated checks things touched (set_rows a settings) ≡ first_violated checks things touched (set_rows b settings)
  first_same =
      ap first_some (same_map (violation checks things touched (set_rows a settings)) (violation checks things touched (set_rows b settings)) (constraints_of things) violation_same)
