-- What constraints say of rows tells of the tables of a catalogue alone.
use Rattle.std.proofs.Common.{◌≡◌, ℕ, Bool, true, false, cond, not, [], ◌∷◌, ◌++◌, map, Some, None, refl, ap, if◌then◌else◌}
use Rattle.std.proofs.lemmas.List.Elements.{All-head, All-tail}
use Rattle.std.specs.FinMap.{empty}
use Rattle.std.specs.List.{All}
use Rattle.std.specs.Map.{lookup}
use Rattle.std.specs.Option.{option_map_or, option_or}
use Rattle.std.specs.Str.{bytes_eq}
use Rattle.hs_base.specs.declared.numbers.TableNo.{TableNo}
use Rattle.hs_changes.specs.Settings.{Maps}
use Rattle.hs_index.specs.Table.{Rows}
use Rattle.hs_plan.specs.declared.definition.ForeignKey.{ForeignKey}
use Rattle.hs_plan.specs.declared.definition.Rule.{Rule}
use Rattle.hs_plan.specs.declared.definition.Rule.TheVariants as rule
use Rattle.hs_schema.specs.Catalogue.{Text, Things, constraints_in, named, named_in}
use Rattle.hs_schema.specs.declared.thing.Part.{Part}
use Rattle.hs_schema.specs.declared.thing.Part.TheVariants as part
use Rattle.hs_schema.specs.declared.thing.Thing.{Thing}
use Rattle.hs_sentences.specs.declared.violation.Violation.TheVariants as is
use Rattle.hs_sentences.specs.Asking.{any_of, any_row}
use Rattle.hs_sentences.specs.Sentences.{has_gap, is_double, is_orphan}
use Rattle.hs_sentences.specs.Violations.{Checks, Touched, constraints_of, first_some, first_violated, parents_of, violated, violation, orphans}

-- both have the same rows in each table to which one of these things belongs
abbrev pub AreSame : Maps → Maps → Things → Type 0
AreSame maps others things = All (λ (t : Thing). maps t.table.0 ≡ others t.table.0) things

module _ (maps others : Maps) where
  -- ---- parents

  parents_among : (name : Text) (some : Things) → AreSame maps others some
      → option_map_or (λ (t : TableNo). maps t.0) (lookup (bytes_eq name) (named some)) empty ≡ option_map_or (λ (t : TableNo). others t.0) (lookup (bytes_eq name) (named some)) empty
  parents_among name [] same = refl
  parents_among name (x ∷ xs) same = by x.part (All-head (λ (t : Thing). maps t.table.0 ≡ others t.table.0) x xs same) (parents_among name xs (All-tail (λ (t : Thing). maps t.table.0 ≡ others t.table.0) x xs same))
    where
      at : (b : Bool) → maps x.table.0 ≡ others x.table.0
          → option_map_or (λ (t : TableNo). maps t.0) (lookup (bytes_eq name) (named xs)) empty ≡ option_map_or (λ (t : TableNo). others t.0) (lookup (bytes_eq name) (named xs)) empty
          → option_map_or (λ (t : TableNo). maps t.0) (cond b (Some x.table) (lookup (bytes_eq name) (named xs))) empty ≡ option_map_or (λ (t : TableNo). others t.0) (cond b (Some x.table) (lookup (bytes_eq name) (named xs))) empty
      at true here rest = here
      at false here rest = rest

      by : (p : Part) → maps x.table.0 ≡ others x.table.0
          → option_map_or (λ (t : TableNo). maps t.0) (lookup (bytes_eq name) (named xs)) empty ≡ option_map_or (λ (t : TableNo). others t.0) (lookup (bytes_eq name) (named xs)) empty
          → option_map_or (λ (t : TableNo). maps t.0) (lookup (bytes_eq name) (named_in x.table p ++ named xs)) empty ≡ option_map_or (λ (t : TableNo). others t.0) (lookup (bytes_eq name) (named_in x.table p ++ named xs)) empty
      by (part.Table its storage columns) here rest = at (bytes_eq name its) here rest
      by (part.Column column) here rest = rest
      by (part.Constraint constraint) here rest = rest

  module _ (checks : Checks) (things : Things) (touched : Touched) (same : AreSame maps others things) where
    parents : (key : ForeignKey) → parents_of things maps key ≡ parents_of things others key
    parents key = parents_among key.parent things same

    -- ---- one constraint

    its_rule : (table : ℕ) (name : Text) (r : Rule) → maps table ≡ others table
        → violated checks things maps (λ test. any_row test (maps table)) (λ test. any_of (touched table) test (maps table)) (λ key. any_row (orphans things maps key) (maps table)) table name r
        ≡ violated checks things others (λ test. any_row test (others table)) (λ test. any_of (touched table) test (others table)) (λ key. any_row (orphans things others key) (others table)) table name r
    its_rule table name (rule.NotNull column) here = ap (λ (rows : Rows). if any_row (has_gap (column ∷ [])) rows then Some (is.Null name) else None) here
    its_rule table name (rule.PrimaryKey columns) here =
        ap (λ (rows : Rows). if any_row (has_gap columns) rows then Some (is.Null name) else (if any_row (is_double columns rows) rows then Some (is.Unique name) else None)) here
    its_rule table name (rule.Unique columns) here = ap (λ (rows : Rows). if any_row (is_double columns rows) rows then Some (is.Unique name) else None) here
    its_rule table name (rule.Check condition) here = ap (λ (rows : Rows). if any_row (λ number row. not (checks condition row)) rows then Some (is.Check name) else None) here
    its_rule table name (rule.ForeignKey key) here = λ i.
        if any_of (touched table) (is_orphan key.columns key.parent_columns (parents key i)) (here i) then Some (is.Parent name)
        else (if any_row (is_orphan key.columns key.parent_columns (parents key i)) (here i) then Some (is.Child name) else None)
    its_rule table name (rule.Index columns) here = refl

    -- ---- all of them

    among : (some : Things) → AreSame maps others some
        → first_some (map (violation checks things touched maps) (constraints_of some)) ≡ first_some (map (violation checks things touched others) (constraints_of some))
    among [] so = refl
    among (x ∷ xs) so = by x.part (All-head (λ (t : Thing). maps t.table.0 ≡ others t.table.0) x xs so) (among xs (All-tail (λ (t : Thing). maps t.table.0 ≡ others t.table.0) x xs so))
      where
        by : (p : Part) → maps x.table.0 ≡ others x.table.0
            → first_some (map (violation checks things touched maps) (constraints_of xs)) ≡ first_some (map (violation checks things touched others) (constraints_of xs))
            → first_some (map (violation checks things touched maps) (map (λ c. (x.table.0, c)) (constraints_in p) ++ constraints_of xs))
            ≡ first_some (map (violation checks things touched others) (map (λ c. (x.table.0, c)) (constraints_in p) ++ constraints_of xs))
        by (part.Table its storage columns) here rest = rest
        by (part.Column column) here rest = rest
        by (part.Constraint c) here rest = λ i. option_or (its_rule x.table.0 c.name c.rule here i) (rest i)

    pub same_violated : first_violated checks things touched maps ≡ first_violated checks things touched others
    same_violated = among things same
