-- Keys among the constraints of a table, and the foreign keys that reference them.
use Rattle.std.proofs.Common.{◌≡◌, ℕ, ◌+◌, ◌==◌, Bool, true, false, cond, ◌&&◌, ◌||◌, length, position, List, [], ◌∷◌, ◌++◌, Option, Some, None, is_some, refl, sym, ap, ◌∙◌}
use Rattle.std.proofs.lemmas.Bool.{and_from, and_parts, or_left}
use Rattle.std.proofs.lemmas.Iterator.Adapters.{position_from-zero}
use Rattle.std.proofs.lemmas.List.Folds.{list_any-append}
use Rattle.std.specs.List.{list_any, position_from}
use Rattle.std.specs.Option.{option_map_or}
use Rattle.hs_plan.specs.declared.definition.Constraint.{Constraint}
use Rattle.hs_plan.specs.declared.definition.Definition.{Definition}
use Rattle.hs_plan.specs.declared.definition.ForeignKey.{ForeignKey}
use Rattle.hs_plan.specs.declared.definition.Rule.{Rule}
use Rattle.hs_plan.specs.declared.definition.Rule.TheVariants as rule
use Rattle.hs_schema.specs.Catalogue.{Text, Things, table_named}
use Rattle.hs_schema.specs.declared.table.Table.{Table}
use Rattle.hs_language.specs.Sound.{is_sound_rule, references_key_of}
use Rattle.hs_language.specs.Added.{constraints_named, constraints_seen}
use Rattle.hs_language.specs.Proper.{has_key_over, is_key_over, rule_refers}

-- ---- places

module _ {X : Type 0} (p : X → Bool) where
  some_from : (at : ℕ) (xs : List X) → is_some (position_from p at xs) ≡ list_any p xs
  some_from at [] = refl
  some_from at (x ∷ xs) = by (p x) (some_from (at + 1) xs)
    where
      by : (b : Bool) → is_some (position_from p (at + 1) xs) ≡ list_any p xs → is_some (cond b (Some at) (position_from p (at + 1) xs)) ≡ (b || list_any p xs)
      by true rest = refl
      by false rest = rest

  pub some_position : (xs : List X) → is_some (position p xs) ≡ list_any p xs
  some_position xs = ap is_some (position_from-zero p xs) ∙ some_from 0 xs

-- ---- foreign keys

-- it has as many columns as it references, and these are those of a key of its parent
abbrev pub is_referenced : Things → ForeignKey → Bool
is_referenced things key = (length key.columns == length key.parent_columns) && has_key_over (constraints_named things key.parent) key.parent_columns

nothing : (b : Bool) → false ≡ (b && false)
nothing true = refl
nothing false = refl

pub sound_key : (things : Things) (key : ForeignKey) → is_sound_rule things (rule.ForeignKey key) ≡ is_referenced things key
sound_key things key = by (table_named things key.parent)
  where
    by : (o : Option Table) → option_map_or (references_key_of key) o false ≡ ((length key.columns == length key.parent_columns) && has_key_over (option_map_or (λ (t : Table). t.constraints) o []) key.parent_columns)
    by None = nothing (length key.columns == length key.parent_columns)
    by (Some t) = ap (λ b. (length key.columns == length key.parent_columns) && b) (some_position (is_key_over key.parent_columns) t.constraints)

module _ (before after : Things) where
  -- a rule stays sound, where a foreign key that it is stays referenced
  pub rule_kept : (r : Rule) → ((key : ForeignKey) → r ≡ rule.ForeignKey key → is_referenced before key ≡ true → is_referenced after key ≡ true) → is_sound_rule before r ≡ true → is_sound_rule after r ≡ true
  rule_kept (rule.ForeignKey key) so h = sound_key after key ∙ so key refl (sym (sound_key before key) ∙ h)
  rule_kept (rule.NotNull column) so h = refl
  rule_kept (rule.PrimaryKey columns) so h = refl
  rule_kept (rule.Unique columns) so h = refl
  rule_kept (rule.Check condition) so h = refl
  rule_kept (rule.Index columns) so h = refl

  -- so it does where tables get more constraints
  pub kept_with_more : (more : Text → List Constraint) → ((name : Text) → constraints_named after name ≡ constraints_named before name ++ more name) → (key : ForeignKey) → is_referenced before key ≡ true → is_referenced after key ≡ true
  kept_with_more more same key h =
      let parts = and_parts (length key.columns == length key.parent_columns) _ h in
      and_from (length key.columns == length key.parent_columns) _ parts.0
      (ap (λ cs. has_key_over cs key.parent_columns) (same key.parent) ∙ list_any-append (is_key_over key.parent_columns) (constraints_named before key.parent) (more key.parent)
      ∙ or_left _ _ parts.1)

  -- a foreign key that is new is sound by what it refers to
  pub rule_new : (definition : Definition) → ((name : Text) → constraints_named after name ≡ constraints_seen before definition name) → (r : Rule) → rule_refers before definition r ≡ true → is_sound_rule after r ≡ true
  rule_new definition same (rule.ForeignKey key) h = sound_key after key ∙ ap (λ cs. (length key.columns == length key.parent_columns) && has_key_over cs key.parent_columns) (same key.parent) ∙ h
  rule_new definition same (rule.NotNull column) h = refl
  rule_new definition same (rule.PrimaryKey columns) h = refl
  rule_new definition same (rule.Unique columns) h = refl
  rule_new definition same (rule.Check condition) h = refl
  rule_new definition same (rule.Index columns) h = refl
