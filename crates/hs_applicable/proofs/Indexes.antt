-- Tests of all constraints of a catalogue, thing by thing.
use Rattle.std.proofs.Common.{◌≡◌, ℕ, Bool, true, false, cond, not, ◌&&◌, ◌||◌, List, [], ◌∷◌, map, find, Option, Some, None, refl, sym, ap, ◌∙◌}
use Rattle.std.specs.Prelude.{is_none, is_some}
use Rattle.std.proofs.lemmas.List.Folds.{list_all-append, list_any-append}
use Rattle.std.specs.List.{flat_map, list_all, list_any}
use Rattle.std.specs.Option.{option_map}
use Rattle.hs_language.specs.Definitions.{first_name}
use Rattle.hs_plan.specs.declared.definition.Constraint.{Constraint}
use Rattle.hs_schema.specs.Catalogue.{Things, constraints_in}
use Rattle.hs_schema.specs.declared.thing.Thing.{Thing}
use Rattle.hs_sentences.specs.Violations.{constraints_of}

module _ {X Y : Type 0} (p : Y → Bool) (f : X → List Y) where
  pub all_flat : (xs : List X) → list_all (λ x. list_all p (f x)) xs ≡ list_all p (flat_map f xs)
  all_flat [] = refl
  all_flat (x ∷ xs) = ap (λ b. list_all p (f x) && b) (all_flat xs) ∙ sym (list_all-append p (f x) (flat_map f xs))

  any_flat : (xs : List X) → list_any (λ x. list_any p (f x)) xs ≡ list_any p (flat_map f xs)
  any_flat [] = refl
  any_flat (x ∷ xs) = ap (λ b. list_any p (f x) || b) (any_flat xs) ∙ sym (list_any-append p (f x) (flat_map f xs))

some_found : (p : (ℕ × Constraint) → Bool) (cs : List (ℕ × Constraint)) → list_any p cs ≡ is_some (option_map (λ (c : ℕ × Constraint). c.1.name) (find p cs))
some_found p [] = refl
some_found p (c ∷ cs) = by (p c) (some_found p cs)
  where
    by : (b : Bool) → list_any p cs ≡ is_some (option_map (λ (k : ℕ × Constraint). k.1.name) (find p cs))
        → (b || list_any p cs) ≡ is_some (option_map (λ (k : ℕ × Constraint). k.1.name) (cond b (Some c) (find p cs)))
    by true rest = refl
    by false rest = rest

-- one constraint passes a test exactly where the first that does has a name
pub some_named : (p : (ℕ × Constraint) → Bool) (things : Things) → list_any (λ (t : Thing). list_any p (map (λ c. (t.table.0, c)) (constraints_in t.part))) things ≡ is_some (first_name p things)
some_named p things = any_flat p (λ (t : Thing). map (λ c. (t.table.0, c)) (constraints_in t.part)) things ∙ some_found p (constraints_of things)

-- all pass a test exactly where those of each thing do
pub all_named : (p : (ℕ × Constraint) → Bool) (things : Things) → list_all (λ (t : Thing). list_all p (map (λ c. (t.table.0, c)) (constraints_in t.part))) things ≡ list_all p (constraints_of things)
all_named p things = all_flat p (λ (t : Thing). map (λ c. (t.table.0, c)) (constraints_in t.part)) things

pub none_is_not_some : {X : Type 0} (o : Option X) → not (is_some o) ≡ is_none o
none_is_not_some None = refl
none_is_not_some (Some x) = refl
