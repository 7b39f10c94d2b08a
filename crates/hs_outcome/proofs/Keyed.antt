-- The foreign keys of a catalogue, as the language lists them.
use Rattle.std.proofs.Common.{◌≡◌, ℕ, Bool, true, false, ◌&&◌, ◌||◌, ◌==◌, cond, [], ◌∷◌, ◌++◌, Some, if◌then◌else◌, refl, sym, ap, ◌∙◌}
use Rattle.std.proofs.lemmas.Bool.{eqb-true}
use Rattle.std.specs.List.{flat_map}
use Rattle.std.specs.Map.{lookup}
use Rattle.std.specs.Option.{unwrap_or}
use Rattle.hs_changes.proofs.Set.{ties_are_equal}
use Rattle.hs_schema.specs.Catalogue.{Things, is_table}
use Rattle.hs_actions.specs.Referencing.{is, keys_on}
use Rattle.hs_references.specs.Collected.{has_table, table_of}
use Rattle.hs_references.specs.Referenced.{AreOf, references_on}
use Rattle.hs_references.proofs.Collecting.{all_told}
use Rattle.hs_language.specs.Outcomes.{keys_at, keys_in}

found_in : (things xs : Things) (n : ℕ) → keys_on (flat_map (keys_at things) xs) n ≡ cond (has_table xs n) (references_on things (table_of n)) []
found_in things [] n = refl
found_in things (x ∷ xs) n = by (is_table x.part) (found_in things xs n)
  where
    by : (b : Bool) → keys_on (flat_map (keys_at things) xs) n ≡ cond (has_table xs n) (references_on things (table_of n)) []
        → keys_on ((if b then (x.table.0, references_on things x.table) ∷ [] else []) ++ flat_map (keys_at things) xs) n ≡ cond ((b && (n == x.table.0)) || has_table xs n) (references_on things (table_of n)) []
    by false rest = rest
    by true rest = ap (λ b. unwrap_or (cond b (Some (references_on things x.table)) (lookup (is n) (flat_map (keys_at things) xs))) []) (ties_are_equal n x.table.0) ∙ at (n == x.table.0) refl
      where
        at : (b : Bool) → (n == x.table.0) ≡ b → unwrap_or (cond b (Some (references_on things x.table)) (lookup (is n) (flat_map (keys_at things) xs))) [] ≡ cond (b || has_table xs n) (references_on things (table_of n)) []
        at true same = ap (λ m. references_on things (table_of m)) (sym (eqb-true n x.table.0 same))
        at false other = rest

-- they are those of the catalogue
pub keys_are : (things : Things) → AreOf things (keys_in things)
keys_are things table = found_in things things table.0 ∙ all_told things table
