-- The first constraint that passes a test, one thing after another.
use Rattle.std.proofs.Common.{◌≡◌, ℕ, suc, ◌+◌, ◌<◌, Bool, true, false, cond, ◌++◌, ◌∷◌, map, find, drop, length, get_or, Some, None, refl, sym, ap, ◌∙◌, drop-cons, add-one}
use Rattle.std.specs.Option.{option_map, option_or}
use Rattle.hs_language.specs.Definitions.{first_name}
use Rattle.hs_plan.specs.declared.definition.Constraint.{Constraint}
use Rattle.hs_schema.specs.Catalogue.{Things, constraints_in}
use Rattle.hs_schema.specs.declared.thing.Part.{Part}
use Rattle.hs_schema.specs.declared.thing.Part.TheVariants as part
use Rattle.hs_schema.specs.declared.thing.Thing.{Thing}
use Rattle.hs_sentences.specs.Violations.{constraints_of}
use Rattle.hs_redefining.specs.Dropped.{name_in}

one_more : (test : (ℕ × Constraint) → Bool) (x : Thing) (xs : Things) → first_name test (x ∷ xs) ≡ option_or (name_in test x.table.0 x.part) (first_name test xs)
one_more test x xs = by x.part
  where
    at : (c : Constraint) (b : Bool) → option_map (λ (k : ℕ × Constraint). k.1.name) (cond b (Some (x.table.0, c)) (find test (constraints_of xs))) ≡ option_or (cond b (Some c.name) None) (first_name test xs)
    at c true = refl
    at c false = refl

    by : (p : Part) → option_map (λ (k : ℕ × Constraint). k.1.name) (find test (map (λ c. (x.table.0, c)) (constraints_in p) ++ constraints_of xs)) ≡ option_or (name_in test x.table.0 p) (first_name test xs)
    by (part.Table name storage columns) = refl
    by (part.Column column) = refl
    by (part.Constraint c) = at c (test (x.table.0, c))

-- that of a thing comes before those of the things behind it
pub first_step : (test : (ℕ × Constraint) → Bool) (things : Things) (i : ℕ) (thing : Thing) → i < length things → thing ≡ get_or things i thing
    → first_name test (drop i things) ≡ option_or (name_in test thing.table.0 thing.part) (first_name test (drop (i + 1) things))
first_step test things i thing low is =
    ap (first_name test) (drop-cons things i thing low)
    ∙ one_more test (get_or things i thing) (drop (suc i) things)
    ∙ ap (λ (t : Thing). option_or (name_in test t.table.0 t.part) (first_name test (drop (suc i) things))) (sym is)
    ∙ ap (λ n. option_or (name_in test thing.table.0 thing.part) (first_name test (drop n things))) (sym (add-one i))
