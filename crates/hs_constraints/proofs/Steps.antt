-- The first violation among the things of a catalogue, one thing after another.
use Rattle.std.proofs.Common.{◌≡◌, ℕ, suc, ◌+◌, ◌<◌, List, [], ◌∷◌, ◌++◌, map, drop, length, get_or, Option, Some, None, refl, sym, ap, ◌∙◌, drop-cons, add-one}
use Rattle.std.specs.Option.{option_or}
use Rattle.hs_schema.specs.Catalogue.{Things, constraints_in}
use Rattle.hs_schema.specs.declared.thing.Thing.{Thing}
use Rattle.hs_sentences.specs.declared.violation.Violation.{Violation}
use Rattle.hs_sentences.specs.Violations.{first_some, constraints_of, violation_by_touched}
use Rattle.hs_constraints.specs.Changed.{Changed, violation_in}

-- of two lists the first that has one
first_of_both : {A X : Type 0} (f : A → Option X) (xs ys : List A) → first_some (map f (xs ++ ys)) ≡ option_or (first_some (map f xs)) (first_some (map f ys))
first_of_both f [] ys = refl
first_of_both f (x ∷ xs) ys = ap (option_or (f x)) (first_of_both f xs ys) ∙ by (f x)
  where
    by : (o : Option _) → option_or o (option_or (first_some (map f xs)) (first_some (map f ys))) ≡ option_or (option_or o (first_some (map f xs))) (first_some (map f ys))
    by None = refl
    by (Some v) = refl

-- the first violation among these things
abbrev pub first_among : Changed → Things → Option Violation
first_among changed things = first_some (map (violation_by_touched changed.checks changed.things changed.touched changed.before changed.after) (constraints_of things))

-- that of a thing comes before those of the things behind it
pub first_step : (changed : Changed) (things : Things) (i : ℕ) (thing : Thing) → i < length things → thing ≡ get_or things i thing → first_among changed (drop i things) ≡ option_or (violation_in changed thing) (first_among changed (drop (i + 1) things))
first_step changed things i thing low is =
    ap (first_among changed) (drop-cons things i thing low)
    ∙ first_of_both (violation_by_touched changed.checks changed.things changed.touched changed.before changed.after) (map (λ c. ((get_or things i thing).table.0, c)) (constraints_in (get_or things i thing).part)) (constraints_of (drop (suc i) things))
    ∙ ap (λ (t : Thing). option_or (violation_in changed t) (first_among changed (drop (suc i) things))) (sym is)
    ∙ ap (λ n. option_or (violation_in changed thing) (first_among changed (drop n things))) (sym (add-one i))
