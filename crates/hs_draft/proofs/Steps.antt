-- The first violation among the things of a catalogue, one thing after another.
use Rattle.std.proofs.Common.{◌≡◌, ℕ, suc, ◌+◌, ◌<◌, List, [], ◌∷◌, ◌++◌, map, drop, length, get_or, Option, Some, None, refl, sym, ap, ◌∙◌, drop-cons, add-one}
use Rattle.std.specs.Option.{option_or}
use Rattle.hs_changes.specs.Settings.{Maps}
use Rattle.hs_schema.specs.Catalogue.{Things, constraints_in}
use Rattle.hs_schema.specs.declared.thing.Thing.{Thing}
use Rattle.hs_sentences.specs.Violations.{Checks, first_some, constraints_of}
use Rattle.hs_draft.specs.Whole.{violation, violation_in, first_in}

-- of two lists the first that has one
first_of_both : {A X : Type 0} (f : A → Option X) (xs ys : List A) → first_some (map f (xs ++ ys)) ≡ option_or (first_some (map f xs)) (first_some (map f ys))
first_of_both f [] ys = refl
first_of_both f (x ∷ xs) ys = ap (option_or (f x)) (first_of_both f xs ys) ∙ by (f x)
  where
    by : (o : Option _) → option_or o (option_or (first_some (map f xs)) (first_some (map f ys))) ≡ option_or (option_or o (first_some (map f xs))) (first_some (map f ys))
    by None = refl
    by (Some v) = refl

-- that of a thing comes before those of the things behind it
pub first_step : (checks : Checks) (things : Things) (maps : Maps) (some : Things) (i : ℕ) (thing : Thing) → i < length some → thing ≡ get_or some i thing
    → first_in checks things maps (drop i some) ≡ option_or (violation_in checks things maps thing) (first_in checks things maps (drop (i + 1) some))
first_step checks things maps some i thing low is =
    ap (first_in checks things maps) (drop-cons some i thing low)
    ∙ first_of_both (violation checks things maps) (map (λ c. ((get_or some i thing).table.0, c)) (constraints_in (get_or some i thing).part)) (constraints_of (drop (suc i) some))
    ∙ ap (λ (t : Thing). option_or (violation_in checks things maps t) (first_in checks things maps (drop (suc i) some))) (sym is)
    ∙ ap (λ n. option_or (violation_in checks things maps thing) (first_in checks things maps (drop n some))) (sym (add-one i))
