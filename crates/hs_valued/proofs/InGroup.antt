-- What is gathered comes to all values, and the least fault.
use Rattle.std.proofs.Common.{◌≡◌, List, [], ◌∷◌, ◌++◌, map, fold, None, Result, Ok, Err, refl, sym, ap, ◌∙◌, append_assoc}
use Rattle.std.proofs.lemmas.List.{append-nil}
use Rattle.std.proofs.lemmas.List.Folds.{fold-map}
use Rattle.std.specs.List.{filter_map}
use Rattle.hs_values.specs.declared.fault.EvalFault.{EvalFault}
use Rattle.hs_values.specs.declared.value.Value.{Value}
use Rattle.hs_values.specs.Outcome.{Gives}
use Rattle.hs_expression.specs.Numbers.{Outcome}
use Rattle.hs_expression.specs.Outcomes.{value_in, fault_in, all_or_least}
use Rattle.hs_expression.specs.Expression.{value_in_group}
use Rattle.hs_expression.specs.Surroundings.{Surroundings, Valued}
use Rattle.hs_rel.specs.Selection.{lesser_of, unless}
use Rattle.hs_valued.specs.declared.gathered.Gathered.{Gathered}
use Rattle.hs_valued.specs.Gathering.{nothing, gathered}
use Rattle.hs_valued.specs.Parts.{in_group_by}

-- what is gathered, with these outcomes
abbrev with_all : Gathered → List Outcome → Gathered
with_all so_far outcomes = record { values = so_far.values ++ filter_map value_in outcomes; fault = fold lesser_of so_far.fault (filter_map fault_in outcomes) }

pub gathered_all : (so_far : Gathered) (outcomes : List Outcome) → fold gathered so_far outcomes ≡ with_all so_far outcomes
gathered_all so_far [] = λ i. record { values = sym (append-nil so_far.values) i; fault = so_far.fault }
gathered_all so_far (Ok x ∷ more) =
    gathered_all (gathered so_far (Ok x)) more
    ∙ (λ i. record { values = append_assoc so_far.values (x ∷ []) (filter_map value_in more) i; fault = fold lesser_of so_far.fault (filter_map fault_in more) })
gathered_all so_far (Err fault ∷ more) = gathered_all (gathered so_far (Err fault)) more

-- what is gathered from nothing, of all rows of a group
pub in_group_gathered : (value : Valued) (s : Surroundings) (done : List (List Value)) → done ≡ s.group → (so_far : Gathered) → so_far ≡ fold (λ so_far row. gathered so_far (value_in_group value s row)) nothing done → unless so_far.fault so_far.values ≡ in_group_by value s
in_group_gathered value s done all so_far is =
    ap (λ found. unless found.fault found.values) (is ∙ sym (fold-map gathered (value_in_group value s) nothing done) ∙ gathered_all nothing (map (value_in_group value s) done))
    ∙ ap (λ rows. all_or_least (map (value_in_group value s) rows)) all

-- what is meant is given
pub given_as : {A : Type 0} (answer means : Result A EvalFault) → answer ≡ means → Gives answer means
given_as (Ok a) means is = sym is
given_as (Err fault) means is = λ other. sym is
