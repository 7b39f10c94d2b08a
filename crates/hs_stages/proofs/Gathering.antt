-- What is gathered comes to all rows, or to the least fault.
use Rattle.std.proofs.Common.{◌≡◌, Bool, true, false, cond, List, [], ◌∷◌, ◌++◌, fold, Result, Ok, Err, refl, sym, ap, ◌∙◌, append_assoc}
use Rattle.std.proofs.lemmas.List.{append-nil}
use Rattle.std.specs.List.{cons_option, filter_map}
use Rattle.hs_values.specs.declared.fault.EvalFault.{EvalFault}
use Rattle.hs_values.specs.declared.value.Value.{Value}
use Rattle.hs_values.specs.declared.value.Value.TheVariants as v
use Rattle.hs_rel.specs.Selection.{Verdict, fault_of, is_true, lesser_of, selected, true_rows, unless}
use Rattle.hs_expression.specs.Outcomes.{all_or_least, fault_in, value_in}
use Rattle.hs_stages.specs.declared.gathered.Gathered.{Gathered}
use Rattle.hs_stages.specs.Gathering.{judged, nothing, with_outcome, with_verdict}

-- what is gathered, with these rows and these faults
abbrev pub with_more : Gathered → List (List Value) → List EvalFault → Gathered
with_more so_far rows faults = record { rows = so_far.rows ++ rows; fault = fold lesser_of so_far.fault faults }

pub with_none : (so_far : Gathered) → so_far ≡ with_more so_far [] []
with_none so_far = λ i. record { rows = sym (append-nil so_far.rows) i; fault = so_far.fault }

outcomes_gathered : (so_far : Gathered) (outcomes : List (Result (List Value) EvalFault)) → fold with_outcome so_far outcomes ≡ with_more so_far (filter_map value_in outcomes) (filter_map fault_in outcomes)
outcomes_gathered so_far [] = with_none so_far
outcomes_gathered so_far (Ok row ∷ outcomes) =
    outcomes_gathered (with_outcome so_far (Ok row)) outcomes
    ∙ (λ i. record { rows = append_assoc so_far.rows (row ∷ []) (filter_map value_in outcomes) i; fault = fold lesser_of so_far.fault (filter_map fault_in outcomes) })
outcomes_gathered so_far (Err fault ∷ outcomes) = outcomes_gathered (with_outcome so_far (Err fault)) outcomes

pub all_gathered : (outcomes : List (Result (List Value) EvalFault)) → unless (fold with_outcome nothing outcomes).fault (fold with_outcome nothing outcomes).rows ≡ all_or_least outcomes
all_gathered outcomes = ap (λ s. unless s.fault s.rows) (outcomes_gathered nothing outcomes)

-- ---- rows of which a condition is TRUE

verdict_more : (so_far : Gathered) (row : List Value) (rows : List (List Value)) (faults : List EvalFault) (given : Result Value EvalFault) → with_more (with_verdict so_far row given) rows faults ≡ with_more so_far (cond (is_true given) (row ∷ rows) rows) (cons_option (fault_of given) faults)
verdict_more so_far row rows faults (Ok (v.Bool true)) = λ i. record { rows = append_assoc so_far.rows (row ∷ []) rows i; fault = fold lesser_of so_far.fault faults }
verdict_more so_far row rows faults (Ok (v.Bool false)) = refl
verdict_more so_far row rows faults (Ok a) = refl
verdict_more so_far row rows faults (Err fault) = refl

pub rows_gathered : (verdict : Verdict) (so_far : Gathered) (rows : List (List Value)) → fold (judged verdict) so_far rows ≡ with_more so_far (true_rows verdict rows) (filter_map (λ row. fault_of (verdict row)) rows)
rows_gathered verdict so_far [] = with_none so_far
rows_gathered verdict so_far (row ∷ rows) =
    rows_gathered verdict (judged verdict so_far row) rows ∙ verdict_more so_far row (true_rows verdict rows) (filter_map (λ row. fault_of (verdict row)) rows) (verdict row)

pub true_gathered : (verdict : Verdict) (rows : List (List Value)) → unless (fold (judged verdict) nothing rows).fault (fold (judged verdict) nothing rows).rows ≡ selected verdict rows
true_gathered verdict rows = ap (λ s. unless s.fault s.rows) (rows_gathered verdict nothing rows)
