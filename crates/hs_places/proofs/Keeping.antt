-- What stays by the outcomes of a condition is what the definitions of selections and of HAVING keep.
use Rattle.std.proofs.Common.{◌≡◌, Bool, true, false, cond, List, [], ◌∷◌, ◌++◌, map, filter, fold, Option, None, Some, Ok, Err, refl, sym, ap, ◌∙◌}
use Rattle.std.proofs.lemmas.List.{append-nil}
use Rattle.std.proofs.lemmas.List.Elements.{filter_map-append}
use Rattle.std.specs.List.{cons_option, filter_map}
use Rattle.hs_values.specs.declared.fault.EvalFault.{EvalFault}
use Rattle.hs_values.specs.declared.value.Value.{Value}
use Rattle.hs_values.specs.Outcome.{◌>>=◌}
use Rattle.hs_expression.specs.Numbers.{Outcome}
use Rattle.hs_answer.specs.Selects.{having_true, is_true_at}
use Rattle.hs_expression.specs.Outcomes.{all_or_least, fault_in, value_in}
use Rattle.hs_expression.specs.Surroundings.{Rows, Surroundings, Valued}
use Rattle.hs_rel.specs.Selection.{Verdict, fault_of, is_true, least, lesser_of, selected, unless}
use Rattle.hs_stages.specs.declared.gathered.Gathered.{Gathered}
use Rattle.hs_stages.specs.Gathering.{judged}
use Rattle.hs_stages.proofs.Gathering.{rows_gathered}
use Rattle.hs_places.specs.Picking.{kept_by, picked}

-- where there are no outcomes
pub none_picked : {X : Type 0} (xs : List X) → picked xs [] ≡ []
none_picked [] = refl
none_picked (x ∷ xs) = refl

-- ---- of what a function gives

pub picked_map : {X Y : Type 0} (f : X → Y) (xs : List X) (outcomes : List Outcome) → map f (picked xs outcomes) ≡ picked (map f xs) outcomes
picked_map f [] outcomes = refl
picked_map f (x ∷ xs) [] = refl
picked_map f (x ∷ xs) (outcome ∷ outcomes) = by (picked_map f xs outcomes) (is_true outcome)
  where
    by : map f (picked xs outcomes) ≡ picked (map f xs) outcomes → (b : Bool) → map f (cond b (x ∷ picked xs outcomes) (picked xs outcomes)) ≡ cond b (f x ∷ picked (map f xs) outcomes) (picked (map f xs) outcomes)
    by same true = ap (λ l. f x ∷ l) same
    by same false = same

-- ---- a condition's outcomes

module _ {X : Type 0} (verdict : X → Outcome) where
  picked_filter : (xs : List X) → picked xs (map verdict xs) ≡ filter (λ x. is_true (verdict x)) xs
  picked_filter [] = refl
  picked_filter (x ∷ xs) = ap (λ l. cond (is_true (verdict x)) (x ∷ l) l) (picked_filter xs)

  faults_map : (xs : List X) → filter_map fault_of (map verdict xs) ≡ filter_map (λ x. fault_of (verdict x)) xs
  faults_map [] = refl
  faults_map (x ∷ xs) = ap (cons_option (fault_of (verdict x))) (faults_map xs)

-- the rows for which a condition is TRUE
pub selected_kept : (verdict : Verdict) (rows : Rows) → kept_by rows (map verdict rows) ≡ selected verdict rows
selected_kept verdict rows = λ i. unless (least (faults_map verdict rows i)) (picked_filter verdict rows i)

unless_map : {A B : Type 0} (f : A → B) (fault : Option EvalFault) (a : A) → unless fault (f a) ≡ (unless fault a >>= λ x. Ok (f x))
unless_map f None a = refl
unless_map f (Some fault) a = refl

-- the places at which HAVING is TRUE
module _ {X : Type 0} (place : X → Surroundings) (condition : Valued) where
  places_kept : (xs : List X) → filter (is_true_at condition) (map place xs) ≡ map place (picked xs (map condition (map place xs)))
  places_kept [] = refl
  places_kept (x ∷ xs) = by (places_kept xs) (is_true (condition (place x)))
    where
      by : filter (is_true_at condition) (map place xs) ≡ map place (picked xs (map condition (map place xs))) → (b : Bool) → cond b (place x ∷ filter (is_true_at condition) (map place xs)) (filter (is_true_at condition) (map place xs)) ≡ map place (cond b (x ∷ picked xs (map condition (map place xs))) (picked xs (map condition (map place xs))))
      by same true = ap (λ l. place x ∷ l) same
      by same false = same

  pub having_kept : (xs : List X) → having_true (Some condition) (map place xs) ≡ (kept_by xs (map condition (map place xs)) >>= λ kept. Ok (map place kept))
  having_kept xs =
      (λ i. unless (least (sym (faults_map condition (map place xs)) i)) (places_kept xs i))
      ∙ unless_map (map place) (least (filter_map fault_of (map condition (map place xs)))) (picked xs (map condition (map place xs)))

-- ---- pairs

pub pairs_taken : (verdict : Verdict) (so_far : Gathered) (pairs : Rows) (outcomes : List Outcome) → outcomes ≡ map verdict pairs → record { rows = so_far.rows ++ picked pairs outcomes; fault = fold lesser_of so_far.fault (filter_map fault_of outcomes) } ≡ fold (judged verdict) so_far pairs
pairs_taken verdict so_far pairs outcomes h =
    (λ i. record { rows = so_far.rows ++ picked pairs (h i); fault = fold lesser_of so_far.fault (filter_map fault_of (h i)) })
    ∙ (λ i. record { rows = so_far.rows ++ picked_filter verdict pairs i; fault = fold lesser_of so_far.fault (faults_map verdict pairs i) })
    ∙ sym (rows_gathered verdict so_far pairs)

-- ---- values

pub same_faults : (outcomes : List Outcome) → filter_map fault_of outcomes ≡ filter_map fault_in outcomes
same_faults [] = refl
same_faults (Ok a ∷ outcomes) = same_faults outcomes
same_faults (Err fault ∷ outcomes) = ap (λ l. fault ∷ l) (same_faults outcomes)

-- all values, where there is no fault
pub all_given : (outcomes : List Outcome) → least (filter_map fault_of outcomes) ≡ None → all_or_least outcomes ≡ Ok (filter_map value_in outcomes)
all_given outcomes h = ap (λ o. unless o (filter_map value_in outcomes)) (ap least (sym (same_faults outcomes)) ∙ h)

pub least_given : (outcomes : List Outcome) (fault : EvalFault) → least (filter_map fault_of outcomes) ≡ Some fault → all_or_least outcomes ≡ Err fault
least_given outcomes fault h = ap (λ o. unless o (filter_map value_in outcomes)) (ap least (sym (same_faults outcomes)) ∙ h)

-- one outcome more
pub value_more : (outcomes : List Outcome) (x : Value) → filter_map value_in (outcomes ++ Ok x ∷ []) ≡ filter_map value_in outcomes ++ x ∷ []
value_more outcomes x = filter_map-append value_in outcomes (Ok x ∷ [])

pub fault_more : (outcomes : List Outcome) (fault : EvalFault) → filter_map value_in (outcomes ++ Err fault ∷ []) ≡ filter_map value_in outcomes
fault_more outcomes fault = filter_map-append value_in outcomes (Err fault ∷ []) ∙ append-nil (filter_map value_in outcomes)
