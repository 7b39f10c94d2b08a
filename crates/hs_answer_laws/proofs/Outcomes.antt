-- What several outcomes give together: the values of all, or the least of their faults.
use Rattle.std.proofs.Common.{◌≡◌, inl, inr, List, [], ◌∷◌, map, fold, None, Some, Result, Ok, Err, refl, ap, ◌∙◌}
use Rattle.std.specs.List.{Contains, filter_map}
use Rattle.hs_values.specs.declared.fault.EvalFault.{EvalFault}
use Rattle.hs_values.specs.Fault.{lesser}
use Rattle.hs_rel.specs.Selection.{least, lesser_of, unless}
use Rattle.hs_rel.proofs.Selecting.{at_head, head_or_tail, in_tail, no_fault, nothing_in}
use Rattle.hs_expression.specs.Outcomes.{all_or_least, fault_in, value_in}

some_from : (fs : List EvalFault) (a : EvalFault) → fold lesser_of (Some a) fs ≡ None → ⊥
some_from [] a h = cc
some_from (b ∷ fs) a h = some_from fs (lesser a b) h

-- of no faults alone there is no least
pub none_least : (fs : List EvalFault) → least fs ≡ None → fs ≡ []
none_least [] h = refl
none_least (a ∷ fs) h = absurd (some_from fs a h)

module _ {A : Type 0} where
  no_faults : (outcomes : List (Result A EvalFault)) → filter_map fault_in outcomes ≡ [] → outcomes ≡ map Ok (filter_map value_in outcomes)
  no_faults [] h = refl
  no_faults (Ok x ∷ outcomes) h = let rest = no_faults outcomes h in λ i. Ok x ∷ rest i
  no_faults (Err fault ∷ outcomes) h = absurd (cc)

  -- where values are given, each outcome is one of them
  pub all_given : (outcomes : List (Result A EvalFault)) (values : List A) → all_or_least outcomes ≡ Ok values → outcomes ≡ map Ok values
  all_given outcomes values h =
      let both = no_fault (least (filter_map fault_in outcomes)) (filter_map value_in outcomes) values h in
      no_faults outcomes (none_least (filter_map fault_in outcomes) both.0) ∙ ap (map Ok) both.1

  values_in : (values : List A) → filter_map value_in (map Ok values) ≡ values
  values_in [] = refl
  values_in (x ∷ values) = let rest = values_in values in λ i. x ∷ rest i

  faults_in : (values : List A) → filter_map fault_in (map Ok values) ≡ []
  faults_in [] = refl
  faults_in (x ∷ values) = faults_in values

  pub gives_all : (values : List A) → all_or_least (map Ok values) ≡ Ok values
  gives_all values = let none = faults_in values in let all = values_in values in λ i. unless (least (none i)) (all i)

  -- what is given by a function, element by element
  pub each_given : {X : Type 0} (f : X → Result A EvalFault) {B : Type 0} (of : A → B) (from : X → B) → ((x : X) (a : A) → f x ≡ Ok a → of a ≡ from x) → (xs : List X) (values : List A) → map f xs ≡ map Ok values → map of values ≡ map from xs
  each_given f of from same [] [] h = refl
  each_given f of from same [] (a ∷ values) h = absurd (cc)
  each_given f of from same (x ∷ xs) [] h = absurd (cc)
  each_given f of from same (x ∷ xs) (a ∷ values) h =
      let here : f x ≡ Ok a = cc in
      let later : map f xs ≡ map Ok values = cc in
      let first = same x a here in
      let rest = each_given f of from same xs values later in
      λ i. first i ∷ rest i

  -- the element of which a value is given
  pub source_of : {X : Type 0} (f : X → Result A EvalFault) (xs : List X) (values : List A) → map f xs ≡ map Ok values → (a : A) → Contains values a → (x : X) × Contains xs x × (f x ≡ Ok a)
  source_of f [] [] h a found = absurd (nothing_in a found)
  source_of f [] (b ∷ values) h a found = absurd (cc)
  source_of f (x ∷ xs) [] h a found = absurd (cc)
  source_of f (x ∷ xs) (b ∷ values) h a found =
      let here : f x ≡ Ok b = cc in
      let later : map f xs ≡ map Ok values = cc in
      elim (head_or_tail b values a found) [
        | inl is ↦ (x, at_head x xs, here ∙ ap Ok is)
        | inr more ↦ let rest = source_of f xs values later a more in (rest.0, in_tail x xs rest.0 rest.1, rest.2)
      ]
