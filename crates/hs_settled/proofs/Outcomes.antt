-- What is made of each of several outcomes is made of all of them.
use Rattle.std.proofs.Common.{◌≡◌, List, [], ◌∷◌, map, Option, None, Some, Result, Ok, Err, refl, sym, ap, ◌∙◌}
use Rattle.std.specs.List.{filter_map}
use Rattle.hs_values.specs.declared.fault.EvalFault.{EvalFault}
use Rattle.hs_values.specs.Outcome.{◌>>=◌}
use Rattle.hs_expression.specs.Outcomes.{all_or_least, fault_in, value_in}
use Rattle.hs_rel.specs.Selection.{least, unless}
use Rattle.hs_answer_laws.proofs.Outcomes.{all_given, gives_all}

module _ {X A B : Type 0} (g : X → Result A EvalFault) (of : X → A → B) (whole : List X → List A → List B) (none : whole [] [] ≡ []) (more : (x : X) (xs : List X) (a : A) (rest : List A) → whole (x ∷ xs) (a ∷ rest) ≡ of x a ∷ whole xs rest) where
  abbrev made : X → Result B EvalFault
  made x = g x >>= λ a. Ok (of x a)

  made_given : (xs : List X) (given : List A) → map g xs ≡ map Ok given → map made xs ≡ map Ok (whole xs given)
  made_given [] [] h = ap (map Ok) (sym none)
  made_given [] (a ∷ given) h = absurd (cc)
  made_given (x ∷ xs) [] h = absurd (cc)
  made_given (x ∷ xs) (a ∷ given) h =
      let here : g x ≡ Ok a = cc in
      let later : map g xs ≡ map Ok given = cc in
      let first = ap (λ r. r >>= λ b. Ok (of x b)) here in
      let rest = made_given xs given later in
      (λ i. first i ∷ rest i) ∙ ap (map Ok) (sym (more x xs a given))

  faults_of : (xs : List X) → filter_map fault_in (map made xs) ≡ filter_map fault_in (map g xs)
  faults_of [] = refl
  faults_of (x ∷ xs) = by (g x) (faults_of xs)
    where
      by : (r : Result A EvalFault) → filter_map fault_in (map made xs) ≡ filter_map fault_in (map g xs) → filter_map fault_in ((r >>= λ a. Ok (of x a)) ∷ map made xs) ≡ filter_map fault_in (r ∷ map g xs)
      by (Ok a) same = same
      by (Err fault) same = ap (λ l. fault ∷ l) same

  pub all_made : (xs : List X) → all_or_least (map made xs) ≡ (all_or_least (map g xs) >>= λ given. Ok (whole xs given))
  all_made xs = by (all_or_least (map g xs)) refl
    where
      least_of : (fault : EvalFault) → all_or_least (map g xs) ≡ Err fault → all_or_least (map made xs) ≡ Err fault
      least_of fault is =
          ap (λ fs. unless (least fs) (filter_map value_in (map made xs))) (faults_of xs)
          ∙ as_fault (least (filter_map fault_in (map g xs))) is
        where
          as_fault : (o : Option EvalFault) → unless o (filter_map value_in (map g xs)) ≡ Err fault → unless o (filter_map value_in (map made xs)) ≡ Err fault
          as_fault None h = absurd (cc)
          as_fault (Some other) h = let same : other ≡ fault = cc in ap Err same

      by : (given : Result (List A) EvalFault) → all_or_least (map g xs) ≡ given → all_or_least (map made xs) ≡ (given >>= λ given. Ok (whole xs given))
      by (Ok given) is = ap all_or_least (made_given xs given (all_given (map g xs) given is)) ∙ gives_all (whole xs given)
      by (Err fault) is = least_of fault is
