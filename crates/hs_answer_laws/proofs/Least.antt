-- The fault of a part is one that it has, and no lesser one.
use Rattle.std.proofs.Common.{◌≡◌, ◌≤◌, inl, inr, Bool, true, false, List, [], ◌∷◌, fold, filter, Option, None, Some, Result, Ok, Err, refl, sym, ap, subst, ◌∙◌, ◌↔◌, arith}
use Rattle.std.specs.List.{Contains, cons_option, filter_map}
use Rattle.hs_values.specs.declared.fault.EvalFault.{EvalFault}
use Rattle.hs_values.specs.declared.value.Value.{Value}
use Rattle.hs_values.specs.declared.value.Value.TheVariants as v
use Rattle.hs_values.specs.Fault.{number_of, lesser}
use Rattle.hs_values.proofs.Faults.{lesser_either, lesser_least}
use Rattle.hs_rel.specs.Selection.{fault_of, is_true, least, lesser_of}
use Rattle.hs_rel.proofs.Selecting.{at_head, from_filter, head_or_tail, in_tail, no_fault, nothing_in, some_fault, to_filter}
use Rattle.hs_expression.specs.Outcomes.{all_or_least, fault_in, value_in}
use Rattle.hs_expression.specs.Surroundings.{Surroundings, Valued}
use Rattle.hs_answer.specs.Selects.{fault_at, having_true, is_true_at}

-- it is one of the faults, and none is less
abbrev pub IsLeastOf : List EvalFault → EvalFault → Type 0
IsLeastOf fs fault = Contains fs fault × ((other : EvalFault) → Contains fs other → number_of fault ≤ number_of other)

least_from : (a : EvalFault) (fs : List EvalFault) (fault : EvalFault) → fold lesser_of (Some a) fs ≡ Some fault → IsLeastOf (a ∷ fs) fault
least_from a [] fault h =
    let is : a ≡ fault = cc in
    subst (IsLeastOf (a ∷ [])) is (
      at_head a [],
      λ other found. elim (head_or_tail a [] other found) [ inl same ↦ subst (λ z. number_of a ≤ number_of z) same (omega arith) | inr none ↦ absurd (nothing_in other none) ],
    )
least_from a (b ∷ fs) fault h =
    let rest = least_from (lesser a b) fs fault h in
    let bound = lesser_least a b in
    let below = rest.1 (lesser a b) (at_head (lesser a b) fs) in (
      elim (head_or_tail (lesser a b) fs fault rest.0) [
        | inl is ↦
            elim (lesser_either a b) [
              | inl left ↦ subst (Contains (a ∷ b ∷ fs)) (sym left ∙ is) (at_head a (b ∷ fs))
              | inr right ↦ subst (Contains (a ∷ b ∷ fs)) (sym right ∙ is) (in_tail a (b ∷ fs) b (at_head b fs))
            ]
        | inr later ↦ in_tail a (b ∷ fs) fault (in_tail b fs fault later)
      ],
      λ other found. elim (head_or_tail a (b ∷ fs) other found) [
        | inl is ↦ subst (λ z. number_of fault ≤ number_of z) is (omega (arith, below, bound.0))
        | inr more ↦
            elim (head_or_tail b fs other more) [
              | inl is ↦ subst (λ z. number_of fault ≤ number_of z) is (omega (arith, below, bound.1))
              | inr later ↦ rest.1 other (in_tail (lesser a b) fs other later)
            ]
      ],
    )

pub least_is : (fs : List EvalFault) (fault : EvalFault) → least fs ≡ Some fault → IsLeastOf fs fault
least_is [] fault h = absurd (cc)
least_is (a ∷ fs) fault h = least_from a fs fault h

-- ---- faults of several things

module _ {X : Type 0} (f : X → Option EvalFault) where
  pub to_faults : (xs : List X) (x : X) (fault : EvalFault) → Contains xs x → f x ≡ Some fault → Contains (filter_map f xs) fault
  to_faults [] x fault h is = absurd (nothing_in x h)
  to_faults (y ∷ xs) x fault h is =
      elim (head_or_tail y xs x h) [
        | inl same ↦ subst (λ o. Contains (cons_option o (filter_map f xs)) fault) (sym (ap f same ∙ is)) (at_head fault (filter_map f xs))
        | inr later ↦ behind (f y) (to_faults xs x fault later is)
      ]
    where
      behind : (o : Option EvalFault) → Contains (filter_map f xs) fault → Contains (cons_option o (filter_map f xs)) fault
      behind None found = found
      behind (Some other) found = in_tail other (filter_map f xs) fault found

  pub from_faults : (xs : List X) (fault : EvalFault) → Contains (filter_map f xs) fault → (x : X) × Contains xs x × (f x ≡ Some fault)
  from_faults [] fault h = absurd (nothing_in fault h)
  from_faults (y ∷ xs) fault h = by (f y) refl (from_faults xs fault) h
    where
      further : (x : X) × Contains xs x × (f x ≡ Some fault) → (x : X) × Contains (y ∷ xs) x × (f x ≡ Some fault)
      further found = (found.0, in_tail y xs found.0 found.1, found.2)

      by : (o : Option EvalFault) → f y ≡ o → (Contains (filter_map f xs) fault → (x : X) × Contains xs x × (f x ≡ Some fault)) → Contains (cons_option o (filter_map f xs)) fault → (x : X) × Contains (y ∷ xs) x × (f x ≡ Some fault)
      by None is later found = further (later found)
      by (Some other) is later found = elim (head_or_tail other (filter_map f xs) fault found) [
        | inl same ↦ (y, at_head y xs, is ∙ ap Some same)
        | inr more ↦ further (later more)
      ]

-- ---- outcomes

module _ {A : Type 0} where
  fault_there : (outcome : Result A EvalFault) (fault : EvalFault) → fault_in outcome ≡ Some fault → outcome ≡ Err fault
  fault_there (Ok a) fault h = absurd (cc)
  fault_there (Err other) fault h = cc

  pub least_outcome : (outcomes : List (Result A EvalFault)) (fault : EvalFault) → all_or_least outcomes ≡ Err fault → Contains outcomes (Err fault) × ((other : EvalFault) → Contains outcomes (Err other) → number_of fault ≤ number_of other)
  least_outcome outcomes fault h =
      let told = least_is (filter_map fault_in outcomes) fault (some_fault (least (filter_map fault_in outcomes)) (filter_map value_in outcomes) fault h) in
      let found = from_faults fault_in outcomes fault told.0 in (
        subst (Contains outcomes) (fault_there found.0 fault found.2) found.1,
        λ other there. told.1 other (to_faults fault_in outcomes (Err other) other there refl),
      )

-- ---- HAVING

true_given : (given : Result Value EvalFault) → is_true given ≡ true → given ≡ Ok (v.Bool true)
true_given (Ok (v.Bool true)) h = refl
true_given (Ok (v.Bool false)) h = cc
true_given (Ok a) h = cc
true_given (Err fault) h = cc

pub having_rows : (condition : Valued) (places kept : List Surroundings) → having_true (Some condition) places ≡ Ok kept → (place : Surroundings) → Contains kept place ↔ (Contains places place × (condition place ≡ Ok (v.Bool true)))
having_rows condition places kept is place =
    let same : filter (is_true_at condition) places ≡ kept = (no_fault (least (filter_map (fault_at condition) places)) (filter (is_true_at condition) places) kept is).1 in
    subst (λ l. Contains l place ↔ (Contains places place × (condition place ≡ Ok (v.Bool true)))) same (
      λ h. let both = from_filter (is_true_at condition) places place h in (both.0, true_given (condition place) both.1),
      λ h. to_filter (is_true_at condition) places place h.0 (ap is_true h.1),
    )

given_fault : (given : Result Value EvalFault) (fault : EvalFault) → fault_of given ≡ Some fault → given ≡ Err fault
given_fault (Ok a) fault h = absurd (cc)
given_fault (Err other) fault h = cc

pub having_fault : (condition : Valued) (places : List Surroundings) (fault : EvalFault) → having_true (Some condition) places ≡ Err fault → (place : Surroundings) × Contains places place × (condition place ≡ Err fault)
having_fault condition places fault is =
    let told = least_is (filter_map (fault_at condition) places) fault (some_fault (least (filter_map (fault_at condition) places)) (filter (is_true_at condition) places) fault is) in
    let found = from_faults (fault_at condition) places fault told.0 in
    (found.0, found.1, given_fault (condition found.0) fault found.2)

pub having_least : (condition : Valued) (places : List Surroundings) (fault : EvalFault) → having_true (Some condition) places ≡ Err fault → (place : Surroundings) (other : EvalFault) → Contains places place → condition place ≡ Err other → number_of fault ≤ number_of other
having_least condition places fault is place other there fails =
    let told = least_is (filter_map (fault_at condition) places) fault (some_fault (least (filter_map (fault_at condition) places)) (filter (is_true_at condition) places) fault is) in
    told.1 other (to_faults (fault_at condition) places place other there (ap fault_of fails))
