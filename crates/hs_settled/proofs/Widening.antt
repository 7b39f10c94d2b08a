-- Values of a row of VALUES, one after another.
use Rattle.std.proofs.Common.{◌≡◌, ℕ, ◌≤◌, List, [], ◌∷◌, ◌++◌, length, drop, Result, Ok, Err, refl, sym, ap, ◌∙◌, append_assoc}
use Rattle.std.proofs.lemmas.List.{append-nil, drop_all}
use Rattle.hs_plan.specs.declared.kind.Kind.{Kind}
use Rattle.hs_values.specs.declared.fault.EvalFault.{EvalFault}
use Rattle.hs_values.specs.declared.value.Value.{Value}
use Rattle.hs_values.specs.Outcome.{◌>>=◌}
use Rattle.hs_expression.specs.Kinds.{given_at}
use Rattle.hs_expression.specs.Numbers.{Outcome}
use Rattle.hs_answer.specs.Bodies.{given_row}

-- the values that are given already, and behind them those that are left
abbrev pub given_behind : List Value → List Kind → List Outcome → Result (List Value) EvalFault
given_behind front kinds outcomes = given_row kinds outcomes >>= λ xs. Ok (front ++ xs)

pub one_given : (front : List Value) (kind : Kind) (kinds : List Kind) (outcome : Outcome) (outcomes : List Outcome) (x : Value) → Ok x ≡ (outcome >>= given_at kind) → given_behind front (kind ∷ kinds) (outcome ∷ outcomes) ≡ given_behind (front ++ x ∷ []) kinds outcomes
one_given front kind kinds outcome outcomes x h =
    ap (λ r. (r >>= λ x. given_row kinds outcomes >>= λ xs. Ok (x ∷ xs)) >>= λ xs. Ok (front ++ xs)) (sym h) ∙ by (given_row kinds outcomes)
  where
    by : (given : Result (List Value) EvalFault) → ((given >>= λ xs. Ok (x ∷ xs)) >>= λ xs. Ok (front ++ xs)) ≡ (given >>= λ xs. Ok ((front ++ x ∷ []) ++ xs))
    by (Ok xs) = ap Ok (sym (append_assoc front (x ∷ []) xs))
    by (Err fault) = refl

pub one_refused : (front : List Value) (kind : Kind) (kinds : List Kind) (outcome : Outcome) (outcomes : List Outcome) (fault : EvalFault) → Err fault ≡ (outcome >>= given_at kind) → given_behind front (kind ∷ kinds) (outcome ∷ outcomes) ≡ Err fault
one_refused front kind kinds outcome outcomes fault h = ap (λ r. (r >>= λ x. given_row kinds outcomes >>= λ xs. Ok (x ∷ xs)) >>= λ xs. Ok (front ++ xs)) (sym h)

pub none_left : (front : List Value) (kinds : List Kind) → given_behind front kinds [] ≡ Ok front
none_left front [] = ap Ok (append-nil front)
none_left front (kind ∷ kinds) = ap Ok (append-nil front)

pub no_kind_left : (front : List Value) (outcomes : List Outcome) → given_behind front [] outcomes ≡ Ok front
no_kind_left front outcomes = ap Ok (append-nil front)

pub from_nothing : (kinds : List Kind) (outcomes : List Outcome) → given_behind [] kinds outcomes ≡ given_row kinds outcomes
from_nothing kinds outcomes = by (given_row kinds outcomes)
  where
    by : (given : Result (List Value) EvalFault) → (given >>= λ xs. Ok ([] ++ xs)) ≡ given
    by (Ok xs) = refl
    by (Err fault) = refl
