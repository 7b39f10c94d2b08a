-- Values at the kinds of their columns, one after another.
use Rattle.std.proofs.Common.{◌≡◌, List, [], ◌∷◌, ◌++◌, length, take, Result, Ok, Err, refl, sym, ap, ◌∙◌, append_assoc}
use Rattle.std.proofs.lemmas.List.{append-nil}
use Rattle.hs_plan.specs.declared.kind.Kind.{Kind}
use Rattle.hs_values.specs.declared.fault.EvalFault.{EvalFault}
use Rattle.hs_values.specs.declared.value.Value.{Value}
use Rattle.hs_values.specs.Outcome.{◌>>=◌}
use Rattle.hs_expression.specs.Kinds.{given_at}
use Rattle.hs_answer.specs.Bodies.{widened}

-- the values that are given already, and behind them those that are left
abbrev pub given_behind : List Value → List Kind → List Value → Result (List Value) EvalFault
given_behind front kinds values = widened kinds values >>= λ xs. Ok (front ++ xs)

pub one_given : (front : List Value) (kind : Kind) (kinds : List Kind) (value x : Value) (values : List Value) → given_at kind value ≡ Ok x → given_behind front (kind ∷ kinds) (value ∷ values) ≡ given_behind (front ++ x ∷ []) kinds values
one_given front kind kinds value x values h =
    ap (λ r. (r >>= λ x. widened kinds values >>= λ xs. Ok (x ∷ xs)) >>= λ xs. Ok (front ++ xs)) h ∙ by (widened kinds values)
  where
    by : (given : Result (List Value) EvalFault) → ((given >>= λ xs. Ok (x ∷ xs)) >>= λ xs. Ok (front ++ xs)) ≡ (given >>= λ xs. Ok ((front ++ x ∷ []) ++ xs))
    by (Ok xs) = ap Ok (sym (append_assoc front (x ∷ []) xs))
    by (Err fault) = refl

pub one_refused : (front : List Value) (kind : Kind) (kinds : List Kind) (value : Value) (values : List Value) (fault : EvalFault) → given_at kind value ≡ Err fault → given_behind front (kind ∷ kinds) (value ∷ values) ≡ Err fault
one_refused front kind kinds value values fault h = ap (λ r. (r >>= λ x. widened kinds values >>= λ xs. Ok (x ∷ xs)) >>= λ xs. Ok (front ++ xs)) h

pub none_left : (front : List Value) (kinds : List Kind) → given_behind front kinds [] ≡ Ok front
none_left front [] = ap Ok (append-nil front)
none_left front (kind ∷ kinds) = ap Ok (append-nil front)

pub all_left : (kinds : List Kind) (values : List Value) → given_behind [] kinds values ≡ widened kinds values
all_left kinds values = by (widened kinds values)
  where
    by : (given : Result (List Value) EvalFault) → (given >>= λ xs. Ok ([] ++ xs)) ≡ given
    by (Ok xs) = refl
    by (Err fault) = refl

-- what stands behind the columns doesn't count
pub cut_off : (kinds : List Kind) (row : List Value) → widened kinds (take (length kinds) row) ≡ widened kinds row
cut_off [] row = refl
cut_off (kind ∷ kinds) [] = refl
cut_off (kind ∷ kinds) (value ∷ row) = ap (λ r. given_at kind value >>= λ x. r >>= λ xs. Ok (x ∷ xs)) (cut_off kinds row)
