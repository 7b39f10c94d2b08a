-- Values that are stored one after another.
use Rattle.std.proofs.Common.{◌≡◌, ℕ, List, [], ◌∷◌, ◌++◌, length, map, replicate, Result, Ok, Err, refl, sym, ap, ◌∙◌, append_assoc, append-nil}
use Rattle.hs_values.specs.declared.fault.EvalFault.{EvalFault}
use Rattle.hs_values.specs.declared.sql_type.SqlType.{SqlType}
use Rattle.hs_values.specs.declared.value.Value.{Value}
use Rattle.hs_values.specs.declared.value.Value.TheVariants as v
use Rattle.hs_values.specs.Outcome.{◌>>=◌}
use Rattle.hs_values.specs.SqlType.{assign_of}
use Rattle.hs_actions.specs.Acting.{assigned}

abbrev pub Stored : Type 0
Stored = Result (List Value) EvalFault

-- these values, and behind them what is stored
abbrev pub behind : List Value → Stored → Stored
behind made r = r >>= λ ys. Ok (made ++ ys)

behind_none : (r : Stored) → behind [] r ≡ r
behind_none (Ok ys) = refl
behind_none (Err fault) = refl

behind_more : (made : List Value) (y : Value) (r : Stored) → behind made (r >>= λ ys. Ok (y ∷ ys)) ≡ behind (made ++ y ∷ []) r
behind_more made y (Ok ys) = ap (λ l. Ok l) (sym (append_assoc made (y ∷ []) ys))
behind_more made y (Err fault) = refl

pub begun : (types : List SqlType) (values : List Value) → behind [] (assigned types values) ≡ assigned types values
begun types values = behind_none (assigned types values)

pub stored : (made : List Value) (t : SqlType) (ts : List SqlType) (x y : Value) (xs : List Value) → assign_of t x ≡ Ok y → behind made (assigned (t ∷ ts) (x ∷ xs)) ≡ behind (made ++ y ∷ []) (assigned ts xs)
stored made t ts x y xs is = ap (λ o. behind made (o >>= λ z. assigned ts xs >>= λ ys. Ok (z ∷ ys))) is ∙ behind_more made y (assigned ts xs)

pub failed : (made : List Value) (t : SqlType) (ts : List SqlType) (x : Value) (xs : List Value) (fault : EvalFault) → assign_of t x ≡ Err fault → behind made (assigned (t ∷ ts) (x ∷ xs)) ≡ Err fault
failed made t ts x xs fault is = ap (λ o. behind made (o >>= λ z. assigned ts xs >>= λ ys. Ok (z ∷ ys))) is

pub nulls_for : (columns : List ℕ) → replicate (length columns) v.Null ≡ map (λ c. v.Null) columns
nulls_for [] = refl
nulls_for (c ∷ cs) = ap (λ l. v.Null ∷ l) (nulls_for cs)

-- nothing is left to be stored where no value is
pub none_left : (made : List Value) (types : List SqlType) (values : List Value) → values ≡ [] → behind made (assigned types values) ≡ Ok made
none_left made types values none = ap (λ xs. behind made (assigned types xs)) none ∙ by types
  where
    by : (types : List SqlType) → behind made (assigned types []) ≡ Ok made
    by [] = ap (λ l. Ok l) (append-nil made)
    by (t ∷ ts) = ap (λ l. Ok l) (append-nil made)
