-- Rows that grow by a column.
use Rattle.std.proofs.Common.{◌≡◌, ℕ, zero, suc, ◌+◌, List, [], ◌∷◌, ◌++◌, length, map, Result, Ok, Err, refl, sym, ap, ◌∙◌, arith}
use Rattle.hs_values.specs.declared.fault.EvalFault.{EvalFault}
use Rattle.hs_values.specs.declared.value.Value.{Value}
use Rattle.hs_values.specs.Outcome.{◌>>=◌}
use Rattle.hs_expression.specs.Surroundings.{Surroundings, Valued}
use Rattle.hs_expression.specs.Numbers.{Outcome}
use Rattle.hs_answer.specs.Layers.{Line, SortBy}
use Rattle.hs_answer.specs.Order.{keys_at}
use Rattle.hs_answer.specs.Places.{values_at}
use Rattle.hs_settled.specs.Columns.{no_columns, with_column, with_value}
use Rattle.hs_settled.specs.Parts.{RowOutcome}

-- ---- one value more

values_more : (items : List Valued) (item : Valued) (s : Surroundings) → values_at (items ++ item ∷ []) s ≡ with_value (values_at items s) (item s)
values_more [] item s = refl
values_more (first ∷ items) item s = ap (λ (rest : RowOutcome). first s >>= λ x. rest >>= λ xs. Ok (x ∷ xs)) (values_more items item s) ∙ by (first s) (values_at items s) (item s)
  where
    by : (one : Outcome) (rest : RowOutcome) (last : Outcome) → (one >>= λ x. with_value rest last >>= λ xs. Ok (x ∷ xs)) ≡ with_value (one >>= λ x. rest >>= λ xs. Ok (x ∷ xs)) last
    by (Err fault) rest last = refl
    by (Ok x) (Err fault) last = refl
    by (Ok x) (Ok xs) (Err fault) = refl
    by (Ok x) (Ok xs) (Ok y) = refl

keys_more : (order_by : List SortBy) (by : SortBy) (line : Line) → keys_at (order_by ++ by ∷ []) line ≡ with_value (keys_at order_by line) (by.key line)
keys_more [] by line = refl
keys_more (first ∷ order_by) by line = ap (λ (rest : RowOutcome). first.key line >>= λ x. rest >>= λ xs. Ok (x ∷ xs)) (keys_more order_by by line) ∙ cases (first.key line) (keys_at order_by line) (by.key line)
  where
    cases : (one : Outcome) (rest : RowOutcome) (last : Outcome) → (one >>= λ x. with_value rest last >>= λ xs. Ok (x ∷ xs)) ≡ with_value (one >>= λ x. rest >>= λ xs. Ok (x ∷ xs)) last
    cases (Err fault) rest last = refl
    cases (Ok x) (Err fault) last = refl
    cases (Ok x) (Ok xs) (Err fault) = refl
    cases (Ok x) (Ok xs) (Ok y) = refl

-- ---- one column more

pub items_more : (items : List Valued) (item : Valued) (places : List Surroundings) → with_column (map (values_at items) places) (map item places) ≡ map (values_at (items ++ item ∷ [])) places
items_more items item [] = refl
items_more items item (s ∷ places) = let first = values_more items item s in let rest = items_more items item places in λ i. sym first i ∷ rest i

pub no_items : (places : List Surroundings) → no_columns (length places) ≡ map (values_at []) places
no_items [] = refl
no_items (s ∷ places) = ap (λ l. Ok [] ∷ l) (no_items places)

pub by_more : (order_by : List SortBy) (by : SortBy) (lines : List Line) → with_column (map (keys_at order_by) lines) (map by.key lines) ≡ map (keys_at (order_by ++ by ∷ [])) lines
by_more order_by by [] = refl
by_more order_by by (line ∷ lines) = let first = keys_more order_by by line in let rest = by_more order_by by lines in λ i. sym first i ∷ rest i

pub no_keys : (lines : List Line) → no_columns (length lines) ≡ map (keys_at []) lines
no_keys [] = refl
no_keys (line ∷ lines) = ap (λ l. Ok [] ∷ l) (no_keys lines)

-- ---- columns one value at a time

pub column_past : (rows : List RowOutcome) → with_column rows [] ≡ rows
column_past [] = refl
column_past (row ∷ rows) = ap (λ l. row ∷ l) (column_past rows)

-- one row without columns more
row_behind : (n : ℕ) → no_columns (suc n) ≡ no_columns n ++ Ok [] ∷ []
row_behind zero = refl
row_behind (suc n) = ap (λ l. Ok [] ∷ l) (row_behind n)

pub one_row_more : (n : ℕ) → no_columns (n + 1) ≡ no_columns n ++ Ok [] ∷ []
one_row_more n = let next : n + 1 ≡ suc n = omega arith in ap no_columns next ∙ row_behind n
