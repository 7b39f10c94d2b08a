-- What is asked of the rows of a table.
use Rattle.std.specs.Prelude.{ℕ, Bool, false, List, Option, None, Some, nat_eq}
use Rattle.std.specs.FinMap.{entries, get}
use Rattle.std.specs.List.{list_any}
use Rattle.hs_values.specs.declared.value.Value.{Value}
use Rattle.hs_index.specs.Table.{Rows}

-- what is asked of a row, given its number
abbrev pub Test : Type 0
Test = ℕ → List Value → Bool

-- a row of the table passes
abbrev pub any_row : Test → Rows → Bool
any_row test rows = list_any (λ e. test e.0 e.1) (entries rows)

abbrev pub passes_at : Test → ℕ → Option (List Value) → Bool
passes_at test number None = false
passes_at test number (Some row) = test number row

-- a row of one of these numbers is there and passes
abbrev pub any_of : List ℕ → Test → Rows → Bool
any_of numbers test rows = list_any (λ n. passes_at test n (get rows n)) numbers

abbrev pub is_one_of : List ℕ → ℕ → Bool
is_one_of numbers number = list_any (nat_eq number) numbers
