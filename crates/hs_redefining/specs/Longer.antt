-- Rows with more values behind their own.
use Rattle.std.specs.Prelude.{◌≡◌, ℕ, Bool, List, [], ◌∷◌, ◌++◌, Option, None}
use Rattle.std.specs.FinMap.{get, values}
use Rattle.std.specs.List.{list_any}
use Rattle.std.specs.Option.{option_map}
use Rattle.hs_index.specs.Table.{Rows}
use Rattle.hs_values.specs.declared.value.Value.{Value}

abbrev pub longer : List Value → Option (List Value) → Option (List Value)
longer more row = option_map (λ values. values ++ more) row

-- each row of a table has more values
abbrev pub AreLonger : List Value → Rows → Rows → Type 0
AreLonger more rows grown = (number : ℕ) → get grown number ≡ longer more (get rows number)

-- the one table has no row that the other hasn't
abbrev pub AreWithin : Rows → Rows → Type 0
AreWithin rows others = (number : ℕ) → get others number ≡ None → get rows number ≡ None

-- a row passes a test once it has one value more
abbrev pub has_longer : (List Value → Bool) → Value → Rows → Bool
has_longer test value rows = list_any (λ row. test (row ++ value ∷ [])) (values rows)
