-- How values are written.
use Rattle.std.specs.Prelude.{ℕ, List, [], ◌∷◌, ◌++◌, codes}
use Rattle.std.specs.Fmt.{signed_decimal}
use Rattle.hs_values.specs.declared.value.Value.{Value}
use Rattle.hs_values.specs.declared.value.Value.TheVariants.{Int}

-- a whole number; no other value is in a table yet
abbrev pub value_text : Value → List ℕ
value_text (Int n) = signed_decimal n
value_text _ = []

-- the elements of a list, each written by `text` and with `between` between them
abbrev pub joined : {A : Type 0} → (A → List ℕ) → List ℕ → List A → List ℕ
joined text between [] = []
joined text between (x ∷ []) = text x
joined text between (x ∷ y ∷ xs) = text x ++ between ++ joined text between (y ∷ xs)

-- the values of a row, with a comma between them
abbrev pub row_text : List Value → List ℕ
row_text row = joined value_text (codes ",") row
