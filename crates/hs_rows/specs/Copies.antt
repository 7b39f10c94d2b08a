-- Copies of rows, one after another.
use Rattle.std.specs.Prelude.{List, [], ◌∷◌, ◌++◌}
use Rattle.hs_values.specs.declared.value.Value.{Value}
use Rattle.hs_rows.specs.declared.copies.Copies.{Copies}

-- one copy more, behind the others
abbrev pub with_copy : Copies → List Value → Copies
with_copy copies row = record { rows = copies.rows ++ row ∷ [] }
