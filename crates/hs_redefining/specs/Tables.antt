-- Numbers of tables.
use Rattle.std.specs.Prelude.{ℕ, ◌==◌, Bool, List, [], ◌∷◌, ◌++◌, if◌then◌else◌}
use Rattle.std.specs.List.{list_any}
use Rattle.hs_base.specs.declared.numbers.TableNo.{TableNo}
use Rattle.hs_schema.specs.Catalogue.{Things}
use Rattle.hs_schema.specs.declared.thing.Thing.{Thing}

-- whether a table has this number
abbrev pub has_number : ℕ → TableNo → Bool
has_number table one = one.0 == table

-- one of these tables has this number
abbrev pub is_in : List TableNo → ℕ → Bool
is_in all table = list_any (has_number table) all

abbrev pub with_table : List TableNo → TableNo → List TableNo
with_table all one = if is_in all one.0 then all else all ++ one ∷ []

-- whether a thing belongs to the table of this number
abbrev pub is_of : ℕ → Thing → Bool
is_of table thing = thing.table.0 == table

abbrev pub has_thing : Things → ℕ → Bool
has_thing things table = list_any (is_of table) things
