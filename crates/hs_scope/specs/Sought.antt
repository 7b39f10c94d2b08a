-- What was sought, column by column from the left.
use Rattle.std.specs.Prelude.{ℕ, ◌+◌, Bool, true, if◌then◌else◌, List, [], ◌∷◌, Option, Some, None}
use Rattle.std.specs.Str.{bytes_eq}
use Rattle.hs_scope.specs.declared.column.OutputColumn.{OutputColumn}
use Rattle.hs_scope.specs.declared.sought.Sought.{Sought}
use Rattle.hs_scope.specs.declared.sought.Sought.TheVariants as sought
use Rattle.hs_scope.specs.Names.{Text, Offer, has_name, is_meant}

-- what is found in two parts together
abbrev pub both : Sought → Sought → Sought
both sought.Missing b = b
both (sought.One at kind) sought.Missing = sought.One at kind
both (sought.One at kind) (sought.One at_2 kind_2) = sought.Several
both (sought.One at kind) sought.Several = sought.Several
both sought.Several b = sought.Several

-- what is found where a test passes
abbrev pub if_passed : Bool → Sought → Sought
if_passed passed found = if passed then found else sought.Missing

-- among columns of which the first is at this place
abbrev pub columns_from : ℕ → Text → List OutputColumn → Sought
columns_from at name [] = sought.Missing
columns_from at name (c ∷ cs) = both (if_passed (has_name name c) (sought.One at c.kind)) (columns_from (at + 1) name cs)

-- a table of this name is asked for, or any
abbrev pub is_asked : Option Text → Text → Bool
is_asked None its = true
is_asked (Some table) its = bytes_eq table its

-- among columns with the names of their tables, of which the first is at this place
abbrev pub offers_from : ℕ → Option Text → Text → List Offer → Sought
offers_from at table name [] = sought.Missing
offers_from at table name (o ∷ os) = both (if_passed (is_meant table name o) (sought.One at o.1.kind)) (offers_from (at + 1) table name os)
