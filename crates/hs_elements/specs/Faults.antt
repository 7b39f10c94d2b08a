-- The faults of a definition, each with its place, and the one that counts.
use Rattle.std.specs.Prelude.{ℕ, Bool, if◌then◌else◌, List, [], ◌∷◌, ◌++◌, map, Option, None, Some}
use Rattle.std.specs.List.{list_any}
use Rattle.std.specs.Str.{bytes_eq}
use Rattle.hs_ast.specs.declared.word.Identifier.{Identifier}
use Rattle.hs_plan.specs.Fault.{is_before}
use Rattle.hs_plan.specs.declared.fault.Cause.{Cause}
use Rattle.hs_plan.specs.declared.fault.Cause.TheVariants as cause
use Rattle.hs_plan.specs.declared.fault.PlacedFault.{PlacedFault}

abbrev pub Text : Type 0
Text = List ℕ

-- ---- which counts

-- of two faults the one that comes before the other, and else the one named first
abbrev pub lesser : Option PlacedFault → PlacedFault → Option PlacedFault
lesser None f = Some f
lesser (Some least) f = if is_before f least then Some f else Some least

-- the least of one that was found and of more
abbrev pub least_of : Option PlacedFault → List PlacedFault → Option PlacedFault
least_of found [] = found
least_of found (f ∷ fs) = least_of (lesser found f) fs

-- ---- faults at names

abbrev pub fault_at : ℕ → Cause → PlacedFault
fault_at at c = record { at = at; cause = c }

abbrev pub where_so : Bool → PlacedFault → List PlacedFault
where_so broken f = if broken then f ∷ [] else []

-- the name is taken, or named twice
abbrev pub exists_at : Identifier → PlacedFault
exists_at n = fault_at n.at (cause.Exists n.name)

abbrev pub no_such_table_at : Identifier → PlacedFault
no_such_table_at n = fault_at n.at (cause.NoSuchTable n.name)

-- no such column, constraint or index
abbrev pub no_such_column_at : Identifier → PlacedFault
no_such_column_at n = fault_at n.at (cause.NoSuchColumn n.name)

-- ---- lists of names

abbrev pub is_among : List Text → Text → Bool
is_among names name = list_any (bytes_eq name) names

abbrev pub names_of : List Identifier → List Text
names_of = map (λ n. n.name)

-- each name that stands before it already, in the list or in front of it
abbrev pub repeated : List Text → List Identifier → List PlacedFault
repeated before [] = []
repeated before (n ∷ ns) = where_so (is_among before n.name) (exists_at n) ++ repeated (before ++ n.name ∷ []) ns
