-- What a foreign key references.
use Rattle.std.specs.Prelude.{ℕ, Bool, true, false, nat_eq, not, ◌==◌, ◌&&◌, if◌then◌else◌, List, [], ◌∷◌, ◌++◌, length, find, slice_get, Option, Some, None}
use Rattle.std.specs.List.{list_all, list_any, zip}
use Rattle.std.specs.Option.{option_map}
use Rattle.std.specs.Str.{bytes_eq}
use Rattle.hs_ast.specs.declared.definition.ForeignKey.{ForeignKey}
use Rattle.hs_ast.specs.declared.word.Identifier.{Identifier}
use Rattle.hs_elements.specs.Faults.{fault_at, no_such_table_at, repeated, where_so}
use Rattle.hs_elements.specs.Columns.{unknown}
use Rattle.hs_meaning.specs.Parts.{Meaning}
use Rattle.hs_meaning.specs.Queries.{uneven}
use Rattle.hs_plan.specs.declared.definition.Column.{Column}
use Rattle.hs_plan.specs.declared.definition.ForeignKey as plan
use Rattle.hs_plan.specs.declared.fault.Cause.TheVariants as cause
use Rattle.hs_plan.specs.declared.fault.PlacedFault.{PlacedFault}
use Rattle.hs_schema.specs.Catalogue.{Things, table_named}
use Rattle.hs_values.specs.declared.sql_type.SqlType.{SqlType}
use Rattle.hs_values.specs.declared.sql_type.SqlType.TheVariants as t
use Rattle.hs_outlines.specs.declared.outline.Key.{Key}
use Rattle.hs_outlines.specs.Outline.{Outlined, outline, outline_of, places_in, Text}

-- ---- kinds of columns

abbrev pub is_whole : SqlType → Bool
is_whole t.Small = true
is_whole t.Integer = true
is_whole t.Big = true
is_whole _ = false

abbrev pub has_scale : ℕ → SqlType → Bool
has_scale s (t.Decimal precision scale) = s == scale
has_scale s _ = false

abbrev pub is_varchar : SqlType → Bool
is_varchar (t.Varchar most) = true
is_varchar _ = false

abbrev pub is_bool : SqlType → Bool
is_bool t.Bool = true
is_bool _ = false

abbrev pub is_date : SqlType → Bool
is_date t.Date = true
is_date _ = false

abbrev pub is_stamp : SqlType → Bool
is_stamp t.Stamp = true
is_stamp _ = false

-- both whole numbers, both DECIMAL of one scale, both VARCHAR, or the same type
abbrev pub may_reference : SqlType → SqlType → Bool
may_reference t.Small = is_whole
may_reference t.Integer = is_whole
may_reference t.Big = is_whole
may_reference (t.Decimal precision scale) = has_scale scale
may_reference (t.Varchar most) = is_varchar
may_reference t.Bool = is_bool
may_reference t.Date = is_date
may_reference t.Stamp = is_stamp

abbrev pub are_alike : Option Column → Option Column → Bool
are_alike (Some a) (Some b) = may_reference a.data_type b.data_type
are_alike (Some a) None = false
are_alike None b = false

-- the columns at places of the one table and of the other, one beside the other
abbrev pub all_alike : List Column → List Column → List (ℕ × ℕ) → Bool
all_alike child parent = list_all (λ p. are_alike (slice_get child p.0) (slice_get parent p.1))

-- ---- keys

abbrev pub are_among : List ℕ → List ℕ → Bool
are_among some all = list_all (λ a. list_any (nat_eq a) all) some

-- in any order
abbrev pub same_set : List ℕ → List ℕ → Bool
same_set a b = are_among a b && are_among b a

-- the primary key's columns
abbrev pub primary_key : List Key → Option (List ℕ)
primary_key keys = option_map (λ k. k.columns) (find (λ k. k.primary) keys)

abbrev pub is_key : List Key → List ℕ → Bool
is_key keys columns = list_any (λ k. same_set columns k.columns) keys

abbrev pub if_key : List Key → Option (List ℕ) → Option (List ℕ)
if_key keys None = None
if_key keys (Some columns) = if is_key keys columns then Some columns else None

-- the columns that are written, where a key has these; the primary key's where none are
abbrev pub referenced : Outlined → List Identifier → Option (List ℕ)
referenced parent [] = primary_key parent.keys
referenced parent (n ∷ ns) = if_key parent.keys (places_in parent.names (n ∷ ns))

-- a table that isn't there has no columns and no keys
abbrev pub table_or_none : Text → Option Outlined → Outlined
table_or_none name None = outline name [] []
table_or_none name (Some table) = table

-- the table itself, or one of the catalogue
abbrev pub parent_of : Things → Outlined → Text → Outlined
parent_of things own name = if bytes_eq name own.name then own else table_or_none name (option_map outline_of (table_named things name))

-- ---- a foreign key, that stands in an element

abbrev pub unlike_at : ℕ → Outlined → Outlined → List ℕ → List ℕ → List PlacedFault
unlike_at element own parent columns parents =
    if length columns == length parents
    then where_so (not (all_alike own.columns parent.columns (zip columns parents))) (fault_at element cause.Types)
    else uneven

-- where its own columns aren't known, nothing is paired
abbrev pub paired_at : ℕ → Outlined → Outlined → Option (List ℕ) → List ℕ → List PlacedFault
paired_at element own parent None parents = []
paired_at element own parent (Some columns) parents = unlike_at element own parent columns parents

abbrev pub reference_faults : ℕ → Outlined → Outlined → ForeignKey → Option (List ℕ) → Option (List ℕ) → List PlacedFault
reference_faults element own parent key columns None = no_such_table_at key.parent ∷ []
reference_faults element own parent key columns (Some parents) = paired_at element own parent columns parents

abbrev pub key_with : ForeignKey → List ℕ → List ℕ → plan.ForeignKey
key_with key columns parents =
    record { columns = columns; parent = key.parent.name; parent_columns = parents; on_delete = key.on_delete; on_update = key.on_update }

abbrev pub reference_by : ForeignKey → Option (List ℕ) → Option (List ℕ) → Option plan.ForeignKey
reference_by key (Some columns) (Some parents) = Some (key_with key columns parents)
reference_by key (Some columns) None = None
reference_by key None parents = None

abbrev pub reference_to : ℕ → Outlined → List Identifier → ForeignKey → Outlined → Meaning plan.ForeignKey
reference_to element own list key parent =
    let columns : Option (List ℕ) = places_in own.names list in
    let parents : Option (List ℕ) = referenced parent key.parent_columns in
    record {
      faults = unknown own.names list ++ repeated [] list ++ repeated [] key.parent_columns ++ reference_faults element own parent key columns parents;
      part = reference_by key columns parents;
    }

abbrev pub foreign_key : Things → ℕ → Outlined → List Identifier → ForeignKey → Meaning plan.ForeignKey
foreign_key things element own list key = reference_to element own list key (parent_of things own key.parent.name)
