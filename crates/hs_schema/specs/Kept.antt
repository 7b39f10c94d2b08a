-- What a catalogue keeps beside its list, for look-ups.
use Rattle.std.specs.Prelude.{◌≡◌, ℕ, ◌≤◌, Bool, false, not, nat_eq, ◌&&◌, List, [], ◌∷◌, ◌++◌, filter, Option, None, Some, string_bytes}
use Rattle.std.specs.declared.alloc.Global.{Global}
use Rattle.std.specs.declared.string.String.{String}
use Rattle.std.specs.declared.vec.Vec.{Vec}
use Rattle.std.specs.List.{All, list_any}
use Rattle.std.specs.Map.{lookup}
use Rattle.std.specs.Option.{option_map_or}
use Rattle.std.specs.Str.{bytes_eq}
use Rattle.hs_base.specs.declared.numbers.TableNo.{TableNo}
use Rattle.hs_plan.specs.declared.definition.Column.{Column}
use Rattle.hs_plan.specs.declared.definition.Constraint.{Constraint}
use Rattle.hs_schema.specs.declared.table.Child.{Child}
use Rattle.hs_schema.specs.declared.table.Table.{Table}
use Rattle.hs_schema.specs.declared.thing.Part.{Part}
use Rattle.hs_schema.specs.declared.thing.Part.TheVariants as part
use Rattle.hs_schema.specs.Catalogue.{Text, Things, is_of, table_numbered, named, number_of, owned, owned_in, children_of}
use Rattle.hs_schema.specs.Texts.{texts}
use Rattle.hs_schema.specs.Whole.{Ascends, IsWhole, numbers}

-- the foreign keys that are kept for the parent of this name
abbrev pub children_at : List (String Global × Vec Child Global) → Text → List Child
children_at lists name = option_map_or (λ v. v.items) (lookup (λ k. bytes_eq name (string_bytes k)) lists) []

abbrev pub is_of_table : TableNo → Child → Bool
is_of_table table child = nat_eq table.0 child.table.0

abbrev pub is_child : TableNo → Text → Child → Bool
is_child table name child = is_of_table table child && bytes_eq name child.constraint

-- a table with a column or none, and with constraints, behind its own
abbrev pub grown : Table → Option Column → List Constraint → Table
grown table column constraints = record table { columns = table.columns ++ option_map_or (λ c. c ∷ []) column []; constraints = table.constraints ++ constraints }

-- a table without its constraint or index of this name
abbrev pub without : Text → Table → Table
without name table = record table { constraints = filter (λ c. not (bytes_eq name c.name)) table.constraints }

-- the maps answer what the list says
pub record IsKept (things : Things) (tables : List (ℕ × Table)) (numbers owners : List (String Global × TableNo)) (children : List (String Global × Vec Child Global)) : Type 0 where
  pub by_number : (table : TableNo) → lookup (nat_eq table.0) tables ≡ table_numbered things table
  pub by_name : texts numbers ≡ named things
  pub by_constraint : texts owners ≡ owned things
  pub by_parent : (name : Text) → children_at children name ≡ children_of things name
  pub whole : IsWhole things

-- no entry has the name of the constraint or index
abbrev pub IsFree : List (Text × TableNo) → Part → Type 0
IsFree entries (part.Table name storage columns) = Unit {0}
IsFree entries (part.Column column) = Unit {0}
IsFree entries (part.Constraint constraint) = lookup (bytes_eq constraint.name) entries ≡ None

-- nor does one of those before it
abbrev pub AreFree : List (Text × TableNo) → Things → Type 0
AreFree entries [] = Unit {0}
AreFree entries (t ∷ ts) = IsFree entries t.part × AreFree (entries ++ owned_in t.table t.part) ts

-- a table as it stands with more things of its own behind the list, and its name where it is new
pub record IsGrown (things : Things) (table : Table) (name : Option Text) (more : Things) : Type 0 where
  pub own : filter (is_of table.number) more ≡ more
  pub stands : table_numbered (things ++ more) table.number ≡ Some table
  pub names : named more ≡ option_map_or (λ n. (n, table.number) ∷ []) name []
  pub new : (n : Text) → name ≡ Some n → number_of things n ≡ None
  pub free : AreFree (owned things) more
  pub in_order : All (λ t. t.table.0 ≤ t.number) more
  pub unused : (n : Text) → name ≡ Some n → list_any (nat_eq table.number.0) (numbers (named things)) ≡ false
  pub ascending : Ascends more
  pub behind : All (λ t. All (λ u. t.number ≤ u.number) more) things
