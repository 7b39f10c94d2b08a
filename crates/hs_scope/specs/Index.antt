-- What is kept beside a long list of columns, so that a name is found at once.
use Rattle.std.specs.Prelude.{◌≡◌, Bool, List, Some, None, is_some, string_bytes}
use Rattle.std.specs.declared.alloc.Global.{Global}
use Rattle.std.specs.declared.string.String.{String}
use Rattle.std.specs.Map.{lookup}
use Rattle.std.specs.Option.{option_map_or}
use Rattle.std.specs.Str.{bytes_eq}
use Rattle.hs_scope.specs.declared.from_table.FromTable.{FromTable}
use Rattle.hs_scope.specs.declared.index.ColumnIndex.{ColumnIndex}
use Rattle.hs_scope.specs.declared.sought.Sought.{Sought}
use Rattle.hs_scope.specs.declared.sought.Sought.TheVariants as sought
use Rattle.hs_scope.specs.Names.{Text, is_offered, sought_in}

-- what is kept for a name
abbrev pub kept_at : List (String Global × Sought) → Text → Sought
kept_at entries name = option_map_or (λ s. s) (lookup (λ k. bytes_eq name (string_bytes k)) entries) sought.Missing

-- what is kept for the columns of the tables of a name
abbrev pub kept_in : List (String Global × ColumnIndex) → Text → Text → Sought
kept_in entries table name = option_map_or (λ i. kept_at i.names.entries name) (lookup (λ k. bytes_eq table (string_bytes k)) entries) sought.Missing

abbrev pub has_table : List (String Global × ColumnIndex) → Text → Bool
has_table entries table = is_some (lookup (λ k. bytes_eq table (string_bytes k)) entries)

-- the maps answer what the tables say
pub record IsIndexOf (names : List (String Global × Sought)) (by_table : List (String Global × ColumnIndex)) (tables : List FromTable) : Type 0 where
  pub by_name : (name : Text) → kept_at names name ≡ sought_in tables None name
  pub by_pair : (table name : Text) → kept_in by_table table name ≡ sought_in tables (Some table) name
  pub there : (table : Text) → has_table by_table table ≡ is_offered tables table
