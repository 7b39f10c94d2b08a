-- What is asked of a definition that is bound over a catalogue.
use Rattle.std.specs.Prelude.{◌≡◌, ◌==◌, ◌&&◌, ◌||◌, nat_eq, nat_lt, not, Bool, true, false, List, map, ℕ, length}
use Rattle.std.specs.List.{list_all, list_any, zip}
use Rattle.std.specs.Str.{bytes_eq}
use Rattle.hs_ast.specs.declared.definition.Storage.{Storage}
use Rattle.hs_ast.specs.declared.definition.Storage.TheVariants as s
use Rattle.hs_outlines.specs.ForeignKeys.{all_alike}
use Rattle.hs_plan.specs.declared.definition.Column.{Column}
use Rattle.hs_plan.specs.declared.definition.Constraint.{Constraint}
use Rattle.hs_plan.specs.declared.definition.Definition.{Definition}
use Rattle.hs_plan.specs.declared.definition.Definition.TheVariants as d
use Rattle.hs_plan.specs.declared.definition.ForeignKey.{ForeignKey}
use Rattle.hs_plan.specs.declared.definition.Rule.{Rule}
use Rattle.hs_plan.specs.declared.definition.Rule.TheVariants as rule
use Rattle.hs_schema.specs.Catalogue.{IsBound, Text, Things}
use Rattle.hs_sentences.specs.Violations.{constraints_of}
use Rattle.hs_footprint.specs.Touched.{are_same, key_columns}
use Rattle.hs_language.specs.Added.{columns_added, columns_behind, columns_named, columns_seen, constraints_added, constraints_named, constraints_seen, parts_added, table_of}
use Rattle.hs_language.specs.Limits.{keeps_limits}
use Rattle.hs_language.specs.Sound.{are_distinct, has_fitting_default}

-- ---- tables

-- in memory: CACHED isn't offered yet
abbrev pub is_memory : Storage → Bool
is_memory s.Memory = true
is_memory s.Cached = false

abbrev pub is_in_memory : Definition → Bool
is_in_memory (d.CreateTable storage name columns constraints) = is_memory storage
is_in_memory _ = true

-- ---- columns

abbrev pub has_column : List Column → Text → Bool
has_column columns name = list_any (λ c. bytes_eq name c.name) columns

-- no two of them have one name, and none has that of a column before them
abbrev pub are_new_columns : List Column → List Column → Bool
are_new_columns before columns = are_distinct bytes_eq (map (λ c. c.name) columns) && list_all (λ c. not (has_column before c.name)) columns

abbrev pub adds_new_columns : Things → Definition → Bool
adds_new_columns things definition = are_new_columns (columns_named things (table_of definition)) (columns_added definition)

-- ---- keys and indexes

-- places of some of so many columns, one at least and none twice
abbrev pub are_columns : ℕ → List ℕ → Bool
are_columns many places = nat_lt 0 (length places) && (list_all (λ p. nat_lt p many) places && are_distinct nat_eq places)

-- it is over some of so many columns
abbrev pub is_over : ℕ → Rule → Bool
is_over many (rule.NotNull column) = nat_lt column many
is_over many (rule.PrimaryKey columns) = are_columns many columns
is_over many (rule.Unique columns) = are_columns many columns
is_over many (rule.Check condition) = true
is_over many (rule.ForeignKey key) = are_columns many key.columns
is_over many (rule.Index columns) = are_columns many columns

-- the constraints and indexes that it adds are over columns of their table
abbrev pub are_over : Things → Definition → Bool
are_over things definition = list_all (λ c. is_over (length (columns_behind things definition)) c.rule) (parts_added definition)

-- ---- foreign keys

-- these are the columns of a key, in any order
abbrev pub is_key_over : List ℕ → Constraint → Bool
is_key_over columns c = are_same (key_columns c.rule) columns

abbrev pub has_key_over : List Constraint → List ℕ → Bool
has_key_over constraints columns = list_any (is_key_over columns) constraints

-- it has as many columns as it references, and these are those of a key that its parent has, or that the definition gives it
abbrev pub refers : Things → Definition → ForeignKey → Bool
refers things definition key = (length key.columns == length key.parent_columns) && has_key_over (constraints_seen things definition key.parent) key.parent_columns

abbrev pub rule_refers : Things → Definition → Rule → Bool
rule_refers things definition (rule.ForeignKey key) = refers things definition key
rule_refers things definition _ = true

-- each of its columns is of the kind of the one that it references
abbrev pub pairs : Things → Definition → ForeignKey → Bool
pairs things definition key = all_alike (columns_behind things definition) (columns_seen things definition key.parent) (zip key.columns key.parent_columns)

abbrev pub rule_pairs : Things → Definition → Rule → Bool
rule_pairs things definition (rule.ForeignKey key) = pairs things definition key
rule_pairs things definition _ = true

abbrev pub are_paired : Things → Definition → Bool
are_paired things definition = list_all (λ c. rule_pairs things definition c.rule) (constraints_added definition)

-- ---- what is dropped

abbrev pub is_index : Rule → Bool
is_index (rule.Index columns) = true
is_index _ = false

-- what has this name is an index
abbrev pub is_index_named : Text → (ℕ × Constraint) → Bool
is_index_named name c = not (bytes_eq name c.1.name) || is_index c.1.rule

abbrev pub drops_index : Things → Definition → Bool
drops_index things (d.DropIndex name) = list_all (is_index_named name) (constraints_of things)
drops_index things _ = true

-- what has this name is no index
abbrev pub is_constraint_named : Text → Constraint → Bool
is_constraint_named name c = not (bytes_eq name c.name) || not (is_index c.rule)

abbrev pub drops_constraint : Things → Definition → Bool
drops_constraint things (d.DropConstraint table name) = list_all (is_constraint_named name) (constraints_named things table)
drops_constraint things _ = true

-- ---- the whole

-- The table that it names is there, or is new where it makes one; the names of its constraints are new, and what it drops is
-- there. A table that it makes is in memory, and it keeps the limits on tables. The columns that it adds have new names, and
-- their defaults fit them. Keys and indexes are over columns of their table. Each foreign key that it adds references a key,
-- and its columns are of the kinds of those of the key. An index that it drops is one, and a constraint is none.
pub record IsProper (things : Things) (definition : Definition) : Type 0 where
  pub bound : IsBound things definition
  pub storage : is_in_memory definition ≡ true
  pub limits : keeps_limits things definition ≡ true
  pub columns : adds_new_columns things definition ≡ true
  pub defaults : list_all has_fitting_default (columns_added definition) ≡ true
  pub places : are_over things definition ≡ true
  pub references : list_all (λ c. rule_refers things definition c.rule) (constraints_added definition) ≡ true
  pub kinds : are_paired things definition ≡ true
  pub index : drops_index things definition ≡ true
  pub constraint : drops_constraint things definition ≡ true
