-- A table as the constraints of a definition see it: its columns, and the keys that a foreign key may reference.
use Rattle.std.specs.Prelude.{ℕ, Bool, true, false, List, [], ◌∷◌, map, Option, Some, None}
use Rattle.std.specs.List.{flat_map}
use Rattle.hs_ast.specs.declared.definition.ColumnConstraint.{ColumnConstraint}
use Rattle.hs_ast.specs.declared.definition.ColumnRule.{ColumnRule}
use Rattle.hs_ast.specs.declared.definition.ColumnRule.TheVariants as column
use Rattle.hs_ast.specs.declared.definition.TableElement.{TableElement}
use Rattle.hs_ast.specs.declared.definition.TableElement.TheVariants as element
use Rattle.hs_ast.specs.declared.definition.TableRule.{TableRule}
use Rattle.hs_ast.specs.declared.definition.TableRule.TheVariants as table
use Rattle.hs_ast.specs.declared.word.Identifier.{Identifier}
use Rattle.hs_elements.specs.Columns.{TypedNames, columns_of, place_in}
use Rattle.hs_meaning.specs.Parts.{known}
use Rattle.hs_plan.specs.declared.definition.Column.{Column}
use Rattle.hs_plan.specs.declared.definition.Constraint.{Constraint}
use Rattle.hs_plan.specs.declared.definition.Rule.{Rule}
use Rattle.hs_plan.specs.declared.definition.Rule.TheVariants as rule
use Rattle.hs_schema.specs.declared.table.Table.{Table}
use Rattle.hs_outlines.specs.declared.outline.Key.{Key}
use Rattle.hs_outlines.specs.declared.outline.Outline.{Outline}

abbrev pub Text : Type 0
Text = List ℕ

pub record Outlined : Type 0 where
  pub name : Text
  pub columns : List Column
  -- each name once, with its type
  pub names : TypedNames
  pub keys : List Key

-- as it is kept
abbrev pub seen : Outline → Outlined
seen o = record { name = o.name.now; columns = o.columns.now; names = o.names.now; keys = o.keys.now }

abbrev pub outline : Text → List Column → List Key → Outlined
outline name columns keys = record { name = name; columns = columns; names = columns_of [] columns; keys = keys }

-- the places of columns, where all names are those of columns
abbrev pub places_in : TypedNames → List Identifier → Option (List ℕ)
places_in names list = known (map (λ n. place_in names n.name) list)

-- ---- a table of the catalogue

abbrev pub key_by : Rule → List Key
key_by (rule.PrimaryKey columns) = record { primary = true; columns = columns } ∷ []
key_by (rule.Unique columns) = record { primary = false; columns = columns } ∷ []
key_by (rule.NotNull column) = []
key_by (rule.Check condition) = []
key_by (rule.ForeignKey key) = []
key_by (rule.Index columns) = []

abbrev pub keys_of : List Constraint → List Key
keys_of = flat_map (λ c. key_by c.rule)

abbrev pub outline_of : Table → Outlined
outline_of t = outline t.name t.columns (keys_of t.constraints)

-- ---- the keys of a text

-- a key that names an unknown column is none
abbrev pub key_over : Bool → Option (List ℕ) → List Key
key_over primary None = []
key_over primary (Some columns) = record { primary = primary; columns = columns } ∷ []

abbrev pub key_in_column : TypedNames → Identifier → ColumnRule → List Key
key_in_column names name column.PrimaryKey = key_over true (places_in names (name ∷ []))
key_in_column names name column.Unique = key_over false (places_in names (name ∷ []))
key_in_column names name column.NotNull = []
key_in_column names name (column.Check condition) = []
key_in_column names name (column.References key) = []

abbrev pub key_in_table : TypedNames → TableRule → List Key
key_in_table names (table.PrimaryKey list) = key_over true (places_in names list)
key_in_table names (table.Unique list) = key_over false (places_in names list)
key_in_table names (table.Check condition) = []
key_in_table names (table.ForeignKey list key) = []

abbrev pub keys_in_column : TypedNames → Identifier → List ColumnConstraint → List Key
keys_in_column names name = flat_map (λ k. key_in_column names name k.rule)

abbrev pub keys_in : TypedNames → TableElement → List Key
keys_in names (element.Column c) = keys_in_column names c.name c.constraints
keys_in names (element.Constraint t) = key_in_table names t.rule

-- in the order of the text, those behind included
abbrev pub keys_written : TypedNames → List TableElement → List Key
keys_written names = flat_map (keys_in names)
