-- What a definition adds to a table.
use Rattle.std.specs.Prelude.{◌≡◌, ℕ, List, [], ◌∷◌, ◌++◌, length, map, Option}
use Rattle.std.specs.List.{zip}
use Rattle.std.specs.Option.{option_map}
use Rattle.hs_ast.specs.declared.definition.TableElement.{TableElement}
use Rattle.hs_elements.specs.Columns.{columns_of}
use Rattle.hs_elements.specs.Faults.{Text}
use Rattle.hs_meaning.specs.Parts.{Meaning}
use Rattle.hs_outlines.specs.declared.columns.AllColumns.{AllColumns}
use Rattle.hs_outlines.specs.declared.outline.Key.{Key}
use Rattle.hs_outlines.specs.Columns.{columns_faults, columns_written, definitions}
use Rattle.hs_outlines.specs.Limits.{beyond}
use Rattle.hs_outlines.specs.Named.{AreNamed, name_faults, primary_name, written}
use Rattle.hs_outlines.specs.Outline.{Outlined, keys_of, keys_written, outline}
use Rattle.hs_plan.specs.declared.definition.Column.{Column}
use Rattle.hs_plan.specs.declared.definition.Constraint.{Constraint}
use Rattle.hs_plan.specs.declared.definition.Rule.{Rule}
use Rattle.hs_plan.specs.declared.fault.Which.TheVariants as which
use Rattle.hs_schema.specs.Catalogue.{Things}
use Rattle.hs_meaning.specs.Finding.{Least}
use Rattle.hs_typed.specs.Faults.{noted}
use Rattle.hs_tables.specs.declared.additions.Before.{Before}
use Rattle.hs_tables.specs.Rules.{rules}
use Rattle.hs_tables.specs.Site.{Sight, sight_of}

-- a table before a definition: nothing of a table that it makes
pub record Base : Type 0 where
  pub name : Text
  pub columns : List Column
  pub constraints : List Constraint

-- as it is kept
abbrev pub base : Before → Base
base b = record { name = b.name.now; columns = b.columns.now; constraints = b.constraints.now }

-- the columns with those of the text
abbrev pub every_column : Base → List TableElement → List Column
every_column b elements = b.columns ++ columns_written elements

-- the table as the constraints of the text see it: all of the text counts, also what stands behind
abbrev pub whole : Base → List TableElement → Outlined
whole b elements =
    let columns : List Column = every_column b elements in
    outline b.name columns (keys_of b.constraints ++ keys_written (columns_of [] columns) elements)

-- what they see, from columns and keys that were made
abbrev pub sight_by : Things → Text → AllColumns → List Key → Sight
sight_by things name all keys = sight_of things (record { name = name; columns = all.columns; names = all.names; keys = keys })

abbrev pub constraint_by : Text × Rule → Constraint
constraint_by p = record { name = p.0; rule = p.1 }

-- rules with their names
abbrev pub named : List Text → List Rule → List Constraint
named names rules = map constraint_by (zip names rules)

-- the constraints of the text, which have these names, in a definition whose table's name is at this place
abbrev pub added : Things → ℕ → Base → List TableElement → List Text → Meaning (List Constraint)
added things at b elements names =
    let asked : Meaning (List Rule) = rules (sight_of things (whole b elements)) elements in
    record {
      faults =
          columns_faults (columns_of [] b.columns) (definitions elements)
          ++ name_faults things [] (primary_name b.constraints) (written elements) names
          ++ asked.faults
          ++ beyond at which.Columns (length (every_column b elements)) 0
          ++ beyond at which.Constraints (length b.constraints) (length (written elements));
      part = option_map (named names) asked.part;
    }

-- the constraints of the text have these names, and with these they are found, with what is wrong in the text noted
pub record IsAdded (things : Things) (at : ℕ) (b : Base) (elements : List TableElement) (names : List Text) (found : Option (List Constraint)) (old new : Least) : Type 0 where
  pub named : AreNamed things b.name [] (written elements) names
  pub part : found ≡ (added things at b elements names).part
  pub noted : new ≡ noted old (added things at b elements names).faults
