-- Names of constraints, which refusals tell.
use Rattle.std.specs.Prelude.{Bool, true, List}
use Rattle.std.specs.List.{list_all}
use Rattle.hs_entries.specs.Parts.{lacks}
use Rattle.hs_plan.specs.declared.definition.Constraint.{Constraint}
use Rattle.hs_plan.specs.declared.definition.Definition.{Definition}
use Rattle.hs_plan.specs.declared.definition.Definition.TheVariants as d
use Rattle.hs_schema.specs.Catalogue.{Things, constraints_in}
use Rattle.hs_schema.specs.declared.thing.Thing.{Thing}

-- the name of a constraint has no line feed
abbrev pub is_single : Constraint → Bool
is_single constraint = lacks 10 constraint.name

abbrev pub are_single : List Constraint → Bool
are_single constraints = list_all is_single constraints

-- nor have those of a thing, and of all things of a catalogue
abbrev pub is_named : Thing → Bool
is_named thing = are_single (constraints_in thing.part)

abbrev pub are_named : Things → Bool
are_named things = list_all is_named things

-- nor those that a definition makes
abbrev pub names_single : Definition → Bool
names_single (d.CreateTable storage name columns constraints) = are_single constraints
names_single (d.AddColumn table column constraints) = are_single constraints
names_single (d.AddConstraint table constraint) = is_single constraint
names_single (d.CreateIndex table name columns) = lacks 10 name
names_single _ = true
