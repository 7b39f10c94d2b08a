-- What is asked of a definition that is bound over a catalogue, as a test.
use Rattle.std.specs.Prelude.{◌&&◌, nat_eq, Bool, true, false, List, map, Option, None, Some, is_none, is_some}
use Rattle.std.specs.List.{list_all}
use Rattle.std.specs.Str.{bytes_eq}
use Rattle.hs_base.specs.declared.numbers.TableNo.{TableNo}
use Rattle.hs_language.specs.Sound.{are_distinct, has_fitting_default}
use Rattle.hs_plan.specs.declared.definition.Constraint.{Constraint}
use Rattle.hs_plan.specs.declared.definition.Definition.{Definition}
use Rattle.hs_plan.specs.declared.definition.Definition.TheVariants as d
use Rattle.hs_language.specs.Added.{columns_added, constraints_added}
use Rattle.hs_language.specs.Limits.{keeps_limits}
use Rattle.hs_language.specs.Proper.{adds_new_columns, are_over, are_paired, drops_constraint, drops_index, is_in_memory, rule_refers}
use Rattle.hs_schema.specs.Catalogue.{Text, Things, number_of, owner_of}

abbrev pub is_free : Things → Text → Bool
is_free things name = is_none (owner_of things name)

-- what `AreNew` of hs_schema says: no constraint or index has the name of one of these, and no two of them have one name
abbrev pub are_new : Things → List Constraint → Bool
are_new things constraints = are_distinct bytes_eq (map (λ c. c.name) constraints) && list_all (λ c. is_free things c.name) constraints

abbrev pub has_table : Things → Text → Bool
has_table things name = is_some (number_of things name)

abbrev pub is_same : Option TableNo → Option TableNo → Bool
is_same (Some a) (Some b) = nat_eq a.0 b.0
is_same None None = true
is_same _ _ = false

-- what `IsBound` of hs_schema says
abbrev pub is_bound : Things → Definition → Bool
is_bound things (d.CreateTable storage name columns constraints) = is_none (number_of things name) && are_new things constraints
is_bound things (d.DropTable name) = has_table things name
is_bound things (d.AddColumn table column constraints) = has_table things table && are_new things constraints
is_bound things (d.AddConstraint table constraint) = has_table things table && is_free things constraint.name
is_bound things (d.DropConstraint table name) = has_table things table && is_same (owner_of things name) (number_of things table)
is_bound things (d.CreateIndex table name columns) = has_table things table && is_free things name
is_bound things (d.DropIndex name) = is_some (owner_of things name)
is_bound things (d.SetControl control) = true
is_bound things (d.SetDefaultLevel serializable) = true

-- what `IsProper` of hs_language says
abbrev pub has_fine_columns : Things → Definition → Bool
has_fine_columns things definition = adds_new_columns things definition && list_all has_fitting_default (columns_added definition)

abbrev pub has_fine_constraints : Things → Definition → Bool
has_fine_constraints things definition = are_over things definition && (list_all (λ c. rule_refers things definition c.rule) (constraints_added definition) && are_paired things definition)

abbrev pub is_proper : Things → Definition → Bool
is_proper things definition =
    is_in_memory definition && (keeps_limits things definition && (is_bound things definition && (has_fine_columns things definition
    && (has_fine_constraints things definition && (drops_index things definition && drops_constraint things definition)))))
