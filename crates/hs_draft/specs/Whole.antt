-- How all rows violate constraints.
use Rattle.std.specs.Prelude.{ℕ, List, [], map, Option}
use Rattle.hs_plan.specs.declared.definition.Constraint.{Constraint}
use Rattle.hs_plan.specs.declared.definition.Rule.{Rule}
use Rattle.hs_schema.specs.Catalogue.{Things, Text, constraints_in}
use Rattle.hs_schema.specs.declared.thing.Thing.{Thing}
use Rattle.hs_changes.specs.Settings.{Maps}
use Rattle.hs_sentences.specs.declared.violation.Violation.{Violation}
use Rattle.hs_sentences.specs.Violations as all
use Rattle.hs_sentences.specs.Violations.{Checks, constraints_of, first_some}

-- no row counts as put
abbrev pub violation : Checks → Things → Maps → (ℕ × Constraint) → Option Violation
violation checks things maps = all.violation checks things (λ table. []) maps

abbrev pub rule_violation : Checks → Things → Maps → ℕ → Text → Rule → Option Violation
rule_violation checks things maps table name rule = violation checks things maps (table, record { name = name; rule = rule })

abbrev pub violation_in : Checks → Things → Maps → Thing → Option Violation
violation_in checks things maps thing = first_some (map (violation checks things maps) (map (λ c. (thing.table.0, c)) (constraints_in thing.part)))

-- the first among the constraints of some things
abbrev pub first_in : Checks → Things → Maps → Things → Option Violation
first_in checks things maps some = first_some (map (violation checks things maps) (constraints_of some))
