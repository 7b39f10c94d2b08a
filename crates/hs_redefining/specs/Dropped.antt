-- What is dropped that foreign keys may reference.
use Rattle.std.specs.Prelude.{ℕ, ◌==◌, ◌&&◌, not, Bool, Option, None, Some, if◌then◌else◌}
use Rattle.hs_language.specs.Definitions.{rule_names, rule_takes}
use Rattle.hs_plan.specs.declared.definition.Constraint.{Constraint}
use Rattle.hs_plan.specs.declared.definition.Rule.{Rule}
use Rattle.hs_schema.specs.Catalogue.{Text}
use Rattle.hs_schema.specs.declared.thing.Part.{Part}
use Rattle.hs_schema.specs.declared.thing.Part.TheVariants as part
use Rattle.hs_redefining.specs.declared.referencing.Dropped.{Dropped}
use Rattle.hs_redefining.specs.declared.referencing.Dropped.TheVariants as dropped

-- a rule of a table references what is dropped
abbrev pub rule_test : Dropped → ℕ → Rule → Bool
rule_test (dropped.Table own name) table rule = not (table == own.0) && rule_names name.now rule
rule_test (dropped.Key parent place) table rule = rule_takes parent.now place rule

abbrev pub test_of : Dropped → (ℕ × Constraint) → Bool
test_of dropped c = rule_test dropped c.0 c.1.rule

-- the name of a thing that passes a test, which a constraint alone can
abbrev pub name_in : ((ℕ × Constraint) → Bool) → ℕ → Part → Option Text
name_in test table (part.Table name storage columns) = None
name_in test table (part.Column column) = None
name_in test table (part.Constraint constraint) = if test (table, constraint) then Some constraint.name else None
