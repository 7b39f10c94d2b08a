-- Changes whose conditions are plain.
use Rattle.std.specs.Prelude.{◌≡◌, true, List}
use Rattle.std.specs.List.{All}
use Rattle.hs_plan.specs.declared.change.Change.{Change}
use Rattle.hs_plan.specs.declared.change.Change.TheVariants as c
use Rattle.hs_plan.specs.declared.definition.Constraint.{Constraint}
use Rattle.hs_plan.specs.declared.definition.Definition.{Definition}
use Rattle.hs_plan.specs.declared.definition.Definition.TheVariants as d
use Rattle.hs_plan.specs.declared.definition.Rule.{Rule}
use Rattle.hs_plan.specs.declared.definition.Rule.TheVariants as rule
use Rattle.hs_sameness.specs.Plain.{is_plain}

-- the condition of a CHECK has no query and no aggregate
abbrev pub IsPlainRule : Rule → Type 0
IsPlainRule (rule.Check condition) = is_plain condition ≡ true
IsPlainRule _ = Unit {0}

abbrev pub IsPlainConstraint : Constraint → Type 0
IsPlainConstraint constraint = IsPlainRule constraint.rule

abbrev pub IsPlainDefinition : Definition → Type 0
IsPlainDefinition (d.CreateTable storage name columns constraints) = All IsPlainConstraint constraints
IsPlainDefinition (d.AddColumn table column constraints) = All IsPlainConstraint constraints
IsPlainDefinition (d.AddConstraint table constraint) = IsPlainConstraint constraint
IsPlainDefinition _ = Unit {0}

-- a change of a row has no condition
abbrev pub IsPlainChange : Change → Type 0
IsPlainChange (c.Define definition) = IsPlainDefinition definition
IsPlainChange _ = Unit {0}
