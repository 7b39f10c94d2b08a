-- The values behind DEFAULT that a definition has.
use Rattle.hs_columntext.specs.Columns as defaults
use Rattle.hs_plan.specs.declared.definition.Definition.{Definition}
use Rattle.hs_plan.specs.declared.definition.Definition.TheVariants as d

-- they are lawful
abbrev pub HasLawfulDefaults : Definition → Type 0
HasLawfulDefaults (d.CreateTable storage name columns constraints) = defaults.ArePrintable columns
HasLawfulDefaults (d.AddColumn table column constraints) = defaults.IsPrintable column.default
HasLawfulDefaults _ = Unit {0}
