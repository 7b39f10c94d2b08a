-- What has a text can be printed.
use Rattle.std.proofs.Common.{ℕ, List, [], ◌∷◌, Option, Some, None}
use Rattle.std.specs.List.{AllByRecursion}
use Rattle.std.proofs.lemmas.List.Elements.{All-nil, All-cons}
use Rattle.hs_plan.specs.declared.change.Change.{Change}
use Rattle.hs_plan.specs.declared.change.Change.TheVariants as c
use Rattle.hs_plan.specs.declared.definition.Column.{Column}
use Rattle.hs_plan.specs.declared.definition.Constraint.{Constraint}
use Rattle.hs_plan.specs.declared.definition.Definition.{Definition}
use Rattle.hs_plan.specs.declared.definition.Definition.TheVariants as d
use Rattle.hs_plan.specs.declared.definition.Rule.{Rule}
use Rattle.hs_plan.specs.declared.definition.Rule.TheVariants as rule
use Rattle.hs_schema.specs.Catalogue.{Things}
use Rattle.hs_values.specs.declared.sql_type.SqlType.{SqlType}
use Rattle.hs_values.specs.declared.value.Value.{Value}
use Rattle.hs_values.proofs.OneType.{fits_lawful, row_lawful}
use Rattle.hs_columntext.specs.Columns as defaults
use Rattle.hs_keytext.specs.Owners.{Owner}
use Rattle.hs_tabletext.specs.Conditions.{Wording}
use Rattle.hs_tabletext.specs.Rules as rules
use Rattle.hs_tabletext.specs.Constraints as lines
use Rattle.hs_tabletext.specs.Columns.{with_column}
use Rattle.hs_tabletext.specs.Tables.{owner_of}
use Rattle.hs_alterationtext.specs.Alterations.{owner_in}
use Rattle.hs_rowtext.specs.Rows.{types_of}
use Rattle.hs_committext.specs.Definitions as definitions
use Rattle.hs_committext.specs.Changes as changes

-- ---- columns

default_printable : (sql_type : SqlType) (default : Option Value) → defaults.IsDefault sql_type default → defaults.IsPrintable default
default_printable sql_type None h = tt
default_printable sql_type (Some value) h = fits_lawful sql_type value h.0

column_printable : (column : Column) → defaults.IsColumn column → defaults.IsPrintable column.default
column_printable column h = default_printable column.data_type column.default h.typed.1

columns_printable : (cs : List Column) → AllByRecursion defaults.IsColumn cs → defaults.ArePrintable cs
columns_printable [] h = All-nil (λ x. defaults.IsPrintable x.default)
columns_printable (column ∷ cs) h = All-cons (λ x. defaults.IsPrintable x.default) column cs (column_printable column h.0) (columns_printable cs h.1)

-- ---- constraints

rule_printable : (wording : Wording) (owner : Owner) (r : Rule) → rules.IsRule wording owner r → rules.IsPrintable wording owner.columns r
rule_printable wording owner (rule.NotNull place) h = tt
rule_printable wording owner (rule.PrimaryKey places) h = tt
rule_printable wording owner (rule.Unique places) h = tt
rule_printable wording owner (rule.Check condition) h = h
rule_printable wording owner (rule.ForeignKey key) h = tt
rule_printable wording owner (rule.Index places) h = tt

constraints_printable : (wording : Wording) (owner : Owner) (cs : List Constraint) → AllByRecursion (lines.IsConstraint wording owner) cs → lines.ArePrintable wording owner.columns cs
constraints_printable wording owner [] h = All-nil (λ x. rules.IsPrintable wording owner.columns x.rule)
constraints_printable wording owner (constraint ∷ cs) h =
    All-cons (λ x. rules.IsPrintable wording owner.columns x.rule) constraint cs (rule_printable wording owner constraint.rule h.0.rule) (constraints_printable wording owner cs h.1)

-- ---- definitions

definition_printable : (wording : Wording) (things : Things) (e : Definition) → definitions.IsDefinition wording things e → definitions.IsPrintable wording things e
definition_printable wording things (d.CreateTable storage name cs constraints) h = (columns_printable cs h.body.columns, constraints_printable wording (owner_of things name cs) constraints h.body.constraints)
definition_printable wording things (d.DropTable name) h = tt
definition_printable wording things (d.AddColumn table column constraints) h = (column_printable column h.alteration.column, constraints_printable wording (with_column (owner_in things table) column) constraints h.alteration.constraints.lawful)
definition_printable wording things (d.AddConstraint table constraint) h = rule_printable wording (owner_in things table) constraint.rule h.alteration.lawful.rule
definition_printable wording things (d.DropConstraint table name) h = tt
definition_printable wording things (d.CreateIndex table name places) h = tt
definition_printable wording things (d.DropIndex name) h = tt
definition_printable wording things (d.SetControl control) h = tt
definition_printable wording things (d.SetDefaultLevel serializable) h = tt

-- ---- changes

pub change_printable : (wording : Wording) (things : Things) (change : Change) → changes.IsChange wording things change → changes.IsPrintable wording things change
change_printable wording things (c.Insert table row) h = row_lawful (types_of h.table.columns) row h.of.1.fits
change_printable wording things (c.Put table number row) h = row_lawful (types_of h.table.columns) row h.of.2.fits
change_printable wording things (c.Delete table number) h = tt
change_printable wording things (c.Define definition) h = definition_printable wording things definition h

pub text_printable : (wording : Wording) (things : Things) (text : List ℕ) (change : Change) → changes.IsChangeText wording things text change → changes.IsPrintable wording things change
text_printable wording things text (c.Insert table row) h = row_lawful (types_of h.table.columns) row h.of.1.fits
text_printable wording things text (c.Put table number row) h = row_lawful (types_of h.table.columns) row h.of.2.fits
text_printable wording things text (c.Delete table number) h = tt
text_printable wording things text (c.Define definition) h = definition_printable wording things definition h.lawful
