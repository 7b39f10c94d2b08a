-- Whether constraints and definitions can be written, as tests.
use Rattle.std.specs.Prelude.{ℕ, Bool, true, false, not, ◌&&◌, List, length, is_some}
use Rattle.std.specs.List.{list_all}
use Rattle.hs_plan.specs.declared.definition.Column.{Column}
use Rattle.hs_plan.specs.declared.definition.Constraint.{Constraint}
use Rattle.hs_plan.specs.declared.definition.Definition.{Definition}
use Rattle.hs_plan.specs.declared.definition.Definition.TheVariants as d
use Rattle.hs_plan.specs.declared.definition.Rule.{Rule}
use Rattle.hs_plan.specs.declared.definition.Rule.TheVariants as rule
use Rattle.hs_plan.specs.declared.expression.Expr.{Expr}
use Rattle.hs_schema.specs.Catalogue.{Things, table_named}
use Rattle.hs_keytext.specs.Owners.{Owner}
use Rattle.hs_tabletext.specs.Columns.{is_own, with_column}
use Rattle.hs_tabletext.specs.Tables.{owner_of}
use Rattle.hs_shorttext.specs.Tables.{columns_of}
use Rattle.hs_alterationtext.specs.Alterations.{is_not_null, owner_in}
use Rattle.hs_texttest.specs.Columns.{are_columns, is_column, is_foreign_key, is_named, is_place}

-- whether a condition over these columns can be written
abbrev pub ConditionTest : Type 0
ConditionTest = List Column → Expr → Bool

-- ---- constraints

-- an index is no constraint
abbrev pub is_rule : ConditionTest → Owner → Rule → Bool
is_rule test owner (rule.NotNull place) = is_place owner.columns place
is_rule test owner (rule.PrimaryKey places) = are_columns owner.columns places
is_rule test owner (rule.Unique places) = are_columns owner.columns places
is_rule test owner (rule.Check condition) = test owner.columns condition
is_rule test owner (rule.ForeignKey key) = is_foreign_key owner key
is_rule test owner (rule.Index places) = false

abbrev pub is_constraint : ConditionTest → Owner → Constraint → Bool
is_constraint test owner c = is_named c.name && is_rule test owner c.rule

-- ---- tables

abbrev pub is_new_table : ConditionTest → Things → List ℕ → List Column → List Constraint → Bool
is_new_table test things name columns constraints =
    is_named name && (list_all is_column columns && list_all (is_constraint test (owner_of things name columns)) constraints)

-- a name of a table of the catalogue
abbrev pub is_table : Things → List ℕ → Bool
is_table things name = is_named name && is_some (table_named things name)

-- a column that can be added to this table, with constraints of its own
abbrev pub is_added : ConditionTest → Owner → Column → List Constraint → Bool
is_added test table column constraints =
    is_column column
    && (list_all (is_constraint test (with_column table column)) constraints && list_all (λ c. is_own (length table.columns) c.rule) constraints)

-- NOT NULL isn't added alone
abbrev pub is_lone : ConditionTest → Owner → Constraint → Bool
is_lone test table c = is_constraint test table c && not (is_not_null c.rule)

-- ---- definitions

abbrev pub is_definition : ConditionTest → Things → Definition → Bool
is_definition test things (d.CreateTable storage name columns constraints) = is_new_table test things name columns constraints
is_definition test things (d.DropTable name) = is_named name
is_definition test things (d.AddColumn table column constraints) = is_table things table && is_added test (owner_in things table) column constraints
is_definition test things (d.AddConstraint table constraint) = is_table things table && is_lone test (owner_in things table) constraint
is_definition test things (d.DropConstraint table name) = is_table things table && is_named name
is_definition test things (d.CreateIndex table name columns) = is_named name && (is_table things table && are_columns (columns_of things table) columns)
is_definition test things (d.DropIndex name) = is_named name
is_definition test things (d.SetControl control) = true
is_definition test things (d.SetDefaultLevel serializable) = true
