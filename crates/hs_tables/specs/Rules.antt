-- What the constraints of a definition ask.
use Rattle.std.specs.Prelude.{ℕ, List, [], ◌∷◌, ◌++◌, map, fold, Option}
use Rattle.std.specs.List.{flat_map}
use Rattle.std.specs.Option.{option_map}
use Rattle.hs_ast.specs.declared.definition.ColumnConstraint.{ColumnConstraint}
use Rattle.hs_ast.specs.declared.definition.ColumnRule.{ColumnRule}
use Rattle.hs_ast.specs.declared.definition.ColumnRule.TheVariants as column
use Rattle.hs_ast.specs.declared.definition.ForeignKey.{ForeignKey}
use Rattle.hs_ast.specs.declared.definition.TableElement.{TableElement}
use Rattle.hs_ast.specs.declared.definition.TableElement.TheVariants as element
use Rattle.hs_ast.specs.declared.definition.TableRule.{TableRule}
use Rattle.hs_ast.specs.declared.definition.TableRule.TheVariants as table
use Rattle.hs_ast.specs.declared.expression.Expression.{Expression}
use Rattle.hs_ast.specs.declared.word.Identifier.{Identifier}
use Rattle.hs_elements.specs.Columns.{place_in, unknown}
use Rattle.hs_elements.specs.Faults.{repeated}
use Rattle.hs_meaning.specs.Parts.{Meaning, all, tree_in, with_part}
use Rattle.hs_meaning.specs.Statements.{check_meaning}
use Rattle.hs_outlines.specs.ForeignKeys.{foreign_key}
use Rattle.hs_outlines.specs.Outline.{Outlined, places_in}
use Rattle.hs_plan.specs.declared.definition.Rule.{Rule}
use Rattle.hs_plan.specs.declared.definition.Rule.TheVariants as rule
use Rattle.hs_plan.specs.declared.fault.PlacedFault.{PlacedFault}
use Rattle.hs_scope.specs.declared.from_table.FromTable.{FromTable}
use Rattle.hs_tables.specs.Site.{Sight}

-- ---- one rule

-- a part that is made of another one
abbrev pub made_of : {A B : Type 0} → (A → B) → Meaning A → Meaning B
made_of make m = record { faults = m.faults; part = option_map make m.part }

abbrev pub not_null : Outlined → Identifier → Meaning Rule
not_null own name = record { faults = []; part = option_map rule.NotNull (place_in own.names name.name) }

-- columns of a key: each is there, and none twice
abbrev pub over_columns : Outlined → List Identifier → Meaning (List ℕ)
over_columns own list = record { faults = unknown own.names list ++ repeated [] list; part = places_in own.names list }

abbrev pub primary_key : Outlined → List Identifier → Meaning Rule
primary_key own list = made_of rule.PrimaryKey (over_columns own list)

abbrev pub unique : Outlined → List Identifier → Meaning Rule
unique own list = made_of rule.Unique (over_columns own list)

abbrev pub check : List FromTable → Expression → Meaning Rule
check tables e = made_of rule.Check (tree_in (check_meaning tables e))

-- in an element at this place
abbrev pub reference : Sight → ℕ → List Identifier → ForeignKey → Meaning Rule
reference s at list key = made_of rule.ForeignKey (foreign_key s.things at s.own list key)

-- ---- the rules of elements

-- of a column, whose element begins at its name
abbrev pub column_rule : Sight → Identifier → ColumnRule → Meaning Rule
column_rule s name column.NotNull = not_null s.own name
column_rule s name column.PrimaryKey = primary_key s.own (name ∷ [])
column_rule s name column.Unique = unique s.own (name ∷ [])
column_rule s name (column.Check e) = check s.tables e
column_rule s name (column.References key) = reference s name.at (name ∷ []) key

-- of a table
abbrev pub table_rule : Sight → ℕ → TableRule → Meaning Rule
table_rule s at (table.PrimaryKey list) = primary_key s.own list
table_rule s at (table.Unique list) = unique s.own list
table_rule s at (table.Check e) = check s.tables e
table_rule s at (table.ForeignKey list key) = reference s at list key

abbrev pub column_rules : Sight → Identifier → List ColumnConstraint → List (Meaning Rule)
column_rules s name = map (λ k. column_rule s name k.rule)

abbrev pub element_rules : Sight → TableElement → List (Meaning Rule)
element_rules s (element.Column c) = column_rules s c.name c.constraints
element_rules s (element.Constraint t) = table_rule s t.at t.rule ∷ []

-- in the order of the text
abbrev pub all_rules : Sight → List TableElement → List (Meaning Rule)
all_rules s = flat_map (element_rules s)

abbrev pub rules : Sight → List TableElement → Meaning (List Rule)
rules s elements = all (all_rules s elements)

-- ---- rules one behind another

abbrev pub faults_of : List (Meaning Rule) → List PlacedFault
faults_of = flat_map (λ m. m.faults)

-- behind those that were found
abbrev pub found_after : Option (List Rule) → List (Meaning Rule) → Option (List Rule)
found_after found more = fold with_part found (map (λ m. m.part) more)
