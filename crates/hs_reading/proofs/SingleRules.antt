-- The faults of a definition's constraints name nothing with a line feed, where the names in them are lawful.
use Rattle.std.proofs.Common.{◌≡◌, ℕ, true, not, ◌==◌, List, [], ◌∷◌, ◌++◌, length, Option, Some, None, refl}
use Rattle.std.specs.List.{list_all, zip}
use Rattle.std.proofs.lemmas.Bool.{and_parts}
use Rattle.hs_ast.specs.Lawful.{if_written, is_identifier, is_lawful_column, is_lawful_column_constraint, is_lawful_column_rule, is_lawful_element, is_lawful_key, is_lawful_table_rule, is_lawful}
use Rattle.hs_ast.specs.declared.definition.ColumnDefinition.{ColumnDefinition}
use Rattle.hs_ast.specs.declared.definition.ColumnRule.{ColumnRule}
use Rattle.hs_ast.specs.declared.definition.ColumnRule.TheVariants as column
use Rattle.hs_ast.specs.declared.definition.ForeignKey.{ForeignKey}
use Rattle.hs_ast.specs.declared.definition.TableElement.{TableElement}
use Rattle.hs_ast.specs.declared.definition.TableElement.TheVariants as element
use Rattle.hs_ast.specs.declared.definition.TableRule.{TableRule}
use Rattle.hs_ast.specs.declared.definition.TableRule.TheVariants as table
use Rattle.hs_ast.specs.declared.expression.Expression.{Expression}
use Rattle.hs_ast.specs.declared.word.Identifier.{Identifier}
use Rattle.hs_elements.specs.Columns.{unknown}
use Rattle.hs_elements.specs.Faults.{fault_at, no_such_table_at, repeated, where_so}
use Rattle.hs_meaning.specs.Queries.{uneven}
use Rattle.hs_meaning.specs.Statements.{over}
use Rattle.hs_meaning.specs.Surroundings.{in_check}
use Rattle.hs_meaning.specs.Trees.{part_of}
use Rattle.hs_outlines.specs.ForeignKeys.{all_alike, paired_at, parent_of, reference_faults, reference_to, referenced, unlike_at}
use Rattle.hs_outlines.specs.Outline.{Outlined, places_in}
use Rattle.hs_plan.specs.declared.fault.Cause.TheVariants as cause
use Rattle.hs_plan.specs.declared.fault.PlacedFault.{PlacedFault}
use Rattle.hs_reading.proofs.Lists.{IsNamed, names_are, repeated_single, unknown_single, where_single}
use Rattle.hs_reading.proofs.SingleExpressions.{condition_single}
use Rattle.hs_reading.proofs.SingleNames.{constraints_lawful}
use Rattle.hs_reading.proofs.SingleParts.{AreSingle, Each, all_single, both, each_flat, each_map, each_passed, either, one}
use Rattle.hs_reading.proofs.SingleTrees.{expression_single, name_single}
use Rattle.hs_scope.specs.declared.from_table.FromTable.{FromTable}
use Rattle.hs_tables.specs.Rules.{all_rules, check, column_rule, column_rules, element_rules, over_columns, reference, rules, table_rule}
use Rattle.hs_tables.specs.Site.{Sight}

-- ---- one rule

over_single : (own : Outlined) (list : List Identifier) → Each IsNamed list → AreSingle (over_columns own list).faults
over_single own list h = both (unknown own.names list) (repeated [] list) (unknown_single own.names list h) (repeated_single [] list h)

check_single : (tables : List FromTable) (e : Expression) → is_lawful e ≡ true → AreSingle (check tables e).faults
check_single tables e h = condition_single (in_check (over tables)) (part_of [] e) (expression_single [] e h)

unlike_single : (at : ℕ) (own parent : Outlined) (columns parents : List ℕ) → AreSingle (unlike_at at own parent columns parents)
unlike_single at own parent columns parents =
    either (length columns == length parents) (where_so (not (all_alike own.columns parent.columns (zip columns parents))) (fault_at at cause.Types)) uneven
    (where_single (not (all_alike own.columns parent.columns (zip columns parents))) (fault_at at cause.Types) refl) refl

paired_single : (at : ℕ) (own parent : Outlined) (columns : Option (List ℕ)) (parents : List ℕ) → AreSingle (paired_at at own parent columns parents)
paired_single at own parent None parents = refl
paired_single at own parent (Some columns) parents = unlike_single at own parent columns parents

parents_single : (at : ℕ) (own parent : Outlined) (key : ForeignKey) (columns parents : Option (List ℕ)) → IsNamed key.parent → AreSingle (reference_faults at own parent key columns parents)
parents_single at own parent key columns None h = one (no_such_table_at key.parent) h
parents_single at own parent key columns (Some parents) h = paired_single at own parent columns parents

foreign_single : (at : ℕ) (own : Outlined) (list : List Identifier) (key : ForeignKey) (parent : Outlined) → Each IsNamed list → is_lawful_key key ≡ true → AreSingle (reference_to at own list key parent).faults
foreign_single at own list key parent h k =
    let two = and_parts (is_identifier key.parent) (list_all is_identifier key.parent_columns) k in
    let columns : Option (List ℕ) = places_in own.names list in
    let parents : Option (List ℕ) = referenced parent key.parent_columns in
    let strange : List PlacedFault = unknown own.names list in
    let once : List PlacedFault = repeated [] list in
    let again : List PlacedFault = repeated [] key.parent_columns in
    both (strange ++ once ++ again) (reference_faults at own parent key columns parents)
    (both (strange ++ once) again (both strange once (unknown_single own.names list h) (repeated_single [] list h)) (repeated_single [] key.parent_columns (names_are key.parent_columns two.1)))
    (parents_single at own parent key columns parents (name_single key.parent.name two.0))

reference_single : (s : Sight) (at : ℕ) (list : List Identifier) (key : ForeignKey) → Each IsNamed list → is_lawful_key key ≡ true → AreSingle (reference s at list key).faults
reference_single s at list key h k = foreign_single at s.own list key (parent_of s.things s.own key.parent.name) h k

column_rule_single : (s : Sight) (name : Identifier) (r : ColumnRule) → IsNamed name → is_lawful_column_rule r ≡ true → AreSingle (column_rule s name r).faults
column_rule_single s name column.NotNull h k = refl
column_rule_single s name column.PrimaryKey h k = over_single s.own (name ∷ []) (h, tt)
column_rule_single s name column.Unique h k = over_single s.own (name ∷ []) (h, tt)
column_rule_single s name (column.Check e) h k = check_single s.tables e k
column_rule_single s name (column.References key) h k = reference_single s name.at (name ∷ []) key (h, tt) k

table_rule_single : (s : Sight) (at : ℕ) (r : TableRule) → is_lawful_table_rule r ≡ true → AreSingle (table_rule s at r).faults
table_rule_single s at (table.PrimaryKey list) h = over_single s.own list (names_are list h)
table_rule_single s at (table.Unique list) h = over_single s.own list (names_are list h)
table_rule_single s at (table.Check e) h = check_single s.tables e h
table_rule_single s at (table.ForeignKey list key) h =
    let two = and_parts (list_all is_identifier list) (is_lawful_key key) h in reference_single s at list key (names_are list two.0) two.1

-- ---- all of them

column_rules_single : (s : Sight) (c : ColumnDefinition) → is_lawful_column c ≡ true → Each (λ m. AreSingle m.faults) (column_rules s c.name c.constraints)
column_rules_single s c h =
    let name : IsNamed c.name = name_single c.name.name (and_parts (is_identifier c.name) _ h).0 in
    each_map (λ m. AreSingle m.faults) (λ k. column_rule s c.name k.rule) c.constraints
    (each_passed (λ k. AreSingle (column_rule s c.name k.rule).faults) is_lawful_column_constraint c.constraints
    (λ k is. column_rule_single s c.name k.rule name (and_parts (if_written is_identifier k.name) (is_lawful_column_rule k.rule) is).1) (constraints_lawful c h))

element_single : (s : Sight) (x : TableElement) → is_lawful_element x ≡ true → Each (λ m. AreSingle m.faults) (element_rules s x)
element_single s (element.Column c) h = column_rules_single s c h
element_single s (element.Constraint t) h = (table_rule_single s t.at t.rule (and_parts (if_written is_identifier t.name) (is_lawful_table_rule t.rule) h).1, tt)

pub rules_single : (s : Sight) (elements : List TableElement) → list_all is_lawful_element elements ≡ true → AreSingle (rules s elements).faults
rules_single s elements h =
    all_single (all_rules s elements) (each_flat (λ m. AreSingle m.faults) (element_rules s) elements (each_passed (λ x. Each (λ m. AreSingle m.faults) (element_rules s x)) is_lawful_element elements (λ x is. element_single s x is) h))
