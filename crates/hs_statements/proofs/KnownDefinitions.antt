-- What definitions mean is known where there is no fault.
use Rattle.std.proofs.Common.{◌≡◌, ℕ, true, List, [], ◌∷◌, ◌++◌, length, Option, Some, None}
use Rattle.std.specs.Prelude.{is_some}
use Rattle.std.specs.Option.{option_map, option_map_or}
use Rattle.hs_ast.specs.declared.definition.ColumnDefinition.{ColumnDefinition}
use Rattle.hs_ast.specs.declared.definition.ColumnRule.{ColumnRule}
use Rattle.hs_ast.specs.declared.definition.ColumnRule.TheVariants as column
use Rattle.hs_ast.specs.declared.definition.CreateIndex.{CreateIndex}
use Rattle.hs_ast.specs.declared.definition.CreateTable.{CreateTable}
use Rattle.hs_ast.specs.declared.definition.ForeignKey.{ForeignKey}
use Rattle.hs_ast.specs.declared.definition.TableConstraint.{TableConstraint}
use Rattle.hs_ast.specs.declared.definition.TableElement.{TableElement}
use Rattle.hs_ast.specs.declared.definition.TableElement.TheVariants as element
use Rattle.hs_ast.specs.declared.definition.TableRule.{TableRule}
use Rattle.hs_ast.specs.declared.definition.TableRule.TheVariants as table
use Rattle.hs_ast.specs.declared.expression.Expression.{Expression}
use Rattle.hs_ast.specs.declared.word.Identifier.{Identifier}
use Rattle.hs_statements.proofs.KnownExpressions.{condition_met}
use Rattle.hs_statements.proofs.KnownNames.{each_named, place_known, places_known}
use Rattle.hs_statements.proofs.KnownParts.{Each, IsKnown, IsMet, all_met, each_before_flat, each_before_map, each_behind, each_flat, each_map, each_of, each_to, if_met, known_map, left_none, no_cons, right_none}
use Rattle.hs_statements.proofs.KnownTrees.{expression_known}
use Rattle.hs_statements.proofs.SeenColumns.{AreSeen, IsKind}
use Rattle.hs_drops.specs.Definitions.{constraint_dropped, has_constraint, index_created, index_dropped, is_index_of, no_name, no_table, table_dropped}
use Rattle.hs_elements.specs.Columns.{TypedNames, columns_of, has_column, place_in, unknown}
use Rattle.hs_elements.specs.Faults.{Text, exists_at, no_such_column_at, no_such_table_at, repeated, where_so}
use Rattle.hs_meaning.specs.Parts.{Meaning, meant, with_part}
use Rattle.hs_meaning.specs.Statements.{check_meaning, over}
use Rattle.hs_meaning.specs.Surroundings.{in_check}
use Rattle.hs_meaning.specs.Trees.{part_of}
use Rattle.hs_outlines.specs.Columns as outlined
use Rattle.hs_outlines.specs.Columns.{column_in, columns_faults, columns_written, definitions}
use Rattle.hs_outlines.specs.ForeignKeys.{foreign_key, parent_of, reference_by, reference_faults, reference_to, referenced}
use Rattle.hs_outlines.specs.Limits.{beyond}
use Rattle.hs_outlines.specs.Named.{name_faults, primary_name, written}
use Rattle.hs_outlines.specs.Outline.{Outlined, places_in}
use Rattle.hs_plan.specs.declared.definition.Column.{Column}
use Rattle.hs_plan.specs.declared.definition.Definition.TheVariants as d
use Rattle.hs_plan.specs.declared.definition.Rule.{Rule}
use Rattle.hs_plan.specs.declared.definition.Rule.TheVariants as rule
use Rattle.hs_plan.specs.declared.fault.PlacedFault.{PlacedFault}
use Rattle.hs_plan.specs.declared.fault.Which.TheVariants as which
use Rattle.hs_schema.specs.Catalogue as catalogue
use Rattle.hs_schema.specs.Catalogue.{Things, number_of, owner_of}
use Rattle.hs_schema.specs.declared.table.Table.{Table}
use Rattle.hs_scope.specs.Names as scope
use Rattle.hs_scope.specs.declared.from_table.FromTable.{FromTable}
use Rattle.hs_tables.specs.Additions.{Base, added, every_column, named, whole}
use Rattle.hs_tables.specs.Definitions.{base_of, by_column, by_constraint, column_added, constraint_added, new_table, table_added, table_created, with_first}
use Rattle.hs_tables.specs.Rules.{all_rules, check, column_rule, element_rules, made_of, over_columns, reference, rules, table_rule}
use Rattle.hs_tables.specs.Site.{Sight, sight_of}

-- ---- DROP and CREATE INDEX

pub no_table_met : (name : Identifier) → IsMet (no_table name)
no_table_met name = λ none. absurd (no_cons (no_such_table_at name) [] none)

no_name_met : (name : Identifier) → IsMet (no_name name)
no_name_met name = λ none. absurd (no_cons (no_such_column_at name) [] none)

pub table_dropped_met : (things : Things) (name : Identifier) → IsMet (table_dropped things name)
table_dropped_met things name = if_met (is_some (number_of things name.name)) (meant (d.DropTable name.name)) (no_table name) (λ none. tt) (no_table_met name)

pub constraint_dropped_met : (t : Table) (its name : Identifier) → IsMet (constraint_dropped t its name)
constraint_dropped_met t its name = if_met (has_constraint t.constraints name.name) (meant (d.DropConstraint its.name name.name)) (no_name name) (λ none. tt) (no_name_met name)

pub index_dropped_met : (things : Things) (name : Identifier) → IsMet (index_dropped things name)
index_dropped_met things name = if_met (is_index_of things name.name) (meant (d.DropIndex name.name)) (no_name name) (λ none. tt) (no_name_met name)

pub index_created_met : (things : Things) (c : CreateIndex) (t : Table) → IsMet (index_created things c t)
index_created_met things c t = λ none.
    let names : TypedNames = columns_of [] t.columns in
    let taken : List PlacedFault = where_so (is_some (owner_of things c.name.name)) (exists_at c.name) in
    let strange : List PlacedFault = unknown names c.columns in
    let again : List PlacedFault = repeated [] c.columns in
    let three = left_none (taken ++ strange ++ again) (beyond c.table.at which.Constraints (length t.constraints) 1) none in
    known_map (d.CreateIndex c.table.name c.name.name) (places_in names c.columns) (places_known names c.columns (right_none taken strange (left_none (taken ++ strange) again three)))

-- ---- one rule

made_met : {A B : Type 0} (make : A → B) (m : Meaning A) → IsMet m → IsMet (made_of make m)
made_met make m h = λ none. known_map make m.part (h none)

over_columns_met : (own : Outlined) (list : List Identifier) → IsMet (over_columns own list)
over_columns_met own list = λ none. places_known own.names list (left_none (unknown own.names list) (repeated [] list) none)

check_met : (tables : List FromTable) (e : Expression) → AreSeen tables → IsMet (check tables e)
check_met tables e seen = λ none.
    let part = (check_meaning tables e).part in
    known_map rule.Check (option_map (λ t. t.tree) part) (known_map (λ t. t.tree) part (condition_met (in_check (over tables)) (part_of [] e) (seen, tt) (expression_known [] e) none))

parents_known : (at : ℕ) (own parent : Outlined) (key : ForeignKey) (columns parents : Option (List ℕ)) → reference_faults at own parent key columns parents ≡ [] → IsKnown parents
parents_known at own parent key columns None none = absurd (no_cons (no_such_table_at key.parent) [] none)
parents_known at own parent key columns (Some parents) none = tt

reference_known : (key : ForeignKey) (columns parents : Option (List ℕ)) → IsKnown columns → IsKnown parents → IsKnown (reference_by key columns parents)
reference_known key (Some columns) (Some parents) h k = tt
reference_known key (Some columns) None h k = absurd k
reference_known key None parents h k = absurd h

foreign_met : (at : ℕ) (own : Outlined) (list : List Identifier) (key : ForeignKey) (parent : Outlined) → IsMet (reference_to at own list key parent)
foreign_met at own list key parent = λ none.
    let columns : Option (List ℕ) = places_in own.names list in
    let parents : Option (List ℕ) = referenced parent key.parent_columns in
    let strange : List PlacedFault = unknown own.names list in
    let once : List PlacedFault = repeated [] list in
    let again : List PlacedFault = repeated [] key.parent_columns in
    let wrong : List PlacedFault = reference_faults at own parent key columns parents in
    let three = left_none (strange ++ once ++ again) wrong none in
    let two = left_none (strange ++ once) again three in
    reference_known key columns parents (places_known own.names list (left_none strange once two)) (parents_known at own parent key columns parents (right_none (strange ++ once ++ again) wrong none))

reference_met : (s : Sight) (at : ℕ) (list : List Identifier) (key : ForeignKey) → IsMet (reference s at list key)
reference_met s at list key = made_met rule.ForeignKey (foreign_key s.things at s.own list key) (foreign_met at s.own list key (parent_of s.things s.own key.parent.name))

column_rule_met : (s : Sight) (name : Identifier) (r : ColumnRule) → AreSeen s.tables → IsKnown (place_in s.own.names name.name) → IsMet (column_rule s name r)
column_rule_met s name column.NotNull seen place = λ none. known_map rule.NotNull (place_in s.own.names name.name) place
column_rule_met s name column.PrimaryKey seen place = made_met rule.PrimaryKey (over_columns s.own (name ∷ [])) (over_columns_met s.own (name ∷ []))
column_rule_met s name column.Unique seen place = made_met rule.Unique (over_columns s.own (name ∷ [])) (over_columns_met s.own (name ∷ []))
column_rule_met s name (column.Check e) seen place = check_met s.tables e seen
column_rule_met s name (column.References key) seen place = reference_met s name.at (name ∷ []) key

table_rule_met : (s : Sight) (at : ℕ) (r : TableRule) → AreSeen s.tables → IsMet (table_rule s at r)
table_rule_met s at (table.PrimaryKey list) seen = made_met rule.PrimaryKey (over_columns s.own list) (over_columns_met s.own list)
table_rule_met s at (table.Unique list) seen = made_met rule.Unique (over_columns s.own list) (over_columns_met s.own list)
table_rule_met s at (table.Check e) seen = check_met s.tables e seen
table_rule_met s at (table.ForeignKey list key) seen = reference_met s at list key

-- ---- the rules of elements

-- the column is among these
abbrev IsNamed : TypedNames → TableElement → Type 0
IsNamed names x = Each (λ c. has_column names c.name.name ≡ true) (column_in x)

element_met : (s : Sight) (x : TableElement) → AreSeen s.tables → IsNamed s.own.names x → Each (λ m. IsMet m) (element_rules s x)
element_met s (element.Column c) seen h =
    each_map (λ m. IsMet m) (λ k. column_rule s c.name k.rule) c.constraints
    (each_of (λ k. IsMet (column_rule s c.name k.rule)) c.constraints (λ k. column_rule_met s c.name k.rule seen (place_known s.own.names c.name.name h.0)))
element_met s (element.Constraint t) seen h = (table_rule_met s t.at t.rule seen, tt)

rules_met : (s : Sight) (elements : List TableElement) → AreSeen s.tables → Each (IsNamed s.own.names) elements → IsMet (rules s elements)
rules_met s elements seen h =
    all_met (all_rules s elements) (each_flat (λ m. IsMet m) (element_rules s) elements (each_to (IsNamed s.own.names) (λ x. Each (λ m. IsMet m) (element_rules s x)) elements (λ x k. element_met s x seen k) h))

-- ---- what is added to a table

-- all that they see
abbrev sight : Things → Base → List TableElement → Sight
sight things b elements = sight_of things (whole b elements)

sight_seen : (things : Things) (b : Base) (elements : List TableElement) → AreSeen (sight things b elements).tables
sight_seen things b elements =
    let columns : List Column = every_column b elements in
    (each_map IsKind scope.column_of columns (each_of (λ c. IsKind (scope.column_of c)) columns (λ c. tt)), tt)

columns_named : (b : Base) (elements : List TableElement) → Each (IsNamed (columns_of [] (every_column b elements))) elements
columns_named b elements =
    let names : TypedNames = columns_of [] (every_column b elements) in
    let all = each_named [] (every_column b elements) in
    let own = each_behind (λ c. has_column names c.name ≡ true) b.columns (columns_written elements) all in
    each_before_flat (λ c. has_column names c.name.name ≡ true) column_in elements (each_before_map (λ c. has_column names c.name ≡ true) outlined.column_of (definitions elements) own)

asked_none : (things : Things) (at : ℕ) (b : Base) (elements : List TableElement) (names : List Text) → (added things at b elements names).faults ≡ [] → (rules (sight things b elements) elements).faults ≡ []
asked_none things at b elements names none =
    let of_columns : List PlacedFault = columns_faults (columns_of [] b.columns) (definitions elements) in
    let of_names : List PlacedFault = name_faults things [] (primary_name b.constraints) (written elements) names in
    let asked : List PlacedFault = (rules (sight things b elements) elements).faults in
    let many : List PlacedFault = beyond at which.Columns (length (every_column b elements)) 0 in
    let more : List PlacedFault = beyond at which.Constraints (length b.constraints) (length (written elements)) in
    right_none (of_columns ++ of_names) asked (left_none (of_columns ++ of_names ++ asked) many (left_none (of_columns ++ of_names ++ asked ++ many) more none))

added_met : (things : Things) (at : ℕ) (b : Base) (elements : List TableElement) (names : List Text) → IsMet (added things at b elements names)
added_met things at b elements names = λ none.
    known_map (named names) (rules (sight things b elements) elements).part
    (rules_met (sight things b elements) elements (sight_seen things b elements) (columns_named b elements) (asked_none things at b elements names none))

pub table_created_met : (things : Things) (c : CreateTable) (names : List Text) → IsMet (table_created things c names)
table_created_met things c names = λ none.
    let taken : List PlacedFault = where_so (is_some (number_of things c.name.name)) (exists_at c.name) in
    let many : List PlacedFault = beyond c.name.at which.Tables (length (catalogue.named things)) 1 in
    let more = table_added things c names in
    known_map (d.CreateTable c.storage c.name.name (columns_written c.elements)) more.part (added_met things c.name.at (new_table c.name) c.elements names (right_none (taken ++ many) more.faults none))

pub column_added_met : (things : Things) (name : Identifier) (c : ColumnDefinition) (t : Table) (names : List Text) → IsMet (column_added things name c t names)
column_added_met things name c t names = λ none.
    known_map (d.AddColumn name.name (outlined.column_of c)) (added things name.at (base_of name t) (by_column c) names).part (added_met things name.at (base_of name t) (by_column c) names none)

abbrev pub HasFirst : List Text → Type 0
HasFirst (n ∷ ns) = Unit {0}
HasFirst [] = ⊥

first_known : (name : Text) (names : List Text) (o : Option Rule) → HasFirst names → IsKnown o → IsKnown (option_map_or (with_first name) (option_map (named names) (with_part (Some []) o)) None)
first_known name (n ∷ ns) (Some r) first h = tt
first_known name (n ∷ ns) None first h = absurd h
first_known name [] o first h = absurd first

pub constraint_added_met : (things : Things) (name : Identifier) (k : TableConstraint) (t : Table) (names : List Text) → HasFirst names → IsMet (constraint_added things name k t names)
constraint_added_met things name k t names first = λ none.
    let its : Sight = sight things (base_of name t) (by_constraint k) in
    let asked : Meaning Rule = table_rule its k.at k.rule in
    first_known name.name names asked.part first
    (table_rule_met its k.at k.rule (sight_seen things (base_of name t) (by_constraint k)) (left_none asked.faults [] (asked_none things name.at (base_of name t) (by_constraint k) names none)))
