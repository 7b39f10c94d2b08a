-- What is answered to definitions names nothing with a line feed, and no constraint that they make has such a name.
use Rattle.std.proofs.Common.{◌≡◌, ℕ, Bool, true, false, not, ◌&&◌, List, [], ◌∷◌, ◌++◌, length, Option, Some, None, Result, refl}
use Rattle.std.specs.Prelude.{◌+◌, if◌then◌else◌, is_some, nat_lt}
use Rattle.std.specs.List.{list_all}
use Rattle.std.specs.Option.{option_map_or}
use Rattle.std.proofs.lemmas.Bool.{and_from, and_parts}
use Rattle.hs_ast.specs.Lawful.{is_identifier, is_lawful_action, is_lawful_column, is_lawful_constraint, is_lawful_element, is_lawful_statement}
use Rattle.hs_ast.specs.declared.definition.AlterAction.{AlterAction}
use Rattle.hs_ast.specs.declared.definition.AlterAction.TheVariants as action
use Rattle.hs_ast.specs.declared.definition.ColumnDefinition.{ColumnDefinition}
use Rattle.hs_ast.specs.declared.definition.CreateIndex.{CreateIndex}
use Rattle.hs_ast.specs.declared.definition.CreateTable.{CreateTable}
use Rattle.hs_ast.specs.declared.definition.DefaultValue.{DefaultValue}
use Rattle.hs_ast.specs.declared.definition.TableElement.{TableElement}
use Rattle.hs_ast.specs.declared.definition.TableElement.TheVariants as element
use Rattle.hs_ast.specs.declared.statement.Stmt.TheVariants as s
use Rattle.hs_ast.specs.declared.word.Identifier.{Identifier}
use Rattle.hs_statements.specs.Answers.{answer}
use Rattle.hs_statements.specs.Bound.{altered, by_names, index_on, named}
use Rattle.hs_statements.specs.Naming.{names_from}
use Rattle.hs_drops.specs.Definitions.{has_constraint, index_created, index_dropped, is_index_of, no_name, no_table, table_dropped}
use Rattle.hs_elements.specs.Columns.{TypedNames, columns_of, has_column, unknown}
use Rattle.hs_elements.specs.Faults.{Text, exists_at, fault_at, no_such_column_at, no_such_table_at, repeated, where_so}
use Rattle.hs_elements.specs.Defaults.{default_of}
use Rattle.hs_meaning.specs.Parts.{Meaning, meant}
use Rattle.hs_outlines.specs.Columns as outlined
use Rattle.hs_outlines.specs.Columns.{column_faults, column_in, columns_faults, columns_written, default_faults, definitions, type_of, with_definition}
use Rattle.hs_outlines.specs.Limits.{beyond, most}
use Rattle.hs_outlines.specs.Named.{clash, first_key, is_primary, is_taken, name_faults, primary_name, second, written}
use Rattle.hs_outlines.specs.Outline.{places_in}
use Rattle.hs_outlines.specs.declared.written.Written.{Written}
use Rattle.hs_plainsql.specs.Naming.{are_named, are_single, is_single, names_single}
use Rattle.hs_plan.specs.declared.definition.Constraint.{Constraint}
use Rattle.hs_plan.specs.declared.definition.Definition.{Definition}
use Rattle.hs_plan.specs.declared.definition.Definition.TheVariants as d
use Rattle.hs_plan.specs.declared.definition.Rule.{Rule}
use Rattle.hs_plan.specs.declared.fault.BindFault.{BindFault}
use Rattle.hs_plan.specs.declared.fault.Cause.TheVariants as cause
use Rattle.hs_plan.specs.declared.fault.PlacedFault.{PlacedFault}
use Rattle.hs_plan.specs.declared.fault.Which.{Which}
use Rattle.hs_plan.specs.declared.fault.Which.TheVariants as which
use Rattle.hs_reading.proofs.Answered.{OnAnswer, meaning_answered}
use Rattle.hs_reading.proofs.Catalogues.{primary_single, table_single}
use Rattle.hs_reading.proofs.Lists.{IsNamed, IsSingle, names_are, on_every, on_map, repeated_single, unknown_single, where_single}
use Rattle.hs_reading.proofs.SingleNames.{IsTextName, IsWritten, all_written, names_single_from}
use Rattle.hs_reading.proofs.SingleParts.{AreSingle, Each, OnPart, both, each_flat, each_passed, one}
use Rattle.hs_reading.proofs.SingleRules.{rules_single}
use Rattle.hs_reading.proofs.SingleTrees.{name_single}
use Rattle.hs_schema.specs.Catalogue as catalogue
use Rattle.hs_schema.specs.Catalogue.{Things, number_of, owner_of, table_named}
use Rattle.hs_schema.specs.declared.table.Table.{Table}
use Rattle.hs_tables.specs.Additions.{Base, added, constraint_by, every_column, named as with_names, whole}
use Rattle.hs_tables.specs.Answers.{ByNames}
use Rattle.hs_tables.specs.Definitions.{base_of, by_column, by_constraint, column_added, constraint_added, new_table, table_added, table_created, with_first}
use Rattle.hs_tables.specs.Rules.{rules}
use Rattle.hs_tables.specs.Site.{sight_of}

abbrev pub IsMade : Definition → Type 0
IsMade definition = names_single definition ≡ true

abbrev pub OnMade : Result Definition BindFault → Type 0
OnMade = OnAnswer IsMade

made : (m : Meaning Definition) → AreSingle m.faults → OnPart IsMade m.part → OnMade (answer m)
made m h k = meaning_answered IsMade m h k

-- ---- columns

default_by : (c : ColumnDefinition) (o : Option DefaultValue) → AreSingle (default_faults (type_of c) o)
default_by c None = refl
default_by c (Some its) = where_single (not (is_some (default_of (type_of c) its.literal))) (fault_at its.at cause.Types) refl

default_single : (c : ColumnDefinition) → AreSingle (default_faults (type_of c) c.default)
default_single c = default_by c c.default

column_single : (names : TypedNames) (c : ColumnDefinition) → IsNamed c.name → AreSingle (column_faults names c)
column_single names c h =
    both (where_so (has_column names c.name.name) (exists_at c.name)) (default_faults (type_of c) c.default) (where_single (has_column names c.name.name) (exists_at c.name) h) (default_single c)

columns_single : (names : TypedNames) (cs : List ColumnDefinition) → Each (λ c. IsNamed c.name) cs → AreSingle (columns_faults names cs)
columns_single names [] h = refl
columns_single names (c ∷ cs) h = both (column_faults names c) (columns_faults (with_definition names c) cs) (column_single names c h.0) (columns_single (with_definition names c) cs h.1)

columns_in : (x : TableElement) → is_lawful_element x ≡ true → Each (λ c. IsNamed c.name) (column_in x)
columns_in (element.Column c) h = (name_single c.name.name (and_parts (is_identifier c.name) _ h).0, tt)
columns_in (element.Constraint t) h = tt

definitions_named : (elements : List TableElement) → list_all is_lawful_element elements ≡ true → Each (λ c. IsNamed c.name) (definitions elements)
definitions_named elements h = each_flat (λ c. IsNamed c.name) column_in elements (each_passed (λ x. Each (λ c. IsNamed c.name) (column_in x)) is_lawful_element elements columns_in h)

-- ---- names

clash_single : (things : Things) (given : List Text) (o : Option Identifier) → OnPart IsNamed o → AreSingle (clash things given o)
clash_single things given None h = refl
clash_single things given (Some own) h = where_single (is_taken things given own.name) (exists_at own) h

second_single : (first : Option Text) (w : Written) → OnPart IsSingle first → AreSingle (second first w)
second_single None w h = refl
second_single (Some first) w h = where_single (is_primary w.kind) (fault_at w.at (cause.Exists first)) h

key_by : (b : Bool) (name : Text) → IsSingle name → OnPart IsSingle (if b then Some name else None)
key_by true name h = h
key_by false name h = tt

first_key_single : (first : Option Text) (w : Written) (name : Text) → OnPart IsSingle first → IsSingle name → OnPart IsSingle (first_key first w name)
first_key_single (Some first) w name h k = h
first_key_single None w name h k = key_by (is_primary w.kind) name k

names_faults_single : (things : Things) (given : List Text) (first : Option Text) (ws : List Written) (names : List Text) → OnPart IsSingle first → Each IsWritten ws → Each IsSingle names → AreSingle (name_faults things given first ws names)
names_faults_single things given first [] names h k l = refl
names_faults_single things given first (w ∷ ws) [] h k l = refl
names_faults_single things given first (w ∷ ws) (n ∷ ns) h k l =
    both (clash things given w.name ++ second first w) (name_faults things (given ++ n ∷ []) (first_key first w n) ws ns)
    (both (clash things given w.name) (second first w) (clash_single things given w.name k.0) (second_single first w h))
    (names_faults_single things (given ++ n ∷ []) (first_key first w n) ws ns (first_key_single first w n h l.0) k.1 l.1)

constraints_single : (names : List Text) (its : List Rule) → Each IsSingle names → are_single (with_names names its) ≡ true
constraints_single [] its h = refl
constraints_single (n ∷ ns) [] h = refl
constraints_single (n ∷ ns) (r ∷ rs) h = and_from (is_single (constraint_by (n, r))) (are_single (with_names ns rs)) h.0 (constraints_single ns rs h.1)

-- ---- what is added to a table

beyond_single : (at : ℕ) (what : Which) (before more : ℕ) → AreSingle (beyond at what before more)
beyond_single at what before more = where_single (nat_lt (most what) (before + more)) (fault_at at (cause.Limit what)) refl

added_single : (things : Things) (at : ℕ) (b : Base) (elements : List TableElement) (names : List Text) → are_single b.constraints ≡ true → list_all is_lawful_element elements ≡ true → Each IsSingle names → AreSingle (added things at b elements names).faults
added_single things at b elements names keys lawful single =
    let of_columns : List PlacedFault = columns_faults (columns_of [] b.columns) (definitions elements) in
    let of_names : List PlacedFault = name_faults things [] (primary_name b.constraints) (written elements) names in
    let asked : List PlacedFault = (rules (sight_of things (whole b elements)) elements).faults in
    let many : List PlacedFault = beyond at which.Columns (length (every_column b elements)) 0 in
    let more : List PlacedFault = beyond at which.Constraints (length b.constraints) (length (written elements)) in
    both (of_columns ++ of_names ++ asked ++ many) more
    (both (of_columns ++ of_names ++ asked) many
    (both (of_columns ++ of_names) asked
    (both of_columns of_names (columns_single (columns_of [] b.columns) (definitions elements) (definitions_named elements lawful))
    (names_faults_single things [] (primary_name b.constraints) (written elements) names (primary_single b.constraints keys) (all_written elements lawful) single))
    (rules_single (sight_of things (whole b elements)) elements lawful))
    (beyond_single at which.Columns (length (every_column b elements)) 0))
    (beyond_single at which.Constraints (length b.constraints) (length (written elements)))

added_part : (things : Things) (at : ℕ) (b : Base) (elements : List TableElement) (names : List Text) → Each IsSingle names → OnPart (λ cs. are_single cs ≡ true) (added things at b elements names).part
added_part things at b elements names single =
    let asked = (rules (sight_of things (whole b elements)) elements).part in
    on_map (λ cs. are_single cs ≡ true) (with_names names) asked (on_every (λ its. are_single (with_names names its) ≡ true) asked (λ its. constraints_single names its single))

-- ---- definitions with names

by_names_single : (means : ByNames) (o : Option (List Text)) → OnPart (Each IsSingle) o → ((names : List Text) → Each IsSingle names → OnMade (answer (means names))) → OnMade (by_names means o)
by_names_single means (Some names) h k = k names h
by_names_single means None h k = refl

named_made : (things : Things) (table : Text) (elements : List TableElement) (means : ByNames) → IsTextName table → list_all is_lawful_element elements ≡ true
    → ((names : List Text) → Each IsSingle names → OnMade (answer (means names))) → OnMade (named things table elements means)
named_made things table elements means name lawful h = by_names_single means (names_from things table [] (written elements)) (names_single_from things table [] (written elements) name (all_written elements lawful)) h

pub table_created_made : (things : Things) (c : CreateTable) → IsTextName c.name.name → list_all is_lawful_element c.elements ≡ true → OnMade (named things c.name.name c.elements (table_created things c))
table_created_made things c name lawful =
    named_made things c.name.name c.elements (table_created things c) name lawful (λ names single.
    let taken : List PlacedFault = where_so (is_some (number_of things c.name.name)) (exists_at c.name) in
    let many : List PlacedFault = beyond c.name.at which.Tables (length (catalogue.named things)) 1 in
    let more = table_added things c names in
    made (table_created things c names)
    (both (taken ++ many) more.faults
    (both taken many (where_single (is_some (number_of things c.name.name)) (exists_at c.name) name.single) (beyond_single c.name.at which.Tables (length (catalogue.named things)) 1))
    (added_single things c.name.at (new_table c.name) c.elements names refl lawful single))
    (on_map IsMade (d.CreateTable c.storage c.name.name (columns_written c.elements)) more.part (added_part things c.name.at (new_table c.name) c.elements names single)))

-- ---- ALTER TABLE

no_table_made : (name : Identifier) → IsNamed name → OnMade (answer (no_table name))
no_table_made name h = made (no_table name) (one (no_such_table_at name) h) tt

no_name_single : (name : Identifier) → IsNamed name → AreSingle (no_name name).faults
no_name_single name h = one (no_such_column_at name) h

if_made : (b : Bool) (x : Definition) (y : Meaning Definition) → IsMade x → AreSingle y.faults → OnPart IsMade y.part → OnMade (answer (if b then meant x else y))
if_made true x y h k l = made (meant x) refl h
if_made false x y h k l = made y k l

first_made : (table : Text) (cs : List Constraint) → are_single cs ≡ true → OnPart IsMade (with_first table cs)
first_made table [] h = tt
first_made table (c ∷ cs) h = (and_parts (is_single c) (are_single cs) h).0

first_part : (table : Text) (o : Option (List Constraint)) → OnPart (λ cs. are_single cs ≡ true) o → OnPart IsMade (option_map_or (with_first table) o None)
first_part table None h = tt
first_part table (Some cs) h = first_made table cs h

abbrev HasNames : Table → Type 0
HasNames t = are_single t.constraints ≡ true

altered_by : (things : Things) (name : Identifier) (a : AlterAction) (o : Option Table) → IsTextName name.name → is_lawful_action a ≡ true → OnPart HasNames o → OnMade (altered things name a o)
altered_by things name (action.AddColumn c) (Some t) h k l =
    let lawful : list_all is_lawful_element (by_column c) ≡ true = and_from (is_lawful_column c) true k refl in
    named_made things name.name (by_column c) (column_added things name c t) h lawful (λ names single.
    made (column_added things name c t names) (added_single things name.at (base_of name t) (by_column c) names l lawful single)
    (on_map IsMade (d.AddColumn name.name (outlined.column_of c)) (added things name.at (base_of name t) (by_column c) names).part (added_part things name.at (base_of name t) (by_column c) names single)))
altered_by things name (action.AddColumn c) None h k l = no_table_made name h.single
altered_by things name (action.AddConstraint c) (Some t) h k l =
    let lawful : list_all is_lawful_element (by_constraint c) ≡ true = and_from (is_lawful_constraint c) true k refl in
    named_made things name.name (by_constraint c) (constraint_added things name c t) h lawful (λ names single.
    made (constraint_added things name c t names) (added_single things name.at (base_of name t) (by_constraint c) names l lawful single)
    (first_part name.name (added things name.at (base_of name t) (by_constraint c) names).part (added_part things name.at (base_of name t) (by_constraint c) names single)))
altered_by things name (action.AddConstraint c) None h k l = no_table_made name h.single
altered_by things name (action.DropConstraint n) (Some t) h k l = if_made (has_constraint t.constraints n.name) (d.DropConstraint name.name n.name) (no_name n) refl (no_name_single n (name_single n.name k)) tt
altered_by things name (action.DropConstraint n) None h k l = no_table_made name h.single

pub altered_made : (things : Things) (name : Identifier) (a : AlterAction) → are_named things ≡ true → IsTextName name.name → is_lawful_action a ≡ true → OnMade (altered things name a (table_named things name.name))
altered_made things name a known h k = altered_by things name a (table_named things name.name) h k (table_single things name.name known)

-- ---- DROP and CREATE INDEX

pub table_dropped_made : (things : Things) (name : Identifier) → IsNamed name → OnMade (answer (table_dropped things name))
table_dropped_made things name h = if_made (is_some (number_of things name.name)) (d.DropTable name.name) (no_table name) refl (one (no_such_table_at name) h) tt

pub index_dropped_made : (things : Things) (name : Identifier) → IsNamed name → OnMade (answer (index_dropped things name))
index_dropped_made things name h = if_made (is_index_of things name.name) (d.DropIndex name.name) (no_name name) refl (no_name_single name h) tt

created_on : (things : Things) (c : CreateIndex) (t : Table) → IsNamed c.name → Each IsNamed c.columns → OnMade (answer (index_created things c t))
created_on things c t h k =
    let names : TypedNames = columns_of [] t.columns in
    let taken : List PlacedFault = where_so (is_some (owner_of things c.name.name)) (exists_at c.name) in
    let strange : List PlacedFault = unknown names c.columns in
    let again : List PlacedFault = repeated [] c.columns in
    made (index_created things c t)
    (both (taken ++ strange ++ again) (beyond c.table.at which.Constraints (length t.constraints) 1)
    (both (taken ++ strange) again (both taken strange (where_single (is_some (owner_of things c.name.name)) (exists_at c.name) h) (unknown_single names c.columns k)) (repeated_single [] c.columns k))
    (beyond_single c.table.at which.Constraints (length t.constraints) 1))
    (on_map IsMade (d.CreateIndex c.table.name c.name.name) (places_in names c.columns) (on_every (λ columns. IsMade (d.CreateIndex c.table.name c.name.name columns)) (places_in names c.columns) (λ columns. h)))

index_by : (things : Things) (c : CreateIndex) (o : Option Table) → IsNamed c.name → IsNamed c.table → Each IsNamed c.columns → OnMade (index_on things c o)
index_by things c (Some t) h k l = created_on things c t h l
index_by things c None h k l = no_table_made c.table k

pub index_made : (things : Things) (c : CreateIndex) → is_lawful_statement (s.CreateIndex c) ≡ true → OnMade (index_on things c (table_named things c.table.name))
index_made things c h =
    let first = and_parts (is_identifier c.name) (is_identifier c.table && list_all is_identifier c.columns) h in
    let two = and_parts (is_identifier c.table) (list_all is_identifier c.columns) first.1 in
    index_by things c (table_named things c.table.name) (name_single c.name.name first.0) (name_single c.table.name two.0) (names_are c.columns two.1)
