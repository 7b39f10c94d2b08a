-- What the binder answers to a definition is proper.
use Rattle.std.proofs.Common.{◌≡◌, ◌+◌, ◌&&◌, ℕ, Bool, true, false, nat_lt, length, is_some, List, [], ◌∷◌, ◌++◌, Option, None, Some, Result, Ok, Err, refl, sym, ap, ap₂, ◌∙◌, subst, arith, if◌then◌else◌}
use Rattle.std.proofs.lemmas.Bool.{and_from, and_parts}
use Rattle.std.proofs.lemmas.List.{append-nil}
use Rattle.std.proofs.lemmas.List.Elements.{All-head}
use Rattle.std.specs.List.{list_all}
use Rattle.std.specs.Option.{option_map, option_map_or}
use Rattle.std.specs.Str.{bytes_eq}
use Rattle.hs_ast.specs.declared.definition.AlterAction.{AlterAction}
use Rattle.hs_ast.specs.declared.definition.AlterAction.TheVariants as action
use Rattle.hs_ast.specs.declared.definition.ColumnDefinition.{ColumnDefinition}
use Rattle.hs_ast.specs.declared.definition.CreateIndex.{CreateIndex}
use Rattle.hs_ast.specs.declared.definition.CreateTable.{CreateTable}
use Rattle.hs_ast.specs.declared.definition.TableConstraint.{TableConstraint}
use Rattle.hs_ast.specs.declared.statement.Stmt.{Stmt}
use Rattle.hs_ast.specs.declared.statement.Stmt.TheVariants as s
use Rattle.hs_ast.specs.declared.word.Identifier.{Identifier}
use Rattle.hs_drops.specs.Answers.{Answer, Answers, AnswersIndex}
use Rattle.hs_drops.specs.Definitions.{constraint_dropped, has_constraint, index_by, index_dropped, is_index_of, no_name, no_table, table_dropped}
use Rattle.hs_elements.specs.Columns.{columns_of, unknown}
use Rattle.hs_elements.specs.Faults.{Text, exists_at, fault_at, no_such_column_at, no_such_table_at, repeated, where_so}
use Rattle.hs_meaning.specs.Parts.{meant}
use Rattle.hs_outlines.specs.Columns.{column_of, columns_written, definitions}
use Rattle.hs_outlines.specs.Limits.{beyond, most}
use Rattle.hs_outlines.specs.Named.{AreNamed, written}
use Rattle.hs_outlines.specs.Outline.{places_in}
use Rattle.hs_plan.specs.declared.definition.Column.{Column}
use Rattle.hs_plan.specs.declared.definition.Constraint.{Constraint}
use Rattle.hs_plan.specs.declared.definition.Definition.{Definition}
use Rattle.hs_plan.specs.declared.definition.Definition.TheVariants as d
use Rattle.hs_plan.specs.declared.definition.Rule.{Rule}
use Rattle.hs_plan.specs.declared.definition.Rule.TheVariants as rule
use Rattle.hs_plan.specs.declared.fault.BindFault.{BindFault}
use Rattle.hs_plan.specs.declared.fault.BindFault.TheVariants as fault
use Rattle.hs_plan.specs.declared.fault.Cause.TheVariants as cause
use Rattle.hs_plan.specs.declared.fault.Which.TheVariants as which
use Rattle.hs_plan.specs.declared.plan.Plan.{Plan}
use Rattle.hs_plan.specs.declared.plan.Plan.TheVariants as plan
use Rattle.hs_plan.specs.declared.plan.SessionStatement.{SessionStatement}
use Rattle.hs_plan.specs.declared.plan.SessionStatement.TheVariants as session
use Rattle.hs_schema.specs.Catalogue.{AreNew, Things, named as table_names, number_of, owner_of, table_named, table_numbered}
use Rattle.hs_schema.specs.Whole.{IsWhole}
use Rattle.hs_schema.specs.declared.table.Table.{Table}
use Rattle.hs_schema.proofs.Lists.{same_text}
use Rattle.hs_statements.specs.Statements.{AnswersStatement, Gives, is_serializable}
use Rattle.hs_tables.specs.Additions.{Base, added, named, whole as outlined}
use Rattle.hs_tables.specs.Answers.{AnswersAction, AnswersCreate, AnswersNamed}
use Rattle.hs_tables.specs.Definitions.{base_of, by_column, by_constraint, column_added, constraint_added, new_table, table_added, with_first}
use Rattle.hs_tables.specs.Rules.{rules}
use Rattle.hs_tables.specs.Site.{sight_of}
use Rattle.hs_language.specs.Sound.{has_fitting_default}
use Rattle.hs_language.specs.Added.{columns_behind, columns_named, constraints_named, constraints_seen}
use Rattle.hs_language.specs.Limits.{keeps_columns, keeps_limits, keeps_parts, keeps_primary_key, keeps_tables, primary_keys, stays_within}
use Rattle.hs_language.specs.Proper.{are_columns, are_new_columns, is_constraint_named, is_memory, is_over, rule_pairs, rule_refers, IsProper}
use Rattle.hs_language.proofs.Lists.{all_mapped}
use Rattle.hs_reading.specs.Offered.{are_some, is_offered, is_offered_action, is_offered_element, is_offered_rule}
use Rattle.hs_reading.proofs.Added.{added_new, added_over, added_pairs, added_refers, adding, as_many_rules, columns_new, columns_within, constraints_within, key_within, many_names, within, HasColumns, IsAdding, IsSeen}
use Rattle.hs_reading.proofs.Defaults.{column_suits}
use Rattle.hs_reading.proofs.Dropping.{dropped_constraint, dropped_index, named_table, owner_of_constraint, IsIndex, IsThere}
use Rattle.hs_reading.proofs.Faults.{none_both, not_so}
use Rattle.hs_reading.proofs.Naming.{none_of}
use Rattle.hs_reading.proofs.Placed.{some_columns}

-- ---- answers

not_memory : (definition : Definition) → ◌≡◌ {A = Answer} (Ok definition) (Err fault.NoMemory) → ⊥
not_memory definition e = cc

-- the answer to the statement is that to the definition
given : (definition : Definition) (right : Answer → Type 0) → Gives plan.Define right (Ok (plan.Define definition)) → right (Ok definition)
given definition right (Ok a, (is, e)) =
    let same : definition ≡ a = cc in
    subst (λ x. right (Ok x)) (sym same) is
given definition right (Err f, (is, e)) = absurd (cc)

others_given : {A : Type 0} (definition : Definition) (make : A → Plan) (right : Result A BindFault → Type 0) → ((a : A) → make a ≡ plan.Define definition → ⊥) → Gives make right (Ok (plan.Define definition)) → ⊥
others_given definition make right apart (Ok a, (is, e)) = let same : plan.Define definition ≡ make a = cc in apart a (sym same)
others_given definition make right apart (Err f, (is, e)) = cc

-- ---- what is seen

seen_by : {X : Type 0} (name : Text) (all : Text → List X) (before more : List X) → ((n : Text) → bytes_eq n name ≡ true → all n ≡ before) → IsSeen name all before more (λ n. all n ++ (if bytes_eq n name then more else []))
seen_by {X} name all before more was = record {
  own = λ n e. ap₂ (λ (xs : List X) (c : Bool). xs ++ (if c then more else [])) (was n e) e;
  others = λ n e. ap (λ c. all n ++ (if c then more else [])) e;
}

all_so : {X : Type 0} (p : X → Bool) → ((x : X) → p x ≡ true) → (xs : List X) → list_all p xs ≡ true
all_so p so [] = refl
all_so p so (x ∷ xs) = and_from (p x) (list_all p xs) (so x) (all_so p so xs)

-- the limits, one by one
limits_by : (things : Things) (definition : Definition) → keeps_tables things definition ≡ true → keeps_columns things definition ≡ true → keeps_parts things definition ≡ true → keeps_primary_key things definition ≡ true → keeps_limits things definition ≡ true
limits_by things definition tables columns parts key =
    and_from (keeps_tables things definition) (keeps_columns things definition && (keeps_parts things definition && keeps_primary_key things definition)) tables
    (and_from (keeps_columns things definition) (keeps_parts things definition && keeps_primary_key things definition) columns
    (and_from (keeps_parts things definition) (keeps_primary_key things definition) parts key))

-- ---- CREATE TABLE

created : (things : Things) (c : CreateTable) (definition : Definition) → is_memory c.storage ≡ true → list_all is_offered_element c.elements ≡ true → AnswersCreate things c (Ok definition) → IsProper things definition
created things c definition memory some h =
    let found = h (not_memory definition) in
    let names = found.0 in
    let faults = none_both (where_so (is_some (number_of things c.name.name)) (exists_at c.name) ++ beyond c.name.at which.Tables (length (table_names things)) 1) (table_added things c names).faults (found.1).1.0 in
    let front = none_both (where_so (is_some (number_of things c.name.name)) (exists_at c.name)) (beyond c.name.at which.Tables (length (table_names things)) 1) faults.0 in
    let new : number_of things c.name.name ≡ None = none_of (number_of things c.name.name) (not_so (is_some (number_of things c.name.name)) (exists_at c.name) front.0) in
    let few : stays_within (most which.Tables) (length (table_names things)) 1 ≡ true =
    within (most which.Tables) (length (table_names things)) 1 (not_so (nat_lt (most which.Tables) (length (table_names things) + 1)) (fault_at c.name.at (cause.Limit which.Tables)) front.1) in
    by names (found.1).0 new few faults.1 (rules (sight_of things (outlined (new_table c.name) c.elements)) c.elements).part refl (found.1).1.1
  where
    -- no table has the name
    missing : number_of things c.name.name ≡ None → table_named things c.name.name ≡ None
    missing new = ap (λ o. option_map_or (table_numbered things) o None) new

    by : (names : List Text) → AreNamed things c.name.name [] (written c.elements) names → number_of things c.name.name ≡ None → stays_within (most which.Tables) (length (table_names things)) 1 ≡ true → (table_added things c names).faults ≡ []
        → (o : Option (List Rule)) → (rules (sight_of things (outlined (new_table c.name) c.elements)) c.elements).part ≡ o → option_map (d.CreateTable c.storage c.name.name (columns_written c.elements)) (option_map (named names) o) ≡ Some definition → IsProper things definition
    by names are new few well None e h = absurd (let no : None ≡ Some definition = h in cc)
    by names are new few well (Some rs) e h =
        let its : Definition = d.CreateTable c.storage c.name.name (columns_written c.elements) (named names rs) in
        let same : its ≡ definition = cc in
        let b : Base = new_table c.name in
        let is : IsAdding things b c.elements names rs = adding things c.name.at b c.elements names rs are well e in
        let no_columns : columns_named things c.name.name ≡ [] = ap (λ o. option_map_or (λ (t : Table). t.columns) o []) (missing new) in
        let no_constraints : constraints_named things c.name.name ≡ [] = ap (λ o. option_map_or (λ (t : Table). t.constraints) o []) (missing new) in
        let has : HasColumns things b c.elements its = record {
          own = ap (λ (cs : List Column). cs ++ columns_written c.elements) no_columns;
          seen = seen_by c.name.name (columns_named things) [] (columns_written c.elements) (λ n e. ap (columns_named things) (same_text n c.name.name e) ∙ no_columns);
        } in
        let seen : IsSeen c.name.name (constraints_named things) [] (named names rs) (constraints_seen things its) =
        seen_by c.name.name (constraints_named things) [] (named names rs) (λ n e. ap (constraints_named things) (same_text n c.name.name e) ∙ no_constraints) in
        let proper : IsProper things its = record {
          bound = (new, added_new things b c.elements names rs is);
          storage = memory;
          limits = limits_by things its few
              (ap (λ (cs : List Column). stays_within (most which.Columns) (length cs) (length (columns_written c.elements))) no_columns ∙ columns_within things b c.elements names rs is)
              (ap (λ (cs : List Constraint). stays_within (most which.Constraints) (length cs) (length (named names rs))) no_constraints ∙ constraints_within things b c.elements names rs is)
              (ap (λ (cs : List Constraint). stays_within 1 (primary_keys cs) (primary_keys (named names rs))) no_constraints ∙ key_within things b c.elements names rs is);
          columns = ap (λ (cs : List Column). are_new_columns cs (columns_written c.elements)) no_columns ∙ columns_new things b c.elements names rs is;
          defaults = all_mapped has_fitting_default column_of (definitions c.elements) (all_so (λ (x : ColumnDefinition). has_fitting_default (column_of x)) column_suits (definitions c.elements));
          places = added_over things b c.elements names rs is its has some;
          references = added_refers things b c.elements names rs is its seen some;
          kinds = added_pairs things b c.elements names rs is its has some;
          index = refl;
          constraint = refl;
        } in
        subst (IsProper things) same proper

-- ---- ALTER TABLE

module _ (things : Things) (table : Identifier) (t : Table) (there : table_named things table.name ≡ Some t) (definition : Definition) where
  has_table : is_some (number_of things table.name) ≡ true
  has_table = let is : IsThere things table.name t = named_table things table.name t there in ap is_some is.number

  columns_are : columns_named things table.name ≡ t.columns
  columns_are = ap (λ o. option_map_or (λ (x : Table). x.columns) o []) there

  constraints_are : constraints_named things table.name ≡ t.constraints
  constraints_are = ap (λ o. option_map_or (λ (x : Table). x.constraints) o []) there

  columns_before : (name : Text) → bytes_eq name table.name ≡ true → columns_named things name ≡ t.columns
  columns_before name e = ap (columns_named things) (same_text name table.name e) ∙ columns_are

  constraints_before : (name : Text) → bytes_eq name table.name ≡ true → constraints_named things name ≡ t.constraints
  constraints_before name e = ap (constraints_named things) (same_text name table.name e) ∙ constraints_are

  column_more : (c : ColumnDefinition) → AnswersNamed things table.name (by_column c) (column_added things table c t) (Ok definition) → IsProper things definition
  column_more c h = let found = h (not_memory definition) in by found.0 (found.1).0 (found.1).1.0 (rules (sight_of things (outlined (base_of table t) (by_column c))) (by_column c)).part refl (found.1).1.1
    where
      by : (names : List Text) → AreNamed things table.name [] (written (by_column c)) names → (added things table.at (base_of table t) (by_column c) names).faults ≡ []
          → (o : Option (List Rule)) → (rules (sight_of things (outlined (base_of table t) (by_column c))) (by_column c)).part ≡ o → option_map (d.AddColumn table.name (column_of c)) (option_map (named names) o) ≡ Some definition → IsProper things definition
      by names are well None e h = absurd (let no : None ≡ Some definition = h in cc)
      by names are well (Some rs) e h =
          let its : Definition = d.AddColumn table.name (column_of c) (named names rs) in
          let same : its ≡ definition = cc in
          let b : Base = base_of table t in
          let is : IsAdding things b (by_column c) names rs = adding things table.at b (by_column c) names rs are well e in
          let has : HasColumns things b (by_column c) its = record {
            own = ap (λ (cs : List Column). cs ++ columns_written (by_column c)) columns_are;
            seen = seen_by table.name (columns_named things) t.columns (columns_written (by_column c)) columns_before;
          } in
          let seen : IsSeen table.name (constraints_named things) t.constraints (named names rs) (constraints_seen things its) =
          seen_by table.name (constraints_named things) t.constraints (named names rs) constraints_before in
          let proper : IsProper things its = record {
            bound = (has_table, added_new things b (by_column c) names rs is);
            storage = refl;
            limits = limits_by things its refl
                (ap (λ (cs : List Column). stays_within (most which.Columns) (length cs) (length (columns_written (by_column c)))) columns_are ∙ columns_within things b (by_column c) names rs is)
                (ap (λ (cs : List Constraint). stays_within (most which.Constraints) (length cs) (length (named names rs))) constraints_are ∙ constraints_within things b (by_column c) names rs is)
                (ap (λ (cs : List Constraint). stays_within 1 (primary_keys cs) (primary_keys (named names rs))) constraints_are ∙ key_within things b (by_column c) names rs is);
            columns = ap (λ (cs : List Column). are_new_columns cs (columns_written (by_column c))) columns_are ∙ columns_new things b (by_column c) names rs is;
            defaults = and_from (has_fitting_default (column_of c)) true (column_suits c) refl;
            places = added_over things b (by_column c) names rs is its has refl;
            references = added_refers things b (by_column c) names rs is its seen refl;
            kinds = added_pairs things b (by_column c) names rs is its has refl;
            index = refl;
            constraint = refl;
          } in
          subst (IsProper things) same proper

  one_constraint : (names : List Text) (rs : List Rule) → length names ≡ 1 → length names ≡ length rs → (c : Constraint) × (named names rs ≡ c ∷ [])
  one_constraint [] rs a b = absurd (omega (arith, a))
  one_constraint (n ∷ []) [] a b = absurd (omega (arith, b))
  one_constraint (n ∷ []) (r ∷ []) a b = (record { name = n; rule = r }, refl)
  one_constraint (n ∷ []) (r ∷ q ∷ rs) a b = absurd (omega (arith, b))
  one_constraint (n ∷ m ∷ ns) rs a b = absurd (omega (arith, a))

  constraint_more : (k : TableConstraint) → is_offered_rule k.rule ≡ true → AnswersNamed things table.name (by_constraint k) (constraint_added things table k t) (Ok definition) → IsProper things definition
  constraint_more k offered h = let found = h (not_memory definition) in by found.0 (found.1).0 (found.1).1.0 (rules (sight_of things (outlined (base_of table t) (by_constraint k))) (by_constraint k)).part refl (found.1).1.1
    where
      some : list_all is_offered_element (by_constraint k) ≡ true
      some = and_from (is_offered_rule k.rule) true offered refl

      by : (names : List Text) → AreNamed things table.name [] (written (by_constraint k)) names → (added things table.at (base_of table t) (by_constraint k) names).faults ≡ []
          → (o : Option (List Rule)) → (rules (sight_of things (outlined (base_of table t) (by_constraint k))) (by_constraint k)).part ≡ o → option_map_or (with_first table.name) (option_map (named names) o) None ≡ Some definition → IsProper things definition
      by names are well None e h = absurd (let no : None ≡ Some definition = h in cc)
      by names are well (Some rs) e h =
          let b : Base = base_of table t in
          let is : IsAdding things b (by_constraint k) names rs = adding things table.at b (by_constraint k) names rs are well e in
          let one = one_constraint names rs (many_names things b (by_constraint k) names rs is) (as_many_rules things b (by_constraint k) names rs is) in
          let its : Definition = d.AddConstraint table.name one.0 in
          let made : Some its ≡ Some definition = sym (ap (with_first table.name) one.1) ∙ h in
          let same : its ≡ definition = cc in
          let new = subst (AreNew things) one.1 (added_new things b (by_constraint k) names rs is) in
          let has : HasColumns things b (by_constraint k) its = record {
            own = ap (λ (cs : List Column). cs ++ []) columns_are;
            seen = seen_by table.name (columns_named things) t.columns [] columns_before;
          } in
          let seen : IsSeen table.name (constraints_named things) t.constraints (named names rs) (constraints_seen things its) =
          subst (λ cs. IsSeen table.name (constraints_named things) t.constraints cs (constraints_seen things its)) (sym one.1) (seen_by table.name (constraints_named things) t.constraints (one.0 ∷ []) constraints_before) in
          let proper : IsProper things its = record {
            bound = (has_table, All-head (λ (c : Constraint). owner_of things c.name ≡ None) one.0 [] new.1);
            storage = refl;
            limits = limits_by things its refl refl
                (ap₂ (λ (cs more : List Constraint). stays_within (most which.Constraints) (length cs) (length more)) constraints_are (sym one.1) ∙ constraints_within things b (by_constraint k) names rs is)
                (ap₂ (λ (cs more : List Constraint). stays_within 1 (primary_keys cs) (primary_keys more)) constraints_are (sym one.1) ∙ key_within things b (by_constraint k) names rs is);
            columns = refl;
            defaults = refl;
            places = subst (λ cs. list_all (λ (c : Constraint). is_over (length (columns_behind things its)) c.rule) cs ≡ true) one.1 (added_over things b (by_constraint k) names rs is its has some);
            references = subst (λ cs. list_all (λ (c : Constraint). rule_refers things its c.rule) cs ≡ true) one.1 (added_refers things b (by_constraint k) names rs is its seen some);
            kinds = subst (λ cs. list_all (λ (c : Constraint). rule_pairs things its c.rule) cs ≡ true) one.1 (added_pairs things b (by_constraint k) names rs is its has some);
            index = refl;
            constraint = refl;
          } in
          subst (IsProper things) same proper

  constraint_less : IsWhole things → (name : Identifier) → Answers (constraint_dropped t table name) (Ok definition) → IsProper things definition
  constraint_less whole name h = by (has_constraint t.constraints name.name) refl h
    where
      by : (b : Bool) → has_constraint t.constraints name.name ≡ b → Answers (if b then meant (d.DropConstraint table.name name.name) else no_name name) (Ok definition) → IsProper things definition
      by true e h =
          let is : IsThere things table.name t = named_table things table.name t there in
          let made : Some (d.DropConstraint table.name name.name) ≡ Some definition = h.1 in
          let same : d.DropConstraint table.name name.name ≡ definition = cc in
          let proper : IsProper things (d.DropConstraint table.name name.name) = record {
            bound = (has_table, owner_of_constraint things is.n t name.name whole is.table e ∙ sym is.number);
            storage = refl;
            limits = refl;
            columns = refl;
            defaults = refl;
            places = refl;
            references = refl;
            kinds = refl;
            index = refl;
            constraint = ap (list_all (is_constraint_named name.name)) constraints_are ∙ dropped_constraint things name.name is.n t whole is.table e;
          } in
          subst (IsProper things) same proper
      by false e h = absurd (let no : no_such_column_at name ∷ [] ≡ [] = h.0 in cc)

no_table_answer : {P : Type 0} (table : Identifier) (definition : Definition) → Answers (no_table table) (Ok definition) → P
no_table_answer table definition h = absurd (let no : no_such_table_at table ∷ [] ≡ [] = h.0 in cc)

altered : (things : Things) (table : Identifier) (definition : Definition) → IsWhole things → (a : AlterAction) → is_offered_action a ≡ true → (o : Option Table) → table_named things table.name ≡ o → AnswersAction things table a o (Ok definition) → IsProper things definition
altered things table definition whole (action.AddColumn c) offered (Some t) e h = column_more things table t e definition c h
altered things table definition whole (action.AddColumn c) offered None e h = no_table_answer table definition h
altered things table definition whole (action.AddConstraint k) offered (Some t) e h = constraint_more things table t e definition k offered h
altered things table definition whole (action.AddConstraint k) offered None e h = no_table_answer table definition h
altered things table definition whole (action.DropConstraint name) offered (Some t) e h = constraint_less things table t e definition whole name h
altered things table definition whole (action.DropConstraint name) offered None e h = no_table_answer table definition h

-- ---- indexes, and DROP

index_made : (things : Things) (c : CreateIndex) (definition : Definition) → are_some c.columns ≡ true → (o : Option Table) → table_named things c.table.name ≡ o → AnswersIndex things c o (Ok definition) → IsProper things definition
index_made things c definition some None e h = no_table_answer c.table definition h
index_made things c definition some (Some t) e h =
    let a = none_both (where_so (is_some (owner_of things c.name.name)) (exists_at c.name) ++ unknown (columns_of [] t.columns) c.columns ++ repeated [] c.columns) (beyond c.table.at which.Constraints (length t.constraints) 1) h.0 in
    let b = none_both (where_so (is_some (owner_of things c.name.name)) (exists_at c.name) ++ unknown (columns_of [] t.columns) c.columns) (repeated [] c.columns) a.0 in
    let front = none_both (where_so (is_some (owner_of things c.name.name)) (exists_at c.name)) (unknown (columns_of [] t.columns) c.columns) b.0 in
    let few = within (most which.Constraints) (length t.constraints) 1 (not_so (nat_lt (most which.Constraints) (length t.constraints + 1)) (fault_at c.table.at (cause.Limit which.Constraints)) a.1) in
    by (none_of (owner_of things c.name.name) (not_so (is_some (owner_of things c.name.name)) (exists_at c.name) front.0)) few b.1 (places_in (columns_of [] t.columns) c.columns) refl h.1
  where
    by : owner_of things c.name.name ≡ None → stays_within (most which.Constraints) (length t.constraints) 1 ≡ true → repeated [] c.columns ≡ []
        → (o : Option (List ℕ)) → places_in (columns_of [] t.columns) c.columns ≡ o → index_by c.table.name c.name.name o ≡ Some definition → IsProper things definition
    by new few once None at h = absurd (let no : None ≡ Some definition = h in cc)
    by new few once (Some columns) at h =
        let its : Definition = d.CreateIndex c.table.name c.name.name columns in
        let same : its ≡ definition = cc in
        let is : IsThere things c.table.name t = named_table things c.table.name t e in
        let own : columns_behind things its ≡ t.columns = append-nil (columns_named things c.table.name) ∙ columns_are things c.table t e definition in
        let proper : IsProper things its = record {
          bound = (ap is_some is.number, new);
          storage = refl;
          limits = limits_by things its refl refl (ap (λ (cs : List Constraint). stays_within (most which.Constraints) (length cs) 1) (constraints_are things c.table t e definition) ∙ few) refl;
          columns = refl;
          defaults = refl;
          places = and_from (is_over (length (columns_behind things its)) (rule.Index columns)) true (ap (λ (cs : List Column). are_columns (length cs) columns) own ∙ some_columns t.columns c.columns columns at once some) refl;
          references = refl;
          kinds = refl;
          index = refl;
          constraint = refl;
        } in
        subst (IsProper things) same proper

table_less : (things : Things) (name : Identifier) (definition : Definition) → Answers (table_dropped things name) (Ok definition) → IsProper things definition
table_less things name definition h = by (is_some (number_of things name.name)) refl h
  where
    by : (b : Bool) → is_some (number_of things name.name) ≡ b → Answers (if b then meant (d.DropTable name.name) else no_table name) (Ok definition) → IsProper things definition
    by true e h =
        let made : Some (d.DropTable name.name) ≡ Some definition = h.1 in
        let same : d.DropTable name.name ≡ definition = cc in
        let proper : IsProper things (d.DropTable name.name) = record { bound = e; storage = refl; limits = refl; columns = refl; defaults = refl; places = refl; references = refl; kinds = refl; index = refl; constraint = refl } in
        subst (IsProper things) same proper
    by false e h = no_table_answer name definition h

index_less : (things : Things) (name : Identifier) (definition : Definition) → IsWhole things → Answers (index_dropped things name) (Ok definition) → IsProper things definition
index_less things name definition whole h = by (is_index_of things name.name) refl h
  where
    by : (b : Bool) → is_index_of things name.name ≡ b → Answers (if b then meant (d.DropIndex name.name) else no_name name) (Ok definition) → IsProper things definition
    by true e h =
        let made : Some (d.DropIndex name.name) ≡ Some definition = h.1 in
        let same : d.DropIndex name.name ≡ definition = cc in
        let is : IsIndex things name.name = dropped_index things name.name whole e in
        let proper : IsProper things (d.DropIndex name.name) = record { bound = is.owner; storage = refl; limits = refl; columns = refl; defaults = refl; places = refl; references = refl; kinds = refl; index = is.alone; constraint = refl } in
        subst (IsProper things) same proper
    by false e h = absurd (let no : no_such_column_at name ∷ [] ≡ [] = h.0 in cc)

-- ---- settings

module _ (things : Things) (definition : Definition) where
  setting : (its : Definition) → IsProper things its → Some (plan.Define its) ≡ Some (plan.Define definition) → IsProper things definition
  setting its proper h = let same : its ≡ definition = cc in subst (IsProper things) same proper

  no_session : (p : SessionStatement) → Some (plan.Session p) ≡ Some (plan.Define definition) → IsProper things definition
  no_session p h = absurd (cc)

-- ---- the whole

pub proper_by : (things : Things) (statement : Stmt) (definition : Definition) → IsWhole things → is_offered statement ≡ true → AnswersStatement things statement (Ok (plan.Define definition)) → IsProper things definition
proper_by things (s.Query q) definition whole offered h = absurd (others_given definition plan.Query _ (λ a e. cc) h)
proper_by things (s.Insert i) definition whole offered h = absurd (others_given definition plan.Insert _ (λ a e. cc) h)
proper_by things (s.Update u) definition whole offered h = absurd (others_given definition plan.Update _ (λ a e. cc) h)
proper_by things (s.Delete x) definition whole offered h = absurd (others_given definition plan.Delete _ (λ a e. cc) h)
proper_by things (s.LockTable locks) definition whole offered h = absurd (others_given definition plan.LockTable _ (λ a e. cc) h)
proper_by things (s.CreateTable c) definition whole offered h = created things c definition (and_parts (is_memory c.storage) (list_all is_offered_element c.elements) offered).0 (and_parts (is_memory c.storage) (list_all is_offered_element c.elements) offered).1 (given definition (AnswersCreate things c) h)
proper_by things (s.CreateIndex c) definition whole offered h = index_made things c definition offered (table_named things c.table.name) refl (given definition (AnswersIndex things c (table_named things c.table.name)) h)
proper_by things (s.AlterTable a) definition whole offered h =
    altered things a.table definition whole a.action offered (table_named things a.table.name) refl (given definition (AnswersAction things a.table a.action (table_named things a.table.name)) h)
proper_by things (s.DropTable name) definition whole offered h = table_less things name definition (given definition (Answers (table_dropped things name)) h)
proper_by things (s.DropIndex name) definition whole offered h = index_less things name definition whole (given definition (Answers (index_dropped things name)) h)
proper_by things (s.SetControl control) definition whole offered h = setting things definition (d.SetControl control) (record { bound = tt; storage = refl; limits = refl; columns = refl; defaults = refl; places = refl; references = refl; kinds = refl; index = refl; constraint = refl }) h.1
proper_by things (s.SetDefaultLevel isolation) definition whole offered h =
    setting things definition (d.SetDefaultLevel (is_serializable isolation)) (record { bound = tt; storage = refl; limits = refl; columns = refl; defaults = refl; places = refl; references = refl; kinds = refl; index = refl; constraint = refl }) h.1
proper_by things (s.SetAutocommit on) definition whole offered h = no_session things definition (session.SetAutocommit on) h.1
proper_by things (s.SetCharacteristics modes) definition whole offered h = no_session things definition (session.SetCharacteristics modes) h.1
proper_by things (s.SetTransaction modes) definition whole offered h = no_session things definition (session.SetTransaction modes) h.1
proper_by things (s.StartTransaction modes) definition whole offered h = no_session things definition (session.StartTransaction modes) h.1
proper_by things s.Commit definition whole offered h = no_session things definition session.Commit h.1
proper_by things s.Rollback definition whole offered h = no_session things definition session.Rollback h.1
proper_by things (s.Savepoint name) definition whole offered h = no_session things definition (session.Savepoint name) h.1
proper_by things (s.RollbackTo name) definition whole offered h = no_session things definition (session.RollbackTo name) h.1
proper_by things (s.ReleaseSavepoint name) definition whole offered h = no_session things definition (session.ReleaseSavepoint name) h.1
proper_by things s.WriteDelayFalse definition whole offered h = no_session things definition session.WriteDelayFalse h.1
proper_by things s.Checkpoint definition whole offered h = no_session things definition session.Checkpoint h.1
proper_by things s.Shutdown definition whole offered h = no_session things definition session.Shutdown h.1
