-- The tests of constraints and definitions tell which can be written.
use Rattle.std.proofs.Common.{ℕ, Bool, not, ◌&&◌, List, length, is_some}
use Rattle.std.specs.Bool.{Decides}
use Rattle.std.specs.List.{list_all}
use Rattle.std.proofs.lemmas.Bool.Decides.{Decides-and}
use Rattle.hs_plan.specs.declared.definition.Column.{Column}
use Rattle.hs_plan.specs.declared.definition.Constraint.{Constraint}
use Rattle.hs_plan.specs.declared.definition.Definition.{Definition}
use Rattle.hs_plan.specs.declared.definition.Definition.TheVariants as d
use Rattle.hs_plan.specs.declared.definition.Rule.{Rule}
use Rattle.hs_plan.specs.declared.definition.Rule.TheVariants as rule
use Rattle.hs_plan.specs.declared.expression.Expr.{Expr}
use Rattle.hs_schema.specs.Catalogue.{Things, table_named}
use Rattle.hs_columntext.specs.Columns.{IsColumn}
use Rattle.hs_keytext.specs.Owners.{Owner}
use Rattle.hs_parttext.specs.Named.{IsName}
use Rattle.hs_tabletext.specs.Conditions.{Wording}
use Rattle.hs_tabletext.specs.Rules.{IsRule}
use Rattle.hs_tabletext.specs.Constraints.{IsConstraint}
use Rattle.hs_tabletext.specs.declared.definition.NewTable.{NewTable}
use Rattle.hs_tabletext.specs.Columns.{is_own, with_column, IsAdded}
use Rattle.hs_tabletext.specs.Tables.{owner_of, IsNewTable}
use Rattle.hs_shorttext.specs.Indexes.{IsIndex}
use Rattle.hs_shorttext.specs.Tables.{columns_of, IsTable}
use Rattle.hs_alterationtext.specs.declared.alteration.Alteration.{Alteration}
use Rattle.hs_alterationtext.specs.declared.alteration.Alteration.TheVariants as a
use Rattle.hs_alterationtext.specs.Alterations.{adding, is_not_null, owner_in, IsAlter, IsAlteration, IsLone}
use Rattle.hs_committext.specs.Definitions.{new_index, new_table, IsDefinition}
use Rattle.hs_texttest.specs.Columns.{are_columns, is_column, is_named}
use Rattle.hs_texttest.specs.Definitions.{ConditionTest, is_added, is_constraint, is_definition, is_lone, is_new_table, is_rule, is_table}
use Rattle.hs_texttest.proofs.Columns.{column_told, columns_told, foreign_key_told, name_told, place_told}
use Rattle.hs_texttest.proofs.Deciding.{always, decided, denied, each, itself, nowhere}

module _ (wording : Wording) (test : ConditionTest) (tests : (columns : List Column) (e : Expr) → Decides (test columns e) (wording.Has columns e)) where
  -- ---- constraints

  rule_told : (owner : Owner) (r : Rule) → Decides (is_rule test owner r) (IsRule wording owner r)
  rule_told owner (rule.NotNull place) = place_told owner.columns place
  rule_told owner (rule.PrimaryKey places) = columns_told owner.columns places
  rule_told owner (rule.Unique places) = columns_told owner.columns places
  rule_told owner (rule.Check condition) = tests owner.columns condition
  rule_told owner (rule.ForeignKey key) = foreign_key_told owner key
  rule_told owner (rule.Index places) = nowhere

  constraint_told : (owner : Owner) (c : Constraint) → Decides (is_constraint test owner c) (IsConstraint wording owner c)
  constraint_told owner c =
      decided (IsConstraint wording owner c) (is_constraint test owner c) (Decides-and (is_named c.name) (is_rule test owner c.rule) (name_told c.name) (rule_told owner c.rule))
      (λ h. record { named = h.0.lawful; utf8 = h.0.utf8; rule = h.1 })
      (λ h. (record { lawful = h.named; utf8 = h.utf8 }, h.rule))

  -- ---- tables

  table_told : (things : Things) (name : List ℕ) → Decides (is_table things name) (IsName name × IsTable things name)
  table_told things name = Decides-and (is_named name) (is_some (table_named things name)) (name_told name) (itself (is_some (table_named things name)))

  new_table_told : (things : Things) (t : NewTable) → Decides (is_new_table test things t.name t.columns t.constraints) (IsNewTable wording things t)
  new_table_told things t =
      let owner = owner_of things t.name t.columns in
      let columns = list_all is_column t.columns in
      let constraints = list_all (is_constraint test owner) t.constraints in
      let body = Decides-and columns constraints (each is_column IsColumn column_told t.columns) (each (is_constraint test owner) (IsConstraint wording owner) (constraint_told owner) t.constraints) in
      decided (IsNewTable wording things t) (is_new_table test things t.name t.columns t.constraints) (Decides-and (is_named t.name) (columns && constraints) (name_told t.name) body)
      (λ h. record { named = h.0; body = record { columns = h.1.0; constraints = h.1.1 } })
      (λ h. (h.named, (h.body.columns, h.body.constraints)))

  added_told : (table : Owner) (column : Column) (constraints : List Constraint) → Decides (is_added test table column constraints) (IsAdded wording table (record { column = column; constraints = constraints }))
  added_told table column constraints =
      let owner = with_column table column in
      let lawful = list_all (is_constraint test owner) constraints in
      let own = list_all (λ c. is_own (length table.columns) c.rule) constraints in
      let are = Decides-and lawful own (each (is_constraint test owner) (IsConstraint wording owner) (constraint_told owner) constraints) (itself own) in
      decided (IsAdded wording table (record { column = column; constraints = constraints })) (is_added test table column constraints) (Decides-and (is_column column) (lawful && own) (column_told column) are)
      (λ h. record { column = h.0; constraints = record { lawful = h.1.0; own = h.1.1 } })
      (λ h. (h.column, (h.constraints.lawful, h.constraints.own)))

  lone_told : (table : Owner) (c : Constraint) → Decides (is_lone test table c) (IsLone wording table c)
  lone_told table c =
      decided (IsLone wording table c) (is_lone test table c) (Decides-and (is_constraint test table c) (not (is_not_null c.rule)) (constraint_told table c) (denied (is_not_null c.rule)))
      (λ h. record { lawful = h.0; lone = h.1 })
      (λ h. (h.lawful, h.lone))

  -- ---- definitions

  -- what is done to a table of the catalogue
  alter_told : (things : Things) (table : List ℕ) (alteration : Alteration) (b : Bool) → Decides b (IsAlteration wording (owner_in things table) alteration) → Decides (is_table things table && b) (IsAlter wording things (table, alteration))
  alter_told things table alteration b told =
      decided (IsAlter wording things (table, alteration)) (is_table things table && b) (Decides-and (is_table things table) b (table_told things table) told)
      (λ h. record { named = h.0.0; known = h.0.1; alteration = h.1 })
      (λ h. ((h.named, h.known), h.alteration))

  index_told : (things : Things) (table name columns : List ℕ) → Decides (is_definition test things (d.CreateIndex table name columns)) (IsIndex things (new_index table name columns))
  index_told things table name columns =
      let listed = are_columns (columns_of things table) columns in
      let rest = Decides-and (is_table things table) listed (table_told things table) (columns_told (columns_of things table) columns) in
      decided (IsIndex things (new_index table name columns)) (is_definition test things (d.CreateIndex table name columns)) (Decides-and (is_named name) (is_table things table && listed) (name_told name) rest)
      (λ h. record { named = h.0; table = h.1.0.0; known = h.1.0.1; columns = h.1.1 })
      (λ h. (h.named, ((h.table, h.known), h.columns)))

  pub definition_told : (things : Things) (x : Definition) → Decides (is_definition test things x) (IsDefinition wording things x)
  definition_told things (d.CreateTable storage name columns constraints) = new_table_told things (new_table storage name columns constraints)
  definition_told things (d.DropTable name) = name_told name
  definition_told things (d.AddColumn table column constraints) =
      alter_told things table (adding column constraints) (is_added test (owner_in things table) column constraints) (added_told (owner_in things table) column constraints)
  definition_told things (d.AddConstraint table constraint) =
      alter_told things table (a.AddConstraint constraint) (is_lone test (owner_in things table) constraint) (lone_told (owner_in things table) constraint)
  definition_told things (d.DropConstraint table name) = alter_told things table (a.DropConstraint name) (is_named name) (name_told name)
  definition_told things (d.CreateIndex table name columns) = index_told things table name columns
  definition_told things (d.DropIndex name) = name_told name
  definition_told things (d.SetControl control) = always
  definition_told things (d.SetDefaultLevel serializable) = always
