-- What writing statements change over the rows of tables, and which tables are read for that.
use Rattle.std.specs.Prelude.{◌≡◌, ◌⊎◌, ℕ, Bool, true, List, [], Option, None, Some, Result, IfOk}
use Rattle.std.specs.List.{Contains}
use Rattle.hs_base.specs.declared.numbers.RowName.{RowName}
use Rattle.hs_base.specs.declared.numbers.TableNo.{TableNo}
use Rattle.hs_plan.specs.declared.change.Change.{Change}
use Rattle.hs_plan.specs.declared.change.Change.TheVariants as change
use Rattle.hs_plan.specs.declared.definition.Column.{Column}
use Rattle.hs_plan.specs.declared.definition.Constraint.{Constraint}
use Rattle.hs_plan.specs.declared.definition.ForeignKey.{ForeignKey}
use Rattle.hs_plan.specs.declared.definition.Rule.TheVariants as rule
use Rattle.hs_plan.specs.declared.plan.Plan.{Plan}
use Rattle.hs_values.specs.declared.fault.EvalFault.{EvalFault}
use Rattle.hs_values.specs.declared.value.Value.{Value}
use Rattle.hs_schema.specs.Catalogue.{Things, number_of}
use Rattle.hs_schema.specs.declared.table.Child.{Child}
use Rattle.hs_closure.specs.Changing.{IsNeeded, IsWritten, follows, links}
use Rattle.hs_closure.specs.declared.way.Way.{Way}
use Rattle.hs_closure.specs.declared.way.Way.TheVariants as way
use Rattle.hs_sentences.specs.Violations.{constraints_of}
use Rattle.hs_changes.specs.Settings.{Maps}
use Rattle.hs_actions.specs.declared.reference.Reference.{Reference}
use Rattle.hs_actions.specs.Referencing.{Keys, keys_on}
use Rattle.hs_actions.specs.Work.{Edits}
use Rattle.hs_tentative.specs.Statements.{Around}
use Rattle.hs_answer.specs.Answer.{answer, evaluated}

-- expressions and queries give what they give over these rows
abbrev pub around_in : Maps → (ℕ → List Column) → Keys → Around
around_in tables columns keys = record { evaluate = evaluated tables; answer = answer tables; columns = columns; keys = keys; before = tables }

-- ---- actions

-- a row that is deleted, or is changed
abbrev pub way_of : Option (List Value) → Way
way_of None = way.Deletion
way_of (Some row) = way.Update

-- what a foreign key does is what the catalogue says of it
abbrev pub link_of : Reference → Child
link_of key = record { table = key.child; constraint = []; on_delete = key.on_delete; on_update = key.on_update }

-- a foreign key of the catalogue is of the same table, and does the same
pub record IsLink (key : Reference) (link : Child) : Type 0 where
  pub table : link.table ≡ key.child
  pub on_delete : link.on_delete ≡ key.on_delete
  pub on_update : link.on_update ≡ key.on_update

-- each foreign key that references a table is one of the catalogue that does
abbrev pub AreLinks : Things → Keys → Type 0
AreLinks things keys = (table : TableNo) (key : Reference) → Contains (keys_on keys table.0) key → (link : Child) × (Contains (links things table) link × IsLink key link)

-- With each table whose rows are changed in a way, the rows of those that reference it are changed as their foreign
-- keys act
pub record Follows (P : Way → TableNo → Type 0) (keys : Keys) : Type 0 where
  pub next : (from to : Way) (table : TableNo) (key : Reference) → P from table → Contains (keys_on keys table.0) key → follows from to (link_of key) ≡ true → P to key.child

-- rows that are edited are of tables that are changed in this way
abbrev pub AreEdits : (Way → TableNo → Type 0) → Edits → Type 0
AreEdits P edits = (e : RowName × Option (List Value)) → Contains edits e → P (way_of e.1) e.0.table

-- ---- tables

-- both have the same rows of each table that a statement reads or writes
abbrev pub AgreeFor : Things → Plan → Maps → Maps → Type 0
AgreeFor things plan a b = (table : TableNo) → IsNeeded things plan table ⊎ IsWritten things plan table → a table.0 ≡ b table.0

-- a change is of a table that the statement writes
abbrev pub IsOfWritten : Things → Plan → Change → Type 0
IsOfWritten things plan (change.Insert table values) = IsWritten things plan table
IsOfWritten things plan (change.Put table row values) = IsWritten things plan table
IsOfWritten things plan (change.Delete table row) = IsWritten things plan table
IsOfWritten things plan (change.Define definition) = ⊥

abbrev pub AreOfWritten : Things → Plan → Result (List Change) EvalFault → Type 0
AreOfWritten things plan given = IfOk given (λ changes. (c : Change) → Contains changes c → IsOfWritten things plan c)

-- ---- constraints

-- each table of the set has the same rows in both
abbrev pub AgreeOn : Maps → Maps → (ℕ → Bool) → Type 0
AgreeOn a b set = (table : ℕ) → set table ≡ true → a table ≡ b table

-- the tables that are read where those are written: they themselves, the parents that their foreign keys name, and the tables
-- whose foreign keys name them
pub record IsRead (things : Things) (set written : ℕ → Bool) : Type 0 where
  pub own : (table : ℕ) → written table ≡ true → set table ≡ true
  pub parents : (c : ℕ × Constraint) (key : ForeignKey) (parent : TableNo) → Contains (constraints_of things) c → c.1.rule ≡ rule.ForeignKey key → number_of things key.parent ≡ Some parent → written c.0 ≡ true → set parent.0 ≡ true
  pub children : (c : ℕ × Constraint) (key : ForeignKey) (parent : TableNo) → Contains (constraints_of things) c → c.1.rule ≡ rule.ForeignKey key → number_of things key.parent ≡ Some parent → written parent.0 ≡ true → set c.0 ≡ true
