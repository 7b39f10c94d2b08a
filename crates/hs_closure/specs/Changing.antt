-- The tables that a statement reads and writes, closed over foreign keys.
use Rattle.std.specs.Prelude.{◌≡◌, ◌⊎◌, ◌++◌, ◌∷◌, ◌||◌, Bool, true, false, if◌then◌else◌, List, [], map}
use Rattle.std.specs.List.{flat_map, Contains}
use Rattle.std.specs.Option.{option_map_or, option_to_list}
use Rattle.hs_ast.specs.declared.definition.ReferentialAction.{ReferentialAction}
use Rattle.hs_ast.specs.declared.definition.ReferentialAction.TheVariants as action
use Rattle.hs_base.specs.declared.numbers.TableNo.{TableNo}
use Rattle.hs_plan.specs.Named.{named_in_plan}
use Rattle.hs_plan.specs.declared.definition.Constraint.{Constraint}
use Rattle.hs_plan.specs.declared.definition.Rule.{Rule}
use Rattle.hs_plan.specs.declared.definition.Rule.TheVariants as rule
use Rattle.hs_plan.specs.declared.plan.LockedTable.{LockedTable}
use Rattle.hs_plan.specs.declared.plan.Plan.{Plan}
use Rattle.hs_plan.specs.declared.plan.Plan.TheVariants as p
use Rattle.hs_schema.specs.Catalogue.{Things, table_numbered, number_of, children_of}
use Rattle.hs_schema.specs.declared.table.Child.{Child}
use Rattle.hs_closure.specs.declared.way.Way.{Way}
use Rattle.hs_closure.specs.declared.way.Way.TheVariants as way

-- ---- foreign keys

-- those that reference a table
abbrev pub links : Things → TableNo → List Child
links things table = option_map_or (λ t. children_of things t.name) (table_numbered things table) []

abbrev pub is_cascade : ReferentialAction → Bool
is_cascade action.Cascade = true
is_cascade action.SetNull = false
is_cascade action.SetDefault = false
is_cascade action.Restrict = false
is_cascade action.NoAction = false

-- it gives the columns of a foreign key NULL or their defaults
abbrev pub is_clearing : ReferentialAction → Bool
is_clearing action.Cascade = false
is_clearing action.SetNull = true
is_clearing action.SetDefault = true
is_clearing action.Restrict = false
is_clearing action.NoAction = false

-- where rows of the table that it references are changed in one way, those of its own table are changed in the other
abbrev pub follows : Way → Way → Child → Bool
follows way.Deletion way.Deletion link = is_cascade link.on_delete
follows way.Deletion way.Update link = is_clearing link.on_delete
follows way.Update way.Update link = is_cascade link.on_update || is_clearing link.on_update
follows way.Update way.Deletion link = false

-- ---- changed rows

-- tables with ways in which rows of them are changed
abbrev pub Changing : Type 0
Changing = Way → TableNo → Bool

-- the table that UPDATE or DELETE names is among them
abbrev pub HasTarget : Plan → Changing → Type 0
HasTarget (p.Update update) set = set way.Update update.table ≡ true
HasTarget (p.Delete delete) set = set way.Deletion delete.table ≡ true
HasTarget _ set = Unit {0}

-- and with each table the children that follow it
abbrev pub IsClosed : Things → Changing → Type 0
IsClosed things set =
    (from to : Way) (table : TableNo) (link : Child) → set from table ≡ true → Contains (links things table) link → follows from to link ≡ true → set to link.table ≡ true

-- the statement may change rows of the table in this way: it is in the least such set, so in each
abbrev pub IsChanged : Things → Plan → Way → TableNo → Type 0
IsChanged things plan how table = (set : Changing) → HasTarget plan set → IsClosed things set → set how table ≡ true

-- ---- written tables

abbrev pub locked : LockedTable → List TableNo
locked l = if l.write then l.table ∷ [] else []

-- the table into which INSERT puts rows, and those that are locked for WRITE
abbrev pub put_or_locked : Plan → List TableNo
put_or_locked (p.Insert insert) = insert.table ∷ []
put_or_locked (p.LockTable all) = flat_map locked all
put_or_locked _ = []

abbrev pub IsWritten : Things → Plan → TableNo → Type 0
IsWritten things plan table = Contains (put_or_locked plan) table ⊎ ((how : Way) × IsChanged things plan how table)

-- ---- tables that are read

abbrev pub parent_by : Things → Rule → List TableNo
parent_by things (rule.ForeignKey key) = option_to_list (number_of things key.parent)
parent_by things _ = []

abbrev pub parents_by : Things → List Constraint → List TableNo
parents_by things = flat_map (λ c. parent_by things c.rule)

-- the tables that a table references, and those that reference it
abbrev pub neighbours : Things → TableNo → List TableNo
neighbours things table = option_map_or (λ t. parents_by things t.constraints) (table_numbered things table) [] ++ map (λ c. c.table) (links things table)

-- it is named to be read, or a written table's constraints look at it
abbrev pub IsNeeded : Things → Plan → TableNo → Type 0
IsNeeded things plan table = Contains (named_in_plan plan) table ⊎ ((written : TableNo) × IsWritten things plan written × Contains (neighbours things written) table)

-- a table that is read and written counts as written
abbrev pub IsRead : Things → Plan → TableNo → Type 0
IsRead things plan table = IsNeeded things plan table × (IsWritten things plan table → ⊥)
