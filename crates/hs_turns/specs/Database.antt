-- A database, and what changes and commits make of it.
use Rattle.std.specs.Prelude.{◌≡◌, ℕ, ◌+◌, ◌^◌, ◌==◌, ◌<◌, ◌≤◌, nat_le, Bool, true, false, List, length, Some, None, fold, take}
use Rattle.std.specs.FinMap.{get}
use Rattle.hs_ast.specs.declared.session.Isolation.{Isolation}
use Rattle.hs_claims.specs.declared.model.ControlKind.{ControlKind}
use Rattle.hs_plan.specs.declared.change.Change.{Change}
use Rattle.hs_plan.specs.declared.change.Change.TheVariants as change
use Rattle.hs_plan.specs.declared.definition.Definition.{Definition}
use Rattle.hs_changes.specs.Changes.{after_changes}
use Rattle.hs_changes.specs.Settings.{Maps, Setting, set_row}
use Rattle.hs_schema.specs.Catalogue.{Things, after}
use Rattle.hs_sessions.specs.declared.commit.Commit.{Commit}
use Rattle.hs_turns.specs.Definitions.{rows_after, control_after, level_after}
use Rattle.hs_turns.specs.Numbers.{numbered}

-- the catalogue, the rows of each table, how many changes were made so far, the model of transactions, and the level of
-- new sessions
pub record Database : Type 0 where
  pub things : Things
  pub rows : Maps
  pub count : ℕ
  pub control : ControlKind
  pub level : Isolation

-- ---- changes

-- a change that sets one row
abbrev pub with_row : Setting → Database → Database
with_row setting db = record db { rows = set_row db.rows setting; count = db.count + 1 }

-- a definition, whose things get the number of its change
abbrev pub defined : Definition → Database → Database
defined definition db = record {
  things = after db.things definition (db.count + 1);
  rows = rows_after db.things definition (db.count + 1) db.rows;
  count = db.count + 1;
  control = control_after definition db.control;
  level = level_after definition db.level;
}

-- one change, which has the next number. A row that it inserts has this number too
abbrev pub make : Database → Change → Database
make db (change.Insert table values) = with_row (record { table = table.0; row = db.count + 1; values = Some values }) db
make db (change.Put table row values) = with_row (record { table = table.0; row = row.0; values = Some values }) db
make db (change.Delete table row) = with_row (record { table = table.0; row = row.0; values = None }) db
make db (change.Define definition) = defined definition db

-- changes, one after another
abbrev pub apply : Database → List Change → Database
apply = fold make

-- ---- transactions and commits

-- what a transaction with these changes reads where it reads this database: its inserted rows have numbers from 2^63 on
abbrev pub view : Database → List Change → Database
view db changes = record db { rows = after_changes 0 db.rows changes }

-- what the changes of a transaction make of a database at their commit
abbrev pub committed : Database → List Change → Database
committed db changes = apply db (numbered db.count changes)

abbrev pub after_commit : Database → Commit → Database
after_commit db commit = committed db commit.changes

-- the database after so many of these commits, from the one before them
abbrev pub state : Database → List Commit → ℕ → Database
state opening commits k = fold after_commit opening (take k commits)

-- ---- limits and numbers

-- a commit of these changes keeps within 2^48 changes in the life of the database
abbrev pub has_room : Database → List Change → Bool
has_room db changes = nat_le (db.count + length changes) (2 ^ 48)

-- no row has a number above that of the last change
pub record IsNumbered (db : Database) : Type 0 where
  pub above : (table row : ℕ) → db.count < row → get (db.rows table) row ≡ None
  pub few : db.count ≤ 2 ^ 48

-- ---- what a change is about

-- it inserts, puts or deletes a row of this table
abbrev pub is_of_table : ℕ → Change → Bool
is_of_table table (change.Insert t values) = table == t.0
is_of_table table (change.Put t row values) = table == t.0
is_of_table table (change.Delete t row) = table == t.0
is_of_table table (change.Define definition) = false

abbrev pub is_definition : Change → Bool
is_definition (change.Insert table values) = false
is_definition (change.Put table row values) = false
is_definition (change.Delete table row) = false
is_definition (change.Define definition) = true
