-- What changes of rows leave as it is.
use Rattle.std.proofs.Common.{◌≡◌, ℕ, ◌+◌, ◌==◌, Bool, false, cond, List, [], ◌∷◌, map, refl, ap, ◌∙◌}
use Rattle.std.specs.Prelude.{Some, None}
use Rattle.std.specs.List.{list_any}
use Rattle.std.proofs.lemmas.Bool.{or_parts}
use Rattle.hs_ast.specs.declared.session.Isolation.{Isolation}
use Rattle.hs_claims.specs.declared.model.ControlKind.{ControlKind}
use Rattle.hs_plan.specs.declared.change.Change.{Change}
use Rattle.hs_plan.specs.declared.change.Change.TheVariants as change
use Rattle.hs_schema.specs.Catalogue.{Things}
use Rattle.hs_changes.specs.Changes.{after_changes, own_row}
use Rattle.hs_changes.specs.Settings.{Maps, Setting, set_row, with_values}
use Rattle.hs_turns.specs.Database.{Database, make, apply, committed, view, is_of_table, is_definition}
use Rattle.hs_turns.specs.Numbers.{final_change, final_row, numbers_from}

-- ---- the catalogue and the settings

-- what stands beside the rows
pub record Frame : Type 0 where
  pub things : Things
  pub control : ControlKind
  pub level : Isolation

abbrev pub frame : Database → Frame
frame db = record { things = db.things; control = db.control; level = db.level }

frame_one : (db : Database) (numbers : List ℕ) (c : Change) → is_definition c ≡ false → frame (make db (final_change numbers c)) ≡ frame db
frame_one db numbers (change.Insert table values) h = refl
frame_one db numbers (change.Put table row values) h = refl
frame_one db numbers (change.Delete table row) h = refl
frame_one db numbers (change.Define definition) h = absurd cc

frame_all : (numbers : List ℕ) (cs : List Change) (db : Database) → list_any is_definition cs ≡ false → frame (apply db (map (final_change numbers) cs)) ≡ frame db
frame_all numbers [] db h = refl
frame_all numbers (c ∷ cs) db h =
    let parts = or_parts (is_definition c) (list_any is_definition cs) h in
    frame_all numbers cs (make db (final_change numbers c)) parts.1 ∙ frame_one db numbers c parts.0

pub frame_stays : (db : Database) (cs : List Change) → list_any is_definition cs ≡ false → frame (committed db cs) ≡ frame db
frame_stays db cs h = frame_all (numbers_from (db.count + 1) cs) cs db h

-- ---- tables

unset : (maps : Maps) (s : Setting) (table : ℕ) → (table == s.table) ≡ false → set_row maps s table ≡ maps table
unset maps s table h = ap (λ (b : Bool). cond b (with_values (maps table) s.row s.values) (maps table)) h

table_one : (db : Database) (numbers : List ℕ) (table : ℕ) (c : Change) → is_definition c ≡ false → is_of_table table c ≡ false → (make db (final_change numbers c)).rows table ≡ db.rows table
table_one db numbers table (change.Insert t values) h off = unset db.rows (record { table = t.0; row = db.count + 1; values = Some values }) table off
table_one db numbers table (change.Put t row values) h off = unset db.rows (record { table = t.0; row = final_row numbers row.0; values = Some values }) table off
table_one db numbers table (change.Delete t row) h off = unset db.rows (record { table = t.0; row = final_row numbers row.0; values = None }) table off
table_one db numbers table (change.Define definition) h off = absurd cc

table_all : (numbers : List ℕ) (table : ℕ) (cs : List Change) (db : Database) → list_any is_definition cs ≡ false → list_any (is_of_table table) cs ≡ false → (apply db (map (final_change numbers) cs)).rows table ≡ db.rows table
table_all numbers table [] db h off = refl
table_all numbers table (c ∷ cs) db h off =
    let parts = or_parts (is_definition c) (list_any is_definition cs) h in
    let others = or_parts (is_of_table table c) (list_any (is_of_table table) cs) off in
    table_all numbers table cs (make db (final_change numbers c)) parts.1 others.1 ∙ table_one db numbers table c parts.0 others.0

pub table_stays : (db : Database) (cs : List Change) (table : ℕ) → list_any is_definition cs ≡ false → list_any (is_of_table table) cs ≡ false → (committed db cs).rows table ≡ db.rows table
table_stays db cs table h off = table_all (numbers_from (db.count + 1) cs) table cs db h off

-- ---- what the transaction itself sees

seen_from : (table : ℕ) (cs : List Change) (inserted : ℕ) (maps : Maps) → list_any (is_of_table table) cs ≡ false → after_changes inserted maps cs table ≡ maps table
seen_from table [] inserted maps h = refl
seen_from table (change.Insert t values ∷ cs) inserted maps h =
    let s : Setting = record { table = t.0; row = own_row (inserted + 1); values = Some values } in
    let parts = or_parts (table == t.0) (list_any (is_of_table table) cs) h in
    seen_from table cs (inserted + 1) (set_row maps s) parts.1 ∙ unset maps s table parts.0
seen_from table (change.Put t row values ∷ cs) inserted maps h =
    let s : Setting = record { table = t.0; row = row.0; values = Some values } in
    let parts = or_parts (table == t.0) (list_any (is_of_table table) cs) h in
    seen_from table cs (inserted + 0) (set_row maps s) parts.1 ∙ unset maps s table parts.0
seen_from table (change.Delete t row ∷ cs) inserted maps h =
    let s : Setting = record { table = t.0; row = row.0; values = None } in
    let parts = or_parts (table == t.0) (list_any (is_of_table table) cs) h in
    seen_from table cs (inserted + 0) (set_row maps s) parts.1 ∙ unset maps s table parts.0
seen_from table (change.Define definition ∷ cs) inserted maps h = seen_from table cs (inserted + 0) maps h

pub table_seen : (db : Database) (cs : List Change) (table : ℕ) → list_any (is_of_table table) cs ≡ false → (view db cs).rows table ≡ db.rows table
table_seen db cs table h = seen_from table cs 0 db.rows h
