-- Definitions that say nothing of columns, as they are read. Those of two kinds differ in an early byte.
use Rattle.std.proofs.Common.{◌≡◌, ◌≢◌, ℕ, Bool, List, ◌++◌, refl, sym, ap, ◌∙◌}
use Rattle.std.specs.Prelude.{codes}
use Rattle.hs_ast.specs.declared.session.TransactionControl.{TransactionControl}
use Rattle.hs_plan.specs.declared.definition.Definition.{Definition}
use Rattle.hs_plan.specs.declared.definition.Definition.TheVariants as d
use Rattle.hs_valuetext.proofs.NumberLemmas.{same_front}
use Rattle.hs_nametext.specs.Names.{name_text}
use Rattle.hs_parttext.specs.Named.{IsWholeName}
use Rattle.hs_parttext.proofs.Known.{apart}
use Rattle.hs_shorttext.specs.Settings.{control_text, level_text}
use Rattle.hs_shorttext.specs.Plain.{plain_text, IsPlainText}
use Rattle.hs_shorttext.proofs.Made.{Made, made_found, made_none}

-- ---- DROP TABLE

its_table : (text : List ℕ) (e : Definition) → IsPlainText (codes "DROP TABLE " ++ text) e → Made d.DropTable (IsWholeName text) e
its_table text (d.CreateTable storage name columns constraints) h = absurd h.lawful
its_table text (d.DropTable name) h = record { of = name; is = refl; at = record { named = h.lawful; written = same_front (codes "DROP TABLE ") text (name_text name) h.written } }
its_table text (d.AddColumn table column constraints) h = absurd h.lawful
its_table text (d.AddConstraint table constraint) h = absurd h.lawful
its_table text (d.DropConstraint table name) h = absurd h.lawful
its_table text (d.CreateIndex table name columns) h = absurd h.lawful
its_table text (d.DropIndex name) h = absurd (apart 84 73 _ _ _ refl refl (same_front (codes "DROP ") (codes "TABLE " ++ text) (codes "INDEX " ++ name_text name) h.written))
its_table text (d.SetControl control) h = absurd (apart 68 83 _ _ _ refl refl h.written)
its_table text (d.SetDefaultLevel serializable) h = absurd (apart 68 83 _ _ _ refl refl h.written)

table_plain : (text name : List ℕ) → IsWholeName text name → IsPlainText (codes "DROP TABLE " ++ text) (d.DropTable name)
table_plain text name h = record { lawful = h.named; written = ap (λ (xs : List ℕ). codes "DROP TABLE " ++ xs) h.written }

pub table_found : (text name : List ℕ) → IsWholeName text name × ((n : List ℕ) → IsWholeName text n → n ≡ name) → IsPlainText (codes "DROP TABLE " ++ text) (d.DropTable name) × ((e : Definition) → IsPlainText (codes "DROP TABLE " ++ text) e → e ≡ d.DropTable name)
table_found text name known = made_found d.DropTable (IsWholeName text) (IsPlainText (codes "DROP TABLE " ++ text)) (table_plain text) (its_table text) name known

pub table_none : (text : List ℕ) → ((n : List ℕ) → ¬ (IsWholeName text n)) → (e : Definition) → ¬ (IsPlainText (codes "DROP TABLE " ++ text) e)
table_none text none = made_none d.DropTable (IsWholeName text) (IsPlainText (codes "DROP TABLE " ++ text)) (its_table text) none

-- ---- DROP INDEX

its_index : (text : List ℕ) (e : Definition) → IsPlainText (codes "DROP INDEX " ++ text) e → Made d.DropIndex (IsWholeName text) e
its_index text (d.CreateTable storage name columns constraints) h = absurd h.lawful
its_index text (d.DropTable name) h = absurd (apart 73 84 _ _ _ refl refl (same_front (codes "DROP ") (codes "INDEX " ++ text) (codes "TABLE " ++ name_text name) h.written))
its_index text (d.AddColumn table column constraints) h = absurd h.lawful
its_index text (d.AddConstraint table constraint) h = absurd h.lawful
its_index text (d.DropConstraint table name) h = absurd h.lawful
its_index text (d.CreateIndex table name columns) h = absurd h.lawful
its_index text (d.DropIndex name) h = record { of = name; is = refl; at = record { named = h.lawful; written = same_front (codes "DROP INDEX ") text (name_text name) h.written } }
its_index text (d.SetControl control) h = absurd (apart 68 83 _ _ _ refl refl h.written)
its_index text (d.SetDefaultLevel serializable) h = absurd (apart 68 83 _ _ _ refl refl h.written)

index_plain : (text name : List ℕ) → IsWholeName text name → IsPlainText (codes "DROP INDEX " ++ text) (d.DropIndex name)
index_plain text name h = record { lawful = h.named; written = ap (λ (xs : List ℕ). codes "DROP INDEX " ++ xs) h.written }

pub index_found : (text name : List ℕ) → IsWholeName text name × ((n : List ℕ) → IsWholeName text n → n ≡ name) → IsPlainText (codes "DROP INDEX " ++ text) (d.DropIndex name) × ((e : Definition) → IsPlainText (codes "DROP INDEX " ++ text) e → e ≡ d.DropIndex name)
index_found text name known = made_found d.DropIndex (IsWholeName text) (IsPlainText (codes "DROP INDEX " ++ text)) (index_plain text) (its_index text) name known

pub index_none : (text : List ℕ) → ((n : List ℕ) → ¬ (IsWholeName text n)) → (e : Definition) → ¬ (IsPlainText (codes "DROP INDEX " ++ text) e)
index_none text none = made_none d.DropIndex (IsWholeName text) (IsPlainText (codes "DROP INDEX " ++ text)) (its_index text) none

-- ---- TRANSACTION CONTROL

abbrev IsModel : List ℕ → TransactionControl → Type 0
IsModel text control = control_text control ≡ text

its_control : (text : List ℕ) (e : Definition) → IsPlainText (codes "SET DATABASE TRANSACTION CONTROL " ++ text) e → Made d.SetControl (IsModel text) e
its_control text (d.CreateTable storage name columns constraints) h = absurd h.lawful
its_control text (d.DropTable name) h = absurd (apart 83 68 _ _ _ refl refl h.written)
its_control text (d.AddColumn table column constraints) h = absurd h.lawful
its_control text (d.AddConstraint table constraint) h = absurd h.lawful
its_control text (d.DropConstraint table name) h = absurd h.lawful
its_control text (d.CreateIndex table name columns) h = absurd h.lawful
its_control text (d.DropIndex name) h = absurd (apart 83 68 _ _ _ refl refl h.written)
its_control text (d.SetControl control) h = record { of = control; is = refl; at = sym (same_front (codes "SET DATABASE TRANSACTION CONTROL ") text (control_text control) h.written) }
its_control text (d.SetDefaultLevel serializable) h = absurd (apart 84 68 _ _ _ refl refl (same_front (codes "SET DATABASE ") (codes "TRANSACTION CONTROL " ++ text) (codes "DEFAULT ISOLATION LEVEL " ++ level_text serializable) h.written))

control_plain : (text : List ℕ) (control : TransactionControl) → IsModel text control → IsPlainText (codes "SET DATABASE TRANSACTION CONTROL " ++ text) (d.SetControl control)
control_plain text control h = record { lawful = tt; written = ap (λ (xs : List ℕ). codes "SET DATABASE TRANSACTION CONTROL " ++ xs) (sym h) }

pub control_found : (text : List ℕ) (control : TransactionControl) → (control_text control ≡ text) × ((c : TransactionControl) → control_text c ≡ text → c ≡ control) → IsPlainText (codes "SET DATABASE TRANSACTION CONTROL " ++ text) (d.SetControl control) × ((e : Definition) → IsPlainText (codes "SET DATABASE TRANSACTION CONTROL " ++ text) e → e ≡ d.SetControl control)
control_found text control known = made_found d.SetControl (IsModel text) (IsPlainText (codes "SET DATABASE TRANSACTION CONTROL " ++ text)) (control_plain text) (its_control text) control known

pub control_none : (text : List ℕ) → ((c : TransactionControl) → ¬ (control_text c ≡ text)) → (e : Definition) → ¬ (IsPlainText (codes "SET DATABASE TRANSACTION CONTROL " ++ text) e)
control_none text none = made_none d.SetControl (IsModel text) (IsPlainText (codes "SET DATABASE TRANSACTION CONTROL " ++ text)) (its_control text) none

-- ---- DEFAULT ISOLATION LEVEL

abbrev IsLevel : List ℕ → Bool → Type 0
IsLevel text serializable = level_text serializable ≡ text

its_level : (text : List ℕ) (e : Definition) → IsPlainText (codes "SET DATABASE DEFAULT ISOLATION LEVEL " ++ text) e → Made d.SetDefaultLevel (IsLevel text) e
its_level text (d.CreateTable storage name columns constraints) h = absurd h.lawful
its_level text (d.DropTable name) h = absurd (apart 83 68 _ _ _ refl refl h.written)
its_level text (d.AddColumn table column constraints) h = absurd h.lawful
its_level text (d.AddConstraint table constraint) h = absurd h.lawful
its_level text (d.DropConstraint table name) h = absurd h.lawful
its_level text (d.CreateIndex table name columns) h = absurd h.lawful
its_level text (d.DropIndex name) h = absurd (apart 83 68 _ _ _ refl refl h.written)
its_level text (d.SetControl control) h = absurd (apart 68 84 _ _ _ refl refl (same_front (codes "SET DATABASE ") (codes "DEFAULT ISOLATION LEVEL " ++ text) (codes "TRANSACTION CONTROL " ++ control_text control) h.written))
its_level text (d.SetDefaultLevel serializable) h = record { of = serializable; is = refl; at = sym (same_front (codes "SET DATABASE DEFAULT ISOLATION LEVEL ") text (level_text serializable) h.written) }

level_plain : (text : List ℕ) (serializable : Bool) → IsLevel text serializable → IsPlainText (codes "SET DATABASE DEFAULT ISOLATION LEVEL " ++ text) (d.SetDefaultLevel serializable)
level_plain text serializable h = record { lawful = tt; written = ap (λ (xs : List ℕ). codes "SET DATABASE DEFAULT ISOLATION LEVEL " ++ xs) (sym h) }

pub level_found : (text : List ℕ) (serializable : Bool) → (level_text serializable ≡ text) × ((s : Bool) → level_text s ≡ text → s ≡ serializable) → IsPlainText (codes "SET DATABASE DEFAULT ISOLATION LEVEL " ++ text) (d.SetDefaultLevel serializable) × ((e : Definition) → IsPlainText (codes "SET DATABASE DEFAULT ISOLATION LEVEL " ++ text) e → e ≡ d.SetDefaultLevel serializable)
level_found text serializable known = made_found d.SetDefaultLevel (IsLevel text) (IsPlainText (codes "SET DATABASE DEFAULT ISOLATION LEVEL " ++ text)) (level_plain text) (its_level text) serializable known

pub level_none : (text : List ℕ) → ((s : Bool) → ¬ (level_text s ≡ text)) → (e : Definition) → ¬ (IsPlainText (codes "SET DATABASE DEFAULT ISOLATION LEVEL " ++ text) e)
level_none text none = made_none d.SetDefaultLevel (IsLevel text) (IsPlainText (codes "SET DATABASE DEFAULT ISOLATION LEVEL " ++ text)) (its_level text) none

-- ---- none of them

pub setting_none : (text : List ℕ) → ((r : List ℕ) → text ≢ codes "TRANSACTION CONTROL " ++ r) → ((r : List ℕ) → text ≢ codes "DEFAULT ISOLATION LEVEL " ++ r) → (e : Definition) → ¬ (IsPlainText (codes "SET DATABASE " ++ text) e)
setting_none text control level (d.CreateTable storage name columns constraints) h = h.lawful
setting_none text control level (d.DropTable name) h = apart 83 68 _ _ _ refl refl h.written
setting_none text control level (d.AddColumn table column constraints) h = h.lawful
setting_none text control level (d.AddConstraint table constraint) h = h.lawful
setting_none text control level (d.DropConstraint table name) h = h.lawful
setting_none text control level (d.CreateIndex table name columns) h = h.lawful
setting_none text control level (d.DropIndex name) h = apart 83 68 _ _ _ refl refl h.written
setting_none text control level (d.SetControl c) h = control (control_text c) (same_front (codes "SET DATABASE ") text (codes "TRANSACTION CONTROL " ++ control_text c) h.written)
setting_none text control level (d.SetDefaultLevel s) h = level (level_text s) (same_front (codes "SET DATABASE ") text (codes "DEFAULT ISOLATION LEVEL " ++ level_text s) h.written)

pub plain_none : (text : List ℕ) → ((r : List ℕ) → text ≢ codes "DROP TABLE " ++ r) → ((r : List ℕ) → text ≢ codes "DROP INDEX " ++ r) → ((r : List ℕ) → text ≢ codes "SET DATABASE " ++ r) → (e : Definition) → ¬ (IsPlainText text e)
plain_none text table index setting (d.CreateTable storage name columns constraints) h = h.lawful
plain_none text table index setting (d.DropTable name) h = table (name_text name) h.written
plain_none text table index setting (d.AddColumn table_name column constraints) h = h.lawful
plain_none text table index setting (d.AddConstraint table_name constraint) h = h.lawful
plain_none text table index setting (d.DropConstraint table_name name) h = h.lawful
plain_none text table index setting (d.CreateIndex table_name name columns) h = h.lawful
plain_none text table index setting (d.DropIndex name) h = index (name_text name) h.written
plain_none text table index setting (d.SetControl c) h = setting (codes "TRANSACTION CONTROL " ++ control_text c) h.written
plain_none text table index setting (d.SetDefaultLevel s) h = setting (codes "DEFAULT ISOLATION LEVEL " ++ level_text s) h.written
