-- What is done to a table, as it is read. Two kinds differ in an early byte.
use Rattle.std.proofs.Common.{◌≡◌, ◌≢◌, ℕ, true, false, List, ◌++◌, refl, sym, ap, ◌∙◌}
use Rattle.std.specs.Prelude.{codes}
use Rattle.hs_plan.specs.declared.definition.Constraint.{Constraint}
use Rattle.hs_valuetext.proofs.Bits.{not_both}
use Rattle.hs_valuetext.proofs.NumberLemmas.{same_front}
use Rattle.hs_nametext.specs.Names.{name_text}
use Rattle.hs_keytext.specs.Owners.{Owner}
use Rattle.hs_tabletext.specs.Conditions.{Wording}
use Rattle.hs_parttext.proofs.Known.{apart}
use Rattle.hs_tabletext.specs.Constraints.{constraint_text, IsConstraintText}
use Rattle.hs_tabletext.specs.declared.definition.AddedColumn.{AddedColumn}
use Rattle.hs_tabletext.specs.Columns.{added_text, IsAddedText}
use Rattle.hs_shorttext.proofs.Made.{Made, made_found, made_none}
use Rattle.hs_alterationtext.specs.declared.alteration.Alteration.{Alteration}
use Rattle.hs_alterationtext.specs.declared.alteration.Alteration.TheVariants as a
use Rattle.hs_alterationtext.specs.Alterations.{is_not_null, IsLoneText, IsDropped, IsAlterationText}

-- ---- constraints that are added alone

a_constraint : (wording : Wording) (table : Owner) (text : List ℕ) (c : Constraint) → IsLoneText wording table text c → IsConstraintText wording table text c
a_constraint wording table text c h = record { lawful = h.lawful.lawful; written = h.written }

pub lone_found : (wording : Wording) (table : Owner) (text : List ℕ) (c : Constraint) → IsConstraintText wording table text c × ((e : Constraint) → IsConstraintText wording table text e → e ≡ c) → is_not_null c.rule ≡ false → IsLoneText wording table text c × ((e : Constraint) → IsLoneText wording table text e → e ≡ c)
lone_found wording table text c known lone = (
  record { lawful = record { lawful = known.0.lawful; lone = lone }; written = known.0.written },
  λ e h. known.1 e (a_constraint wording table text e h),
)

pub lone_not : (wording : Wording) (table : Owner) (text : List ℕ) (c : Constraint) → IsConstraintText wording table text c × ((e : Constraint) → IsConstraintText wording table text e → e ≡ c) → is_not_null c.rule ≡ true → (e : Constraint) → ¬ (IsLoneText wording table text e)
lone_not wording table text c known other e h =
    let same : e ≡ c = known.1 e (a_constraint wording table text e h) in
    not_both (is_not_null e.rule) (ap (λ (x : Constraint). is_not_null x.rule) same ∙ other) h.lawful.lone

pub lone_none : (wording : Wording) (table : Owner) (text : List ℕ) → ((e : Constraint) → ¬ (IsConstraintText wording table text e)) → (e : Constraint) → ¬ (IsLoneText wording table text e)
lone_none wording table text none e h = none e (a_constraint wording table text e h)

-- ---- ADD COLUMN

its_column : (wording : Wording) (table : Owner) (text : List ℕ) (e : Alteration) → IsAlterationText wording table (codes " ADD COLUMN " ++ text) e → Made a.AddColumn (IsAddedText wording table text) e
its_column wording table text (a.AddColumn added) h = record { of = added; is = refl; at = record { lawful = h.lawful; written = same_front (codes " ADD COLUMN ") text (added_text wording table added.column added.constraints) h.written } }
its_column wording table text (a.AddConstraint c) h = absurd (apart 76 78 _ _ _ refl refl (same_front (codes " ADD CO") (codes "LUMN " ++ text) (codes "NSTRAINT " ++ constraint_text wording table c) h.written))
its_column wording table text (a.DropConstraint name) h = absurd (apart 65 68 _ _ _ refl refl (same_front (codes " ") (codes "ADD COLUMN " ++ text) (codes "DROP CONSTRAINT " ++ name_text name) h.written))

column_alteration : (wording : Wording) (table : Owner) (text : List ℕ) (added : AddedColumn) → IsAddedText wording table text added → IsAlterationText wording table (codes " ADD COLUMN " ++ text) (a.AddColumn added)
column_alteration wording table text added h = record { lawful = h.lawful; written = ap (λ (xs : List ℕ). codes " ADD COLUMN " ++ xs) h.written }

pub column_found : (wording : Wording) (table : Owner) (text : List ℕ) (added : AddedColumn) → IsAddedText wording table text added × ((b : AddedColumn) → IsAddedText wording table text b → b ≡ added) → IsAlterationText wording table (codes " ADD COLUMN " ++ text) (a.AddColumn added) × ((e : Alteration) → IsAlterationText wording table (codes " ADD COLUMN " ++ text) e → e ≡ a.AddColumn added)
column_found wording table text added known = made_found a.AddColumn (IsAddedText wording table text) (IsAlterationText wording table (codes " ADD COLUMN " ++ text)) (column_alteration wording table text) (its_column wording table text) added known

pub column_none : (wording : Wording) (table : Owner) (text : List ℕ) → ((b : AddedColumn) → ¬ (IsAddedText wording table text b)) → (e : Alteration) → ¬ (IsAlterationText wording table (codes " ADD COLUMN " ++ text) e)
column_none wording table text none = made_none a.AddColumn (IsAddedText wording table text) (IsAlterationText wording table (codes " ADD COLUMN " ++ text)) (its_column wording table text) none

-- ---- ADD CONSTRAINT

its_constraint : (wording : Wording) (table : Owner) (text : List ℕ) (e : Alteration) → IsAlterationText wording table (codes " ADD CONSTRAINT " ++ text) e → Made a.AddConstraint (IsLoneText wording table text) e
its_constraint wording table text (a.AddColumn added) h = absurd (apart 78 76 _ _ _ refl refl (same_front (codes " ADD CO") (codes "NSTRAINT " ++ text) (codes "LUMN " ++ added_text wording table added.column added.constraints) h.written))
its_constraint wording table text (a.AddConstraint c) h = record { of = c; is = refl; at = record { lawful = h.lawful; written = same_front (codes " ADD CONSTRAINT ") text (constraint_text wording table c) h.written } }
its_constraint wording table text (a.DropConstraint name) h = absurd (apart 65 68 _ _ _ refl refl (same_front (codes " ") (codes "ADD CONSTRAINT " ++ text) (codes "DROP CONSTRAINT " ++ name_text name) h.written))

constraint_alteration : (wording : Wording) (table : Owner) (text : List ℕ) (c : Constraint) → IsLoneText wording table text c → IsAlterationText wording table (codes " ADD CONSTRAINT " ++ text) (a.AddConstraint c)
constraint_alteration wording table text c h = record { lawful = h.lawful; written = ap (λ (xs : List ℕ). codes " ADD CONSTRAINT " ++ xs) h.written }

pub constraint_found : (wording : Wording) (table : Owner) (text : List ℕ) (c : Constraint) → IsLoneText wording table text c × ((b : Constraint) → IsLoneText wording table text b → b ≡ c) → IsAlterationText wording table (codes " ADD CONSTRAINT " ++ text) (a.AddConstraint c) × ((e : Alteration) → IsAlterationText wording table (codes " ADD CONSTRAINT " ++ text) e → e ≡ a.AddConstraint c)
constraint_found wording table text c known = made_found a.AddConstraint (IsLoneText wording table text) (IsAlterationText wording table (codes " ADD CONSTRAINT " ++ text)) (constraint_alteration wording table text) (its_constraint wording table text) c known

pub constraint_none : (wording : Wording) (table : Owner) (text : List ℕ) → ((b : Constraint) → ¬ (IsLoneText wording table text b)) → (e : Alteration) → ¬ (IsAlterationText wording table (codes " ADD CONSTRAINT " ++ text) e)
constraint_none wording table text none = made_none a.AddConstraint (IsLoneText wording table text) (IsAlterationText wording table (codes " ADD CONSTRAINT " ++ text)) (its_constraint wording table text) none

-- ---- DROP CONSTRAINT

its_dropped : (wording : Wording) (table : Owner) (text r : List ℕ) → text ≡ codes " DROP CONSTRAINT " ++ r → (e : Alteration) → IsAlterationText wording table text e → Made a.DropConstraint (IsDropped text) e
its_dropped wording table text r is (a.AddColumn added) h = absurd (apart 68 65 _ _ _ refl refl (same_front (codes " ") (codes "DROP CONSTRAINT " ++ r) (codes "ADD COLUMN " ++ added_text wording table added.column added.constraints) (sym is ∙ h.written)))
its_dropped wording table text r is (a.AddConstraint c) h = absurd (apart 68 65 _ _ _ refl refl (same_front (codes " ") (codes "DROP CONSTRAINT " ++ r) (codes "ADD CONSTRAINT " ++ constraint_text wording table c) (sym is ∙ h.written)))
its_dropped wording table text r is (a.DropConstraint name) h = record { of = name; is = refl; at = record { rest = name_text name; at = record { named = h.lawful; written = refl }; written = h.written } }

dropped_alteration : (wording : Wording) (table : Owner) (text name : List ℕ) → IsDropped text name → IsAlterationText wording table text (a.DropConstraint name)
dropped_alteration wording table text name h = record { lawful = h.at.named; written = h.written ∙ ap (λ (xs : List ℕ). codes " DROP CONSTRAINT " ++ xs) h.at.written }

pub dropped_found : (wording : Wording) (table : Owner) (text name : List ℕ) → IsDropped text name × ((n : List ℕ) → IsDropped text n → n ≡ name) → IsAlterationText wording table text (a.DropConstraint name) × ((e : Alteration) → IsAlterationText wording table text e → e ≡ a.DropConstraint name)
dropped_found wording table text name known = made_found a.DropConstraint (IsDropped text) (IsAlterationText wording table text) (dropped_alteration wording table text) (its_dropped wording table text known.0.rest known.0.written) name known

-- ---- none of them

pub alteration_none : (wording : Wording) (table : Owner) (text : List ℕ) → ((r : List ℕ) → text ≢ codes " ADD COLUMN " ++ r) → ((r : List ℕ) → text ≢ codes " ADD CONSTRAINT " ++ r) → ((n : List ℕ) → ¬ (IsDropped text n)) → (e : Alteration) → ¬ (IsAlterationText wording table text e)
alteration_none wording table text column constraint dropped (a.AddColumn added) h = column (added_text wording table added.column added.constraints) h.written
alteration_none wording table text column constraint dropped (a.AddConstraint c) h = constraint (constraint_text wording table c) h.written
alteration_none wording table text column constraint dropped (a.DropConstraint name) h = dropped name (record { rest = name_text name; at = record { named = h.lawful; written = refl }; written = h.written })
