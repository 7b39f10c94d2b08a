-- Definitions as they are read. Those of two kinds differ in an early byte.
use Rattle.std.proofs.Common.{◌≡◌, ℕ, List, ◌++◌, refl, sym, subst, ◌∙◌}
use Rattle.std.specs.Prelude.{codes}
use Rattle.hs_ast.specs.declared.definition.Storage.{Storage}
use Rattle.hs_ast.specs.declared.definition.Storage.TheVariants as s
use Rattle.hs_plan.specs.declared.definition.Definition.{Definition}
use Rattle.hs_plan.specs.declared.definition.Definition.TheVariants as d
use Rattle.hs_schema.specs.Catalogue.{Things}
use Rattle.hs_valuetext.proofs.NumberLemmas.{same_front}
use Rattle.hs_nametext.specs.Names.{name_text}
use Rattle.hs_tabletext.specs.Conditions.{Wording}
use Rattle.hs_parttext.proofs.Known.{apart}
use Rattle.hs_tabletext.specs.declared.definition.NewTable.{NewTable}
use Rattle.hs_tabletext.specs.Tables.{create_text, owner_of, body_text, IsTableText}
use Rattle.hs_shorttext.specs.declared.index.NewIndex.{NewIndex}
use Rattle.hs_shorttext.specs.Indexes.{listed_text, IsIndexText}
use Rattle.hs_shorttext.specs.Plain.{IsPlainText}
use Rattle.hs_shorttext.specs.Tables.{columns_of}
use Rattle.hs_shorttext.proofs.Made.{Made, made_found}
use Rattle.hs_alterationtext.specs.declared.alteration.Alteration.{Alteration}
use Rattle.hs_alterationtext.specs.declared.alteration.Alteration.TheVariants as a
use Rattle.hs_alterationtext.specs.Alterations.{adding, alteration_text, owner_in, IsAlterText}
use Rattle.hs_committext.specs.Definitions.{creating, indexing, altering, new_table, new_index, IsDefinitionText}

-- the one that is found, as it is made
pub as_made : (P : Definition → Type 0) (made d : Definition) → made ≡ d → P d × ((e : Definition) → P e → e ≡ d) → P made × ((e : Definition) → P e → e ≡ made)
as_made P made d is known = (subst P (sym is) known.0, λ e h. known.1 e h ∙ sym is)

-- ---- ALTER TABLE

abbrev pub altered : List ℕ × Alteration → Definition
altered p = altering p.0 p.1

its_alter : (wording : Wording) (things : Things) (text r : List ℕ) → text ≡ codes "ALTER TABLE " ++ r → (e : Definition) → IsDefinitionText wording things text e → Made altered (IsAlterText wording things text) e
its_alter wording things text r is (d.CreateTable storage name columns constraints) h = absurd (apart 65 67 _ _ text refl is h.written)
its_alter wording things text r is (d.DropTable name) h = absurd (apart 65 68 _ _ text refl is h.written)
its_alter wording things text r is (d.AddColumn table column constraints) h = record { of = (table, adding column constraints); is = refl; at = record { lawful = h.lawful; written = h.written } }
its_alter wording things text r is (d.AddConstraint table constraint) h = record { of = (table, a.AddConstraint constraint); is = refl; at = record { lawful = h.lawful; written = h.written } }
its_alter wording things text r is (d.DropConstraint table name) h = record { of = (table, a.DropConstraint name); is = refl; at = record { lawful = h.lawful; written = h.written } }
its_alter wording things text r is (d.CreateIndex table name columns) h = absurd (apart 65 67 _ _ text refl is h.written)
its_alter wording things text r is (d.DropIndex name) h = absurd (apart 65 68 _ _ text refl is h.written)
its_alter wording things text r is (d.SetControl control) h = absurd (apart 65 83 _ _ text refl is h.written)
its_alter wording things text r is (d.SetDefaultLevel serializable) h = absurd (apart 65 83 _ _ text refl is h.written)

alter_of : (wording : Wording) (things : Things) (text table : List ℕ) (e : Alteration) → IsAlterText wording things text (table, e) → IsDefinitionText wording things text (altering table e)
alter_of wording things text table (a.AddColumn added) h = record { lawful = h.lawful; written = h.written }
alter_of wording things text table (a.AddConstraint constraint) h = record { lawful = h.lawful; written = h.written }
alter_of wording things text table (a.DropConstraint name) h = record { lawful = h.lawful; written = h.written }

pub alter_found : (wording : Wording) (things : Things) (text table : List ℕ) (alteration : Alteration) (made : Definition) → IsAlterText wording things text (table, alteration) × ((p : List ℕ × Alteration) → IsAlterText wording things text p → p ≡ (table, alteration)) → made ≡ altering table alteration → IsDefinitionText wording things text made × ((e : Definition) → IsDefinitionText wording things text e → e ≡ made)
alter_found wording things text table alteration made known is =
    let its = its_alter wording things text (name_text table ++ alteration_text wording (owner_in things table) alteration) known.0.written in
    as_made (IsDefinitionText wording things text) made (altering table alteration) is
    (made_found altered (IsAlterText wording things text) (IsDefinitionText wording things text) (λ p h. alter_of wording things text p.0 p.1 h) its (table, alteration) known)

-- ---- CREATE TABLE

no_index : (storage : Storage) (text r t : List ℕ) → text ≡ create_text storage ++ r → text ≡ codes "CREATE INDEX " ++ t → ⊥
no_index s.Memory text r t e f = apart 77 73 _ _ _ refl refl (same_front (codes "CREATE ") (codes "MEMORY TABLE " ++ r) (codes "INDEX " ++ t) (sym e ∙ f))
no_index s.Cached text r t e f = apart 67 73 _ _ _ refl refl (same_front (codes "CREATE ") (codes "CACHED TABLE " ++ r) (codes "INDEX " ++ t) (sym e ∙ f))

its_table : (wording : Wording) (things : Things) (text r : List ℕ) (made : Storage) → text ≡ create_text made ++ r → (e : Definition) → IsDefinitionText wording things text e → Made creating (IsTableText wording things text) e
its_table wording things text r made is (d.CreateTable storage name columns constraints) h = record { of = new_table storage name columns constraints; is = refl; at = record { lawful = h.lawful; written = h.written } }
its_table wording things text r made is (d.DropTable name) h = absurd (apart 67 68 _ _ text refl is h.written)
its_table wording things text r made is (d.AddColumn table column constraints) h = absurd (apart 67 65 _ _ text refl is h.written)
its_table wording things text r made is (d.AddConstraint table constraint) h = absurd (apart 67 65 _ _ text refl is h.written)
its_table wording things text r made is (d.DropConstraint table name) h = absurd (apart 67 65 _ _ text refl is h.written)
its_table wording things text r made is (d.CreateIndex table name columns) h = absurd (no_index made text r (name_text name ++ (codes " ON " ++ (name_text table ++ listed_text (columns_of things table) columns))) is h.written)
its_table wording things text r made is (d.DropIndex name) h = absurd (apart 67 68 _ _ text refl is h.written)
its_table wording things text r made is (d.SetControl control) h = absurd (apart 67 83 _ _ text refl is h.written)
its_table wording things text r made is (d.SetDefaultLevel serializable) h = absurd (apart 67 83 _ _ text refl is h.written)

table_of : (wording : Wording) (things : Things) (text : List ℕ) (t : NewTable) → IsTableText wording things text t → IsDefinitionText wording things text (creating t)
table_of wording things text t h = record { lawful = h.lawful; written = h.written }

pub table_found : (wording : Wording) (things : Things) (text : List ℕ) (t : NewTable) (made : Definition) → IsTableText wording things text t × ((u : NewTable) → IsTableText wording things text u → u ≡ t) → made ≡ creating t → IsDefinitionText wording things text made × ((e : Definition) → IsDefinitionText wording things text e → e ≡ made)
table_found wording things text t made known is =
    let its = its_table wording things text (name_text t.name ++ body_text wording (owner_of things t.name t.columns) t.constraints) t.storage known.0.written in
    as_made (IsDefinitionText wording things text) made (creating t) is
    (made_found creating (IsTableText wording things text) (IsDefinitionText wording things text) (table_of wording things text) its t known)

-- ---- CREATE INDEX

its_index : (wording : Wording) (things : Things) (text r : List ℕ) → text ≡ codes "CREATE INDEX " ++ r → (e : Definition) → IsDefinitionText wording things text e → Made indexing (IsIndexText things text) e
its_index wording things text r is (d.CreateTable storage name columns constraints) h = absurd (no_index storage text (name_text name ++ body_text wording (owner_of things name columns) constraints) r h.written is)
its_index wording things text r is (d.DropTable name) h = absurd (apart 67 68 _ _ text refl is h.written)
its_index wording things text r is (d.AddColumn table column constraints) h = absurd (apart 67 65 _ _ text refl is h.written)
its_index wording things text r is (d.AddConstraint table constraint) h = absurd (apart 67 65 _ _ text refl is h.written)
its_index wording things text r is (d.DropConstraint table name) h = absurd (apart 67 65 _ _ text refl is h.written)
its_index wording things text r is (d.CreateIndex table name columns) h = record { of = new_index table name columns; is = refl; at = record { lawful = h.lawful; written = h.written } }
its_index wording things text r is (d.DropIndex name) h = absurd (apart 67 68 _ _ text refl is h.written)
its_index wording things text r is (d.SetControl control) h = absurd (apart 67 83 _ _ text refl is h.written)
its_index wording things text r is (d.SetDefaultLevel serializable) h = absurd (apart 67 83 _ _ text refl is h.written)

index_of : (wording : Wording) (things : Things) (text : List ℕ) (i : NewIndex) → IsIndexText things text i → IsDefinitionText wording things text (indexing i)
index_of wording things text i h = record { lawful = h.lawful; written = h.written }

pub index_found : (wording : Wording) (things : Things) (text : List ℕ) (i : NewIndex) (made : Definition) → IsIndexText things text i × ((j : NewIndex) → IsIndexText things text j → j ≡ i) → made ≡ indexing i → IsDefinitionText wording things text made × ((e : Definition) → IsDefinitionText wording things text e → e ≡ made)
index_found wording things text i made known is =
    let its = its_index wording things text (name_text i.name ++ (codes " ON " ++ (name_text i.table ++ listed_text (columns_of things i.table) i.columns))) known.0.written in
    as_made (IsDefinitionText wording things text) made (indexing i) is
    (made_found indexing (IsIndexText things text) (IsDefinitionText wording things text) (index_of wording things text) its i known)

-- ---- the others

pub from_plain : (wording : Wording) (things : Things) (text : List ℕ) (e : Definition) → IsPlainText text e → IsDefinitionText wording things text e
from_plain wording things text (d.CreateTable storage name columns constraints) h = absurd h.lawful
from_plain wording things text (d.DropTable name) h = record { lawful = h.lawful; written = h.written }
from_plain wording things text (d.AddColumn table column constraints) h = absurd h.lawful
from_plain wording things text (d.AddConstraint table constraint) h = absurd h.lawful
from_plain wording things text (d.DropConstraint table name) h = absurd h.lawful
from_plain wording things text (d.CreateIndex table name columns) h = absurd h.lawful
from_plain wording things text (d.DropIndex name) h = record { lawful = h.lawful; written = h.written }
from_plain wording things text (d.SetControl control) h = record { lawful = h.lawful; written = h.written }
from_plain wording things text (d.SetDefaultLevel serializable) h = record { lawful = h.lawful; written = h.written }

pub plain_from : (wording : Wording) (things : Things) (text : List ℕ) → ((p : List ℕ × Alteration) → ¬ (IsAlterText wording things text p)) → ((t : NewTable) → ¬ (IsTableText wording things text t)) → ((i : NewIndex) → ¬ (IsIndexText things text i)) → (e : Definition) → IsDefinitionText wording things text e → IsPlainText text e
plain_from wording things text alter table index (d.CreateTable storage name columns constraints) h = absurd (table (new_table storage name columns constraints) (record { lawful = h.lawful; written = h.written }))
plain_from wording things text alter table index (d.DropTable name) h = record { lawful = h.lawful; written = h.written }
plain_from wording things text alter table index (d.AddColumn on column constraints) h = absurd (alter (on, adding column constraints) (record { lawful = h.lawful; written = h.written }))
plain_from wording things text alter table index (d.AddConstraint on constraint) h = absurd (alter (on, a.AddConstraint constraint) (record { lawful = h.lawful; written = h.written }))
plain_from wording things text alter table index (d.DropConstraint on name) h = absurd (alter (on, a.DropConstraint name) (record { lawful = h.lawful; written = h.written }))
plain_from wording things text alter table index (d.CreateIndex on name columns) h = absurd (index (new_index on name columns) (record { lawful = h.lawful; written = h.written }))
plain_from wording things text alter table index (d.DropIndex name) h = record { lawful = h.lawful; written = h.written }
plain_from wording things text alter table index (d.SetControl control) h = record { lawful = h.lawful; written = h.written }
plain_from wording things text alter table index (d.SetDefaultLevel serializable) h = record { lawful = h.lawful; written = h.written }
