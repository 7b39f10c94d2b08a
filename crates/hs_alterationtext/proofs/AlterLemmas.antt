-- Lines of ALTER TABLE as they are written and read.
use Rattle.std.proofs.Common.{◌≡◌, ◌≢◌, ℕ, List, [], ◌++◌, Option, Some, None, refl, sym, ap, subst, ◌∙◌, append_assoc}
use Rattle.std.specs.Prelude.{codes, is_some}
use Rattle.std.specs.Option.{option_map_or}
use Rattle.hs_plan.specs.declared.definition.Column.{Column}
use Rattle.hs_plan.specs.declared.definition.Constraint.{Constraint}
use Rattle.hs_schema.specs.declared.table.Table.{Table}
use Rattle.hs_schema.specs.Catalogue.{Things, table_named}
use Rattle.hs_valuetext.proofs.Bits.{not_both}
use Rattle.hs_valuetext.proofs.NumberLemmas.{same_front}
use Rattle.hs_valuetext.proofs.TextLemmas.{Alone}
use Rattle.hs_nametext.specs.Names.{name_text, goes_on, IsNameAt}
use Rattle.hs_keytext.specs.Owners.{Owner}
use Rattle.hs_keytext.proofs.Printed.{printed2}
use Rattle.hs_tabletext.specs.Conditions.{Wording}
use Rattle.hs_parttext.specs.Named.{IsNamed}
use Rattle.hs_parttext.proofs.NamedLemmas.{Ends, named_nameless}
use Rattle.hs_tabletext.specs.Columns.{added_text}
use Rattle.hs_shorttext.specs.Tables.{columns_of}
use Rattle.hs_shorttext.proofs.Naming.{named_read, named_none}
use Rattle.hs_alterationtext.specs.declared.alteration.Alteration.{Alteration}
use Rattle.hs_alterationtext.specs.declared.alteration.Alteration.TheVariants as a
use Rattle.hs_alterationtext.specs.Alterations.{adding, alteration_text, IsAlterationText, owner_in, IsAltered, alter_text, IsAlterText}

-- ---- a table of the catalogue

the_columns : (things : Things) (name : List ℕ) (found : Table) → table_named things name ≡ Some found → columns_of things name ≡ found.columns
the_columns things name found is = ap (λ (o : Option Table). option_map_or (λ t. t.columns) o []) is

abbrev pub with_columns : Things → List ℕ → List Column → Owner
with_columns things name columns = record { name = name; columns = columns; things = things }

pub altered_from : (wording : Wording) (things : Things) (name text : List ℕ) (found : Table) (columns : List Column) → table_named things name ≡ Some found → columns ≡ found.columns → (e : Alteration) → IsAlterationText wording (with_columns things name columns) text e → IsAltered wording things name text e
altered_from wording things name text found columns is same e h = record {
  known = ap is_some is;
  at = subst (λ (cs : List Column). IsAlterationText wording (with_columns things name cs) text e) (same ∙ sym (the_columns things name found is)) h;
}

pub from_altered : (wording : Wording) (things : Things) (name text : List ℕ) (found : Table) (columns : List Column) → table_named things name ≡ Some found → columns ≡ found.columns → (e : Alteration) → IsAltered wording things name text e → IsAlterationText wording (with_columns things name columns) text e
from_altered wording things name text found columns is same e h = subst (λ (cs : List Column). IsAlterationText wording (with_columns things name cs) text e) (the_columns things name found is ∙ sym same) h.at

pub altered_unknown : (wording : Wording) (things : Things) (name text : List ℕ) → table_named things name ≡ None → (e : Alteration) → ¬ (IsAltered wording things name text e)
altered_unknown wording things name text is e h = not_both (is_some (table_named things name)) h.known (ap is_some is)

-- ---- the table's name

altered_ends : (wording : Wording) (things : Things) → Ends (IsAltered wording things)
altered_ends wording things name text (a.AddColumn added) h = ap goes_on h.at.written
altered_ends wording things name text (a.AddConstraint c) h = ap goes_on h.at.written
altered_ends wording things name text (a.DropConstraint n) h = ap goes_on h.at.written

pub named_found : (wording : Wording) (things : Things) (text name rest made : List ℕ) (e : Alteration) → Alone (IsNameAt text) name rest → IsAltered wording things name rest e × ((b : Alteration) → IsAltered wording things name rest b → b ≡ e) → made ≡ name → IsNamed (IsAltered wording things) text (made, e) × ((p : List ℕ × Alteration) → IsNamed (IsAltered wording things) text p → p ≡ (made, e))
named_found wording things text name rest made e = named_read (IsAltered wording things) (altered_ends wording things) text name rest made e

pub named_unaltered : (wording : Wording) (things : Things) (text name rest : List ℕ) → Alone (IsNameAt text) name rest → ((b : Alteration) → ¬ (IsAltered wording things name rest b)) → (p : List ℕ × Alteration) → ¬ (IsNamed (IsAltered wording things) text p)
named_unaltered wording things text name rest = named_none (IsAltered wording things) (altered_ends wording things) text name rest

pub nameless : (wording : Wording) (things : Things) (text : List ℕ) → ((name rest : List ℕ) → ¬ (IsNameAt text name rest)) → (p : List ℕ × Alteration) → ¬ (IsNamed (IsAltered wording things) text p)
nameless wording things text none = named_nameless (IsAltered wording things) (altered_ends wording things) text none

-- ---- the whole

pub alter_from : (wording : Wording) (things : Things) (text inner : List ℕ) → text ≡ codes "ALTER TABLE " ++ inner → (p : List ℕ × Alteration) → IsNamed (IsAltered wording things) inner p → IsAlterText wording things text p
alter_from wording things text inner is p h = record {
  lawful = record { named = h.named; known = h.at.known; alteration = h.at.at.lawful };
  written =
      is ∙ ap (λ (xs : List ℕ). codes "ALTER TABLE " ++ xs) h.written
      ∙ ap (λ (xs : List ℕ). codes "ALTER TABLE " ++ (name_text p.0 ++ xs)) h.at.at.written;
}

pub from_alter : (wording : Wording) (things : Things) (text inner : List ℕ) → text ≡ codes "ALTER TABLE " ++ inner → (p : List ℕ × Alteration) → IsAlterText wording things text p → IsNamed (IsAltered wording things) inner p
from_alter wording things text inner is p h =
    let behind : List ℕ = alteration_text wording (owner_in things p.0) p.1 in
    record {
      named = h.lawful.named;
      rest = behind;
      at = record { known = h.lawful.known; at = record { lawful = h.lawful.alteration; written = refl } };
      written = same_front (codes "ALTER TABLE ") inner (name_text p.0 ++ behind) (sym is ∙ h.written);
    }

pub alter_unbegun : (wording : Wording) (things : Things) (text : List ℕ) → ((r : List ℕ) → text ≢ codes "ALTER TABLE " ++ r) → (p : List ℕ × Alteration) → ¬ (IsAlterText wording things text p)
alter_unbegun wording things text other p h = other (name_text p.0 ++ alteration_text wording (owner_in things p.0) p.1) h.written

-- ---- a column that is added, as it is written

pub column_printed : (wording : Wording) (things : Things) (name : List ℕ) (columns : List Column) (column : Column) (constraints : List Constraint) (old front new : List ℕ) → columns ≡ columns_of things name → front ≡ old ++ (codes "ALTER TABLE " ++ (name_text name ++ codes " ADD COLUMN ")) → new ≡ front ++ added_text wording (with_columns things name columns) column constraints → new ≡ old ++ alter_text wording things name (adding column constraints)
column_printed wording things name columns column constraints old front new same begun is =
    let added : List ℕ = added_text wording (owner_in things name) column constraints in
    printed2 old front new (codes "ALTER TABLE " ++ (name_text name ++ codes " ADD COLUMN ")) added begun
    (is ∙ ap (λ (cs : List Column). front ++ added_text wording (with_columns things name cs) column constraints) same)
    ∙ ap (λ (xs : List ℕ). old ++ (codes "ALTER TABLE " ++ xs)) (append_assoc (name_text name) (codes " ADD COLUMN ") added)
