-- Each change has one text beside a whole catalogue, where names and numbers of tables belong together.
use Rattle.std.proofs.Common.{◌≡◌, ℕ, List, [], Option, Some, None, refl, sym, ap, ◌∙◌}
use Rattle.std.specs.Option.{option_map_or}
use Rattle.hs_base.specs.declared.numbers.TableNo.{TableNo}
use Rattle.hs_plan.specs.declared.change.Change.{Change}
use Rattle.hs_plan.specs.declared.change.Change.TheVariants as c
use Rattle.hs_schema.specs.declared.table.Table.{Table}
use Rattle.hs_schema.specs.Catalogue.{Things, number_of, table_numbered, table_named}
use Rattle.hs_schema.specs.Whole.{IsWhole}
use Rattle.hs_schema.proofs.After.{number_of_name}
use Rattle.hs_nametext.specs.Names.{name_text}
use Rattle.hs_tabletext.specs.Conditions.{Wording}
use Rattle.hs_rowtext.specs.Lines.{row_line, Names, IsRowLine}
use Rattle.hs_committext.specs.Changes.{table_name, change_text, IsRowChange, IsChange, IsChangeText}

-- ---- a table's name by its number

record Belongs (things : Things) (name : List ℕ) (table : Table) : Type 0 where
  by_number : table_numbered things table.number ≡ Some table
  named : table.name ≡ name

belongs_at : (things : Things) (name : List ℕ) (table : Table) (o : Option TableNo) → IsWhole things → number_of things name ≡ o → option_map_or (table_numbered things) o None ≡ Some table → Belongs things name table
belongs_at things name table None whole is found = absurd cc
belongs_at things name table (Some n) whole is found =
    let t = number_of_name things name n whole is in
    let both : Some t.0 ≡ Some table = sym t.1 ∙ found in
    let same : t.0 ≡ table = cc in
    let number : table.number ≡ n = sym (ap (λ (x : Table). x.number) same) ∙ t.3 in
    record { by_number = ap (table_numbered things) number ∙ found; named = sym (ap (λ (x : Table). x.name) same) ∙ t.2 }

belongs : (things : Things) (name : List ℕ) (table : Table) → IsWhole things → table_named things name ≡ Some table → Belongs things name table
belongs things name table whole found = belongs_at things name table (number_of things name) whole refl found

its_name : (things : Things) (name : List ℕ) (table : Table) (number : TableNo) → IsWhole things → Names things name table → number ≡ table.number → table_name things number ≡ name
its_name things name table number whole names is =
    let of = belongs things name table whole names.named in
    ap (table_name things) is ∙ ap (λ (o : Option Table). option_map_or (λ t. t.name) o []) of.by_number ∙ of.named

-- ---- both ways

abbrev line_of : Change → List ℕ → List ℕ
line_of change name = row_line (name_text name) change

pub there : (wording : Wording) (things : Things) (change : Change) → IsWhole things → IsChange wording things change → IsChangeText wording things (change_text wording things change) change
there wording things (c.Insert table row) whole h = record { name = h.name; table = h.table; names = h.names; of = h.of; written = ap (line_of (c.Insert table row)) (its_name things h.name h.table table whole h.names h.of.0) }
there wording things (c.Put table number row) whole h = record { name = h.name; table = h.table; names = h.names; of = h.of; written = ap (line_of (c.Put table number row)) (its_name things h.name h.table table whole h.names h.of.0) }
there wording things (c.Delete table number) whole h = record { name = h.name; table = h.table; names = h.names; of = h.of; written = ap (line_of (c.Delete table number)) (its_name things h.name h.table table whole h.names h.of.0) }
there wording things (c.Define definition) whole h = record { lawful = h; written = refl }

a_row : (things : Things) (text : List ℕ) (change : Change) → IsRowLine things text change → IsRowChange things change
a_row things text change h = record { name = h.name; table = h.table; names = h.names; of = h.of }

pub only : (wording : Wording) (things : Things) (text : List ℕ) (change : Change) → IsWhole things → IsChangeText wording things text change → IsChange wording things change × (text ≡ change_text wording things change)
only wording things text (c.Insert table row) whole h = (a_row things text (c.Insert table row) h, h.written ∙ ap (line_of (c.Insert table row)) (sym (its_name things h.name h.table table whole h.names h.of.0)))
only wording things text (c.Put table number row) whole h = (a_row things text (c.Put table number row) h, h.written ∙ ap (line_of (c.Put table number row)) (sym (its_name things h.name h.table table whole h.names h.of.0)))
only wording things text (c.Delete table number) whole h = (a_row things text (c.Delete table number) h, h.written ∙ ap (line_of (c.Delete table number)) (sym (its_name things h.name h.table table whole h.names h.of.0)))
only wording things text (c.Define definition) whole h = (h.lawful, h.written)
