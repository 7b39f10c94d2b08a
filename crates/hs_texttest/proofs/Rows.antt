-- The tests of changes of rows tell which have a text.
use Rattle.std.proofs.Common.{◌≡◌, ℕ, ◌^◌, true, ◌&&◌, ◌==◌, nat_le, nat_lt, List, length, Option, None, Some, refl, ap, subst, ◌∙◌}
use Rattle.std.specs.Bool.{Decides}
use Rattle.std.specs.List.{list_all}
use Rattle.std.proofs.lemmas.Bool.{and_parts}
use Rattle.std.proofs.lemmas.Bool.Decides.{Decides-and, Decides-eqb}
use Rattle.hs_base.specs.declared.numbers.RowNo.{RowNo}
use Rattle.hs_base.specs.declared.numbers.TableNo.{TableNo}
use Rattle.hs_plan.specs.declared.change.Change.{Change}
use Rattle.hs_plan.specs.declared.change.Change.TheVariants as c
use Rattle.hs_plan.specs.declared.definition.Column.{Column}
use Rattle.hs_rowcodec.specs.Encoding.{row_bytes}
use Rattle.hs_schema.specs.declared.table.Table.{Table}
use Rattle.hs_schema.specs.Catalogue.{Things, table_named}
use Rattle.hs_values.specs.declared.value.Value.{Value}
use Rattle.hs_values.specs.SqlType.{row_fits}
use Rattle.hs_valuetext.specs.Values.{IsSpelled}
use Rattle.hs_nametext.specs.Names.{name_text}
use Rattle.hs_rowtext.specs.Lines.{row_line, IsChangeOf, IsRowLine, IsRowNo}
use Rattle.hs_rowtext.specs.Rows.{types_of, IsRowOf}
use Rattle.hs_committext.specs.Changes.{table_name}
use Rattle.hs_texttest.specs.Columns.{is_named, is_spelled}
use Rattle.hs_texttest.specs.Commits.{is_change_in, is_change_of, is_row_change, is_row_number, is_row_of}
use Rattle.hs_texttest.proofs.Columns.{name_told, spelled_told}
use Rattle.hs_texttest.proofs.Deciding.{at_most, below, both_true, decided, each, itself, never, nowhere}

-- ---- rows and their numbers

row_told : (columns : List Column) (row : List Value) → Decides (is_row_of columns row) (IsRowOf columns row)
row_told columns row =
    let fits = row_fits (types_of columns) row in
    let size = length (row_bytes (types_of columns) row) in
    let rest = Decides-and (list_all is_spelled row) (nat_le size 4_000) (each is_spelled IsSpelled spelled_told row) (at_most size 4_000) in
    decided (IsRowOf columns row) (is_row_of columns row) (Decides-and fits (list_all is_spelled row && nat_le size 4_000) (itself fits) rest)
    (λ h. record { fits = h.0; spelled = h.1.0; short = h.1.1 })
    (λ h. (h.fits, (h.spelled, h.short)))

number_told : (number : RowNo) → Decides (is_row_number number) (IsRowNo number)
number_told number =
    decided (IsRowNo number) (is_row_number number) (Decides-and (nat_le 1 number.0) (nat_lt number.0 (2 ^ 64)) (at_most 1 number.0) (below number.0 (2 ^ 64)))
    (λ h. record { first = h.0; lawful = h.1 })
    (λ h. (h.first, h.lawful))

same_number : (a b : TableNo) → a.0 ≡ b.0 → a ≡ b
same_number a b e = λ i. record { 0 = e i }

table_told : (a b : TableNo) → Decides (a.0 == b.0) (a ≡ b)
table_told a b = decided (a ≡ b) (a.0 == b.0) (Decides-eqb a.0 b.0) (same_number a b) (λ e. ap (λ (n : TableNo). n.0) e)

-- ---- changes of rows

change_told : (table : Table) (x : Change) → Decides (is_change_of table x) (IsChangeOf table x)
change_told table (c.Insert number row) = Decides-and (number.0 == table.number.0) (is_row_of table.columns row) (table_told number table.number) (row_told table.columns row)
change_told table (c.Put number at row) =
    let rest = Decides-and (is_row_number at) (is_row_of table.columns row) (number_told at) (row_told table.columns row) in
    decided (IsChangeOf table (c.Put number at row)) (is_change_of table (c.Put number at row)) (Decides-and (number.0 == table.number.0) (is_row_number at && is_row_of table.columns row) (table_told number table.number) rest)
    (λ h. (h.0, h.1.0, h.1.1))
    (λ h. (h.0, (h.1, h.2)))
change_told table (c.Delete number at) = Decides-and (number.0 == table.number.0) (is_row_number at) (table_told number table.number) (number_told at)
change_told table (c.Define definition) = nowhere

-- ---- their lines

line_of : (things : Things) (name : List ℕ) (x : Change) (found : Option Table) → is_named name ≡ true → table_named things name ≡ found → is_change_in found x ≡ true → IsRowLine things (row_line (name_text name) x) x
line_of things name x None named is h = never h
line_of things name x (Some table) named is h =
    let lawful = (name_told name).0 named in
    record { name = name; table = table; names = record { lawful = lawful.lawful; utf8 = lawful.utf8; named = is }; of = (change_told table x).0 h; written = refl }

-- what is told to have a text has this line
pub row_there : (things : Things) (number : TableNo) (x : Change) → is_row_change things number x ≡ true → IsRowLine things (row_line (name_text (table_name things number)) x) x
row_there things number x h =
    let name = table_name things number in
    let parts = and_parts (is_named name) (is_change_in (table_named things name) x) h in
    line_of things name x (table_named things name) parts.0 refl parts.1

-- what has a line with the name of its table is told to have a text
pub row_only : (things : Things) (number : TableNo) (line : List ℕ) (x : Change) (h : IsRowLine things line x) → h.name ≡ table_name things number → is_row_change things number x ≡ true
row_only things number line x h is =
    let named : is_named h.name ≡ true = (name_told h.name).1 (record { lawful = h.names.lawful; utf8 = h.names.utf8 }) in
    let change : is_change_in (table_named things h.name) x ≡ true = ap (λ (found : Option Table). is_change_in found x) h.names.named ∙ (change_told h.table x).1 h.of in
    subst (λ (name : List ℕ). (is_named name && is_change_in (table_named things name) x) ≡ true) is (both_true (is_named h.name) (is_change_in (table_named things h.name) x) named change)
