-- The tests of names, values and columns tell what can be written.
use Rattle.std.proofs.Common.{◌≡◌, ◌≢◌, ℕ, ◌^◌, true, false, ◌&&◌, ◌==◌, nat_lt, List, [], ◌∷◌, length, Option, None, Some, refl, ap}
use Rattle.std.specs.Bool.{Decides}
use Rattle.std.specs.List.{list_all}
use Rattle.std.specs.Str.{is_utf8}
use Rattle.std.proofs.lemmas.Bool.Decides.{Decides-and, Decides-eqb}
use Rattle.hs_plan.specs.declared.definition.Column.{Column}
use Rattle.hs_plan.specs.declared.definition.ForeignKey.{ForeignKey}
use Rattle.hs_values.specs.declared.sql_type.SqlType.{SqlType}
use Rattle.hs_values.specs.declared.value.Value.{Value}
use Rattle.hs_values.specs.declared.value.Value.TheVariants as v
use Rattle.hs_values.specs.SqlType.{fits_of}
use Rattle.hs_valuetext.specs.Types.{is_type}
use Rattle.hs_valuetext.specs.Values.{IsSpelled}
use Rattle.hs_nametext.specs.Names.{is_name}
use Rattle.hs_parttext.specs.Named.{IsName}
use Rattle.hs_columntext.specs.Columns.{IsColumn, IsDefault}
use Rattle.hs_keytext.specs.ForeignKeys.{parent_columns, IsForeignKey}
use Rattle.hs_keytext.specs.Owners.{Owner}
use Rattle.hs_keytext.specs.Places.{are_distinct, name_at, place_of, AreColumns, IsPlace}
use Rattle.hs_texttest.specs.Columns.{are_columns, are_some, is_column, is_default, is_foreign_key, is_found, is_named, is_place, is_spelled}
use Rattle.hs_texttest.proofs.Deciding.{always, below, decided, each, itself, never, utf8_told}

pub name_told : (name : List ℕ) → Decides (is_named name) (IsName name)
name_told name = decided (IsName name) (is_named name) (Decides-and (is_name name) (is_utf8 name) (itself (is_name name)) (utf8_told name)) (λ h. record { lawful = h.0; utf8 = h.1 }) (λ h. (h.lawful, h.utf8))

-- ---- columns

pub spelled_told : (value : Value) → Decides (is_spelled value) (IsSpelled value)
spelled_told v.Null = always
spelled_told (v.Int n) = always
spelled_told (v.Dec d) = always
spelled_told (v.Text text) = utf8_told text
spelled_told (v.Bool b) = always
spelled_told (v.Day day) = always
spelled_told (v.Micros micros) = always

default_told : (sql_type : SqlType) (value : Option Value) → Decides (is_default sql_type value) (IsDefault sql_type value)
default_told sql_type None = always
default_told sql_type (Some value) = Decides-and (fits_of sql_type value) (is_spelled value) (itself (fits_of sql_type value)) (spelled_told value)

pub column_told : (c : Column) → Decides (is_column c) (IsColumn c)
column_told c =
    let typed = Decides-and (is_type c.data_type) (is_default c.data_type c.default) (itself (is_type c.data_type)) (default_told c.data_type c.default) in
    decided (IsColumn c) (is_column c) (Decides-and (is_named c.name) (is_type c.data_type && is_default c.data_type c.default) (name_told c.name) typed)
    (λ h. record { named = h.0.lawful; utf8 = h.0.utf8; typed = h.1 })
    (λ h. (record { lawful = h.named; utf8 = h.utf8 }, h.typed))

-- ---- keys

same_some : (n m : ℕ) → Some n ≡ Some m → n ≡ m
same_some n m e = cc

none_some : (n : ℕ) → None ≡ Some n → false ≡ true
none_some n e = absurd (cc)

found_told : (place : ℕ) (o : Option ℕ) → Decides (is_found place o) (o ≡ Some place)
found_told place None = (λ e. never e, λ e. none_some place e)
found_told place (Some n) = (λ e. ap Some ((Decides-eqb n place).0 e), λ e. (Decides-eqb n place).1 (same_some n place e))

pub place_told : (columns : List Column) (place : ℕ) → Decides (is_place columns place) (IsPlace columns place)
place_told columns place =
    let name = name_at columns place in
    let rest = Decides-and (is_found place (place_of columns name)) (nat_lt place (2 ^ 32)) (found_told place (place_of columns name)) (below place (2 ^ 32)) in
    decided (IsPlace columns place) (is_place columns place) (Decides-and (is_named name) (is_found place (place_of columns name) && nat_lt place (2 ^ 32)) (name_told name) rest)
    (λ h. record { named = h.0.lawful; utf8 = h.0.utf8; first = h.1.0; small = h.1.1 })
    (λ h. (record { lawful = h.named; utf8 = h.utf8 }, (h.first, h.small)))

not_empty : (place : ℕ) (places : List ℕ) → place ∷ places ≢ []
not_empty place places e = absurd (cc)

some_told : (places : List ℕ) → Decides (are_some places) (places ≢ [])
some_told [] = (λ e. never e, λ h. absurd (h refl))
some_told (place ∷ places) = (λ e. not_empty place places, λ h. refl)

pub columns_told : (columns : List Column) (places : List ℕ) → Decides (are_columns columns places) (AreColumns columns places)
columns_told columns places =
    let rest = Decides-and (are_some places) (are_distinct places) (some_told places) (itself (are_distinct places)) in
    decided (AreColumns columns places) (are_columns columns places) (Decides-and (list_all (is_place columns) places) (are_some places && are_distinct places) (each (is_place columns) (IsPlace columns) (place_told columns) places) rest)
    (λ h. record { each = h.0; some = h.1.0; distinct = h.1.1 })
    (λ h. (h.each, (h.some, h.distinct)))

pub foreign_key_told : (owner : Owner) (key : ForeignKey) → Decides (is_foreign_key owner key) (IsForeignKey owner key)
foreign_key_told owner key =
    let paired = length key.columns == length key.parent_columns in
    let theirs = are_columns (parent_columns owner key.parent) key.parent_columns in
    let last = Decides-and theirs paired (columns_told (parent_columns owner key.parent) key.parent_columns) (Decides-eqb (length key.columns) (length key.parent_columns)) in
    let rest = Decides-and (is_named key.parent) (theirs && paired) (name_told key.parent) last in
    decided (IsForeignKey owner key) (is_foreign_key owner key) (Decides-and (are_columns owner.columns key.columns) (is_named key.parent && (theirs && paired)) (columns_told owner.columns key.columns) rest)
    (λ h. record { own = h.0; named = h.1.0.lawful; utf8 = h.1.0.utf8; theirs = h.1.1.0; paired = h.1.1.1 })
    (λ h. (h.own, (record { lawful = h.named; utf8 = h.utf8 }, (h.theirs, h.paired))))
