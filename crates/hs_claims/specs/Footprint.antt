-- Footprints that go together.
use Rattle.std.specs.Prelude.{◌≡◌, ℕ, ◌==◌, ◌&&◌, ◌||◌, Bool, true, false, List, []}
use Rattle.std.specs.List.{list_any}
use Rattle.hs_base.specs.declared.numbers.RowName.{RowName}
use Rattle.hs_base.specs.declared.numbers.TableNo.{TableNo}
use Rattle.hs_values.specs.declared.value.Value.{Value}
use Rattle.hs_claims.specs.declared.footprint.Footprint.{Footprint}
use Rattle.hs_claims.specs.declared.key_names.KeyName.{KeyName}
use Rattle.hs_claims.specs.Compatible.{same_key}

-- a foreign key: the table that has it, and the one that it references
pub record Reference : Type 0 where
  pub child : ℕ
  pub parent : ℕ

abbrev pub is_reference : ℕ → ℕ → List Reference → Bool
is_reference child parent references = list_any (λ r. (r.child == child) && (r.parent == parent)) references

abbrev pub has_table : ℕ → List TableNo → Bool
has_table table tables = list_any (λ t. t.0 == table) tables

abbrev pub has_row : ℕ → ℕ → List RowName → Bool
has_row table row rows = list_any (λ r. (r.table.0 == table) && (r.row.0 == row)) rows

abbrev pub has_key : ℕ → ℕ → List Value → List KeyName → Bool
has_key table constraint values keys = list_any (λ k. (k.table.0 == table) && (k.constraint.0 == constraint) && same_key k.values values) keys

-- it reads or writes a table
abbrev pub touches : Footprint → ℕ → Bool
touches f table = has_table table f.reads || has_table table f.writes

-- rows and keys are of tables that are written, and where a key leads to another table this one is touched too; in a
-- read-only transaction nothing is written
pub record IsLawful (references : List Reference) (read_only : Bool) (f : Footprint) : Type 0 where
  pub rows : (table row : ℕ) → has_row table row f.rows ≡ true → has_table table f.writes ≡ true
  pub keys : (table constraint : ℕ) (values : List Value) → has_key table constraint values f.keys ≡ true → has_table table f.writes ≡ true
  pub parents : (table constraint : ℕ) (values : List Value) → has_key table constraint values f.parents ≡ true → (touches f table ≡ true) × ((child : ℕ) × ((is_reference child table references ≡ true) × (has_table child f.writes ≡ true)))
  pub children : (table constraint : ℕ) (values : List Value) (child : ℕ) → has_key table constraint values f.keys ≡ true → is_reference child table references ≡ true → touches f child ≡ true
  pub reader : read_only ≡ true → (f.writes ≡ []) × (f.rows ≡ []) × (f.keys ≡ []) × (f.parents ≡ [])

abbrev pub NoCommonKey : List KeyName → List KeyName → Type 0
NoCommonKey keys others = (table constraint : ℕ) (values : List Value) → has_key table constraint values keys ≡ true → has_key table constraint values others ≡ true → ⊥

-- they change no common row and no common key, and neither changes a parent key that the other names
pub record IsClear (f g : Footprint) : Type 0 where
  pub rows : (table row : ℕ) → has_row table row f.rows ≡ true → has_row table row g.rows ≡ true → ⊥
  pub keys : NoCommonKey f.keys g.keys
  pub parents : NoCommonKey f.parents g.keys
  pub children : NoCommonKey f.keys g.parents

-- the second writes no table that the first reads or writes
abbrev pub IsApart : Footprint → Footprint → Type 0
IsApart f g = (table : ℕ) → has_table table g.writes ≡ true → touches f table ≡ false
