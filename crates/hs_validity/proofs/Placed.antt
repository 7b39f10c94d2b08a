-- Where constraints stand in a catalogue, and what is told of rows that two lists of changes set.
use Rattle.std.proofs.Common.{◌≡◌, ℕ, Bool, true, List, [], Option, Some, None, slice_get}
use Rattle.std.specs.FinMap.{get}
use Rattle.std.specs.List.{Contains, list_all}
use Rattle.hs_base.specs.declared.numbers.TableNo.{TableNo}
use Rattle.hs_claims.specs.declared.key_names.KeyName.{KeyName}
use Rattle.hs_plan.specs.declared.definition.Constraint.{Constraint}
use Rattle.hs_plan.specs.declared.definition.ForeignKey.{ForeignKey}
use Rattle.hs_plan.specs.declared.definition.Rule.TheVariants as rule
use Rattle.hs_values.specs.declared.value.Value.{Value}
use Rattle.hs_index.specs.Keys.{same_key}
use Rattle.hs_changes.specs.Settings.{Maps}
use Rattle.hs_schema.specs.Catalogue.{Things, number_of, table_numbered}
use Rattle.hs_schema.specs.declared.table.Table.{Table}
use Rattle.hs_sentences.specs.Violations.{constraints_of}
use Rattle.hs_footprint.specs.Touched.{has_all, key_columns, key_name, key_over, keys_at, parents_at}

abbrev pub number_at : ℕ → TableNo
number_at table = record { 0 = table }

-- ---- where a constraint stands

-- among those of its table
pub record Placed (things : Things) (c : ℕ × Constraint) : Type 0 where
  pub table : Table
  pub found : table_numbered things (number_at c.0) ≡ Some table
  pub place : ℕ
  pub at : slice_get table.constraints place ≡ Some c.1

-- the table that a foreign key references, and its key over the columns that are referenced
pub record Referenced (things : Things) (key : ForeignKey) : Type 0 where
  pub number : TableNo
  pub named : number_of things key.parent ≡ Some number
  pub table : Table
  pub found : table_numbered things number ≡ Some table
  pub itself : table.number ≡ number
  pub place : ℕ
  pub over : key_over table key.parent_columns ≡ Some place
  pub own : Constraint
  pub at : slice_get table.constraints place ≡ Some own
  pub columns : List ℕ
  pub of_rule : key_columns own.rule ≡ Some columns
  pub has_referenced : has_all columns key.parent_columns ≡ true
  pub are_referenced : has_all key.parent_columns columns ≡ true

abbrev pub AllPlaced : Things → Type 0
AllPlaced things = (c : ℕ × Constraint) → Contains (constraints_of things) c → Placed things c

abbrev pub AllReferenced : Things → Type 0
AllReferenced things = (c : ℕ × Constraint) (key : ForeignKey) → Contains (constraints_of things) c → c.1.rule ≡ rule.ForeignKey key → Referenced things key

-- ---- what is told of rows that are set

abbrev pub IsAlike : (KeyName → Bool) → Type 0
IsAlike test = (table : TableNo) (place : ℕ) (a b : List Value) → same_key a b ≡ true → test (key_name table place a) ≡ true → test (key_name table place b) ≡ true

-- which keys are put or removed, and which keys of parents are named
pub record Teller : Type 0 where
  pub key : KeyName → Bool
  pub parent : KeyName → Bool
  pub keys_alike : IsAlike key
  pub parents_alike : IsAlike parent

-- the parent keys that a row names, none where it is deleted
abbrev pub named_of : Things → ℕ → Option (List Value) → List KeyName
named_of things table None = []
named_of things table (Some row) = parents_at things (number_at table) row

-- of a row that was the first and is the second
pub record Told (things : Things) (teller : Teller) (table : ℕ) (old new : Option (List Value)) : Type 0 where
  pub keys : list_all teller.key (keys_at things (number_at table) old new) ≡ true
  pub parents : list_all teller.parent (named_of things table new) ≡ true

abbrev pub NoCommon : (KeyName → Bool) → (KeyName → Bool) → Type 0
NoCommon p q = (k : KeyName) → p k ≡ true → q k ≡ true → ⊥

-- ---- whose a row is

-- the first list of changes made it of the row that was there, and the second left it
pub record IsFirsts (things : Things) (own : Teller) (before first second both : Maps) (table row : ℕ) : Type 0 where
  pub is : get (both table) row ≡ get (first table) row
  pub stays : get (second table) row ≡ get (before table) row
  pub told : Told things own table (get (before table) row) (get (first table) row)

-- the second did, and the first left it
pub record IsSeconds (things : Things) (other : Teller) (before first second both : Maps) (table row : ℕ) : Type 0 where
  pub is : get (both table) row ≡ get (second table) row
  pub stays : get (first table) row ≡ get (before table) row
  pub told : Told things other table (get (before table) row) (get (second table) row)

-- neither did
pub record IsLeft (before first second both : Maps) (table row : ℕ) : Type 0 where
  pub is : get (both table) row ≡ get (before table) row
  pub in_first : get (first table) row ≡ get (before table) row
  pub in_second : get (second table) row ≡ get (before table) row
