-- What statements want and keep under each model.
use Rattle.std.specs.Prelude.{◌≡◌, ◌⊎◌, Bool, true, false, List, [], ◌∷◌, ◌++◌, map, if◌then◌else◌}
use Rattle.hs_base.specs.declared.numbers.TableNo.{TableNo}
use Rattle.hs_base.specs.declared.numbers.RowName.{RowName}
use Rattle.hs_claims.specs.declared.claim.Claim.{Claim}
use Rattle.hs_claims.specs.declared.footprint.Footprint.{Footprint}
use Rattle.hs_claims.specs.declared.key_names.KeyName.{KeyName}
use Rattle.hs_claims.specs.declared.model.ControlKind.{ControlKind}
use Rattle.hs_claims.specs.declared.model.ControlKind.TheVariants.{Locks, MvLocks, Mvcc}
use Rattle.hs_claims.specs.declared.model.Level.{Level}
use Rattle.hs_claims.specs.declared.model.Level.TheVariants.{Rc, Ser, Snap}
use Rattle.hs_claims.specs.declared.resource.Resource.TheVariants as resource

abbrev pub catalog_claim : Bool → Claim
catalog_claim exclusive = record { resource = resource.Catalog; exclusive = exclusive }

abbrev pub table_claim : Bool → TableNo → Claim
table_claim exclusive table = record { resource = resource.Table table; exclusive = exclusive }

-- a row is claimed to change it
abbrev pub row_claim : RowName → Claim
row_claim row = record { resource = resource.Row row.table row.row; exclusive = true }

abbrev pub key_claim : Bool → KeyName → Claim
key_claim exclusive key = record { resource = resource.Key key.table key.constraint key.values; exclusive = exclusive }

-- each table written is exclusive, and each table read is shared
abbrev pub table_wants : Footprint → List Claim
table_wants f = map (table_claim true) f.writes ++ map (table_claim false) f.reads

-- at READ COMMITTED shared tables aren't kept
abbrev pub table_keeps : Level → Footprint → List Claim
table_keeps Rc f = map (table_claim true) f.writes
table_keeps Ser f = table_wants f
table_keeps Snap f = table_wants f

-- each row changed and each key put or removed is exclusive, and each parent key that a put row names is shared
abbrev pub row_wants : Footprint → List Claim
row_wants f = map row_claim f.rows ++ (map (key_claim true) f.keys ++ map (key_claim false) f.parents)

-- nothing, in a read-only transaction
abbrev pub unless_read_only : Bool → List Claim → List Claim
unless_read_only read_only claims = if read_only then [] else claims

-- what a data statement wants, by the model, the level and the access of its transaction
abbrev pub wants_of : ControlKind → Level → Bool → Footprint → List Claim
wants_of Locks level read_only f = catalog_claim false ∷ table_wants f
wants_of MvLocks level read_only f = catalog_claim false ∷ unless_read_only read_only (table_wants f)
wants_of Mvcc level read_only f = catalog_claim false ∷ unless_read_only read_only (row_wants f)

-- what it keeps until its transaction ends
abbrev pub keeps_of : ControlKind → Level → Bool → Footprint → List Claim
keeps_of Locks level read_only f = catalog_claim false ∷ table_keeps level f
keeps_of MvLocks level read_only f = catalog_claim false ∷ unless_read_only read_only (table_keeps level f)
keeps_of Mvcc level read_only f = catalog_claim false ∷ unless_read_only read_only (row_wants f)

-- it reads the state at its transaction's start, and else the present one
abbrev pub reads_start_of : ControlKind → Level → Bool → Bool
reads_start_of Locks level read_only = false
reads_start_of MvLocks level read_only = read_only
reads_start_of Mvcc Rc read_only = false
reads_start_of Mvcc Ser read_only = false
reads_start_of Mvcc Snap read_only = true

-- a transaction of this model can have this level
abbrev pub offers : ControlKind → Level → Bool
offers Locks Rc = true
offers Locks Ser = true
offers Locks Snap = false
offers MvLocks Rc = true
offers MvLocks Ser = true
offers MvLocks Snap = false
offers Mvcc Rc = true
offers Mvcc Ser = false
offers Mvcc Snap = true

-- a claim is one of these
abbrev pub IsIn : {X : Type 0} → X → List X → Type 0
IsIn x [] = ⊥
IsIn x (y ∷ ys) = (x ≡ y) ⊎ IsIn x ys
