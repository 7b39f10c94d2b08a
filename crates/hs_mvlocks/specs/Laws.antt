-- Locks on tables that writers alone take meet the laws of a model.
use Rattle.std.specs.Prelude.{◌≡◌, ◌⊎◌, ℕ, Bool, true, false, List, [], ◌∷◌, refl}
use Rattle.std.proofs.Common.{inl, inr, ap}
use Rattle.hs_base.specs.declared.numbers.RowName.{RowName}
use Rattle.hs_values.specs.declared.value.Value.{Value}
use Rattle.hs_claims.specs.declared.claim.Claim.{Claim}
use Rattle.hs_claims.specs.declared.footprint.Footprint.{Footprint}
use Rattle.hs_claims.specs.declared.key_names.KeyName.{KeyName}
use Rattle.hs_claims.specs.declared.model.ControlKind.TheVariants.{MvLocks}
use Rattle.hs_claims.specs.declared.model.Level.{Level}
use Rattle.hs_claims.specs.declared.model.Level.TheVariants.{Ser}
use Rattle.hs_claims.specs.Compatible.{fits}
use Rattle.hs_claims.specs.Fitting.{fits_tails}
use Rattle.hs_claims.specs.Footprint.{Reference, has_table, has_row, has_key, IsLawful, IsClear, IsApart}
use Rattle.hs_claims.specs.Wants.{catalog_claim, table_wants, table_keeps, wants_of, keeps_of, reads_start_of, offers, IsIn}
use Rattle.hs_locks.specs.Laws.{tables_kept, tables_clear, tables_apart}

-- ---- what is kept is wanted

pub mvlocks_kept : (level : Level) (read_only : Bool) (f : Footprint) (c : Claim) → IsIn c (keeps_of MvLocks level read_only f) → IsIn c (wants_of MvLocks level read_only f)
mvlocks_kept level read_only f c (inl first) = inl first
mvlocks_kept level true f c (inr later) = inr later
mvlocks_kept level false f c (inr later) = inr (tables_kept level f c later)

-- ---- a footprint of a read-only transaction

no_row : (rows : List RowName) (t r : ℕ) → rows ≡ [] → has_row t r rows ≡ true → ⊥
no_row rows t r none at = let e : has_row t r rows ≡ false = ap (has_row t r) none in cc

no_key : (keys : List KeyName) (t k : ℕ) (v : List Value) → keys ≡ [] → has_key t k v keys ≡ true → ⊥
no_key keys t k v none at = let e : has_key t k v keys ≡ false = ap (has_key t k v) none in cc

-- it is clear of each other one
reader_first : (references : List Reference) (f g : Footprint) → IsLawful references true f → IsClear f g
reader_first references f g l = let none = l.reader refl in record {
  rows = λ t r a b. no_row f.rows t r none.1 a;
  keys = λ t k v a b. no_key f.keys t k v none.2 a;
  parents = λ t k v a b. no_key f.parents t k v none.3 a;
  children = λ t k v a b. no_key f.keys t k v none.2 a;
}

reader_second : (references : List Reference) (f g : Footprint) → IsLawful references true g → IsClear f g
reader_second references f g l = let none = l.reader refl in record {
  rows = λ t r a b. no_row g.rows t r none.1 b;
  keys = λ t k v a b. no_key g.keys t k v none.2 b;
  parents = λ t k v a b. no_key g.keys t k v none.2 b;
  children = λ t k v a b. no_key g.parents t k v none.3 b;
}

-- it writes no table
reader_apart : (references : List Reference) (f g : Footprint) → IsLawful references true g → IsApart f g
reader_apart references f g l = λ t w. absurd (let e : has_table t g.writes ≡ false = ap (has_table t) (l.reader refl).0 in cc)

-- ---- cover

-- the claims on tables among those with one on the catalogue
without_catalog : (xs ys : List Claim) → fits (catalog_claim false ∷ xs) (catalog_claim false ∷ ys) ≡ true → fits xs ys ≡ true
without_catalog xs ys h = fits_tails (catalog_claim false) (catalog_claim false) xs ys h

pub mvlocks_cover : (references : List Reference) (level other : Level) (a b : Bool) (f g : Footprint) → IsLawful references a f → IsLawful references b g
    → fits (wants_of MvLocks other b g) (keeps_of MvLocks level a f) ≡ true → IsClear f g
mvlocks_cover references level other a true f g lf lg h = reader_second references f g lg
mvlocks_cover references level other true false f g lf lg h = reader_first references f g lf
mvlocks_cover references level other false false f g lf lg h = tables_clear references level false false f g lf lg (without_catalog (table_wants g) (table_keeps level f) h)

-- ---- hold

pub mvlocks_hold : (references : List Reference) (level other : Level) (a b : Bool) (f g : Footprint) → IsLawful references a f → IsLawful references b g → offers MvLocks level ≡ true → level ≡ Ser → reads_start_of MvLocks level a ≡ false
    → (fits (wants_of MvLocks other b g) (keeps_of MvLocks level a f) ≡ true) ⊎ (fits (wants_of MvLocks level a f) (keeps_of MvLocks other b g) ≡ true) → IsApart f g
mvlocks_hold references level other true b f g lf lg offered at present h = absurd cc
mvlocks_hold references level other false true f g lf lg offered at present h = reader_apart references f g lg
mvlocks_hold references level other false false f g lf lg offered at present (inl h) = tables_apart level other f g at (inl (without_catalog (table_wants g) (table_keeps level f) h))
mvlocks_hold references level other false false f g lf lg offered at present (inr h) = tables_apart level other f g at (inr (without_catalog (table_wants f) (table_keeps other g) h))
