-- Locks on tables meet the laws of a model.
use Rattle.std.specs.Prelude.{◌≡◌, ◌⊎◌, ℕ, ◌==◌, ◌||◌, not, Bool, true, false, List, [], ◌∷◌, map, refl}
use Rattle.std.proofs.Common.{inl, inr, sym, ap, ap₂, ◌∙◌, subst, eqb-true, eq-eqb}
use Rattle.hs_base.specs.declared.numbers.TableNo.{TableNo}
use Rattle.hs_claims.specs.declared.claim.Claim.{Claim}
use Rattle.hs_claims.specs.declared.footprint.Footprint.{Footprint}
use Rattle.hs_claims.specs.declared.model.ControlKind.TheVariants.{Locks}
use Rattle.hs_claims.specs.declared.model.Level.{Level}
use Rattle.hs_claims.specs.declared.model.Level.TheVariants.{Rc, Ser, Snap}
use Rattle.hs_claims.specs.Compatible.{compatible, fits}
use Rattle.hs_claims.specs.Fitting.{in_front, in_back, both_fit, fits_tails}
use Rattle.hs_claims.specs.Footprint.{Reference, has_table, touches, IsLawful, IsClear, IsApart}
use Rattle.hs_claims.specs.Wants.{catalog_claim, table_claim, table_wants, table_keeps, wants_of, keeps_of, reads_start_of, offers, IsIn}

-- ---- what is kept is wanted

pub tables_kept : (level : Level) (f : Footprint) (c : Claim) → IsIn c (table_keeps level f) → IsIn c (table_wants f)
tables_kept Rc f c h = in_front c (map (table_claim true) f.writes) (map (table_claim false) f.reads) h
tables_kept Ser f c h = h
tables_kept Snap f c h = h

pub locks_kept : (level : Level) (read_only : Bool) (f : Footprint) (c : Claim) → IsIn c (keeps_of Locks level read_only f) → IsIn c (wants_of Locks level read_only f)
locks_kept level read_only f c (inl first) = inl first
locks_kept level read_only f c (inr later) = inr (tables_kept level f c later)

-- ---- claims on one table

-- claims on one table of which one is exclusive don't go together
clash : (t : ℕ) (a b : Bool) → (a || b) ≡ true → compatible (table_claim a (record { 0 = t })) (table_claim b (record { 0 = t })) ≡ true → ⊥
clash t a b some h = let one : (t == t) ≡ true = eq-eqb t t refl in let e : (not (t == t) || not (a || b)) ≡ false = ap₂ (λ (x y : Bool). not x || not y) one some in cc

or_true : (a : Bool) → (a || true) ≡ true
or_true true = refl
or_true false = refl

-- each table of a list has its claim
module _ (t : ℕ) (exclusive : Bool) where
  there_by : (x : TableNo) (xs : List TableNo) (b : Bool) → (x.0 == t) ≡ b → (has_table t xs ≡ true → IsIn (table_claim exclusive (record { 0 = t })) (map (table_claim exclusive) xs)) → (b || has_table t xs) ≡ true
      → IsIn (table_claim exclusive (record { 0 = t })) (map (table_claim exclusive) (x ∷ xs))
  there_by x xs true is rest h = inl (ap (λ (n : ℕ). table_claim exclusive (record { 0 = n })) (sym (eqb-true x.0 t is)))
  there_by x xs false is rest h = inr (rest h)

  there : (xs : List TableNo) → has_table t xs ≡ true → IsIn (table_claim exclusive (record { 0 = t })) (map (table_claim exclusive) xs)
  there [] h = absurd cc
  there (x ∷ xs) h = there_by x xs (x.0 == t) refl (there xs) h

-- a table that is written is claimed, and kept, exclusive
written_kept : (level : Level) (f : Footprint) (t : ℕ) → has_table t f.writes ≡ true → IsIn (table_claim true (record { 0 = t })) (table_keeps level f)
written_kept Rc f t at = there t true f.writes at
written_kept Ser f t at = in_front _ (map (table_claim true) f.writes) (map (table_claim false) f.reads) (there t true f.writes at)
written_kept Snap f t at = in_front _ (map (table_claim true) f.writes) (map (table_claim false) f.reads) (there t true f.writes at)

-- a table that is touched is claimed in some way
touched_by : (f : Footprint) (t : ℕ) (b : Bool) → has_table t f.reads ≡ b → (b || has_table t f.writes) ≡ true → (x : Bool) × IsIn (table_claim x (record { 0 = t })) (table_wants f)
touched_by f t true is h = (false, in_back _ (map (table_claim true) f.writes) (map (table_claim false) f.reads) (there t false f.reads is))
touched_by f t false is h = (true, written_kept Ser f t h)

touched : (f : Footprint) (t : ℕ) → touches f t ≡ true → (x : Bool) × IsIn (table_claim x (record { 0 = t })) (table_wants f)
touched f t at = touched_by f t (has_table t f.reads) refl at

-- what one keeps written and what another one wants touch no common table
held : (level : Level) (f g : Footprint) (t : ℕ) → fits (table_wants g) (table_keeps level f) ≡ true → has_table t f.writes ≡ true → touches g t ≡ true → ⊥
held level f g t h w at =
    let one = touched g t at in
    clash t one.0 true (or_true one.0) (both_fit (table_wants g) (table_keeps level f) h (table_claim one.0 (record { 0 = t })) (table_claim true (record { 0 = t })) one.1 (written_kept level f t w))

wanted : (f g : Footprint) (t : ℕ) → fits (table_wants g) (table_wants f) ≡ true → touches f t ≡ true → has_table t g.writes ≡ true → ⊥
wanted f g t h at w =
    let one = touched f t at in
    clash t true one.0 refl (both_fit (table_wants g) (table_wants f) h (table_claim true (record { 0 = t })) (table_claim one.0 (record { 0 = t })) (written_kept Ser g t w) one.1)

touches_written : (f : Footprint) (t : ℕ) → has_table t f.writes ≡ true → touches f t ≡ true
touches_written f t at = ap (λ (b : Bool). has_table t f.reads || b) at ∙ or_true (has_table t f.reads)

-- ---- cover

pub tables_clear : (references : List Reference) (level : Level) (a b : Bool) (f g : Footprint) → IsLawful references a f → IsLawful references b g → fits (table_wants g) (table_keeps level f) ≡ true → IsClear f g
tables_clear references level a b f g lf lg h = record {
  rows = λ t r x y. held level f g t h (lf.rows t r x) (touches_written g t (lg.rows t r y));
  keys = λ t k v x y. held level f g t h (lf.keys t k v x) (touches_written g t (lg.keys t k v y));
  parents = λ t k v x y. let p = lf.parents t k v x in held level f g p.1.0 h p.1.1.1 (lg.children t k v p.1.0 y p.1.1.0);
  children = λ t k v x y. held level f g t h (lf.keys t k v x) (lg.parents t k v y).0;
}

-- the claims on tables among those with one on the catalogue
without_catalog : (xs ys : List Claim) → fits (catalog_claim false ∷ xs) (catalog_claim false ∷ ys) ≡ true → fits xs ys ≡ true
without_catalog xs ys h = fits_tails (catalog_claim false) (catalog_claim false) xs ys h

pub locks_cover : (references : List Reference) (level other : Level) (a b : Bool) (f g : Footprint) → IsLawful references a f → IsLawful references b g → fits (wants_of Locks other b g) (keeps_of Locks level a f) ≡ true → IsClear f g
locks_cover references level other a b f g lf lg h = tables_clear references level a b f g lf lg (without_catalog (table_wants g) (table_keeps level f) h)

-- ---- hold

apart_by : (f : Footprint) (t : ℕ) (b : Bool) → touches f t ≡ b → (touches f t ≡ true → ⊥) → touches f t ≡ false
apart_by f t true is never = absurd (never is)
apart_by f t false is never = is

serializable_keeps : (level : Level) → level ≡ Ser → (f : Footprint) → table_keeps level f ≡ table_wants f
serializable_keeps Ser at f = refl
serializable_keeps Rc at f = absurd cc
serializable_keeps Snap at f = refl

pub tables_apart : (level other : Level) (f g : Footprint) → level ≡ Ser → (fits (table_wants g) (table_keeps level f) ≡ true) ⊎ (fits (table_wants f) (table_keeps other g) ≡ true) → IsApart f g
tables_apart level other f g at (inl h) = λ t w. apart_by f t (touches f t) refl (λ all. wanted f g t (subst (λ (cs : List Claim). fits (table_wants g) cs ≡ true) (serializable_keeps level at f) h) all w)
tables_apart level other f g at (inr h) = λ t w. apart_by f t (touches f t) refl (λ all. held other g f t h w all)

pub locks_hold : (references : List Reference) (level other : Level) (a b : Bool) (f g : Footprint) → IsLawful references a f → IsLawful references b g → offers Locks level ≡ true → level ≡ Ser → reads_start_of Locks level a ≡ false
    → (fits (wants_of Locks other b g) (keeps_of Locks level a f) ≡ true) ⊎ (fits (wants_of Locks level a f) (keeps_of Locks other b g) ≡ true) → IsApart f g
locks_hold references level other a b f g lf lg offered at present (inl h) = tables_apart level other f g at (inl (without_catalog (table_wants g) (table_keeps level f) h))
locks_hold references level other a b f g lf lg offered at present (inr h) = tables_apart level other f g at (inr (without_catalog (table_wants f) (table_keeps other g) h))
