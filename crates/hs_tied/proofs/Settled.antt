-- Settings that are set at one place, and claims that grow.
use Rattle.std.proofs.Common.{◌≡◌, ◌≢◌, ℕ, ◌-◌, ◌==◌, ◌&&◌, Bool, true, false, List, [], ◌∷◌, ◌++◌, length, refl, sym, ap, ◌∙◌, arith}
use Rattle.std.proofs.lemmas.Bool.{eqb-false}
use Rattle.std.specs.Prelude.{slice_set}
use Rattle.std.specs.List.{flat_map}
use Rattle.std.proofs.lemmas.List.{get_or-set_same, get_or-set_other, length-set}
use Rattle.std.proofs.lemmas.List.Folds.{list_all-append}
use Rattle.hs_claims.specs.declared.claim.Claim.{Claim}
use Rattle.hs_claims.specs.declared.footprint.Footprint.{Footprint}
use Rattle.hs_claims.specs.declared.model.ControlKind.{ControlKind}
use Rattle.hs_claims.specs.declared.model.ControlKind.TheVariants.{Locks, MvLocks, Mvcc}
use Rattle.hs_claims.specs.declared.model.Level.{Level}
use Rattle.hs_claims.specs.declared.model.Level.TheVariants.{Rc, Ser, Snap}
use Rattle.hs_claims.specs.Compatible.{fits, fits_one}
use Rattle.hs_claims.specs.Wants.{catalog_claim, keeps_of, table_keeps, unless_read_only}
use Rattle.hs_turns.specs.Histories.{held}
use Rattle.hs_turns.specs.Dialect.{untouched}
use Rattle.hs_turns.specs.Machine.{Settings}
use Rattle.hs_holding.specs.Held.{IsNumber}
use Rattle.hs_tied.specs.Kept.{set_in}

-- the settings of one session are these, and the others are as they were
pub record SetAt (s : ℕ) (its : Settings) (old new : List Settings) : Type 0 where
  pub len : length new ≡ length old
  pub here : set_in new s ≡ its
  pub others : (b : ℕ) → IsNumber (length old) b → (b == s) ≡ false → set_in new b ≡ set_in old b

pub same_at : (s : ℕ) (settings : List Settings) → SetAt s (set_in settings s) settings settings
same_at s settings = record { len = refl; here = refl; others = λ b n ne. refl }

apart : (a s n : ℕ) → IsNumber n a → IsNumber n s → (a == s) ≡ false → a - 1 ≢ s - 1
apart a s n h k ne e = eqb-false a s ne (omega (arith, h.0, k.0, e))

pub set_at : (s : ℕ) (its : Settings) (settings : List Settings) → IsNumber (length settings) s → SetAt s its settings (slice_set settings (s - 1) its)
set_at s its settings n = record {
  len = length-set settings (s - 1) its;
  here = get_or-set_same settings (s - 1) its _ (omega (arith, n.0, n.1));
  others = λ b m ne. get_or-set_other settings (s - 1) (b - 1) its _ (apart b s (length settings) m n ne);
}

-- ---- claims

regroup : (c r k : Bool) → ((c && r) && k) ≡ (c && (k && r))
regroup true true true = refl
regroup true true false = refl
regroup true false true = refl
regroup true false false = refl
regroup false r k = refl

-- a transaction's claims and those of one statement more
pub claims_more : (kind : ControlKind) (level : Level) (read_only : Bool) (f : Footprint) (feet : List Footprint) (claims wanted : List Claim) → fits wanted claims ≡ fits wanted (held kind level read_only feet)
    → fits wanted (claims ++ keeps_of kind level read_only f) ≡ fits wanted (held kind level read_only (f ∷ feet))
claims_more kind level read_only f feet claims wanted is =
    let keeps = keeps_of kind level read_only f in
    let rest = flat_map (keeps_of kind level read_only) feet in
    list_all-append (fits_one wanted) claims keeps
    ∙ ap (λ (b : Bool). b && fits wanted keeps) is
    ∙ regroup (fits_one wanted (catalog_claim false)) (fits wanted rest) (fits wanted keeps)
    ∙ ap (λ (b : Bool). fits_one wanted (catalog_claim false) && b) (sym (list_all-append (fits_one wanted) keeps rest))

-- ---- a statement that touches nothing

tables_none : (level : Level) → table_keeps level untouched ≡ []
tables_none Rc = refl
tables_none Ser = refl
tables_none Snap = refl

unless_none : (read_only : Bool) → unless_read_only read_only [] ≡ []
unless_none true = refl
unless_none false = refl

keeps_none : (kind : ControlKind) (level : Level) (read_only : Bool) → keeps_of kind level read_only untouched ≡ catalog_claim false ∷ []
keeps_none Locks level read_only = ap (λ (cs : List Claim). catalog_claim false ∷ cs) (tables_none level)
keeps_none MvLocks level read_only = ap (λ (cs : List Claim). catalog_claim false ∷ cs) (ap (unless_read_only read_only) (tables_none level) ∙ unless_none read_only)
keeps_none Mvcc level read_only = ap (λ (cs : List Claim). catalog_claim false ∷ cs) (unless_none read_only)

again : (c r : Bool) → (c && (c && r)) ≡ (c && r)
again true r = refl
again false r = refl

pub claims_same : (kind : ControlKind) (level : Level) (read_only : Bool) (feet : List Footprint) (wanted : List Claim) → fits wanted (held kind level read_only (untouched ∷ feet)) ≡ fits wanted (held kind level read_only feet)
claims_same kind level read_only feet wanted =
    let rest = flat_map (keeps_of kind level read_only) feet in
    ap (λ (keeps : List Claim). fits_one wanted (catalog_claim false) && fits wanted (keeps ++ rest)) (keeps_none kind level read_only) ∙ again (fits_one wanted (catalog_claim false)) (fits wanted rest)
