-- Claims on rows and keys meet the laws of a model.
use Rattle.std.specs.Prelude.{◌≡◌, ◌⊎◌, ℕ, ◌==◌, ◌&&◌, ◌||◌, not, Bool, true, false, List, [], ◌∷◌, ◌++◌, map, refl}
use Rattle.std.proofs.Common.{inl, inr, sym, ap, ap₂, ◌∙◌, subst, eqb-true, eq-eqb}
use Rattle.std.specs.Cmp.{eq_by_cmp_equiv}
use Rattle.hs_base.specs.declared.numbers.RowName.{RowName}
use Rattle.hs_values.specs.declared.value.Value.{Value}
use Rattle.hs_values.specs.TotalOrder.{row_order_of_total}
use Rattle.hs_claims.specs.declared.claim.Claim.{Claim}
use Rattle.hs_claims.specs.declared.footprint.Footprint.{Footprint}
use Rattle.hs_claims.specs.declared.key_names.KeyName.{KeyName}
use Rattle.hs_claims.specs.declared.model.ControlKind.TheVariants.{Mvcc}
use Rattle.hs_claims.specs.declared.model.Level.{Level}
use Rattle.hs_claims.specs.declared.model.Level.TheVariants.{Rc, Ser, Snap}
use Rattle.hs_claims.specs.declared.resource.Resource.{Resource}
use Rattle.hs_claims.specs.declared.resource.Resource.TheVariants as resource
use Rattle.hs_claims.specs.Compatible.{same_key, same_resource, compatible, fits}
use Rattle.hs_claims.specs.Fitting.{in_front, in_back, and_both, from_both, both_fit, fits_tails}
use Rattle.hs_claims.specs.Footprint.{Reference, has_row, has_key, IsLawful, IsClear, IsApart}
use Rattle.hs_claims.specs.Wants.{catalog_claim, row_claim, key_claim, row_wants, unless_read_only, wants_of, keeps_of, reads_start_of, offers, IsIn}

-- ---- what is kept is wanted

pub mvcc_kept : (level : Level) (read_only : Bool) (f : Footprint) (c : Claim) → IsIn c (keeps_of Mvcc level read_only f) → IsIn c (wants_of Mvcc level read_only f)
mvcc_kept level read_only f c h = h

-- ---- the claim for each row and each key

abbrev the_row : ℕ → ℕ → RowName
the_row t r = record { table = record { 0 = t }; row = record { 0 = r } }

module _ (t r : ℕ) where
  row_by : (x : RowName) (xs : List RowName) (a b : Bool) → (x.table.0 == t) ≡ a → (x.row.0 == r) ≡ b → (has_row t r xs ≡ true → IsIn (row_claim (the_row t r)) (map row_claim xs)) → ((a && b) || has_row t r xs) ≡ true
      → IsIn (row_claim (the_row t r)) (map row_claim (x ∷ xs))
  row_by x xs true true table row rest h = inl (ap₂ (λ (m n : ℕ). row_claim (the_row m n)) (sym (eqb-true x.table.0 t table)) (sym (eqb-true x.row.0 r row)))
  row_by x xs true false table row rest h = inr (rest h)
  row_by x xs false b table row rest h = inr (rest h)

  row_claimed : (xs : List RowName) → has_row t r xs ≡ true → IsIn (row_claim (the_row t r)) (map row_claim xs)
  row_claimed [] h = absurd cc
  row_claimed (x ∷ xs) h = row_by x xs (x.table.0 == t) (x.row.0 == r) refl refl (row_claimed xs) h

-- a claim on a key is among these, where its values may be written in another way
abbrev IsKeyIn : Bool → ℕ → ℕ → List Value → List Claim → Type 0
IsKeyIn exclusive t k v claims = (values : List Value) × (same_key values v ≡ true) × IsIn (record { resource = resource.Key (record { 0 = t }) (record { 0 = k }) values; exclusive = exclusive }) claims

module _ (exclusive : Bool) (t k : ℕ) (v : List Value) where
  later_key : (c : Claim) (cs : List Claim) → IsKeyIn exclusive t k v cs → IsKeyIn exclusive t k v (c ∷ cs)
  later_key c cs h = (h.0, h.1, inr h.2)

  key_by : (x : KeyName) (xs : List KeyName) (a b c : Bool) → (x.table.0 == t) ≡ a → (x.constraint.0 == k) ≡ b → same_key x.values v ≡ c → (has_key t k v xs ≡ true → IsKeyIn exclusive t k v (map (key_claim exclusive) xs)) → ((a && b && c) || has_key t k v xs) ≡ true
      → IsKeyIn exclusive t k v (map (key_claim exclusive) (x ∷ xs))
  key_by x xs true true true table constraint values rest h =
      (x.values, values, inl (ap₂ (λ (m n : ℕ). record { resource = resource.Key (record { 0 = m }) (record { 0 = n }) x.values; exclusive = exclusive }) (sym (eqb-true x.table.0 t table)) (sym (eqb-true x.constraint.0 k constraint))))
  key_by x xs true true false table constraint values rest h = later_key (key_claim exclusive x) (map (key_claim exclusive) xs) (rest h)
  key_by x xs true false c table constraint values rest h = later_key (key_claim exclusive x) (map (key_claim exclusive) xs) (rest h)
  key_by x xs false b c table constraint values rest h = later_key (key_claim exclusive x) (map (key_claim exclusive) xs) (rest h)

  key_claimed : (xs : List KeyName) → has_key t k v xs ≡ true → IsKeyIn exclusive t k v (map (key_claim exclusive) xs)
  key_claimed [] h = absurd cc
  key_claimed (x ∷ xs) h = key_by x xs (x.table.0 == t) (x.constraint.0 == k) (same_key x.values v) refl refl refl (key_claimed xs) h

module _ (f : Footprint) where
  row_in : (t r : ℕ) → has_row t r f.rows ≡ true → IsIn (row_claim (the_row t r)) (row_wants f)
  row_in t r at = in_front _ (map row_claim f.rows) (map (key_claim true) f.keys ++ map (key_claim false) f.parents) (row_claimed t r f.rows at)

  key_in : (t k : ℕ) (v : List Value) → has_key t k v f.keys ≡ true → IsKeyIn true t k v (row_wants f)
  key_in t k v at = let one = key_claimed true t k v f.keys at in
      (one.0, one.1, in_back _ (map row_claim f.rows) (map (key_claim true) f.keys ++ map (key_claim false) f.parents) (in_front _ (map (key_claim true) f.keys) (map (key_claim false) f.parents) one.2))

  parent_in : (t k : ℕ) (v : List Value) → has_key t k v f.parents ≡ true → IsKeyIn false t k v (row_wants f)
  parent_in t k v at = let one = key_claimed false t k v f.parents at in
      (one.0, one.1, in_back _ (map row_claim f.rows) (map (key_claim true) f.keys ++ map (key_claim false) f.parents) (in_back _ (map (key_claim true) f.keys) (map (key_claim false) f.parents) one.2))

-- ---- claims on one row or key

-- two claims on one resource, of which one is exclusive, don't go together
clash : (a b : Claim) → same_resource a.resource b.resource ≡ true → (a.exclusive || b.exclusive) ≡ true → compatible a b ≡ true → ⊥
clash a b same some h = let e : compatible a b ≡ false = ap₂ (λ (x y : Bool). not x || not y) same some in cc

row_clash : (t r : ℕ) → compatible (row_claim (the_row t r)) (row_claim (the_row t r)) ≡ true → ⊥
row_clash t r h = clash (row_claim (the_row t r)) (row_claim (the_row t r)) (from_both (t == t) (r == r) (eq-eqb t t refl) (eq-eqb r r refl)) refl h

-- keys that equal one are equal
both_same : (a b v : List Value) → same_key a v ≡ true → same_key b v ≡ true → same_key a b ≡ true
both_same a b v x y = (eq_by_cmp_equiv row_order_of_total).congr a v b x ∙ ((eq_by_cmp_equiv row_order_of_total).symm v b ∙ y)

key_clash : (t k : ℕ) (v : List Value) (a b : Bool) (wanted held : List Claim) → (a || b) ≡ true → fits wanted held ≡ true → IsKeyIn a t k v wanted → IsKeyIn b t k v held → ⊥
key_clash t k v a b wanted held some h want hold =
    let w : Claim = record { resource = resource.Key (record { 0 = t }) (record { 0 = k }) want.0; exclusive = a } in
    let c : Claim = record { resource = resource.Key (record { 0 = t }) (record { 0 = k }) hold.0; exclusive = b } in
    clash w c (from_both ((t == t) && (k == k)) (same_key want.0 hold.0) (from_both (t == t) (k == k) (eq-eqb t t refl) (eq-eqb k k refl)) (both_same want.0 hold.0 v want.1 hold.1)) some (both_fit wanted held h w c want.2 hold.2)

rows_clear : (f g : Footprint) → fits (row_wants g) (row_wants f) ≡ true → IsClear f g
rows_clear f g h = record {
  rows = λ t r x y. row_clash t r (both_fit (row_wants g) (row_wants f) h (row_claim (the_row t r)) (row_claim (the_row t r)) (row_in g t r y) (row_in f t r x));
  keys = λ t k v x y. key_clash t k v true true (row_wants g) (row_wants f) refl h (key_in g t k v y) (key_in f t k v x);
  parents = λ t k v x y. key_clash t k v true false (row_wants g) (row_wants f) refl h (key_in g t k v y) (parent_in f t k v x);
  children = λ t k v x y. key_clash t k v false true (row_wants g) (row_wants f) refl h (parent_in g t k v y) (key_in f t k v x);
}

-- ---- cover

-- a read-only transaction touches no row and no key, so it would claim none anyway
without_reader : (references : List Reference) (read_only : Bool) (f : Footprint) → IsLawful references read_only f → unless_read_only read_only (row_wants f) ≡ row_wants f
without_reader references false f l = refl
without_reader references true f l = let none = l.reader refl in
    sym (ap₂ (λ (rows : List RowName) (keys : List Claim). map row_claim rows ++ keys) none.1 (ap₂ (λ (keys parents : List KeyName). map (key_claim true) keys ++ map (key_claim false) parents) none.2 none.3))

pub mvcc_cover : (references : List Reference) (level other : Level) (a b : Bool) (f g : Footprint) → IsLawful references a f → IsLawful references b g
    → fits (wants_of Mvcc other b g) (keeps_of Mvcc level a f) ≡ true → IsClear f g
mvcc_cover references level other a b f g lf lg h =
    rows_clear f g (ap₂ (λ (wanted held : List Claim). fits wanted held) (sym (without_reader references b g lg)) (sym (without_reader references a f lf))
    ∙ fits_tails (catalog_claim false) (catalog_claim false) (unless_read_only b (row_wants g)) (unless_read_only a (row_wants f)) h)

-- ---- hold: no transaction is at SERIALIZABLE

pub mvcc_hold : (references : List Reference) (level other : Level) (a b : Bool) (f g : Footprint) → IsLawful references a f → IsLawful references b g → offers Mvcc level ≡ true → level ≡ Ser → reads_start_of Mvcc level a ≡ false
    → (fits (wants_of Mvcc other b g) (keeps_of Mvcc level a f) ≡ true) ⊎ (fits (wants_of Mvcc level a f) (keeps_of Mvcc other b g) ≡ true) → IsApart f g
mvcc_hold references Ser other a b f g lf lg offered at present h = absurd cc
mvcc_hold references Rc other a b f g lf lg offered at present h = absurd cc
mvcc_hold references Snap other a b f g lf lg offered at present h = absurd cc
