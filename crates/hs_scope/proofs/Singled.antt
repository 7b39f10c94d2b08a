-- What a found column is, and that it is the only one.
use Rattle.std.proofs.Common.{◌≡◌, ℕ, zero, suc, ◌+◌, Bool, true, false, List, [], ◌∷◌, Option, Some, refl, sym, ap, ◌∙◌, arith, subst}
use Rattle.std.specs.List.{slice_get}
use Rattle.hs_plan.specs.declared.kind.Kind.{Kind}
use Rattle.hs_scope.specs.declared.from_table.FromTable.{FromTable}
use Rattle.hs_scope.specs.declared.sought.Sought.{Sought}
use Rattle.hs_scope.specs.declared.sought.Sought.TheVariants as sought
use Rattle.hs_scope.specs.Names.{Text, Offer, offers, is_meant, sought_in}
use Rattle.hs_scope.specs.Sought.{both, if_passed, offers_from}
use Rattle.hs_scope.proofs.Seeking.{within}

-- nothing is found where no column is meant
pub none_meant : (at : ℕ) (table : Option Text) (name : Text) (os : List Offer) → offers_from at table name os ≡ sought.Missing
    → (j : ℕ) (o : Offer) → slice_get os j ≡ Some o → is_meant table name o ≡ false
none_meant at table name [] h j o is = cc
none_meant at table name (c ∷ cs) h j o is = by (is_meant table name c) refl h (none_meant (at + 1) table name cs) j is
  where
    split : (b : Bool) → both (if_passed b (sought.One at c.1.kind)) (offers_from (at + 1) table name cs) ≡ sought.Missing → (b ≡ false) × (offers_from (at + 1) table name cs ≡ sought.Missing)
    split true h = absurd (first (offers_from (at + 1) table name cs) h)
      where
        first : (rest : Sought) → both (sought.One at c.1.kind) rest ≡ sought.Missing → ⊥
        first sought.Missing h = cc
        first (sought.One i k) h = cc
        first sought.Several h = cc
    split false h = (refl, h)

    by : (b : Bool) → is_meant table name c ≡ b → both (if_passed b (sought.One at c.1.kind)) (offers_from (at + 1) table name cs) ≡ sought.Missing
        → (offers_from (at + 1) table name cs ≡ sought.Missing → (j : ℕ) (o : Offer) → slice_get cs j ≡ Some o → is_meant table name o ≡ false)
        → (j : ℕ) → slice_get (c ∷ cs) j ≡ Some o → is_meant table name o ≡ false
    by b e h rest zero is = let same : c ≡ o = cc in ap (is_meant table name) (sym same) ∙ e ∙ (split b h).0
    by b e h rest (suc j) is = rest (split b h).1 j o is

-- a column that is found is meant
pub one_meant : (at : ℕ) (table : Option Text) (name : Text) (os : List Offer) (k : ℕ) (kind : Option Kind) → offers_from at table name os ≡ sought.One k kind
    → (j : ℕ) × (o : Offer) × (k ≡ at + j) × (slice_get os j ≡ Some o) × (is_meant table name o ≡ true) × (o.1.kind ≡ kind)
one_meant at table name [] k kind h = cc
one_meant at table name (c ∷ cs) k kind h = by (is_meant table name c) refl h (one_meant (at + 1) table name cs k kind)
  where
    here : (rest : Sought) → is_meant table name c ≡ true → both (sought.One at c.1.kind) rest ≡ sought.One k kind
        → (j : ℕ) × (o : Offer) × (k ≡ at + j) × (slice_get (c ∷ cs) j ≡ Some o) × (is_meant table name o ≡ true) × (o.1.kind ≡ kind)
    here sought.Missing e h =
        let place : at ≡ k = cc in
        let its : c.1.kind ≡ kind = cc in
        (0, c, omega (arith, place), refl, e, its)
    here (sought.One i m) e h = cc
    here sought.Several e h = cc

    by : (b : Bool) → is_meant table name c ≡ b → both (if_passed b (sought.One at c.1.kind)) (offers_from (at + 1) table name cs) ≡ sought.One k kind
        → (offers_from (at + 1) table name cs ≡ sought.One k kind → (j : ℕ) × (o : Offer) × (k ≡ (at + 1) + j) × (slice_get cs j ≡ Some o) × (is_meant table name o ≡ true) × (o.1.kind ≡ kind))
        → (j : ℕ) × (o : Offer) × (k ≡ at + j) × (slice_get (c ∷ cs) j ≡ Some o) × (is_meant table name o ≡ true) × (o.1.kind ≡ kind)
    by true e h rest = here (offers_from (at + 1) table name cs) e h
    by false e h rest =
        let r = rest h in
        let place : k ≡ at + suc r.0 = omega (arith, r.2) in
        (suc r.0, r.1, place, r.3, r.4, r.5)

-- and no other is
pub only_meant : (at : ℕ) (table : Option Text) (name : Text) (os : List Offer) (k : ℕ) (kind : Option Kind) → offers_from at table name os ≡ sought.One k kind
    → (j : ℕ) (o : Offer) → slice_get os j ≡ Some o → is_meant table name o ≡ true → at + j ≡ k
only_meant at table name [] k kind h j o is meant = cc
only_meant at table name (c ∷ cs) k kind h j o is meant = by (is_meant table name c) refl h (only_meant (at + 1) table name cs k kind) j is
  where
    here : (rest : Sought) → both (sought.One at c.1.kind) rest ≡ sought.One k kind → (at ≡ k) × (rest ≡ sought.Missing)
    here sought.Missing h = let place : at ≡ k = cc in (place, refl)
    here (sought.One i m) h = cc
    here sought.Several h = cc

    by : (b : Bool) → is_meant table name c ≡ b → both (if_passed b (sought.One at c.1.kind)) (offers_from (at + 1) table name cs) ≡ sought.One k kind
        → (offers_from (at + 1) table name cs ≡ sought.One k kind → (j : ℕ) (o : Offer) → slice_get cs j ≡ Some o → is_meant table name o ≡ true → (at + 1) + j ≡ k)
        → (j : ℕ) → slice_get (c ∷ cs) j ≡ Some o → at + j ≡ k
    by true e h rest zero is = let r = here (offers_from (at + 1) table name cs) h in omega (arith, r.0)
    by true e h rest (suc j) is =
        let r = here (offers_from (at + 1) table name cs) h in
        let no = none_meant (at + 1) table name cs r.1 j o is in
        let clash : true ≡ false = sym meant ∙ no in
        cc
    by false e h rest zero is =
        let same : c ≡ o = cc in
        let clash : true ≡ false = sym meant ∙ ap (is_meant table name) (sym same) ∙ e in
        cc
    by false e h rest (suc j) is =
        let r = rest h j o is meant in
        omega (arith, r)

-- ---- in a FROM

start : (j : ℕ) → 0 + j ≡ j
start j = omega arith

pub found_there : (tables : List FromTable) (table : Option Text) (name : Text) (at : ℕ) (kind : Option Kind) → sought_in tables table name ≡ sought.One at kind
    → (o : Offer) × (slice_get (offers tables) at ≡ Some o) × (is_meant table name o ≡ true) × (o.1.kind ≡ kind)
found_there tables table name at kind h =
    let r = one_meant 0 table name (offers tables) at kind (within table name tables ∙ h) in
    let place : r.0 ≡ at = sym (r.2 ∙ start r.0) in
    (r.1, subst (λ n. slice_get (offers tables) n ≡ Some r.1) place r.3, r.4, r.5)

pub only_there : (tables : List FromTable) (table : Option Text) (name : Text) (at : ℕ) (kind : Option Kind) → sought_in tables table name ≡ sought.One at kind
    → (i : ℕ) (o : Offer) → slice_get (offers tables) i ≡ Some o → is_meant table name o ≡ true → i ≡ at
only_there tables table name at kind h i o is meant = sym (start i) ∙ only_meant 0 table name (offers tables) at kind (within table name tables ∙ h) i o is meant

pub none_there : (tables : List FromTable) (table : Option Text) (name : Text) → sought_in tables table name ≡ sought.Missing
    → (i : ℕ) (o : Offer) → slice_get (offers tables) i ≡ Some o → is_meant table name o ≡ false
none_there tables table name h = none_meant 0 table name (offers tables) (within table name tables ∙ h)
