use Rattle.std.proofs.Common.{◌≡◌, ◌⊎◌, ◌||◌, not, Bool, true, false, inl, inr, refl, ap, ap₂, ◌∙◌}
use Rattle.std.specs.Cmp.{eq_by_cmp_equiv, nat_eq_equiv}
use Rattle.std.specs.Prelude.{ℕ, ◌==◌, ◌&&◌}
use Rattle.hs_values.specs.TotalOrder.{row_order_of_total}
use Rattle.hs_claims.specs.declared.claim.Claim.{Claim}
use Rattle.hs_claims.specs.declared.resource.Resource.{Resource}
use Rattle.hs_claims.specs.declared.resource.Resource.TheVariants as resource
use Rattle.hs_claims.specs.Compatible.{same_resource, compatible}
use Rattle.hs_claims.specs.Fitting.{both_fit, fit_all}
use Rattle.hs_claims.proofs.laws.claims_go_together.Goals as goal

apart : (same a b : Bool) → (not same || not (a || b)) ≡ true → (same ≡ false) ⊎ ((a ≡ false) × (b ≡ false))
apart false a b h = inl refl
apart true false false h = inr (refl, refl)
apart true true b h = absurd cc
apart true false true h = absurd cc

together : (same a b : Bool) → (same ≡ false) ⊎ ((a ≡ false) × (b ≡ false)) → (not same || not (a || b)) ≡ true
together same a b (inl other) = ap (λ (s : Bool). not s || not (a || b)) other
together same a b (inr both) = ap₂ (λ (x y : Bool). not same || not (x || y)) both.0 both.1 ∙ or_true (not same)
  where
    or_true : (x : Bool) → (x || true) ≡ true
    or_true true = refl
    or_true false = refl

or-comm : (a b : Bool) → (a || b) ≡ (b || a)
or-comm true true = refl
or-comm true false = refl
or-comm false true = refl
or-comm false false = refl

number-symm : (a b : ℕ) → (a == b) ≡ (b == a)
number-symm a b = nat_eq_equiv.symm a b

same-symm : (a b : Resource) → same_resource a b ≡ same_resource b a
same-symm resource.Catalog resource.Catalog = refl
same-symm (resource.Table a) (resource.Table b) = number-symm a.0 b.0
same-symm (resource.Row a r) (resource.Row b s) = ap₂ (λ (x y : Bool). x && y) (number-symm a.0 b.0) (number-symm r.0 s.0)
same-symm (resource.Key a c k) (resource.Key b d l) = ap₂ (λ (x y : Bool). x && y) (ap₂ (λ (x y : Bool). x && y) (number-symm a.0 b.0) (number-symm c.0 d.0)) ((eq_by_cmp_equiv row_order_of_total).symm k l)
same-symm a b = refl

pub returns : goal.returns
returns c = record {
  means = λ a b. (apart (same_resource a.resource b.resource) a.exclusive b.exclusive, together (same_resource a.resource b.resource) a.exclusive b.exclusive);
  either_way = λ a b. ap₂ (λ (x y : Bool). not x || not y) (same-symm a.resource b.resource) (or-comm a.exclusive b.exclusive);
  each = λ wanted held. (both_fit wanted held, fit_all wanted held);
}
