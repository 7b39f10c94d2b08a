-- Claims that go together.
use Rattle.std.specs.Prelude.{ℕ, ◌==◌, ◌&&◌, ◌||◌, not, Bool, true, false, List}
use Rattle.std.specs.List.{list_all}
use Rattle.std.specs.Ordering.{eq_by_cmp}
use Rattle.hs_values.specs.declared.value.Value.{Value}
use Rattle.hs_values.specs.Order.{row_order_of}
use Rattle.hs_claims.specs.declared.claim.Claim.{Claim}
use Rattle.hs_claims.specs.declared.resource.Resource.{Resource}
use Rattle.hs_claims.specs.declared.resource.Resource.TheVariants as resource

-- two keys are equal, as 1 and 1.00 are
abbrev pub same_key : List Value → List Value → Bool
same_key = eq_by_cmp row_order_of

-- two resources are one
abbrev pub same_resource : Resource → Resource → Bool
same_resource resource.Catalog resource.Catalog = true
same_resource (resource.Table a) (resource.Table b) = a.0 == b.0
same_resource (resource.Row a row) (resource.Row b other) = (a.0 == b.0) && (row.0 == other.0)
same_resource (resource.Key a constraint values) (resource.Key b other others) = (a.0 == b.0) && (constraint.0 == other.0) && same_key values others
same_resource a b = false

-- they are on two resources, or both are shared
abbrev pub compatible : Claim → Claim → Bool
compatible a b = not (same_resource a.resource b.resource) || not (a.exclusive || b.exclusive)

-- a held claim goes together with each that is wanted
abbrev pub fits_one : List Claim → Claim → Bool
fits_one wanted held = list_all (λ want. compatible want held) wanted

-- each that is wanted goes together with each that is held
abbrev pub fits : List Claim → List Claim → Bool
fits wanted held = list_all (fits_one wanted) held
