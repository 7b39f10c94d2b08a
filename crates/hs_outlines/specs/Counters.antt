-- Numbers of names that are known to be taken.
use Rattle.std.specs.Prelude.{◌≡◌, ◌≤◌, ◌<◌, ℕ, Bool, true}
use Rattle.hs_elements.specs.declared.names.ConstraintKind.{ConstraintKind}
use Rattle.hs_elements.specs.declared.names.ConstraintKind.TheVariants as kind
use Rattle.hs_elements.specs.Faults.{Text}
use Rattle.hs_elements.specs.Names.{numbered}
use Rattle.hs_outlines.specs.declared.counters.Counters.{Counters}

-- the names with numbers from 1 to below this one are taken
pub record IsTried (taken : Text → Bool) (table : Text) (its : ConstraintKind) (n : ℕ) : Type 0 where
  pub counts : 1 ≤ n
  pub tried : (m : ℕ) → 1 ≤ m → m < n → taken (numbered table its m) ≡ true

pub record AreTried (taken : Text → Bool) (table : Text) (c : Counters) : Type 0 where
  pub null : IsTried taken table kind.NotNull c.null
  pub primary : IsTried taken table kind.PrimaryKey c.primary
  pub unique : IsTried taken table kind.Unique c.unique
  pub check : IsTried taken table kind.Check c.check
  pub foreign : IsTried taken table kind.ForeignKey c.foreign
