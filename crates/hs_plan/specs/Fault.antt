-- The order of the faults of binding: by class, and in a class from the left.
use Rattle.std.specs.Prelude.{ℕ, Bool, nat_lt, ◌==◌, ◌&&◌, ◌||◌}
use Rattle.hs_plan.specs.declared.fault.BindFault.{BindFault}
use Rattle.hs_plan.specs.declared.fault.BindFault.TheVariants as f
use Rattle.hs_plan.specs.declared.fault.Cause.{Cause}
use Rattle.hs_plan.specs.declared.fault.Cause.TheVariants as c
use Rattle.hs_plan.specs.declared.fault.PlacedFault.{PlacedFault}
use Rattle.hs_plan.specs.declared.fault.Which.TheVariants as w

-- the place of a cause's class
abbrev pub rank_of : Cause → ℕ
rank_of (c.NoSuchTable name) = 0
rank_of (c.NoSuchColumn name) = 1
rank_of (c.Exists name) = 2
rank_of (c.Ambiguous name) = 3
rank_of c.Types = 4
rank_of c.Count = 5
rank_of (c.Limit w.Tables) = 6
rank_of (c.Limit w.Columns) = 7
rank_of (c.Limit w.Constraints) = 8

abbrev pub is_before : PlacedFault → PlacedFault → Bool
is_before a b = nat_lt (rank_of a.cause) (rank_of b.cause) || ((rank_of a.cause == rank_of b.cause) && nat_lt a.at b.at)

-- the answer that a fault stands for
abbrev pub answer_at : ℕ → Cause → BindFault
answer_at at (c.NoSuchTable name) = f.NoSuch name
answer_at at (c.NoSuchColumn name) = f.NoSuch name
answer_at at (c.Exists name) = f.Exists name
answer_at at (c.Ambiguous name) = f.Ambiguous name
answer_at at c.Types = f.Types at
answer_at at c.Count = f.Count
answer_at at (c.Limit which) = f.Limit which

abbrev pub fault_of : PlacedFault → BindFault
fault_of p = answer_at p.at p.cause
