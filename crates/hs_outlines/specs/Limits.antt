-- How many tables, columns and constraints there may be.
use Rattle.std.specs.Prelude.{ℕ, ◌+◌, nat_lt, List}
use Rattle.hs_elements.specs.Faults.{fault_at, where_so}
use Rattle.hs_plan.specs.declared.fault.Cause.TheVariants as cause
use Rattle.hs_plan.specs.declared.fault.PlacedFault.{PlacedFault}
use Rattle.hs_plan.specs.declared.fault.Which.{Which}
use Rattle.hs_plan.specs.declared.fault.Which.TheVariants as which

abbrev pub most : Which → ℕ
most which.Tables = 1024
most which.Columns = 64
most which.Constraints = 64

-- these and so many more would be too many
abbrev pub beyond : ℕ → Which → ℕ → ℕ → List PlacedFault
beyond at what before more = where_so (nat_lt (most what) (before + more)) (fault_at at (cause.Limit what))
