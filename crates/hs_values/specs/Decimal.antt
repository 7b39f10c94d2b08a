-- Decimals by exact whole numbers.
use Rattle.std.specs.Prelude.{ℕ, ◌-◌, ◌^◌, ◌<◌, ◌≤◌, ℤ, pos, ◌&&◌, ◌*ℤ◌, unsigned_abs, int_div, if◌then◌else◌, nat_lt, nat_le, Result, Ok, Err}
use Rattle.hs_values.specs.declared.value.Dec.{Dec}
use Rattle.hs_values.specs.declared.fault.EvalFault.{EvalFault}
use Rattle.hs_values.specs.declared.fault.EvalFault.TheVariants.{Range}

-- a lawful decimal: units of at most 38 digits, and at most 38 of them behind the point
pub record IsDecimal (a : Dec) : Type 0 where
  pub digits : unsigned_abs a.units < 10 ^ 38
  pub places : a.scale ≤ 38

-- the decimal of these units at this scale, where it is a lawful one
unfoldable pub checked_of : ℤ → ℕ → Result Dec EvalFault
checked_of units scale =
    if nat_lt (unsigned_abs units) (10 ^ 38) && nat_le scale 38 then Ok (record { units = units; scale = scale }) else Err Range

-- a number's units at another scale: at a smaller one what stands behind it is cut off, toward zero
unfoldable pub units_at : Dec → ℕ → ℤ
units_at a scale =
    if nat_le a.scale scale then a.units *ℤ pos (10 ^ (scale - a.scale)) else int_div a.units (pos (10 ^ (a.scale - scale)))

-- the same number at another scale
unfoldable pub rescaled_of : Dec → ℕ → Result Dec EvalFault
rescaled_of a scale = checked_of (units_at a scale) scale
