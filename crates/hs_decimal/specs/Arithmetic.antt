-- What + - * and / of two decimals give, by exact whole numbers.
use Rattle.std.specs.Prelude.{◌+◌, ◌-◌, ◌^◌, max, pos, ◌+ℤ◌, ◌-ℤ◌, ◌*ℤ◌, unsigned_abs, int_div, if◌then◌else◌, ◌==◌, Result, Ok, Err}
use Rattle.hs_values.specs.Decimal.{checked_of, rescaled_of}
use Rattle.hs_values.specs.Outcome.{◌>>=◌}
use Rattle.hs_values.specs.declared.value.Dec.{Dec}
use Rattle.hs_values.specs.declared.fault.EvalFault.{EvalFault}
use Rattle.hs_values.specs.declared.fault.EvalFault.TheVariants.{DivisionByZero}

-- at the greater scale, which each operand is given first
unfoldable pub sum_of : Dec → Dec → Result Dec EvalFault
sum_of a b = do
  let scale = max a.scale b.scale
  x ← rescaled_of a scale
  y ← rescaled_of b scale
  checked_of (x.units +ℤ y.units) scale

-- at the greater scale, which each operand is given first
unfoldable pub difference_of : Dec → Dec → Result Dec EvalFault
difference_of a b = do
  let scale = max a.scale b.scale
  x ← rescaled_of a scale
  y ← rescaled_of b scale
  checked_of (x.units -ℤ y.units) scale

-- at the sum of the scales
unfoldable pub product_of : Dec → Dec → Result Dec EvalFault
product_of a b = checked_of (a.units *ℤ b.units) (a.scale + b.scale)

-- at the greater scale, cut toward zero
unfoldable pub quotient_of : Dec → Dec → Result Dec EvalFault
quotient_of a b =
    let scale = max a.scale b.scale in
    if unsigned_abs b.units == 0 then Err DivisionByZero else checked_of (int_div (a.units *ℤ pos (10 ^ (scale + b.scale - a.scale))) b.units) scale
