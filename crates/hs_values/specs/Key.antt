-- The form in which equal values are identical.
use Rattle.std.specs.Prelude.{ℕ, zero, suc, ℤ, pos, int_div, int_rem, if◌then◌else◌}
use Rattle.std.specs.Ordering.{int_eq}
use Rattle.hs_values.specs.declared.value.Dec.{Dec}
use Rattle.hs_values.specs.declared.value.Value.{Value}
use Rattle.hs_values.specs.declared.value.Value.TheVariants as v
use Rattle.hs_values.specs.Order.{whole}

-- units / 10^places without the zeros at the end of its digits behind the point
unfoldable pub without_zeros : ℤ → ℕ → Dec
without_zeros units zero = whole units
without_zeros units (suc places) =
    if int_eq (int_rem units (pos 10)) (pos 0) then without_zeros (int_div units (pos 10)) places else record { units = units; scale = suc places }

-- numbers as decimals without zeros at their end, and other values as they are
abbrev pub key_of : Value → Value
key_of (v.Int n) = v.Dec (whole n)
key_of (v.Dec d) = v.Dec (without_zeros d.units d.scale)
key_of a = a
