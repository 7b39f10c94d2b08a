-- A number at the scale that it has.
use Rattle.std.proofs.Common.{◌≡◌, ℕ, ◌-◌, ◌^◌, true, Ok, refl, arith}
use Rattle.std.specs.Prelude.{unsigned_abs, nat_lt, nat_le, ◌&&◌}
use Rattle.std.proofs.lemmas.Bool.Decides.{nat_tests}
use Rattle.std.proofs.Math.IntN.{*ℤ-one, one}
use Rattle.hs_values.specs.Decimal.{IsDecimal, checked_of, units_at, rescaled_of}
use Rattle.hs_values.specs.declared.value.Dec.{Dec}

units_at-own : (a : Dec) → units_at a a.scale ≡ a.units
unfolding units_at one
units_at-own a =
    let least : nat_le a.scale a.scale ≡ true = grind (arith, nat_tests) in
    let none : a.scale - a.scale ≡ 0 = omega arith in
    rw (least, none) (*ℤ-one a.units)

checked_of-own : (a : Dec) → IsDecimal a → checked_of a.units a.scale ≡ Ok a
unfolding checked_of
checked_of-own a lawful =
    let within : (nat_lt (unsigned_abs a.units) (10 ^ 38) && nat_le a.scale 38) ≡ true = grind (arith, nat_tests, lawful.digits, lawful.places) in
    rw within refl

pub unmoved : (a : Dec) (scale : ℕ) → IsDecimal a → scale ≡ a.scale → Ok a ≡ rescaled_of a scale
unfolding rescaled_of
unmoved a scale lawful is = rw (is, units_at-own a, checked_of-own a lawful) refl
