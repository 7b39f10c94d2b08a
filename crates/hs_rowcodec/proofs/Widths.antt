-- A value of a type fits the bytes that it is written in.
use Rattle.std.proofs.Common.{◌≡◌, ℕ, ◌^◌, ◌<◌, ◌≤◌, min, lit<, true, ℤ, pos, negsuc, arith}
use Rattle.std.specs.Prelude.{unsigned_abs}
use Rattle.std.specs.Int.{w16, w32, w64, w128}
use Rattle.std.specs.Int.RustNames.{FitsSigned}
use Rattle.std.proofs.Math.Nat.{pow-le-pow_right}
use Rattle.hs_values.proofs.DecimalWidths.{narrow}
use Rattle.hs_values.specs.declared.value.Dec.{Dec}
use Rattle.hs_values.specs.SqlType.{is_signed, has_digits}
use Rattle.hs_values.specs.Years.{is_day, is_moment}

pub small_fits : (n : ℤ) → is_signed 15 n ≡ true → FitsSigned w16 n
small_fits (pos n) fits = record { sfits = grind arith }
small_fits (negsuc n) fits = record { sfits = grind arith }

pub integer_fits : (n : ℤ) → is_signed 31 n ≡ true → FitsSigned w32 n
integer_fits (pos n) fits = record { sfits = grind arith }
integer_fits (negsuc n) fits = record { sfits = grind arith }

pub big_fits : (n : ℤ) → is_signed 63 n ≡ true → FitsSigned w64 n
big_fits (pos n) fits = record { sfits = grind arith }
big_fits (negsuc n) fits = record { sfits = grind arith }

pub day_fits : (n : ℤ) → is_day n ≡ true → FitsSigned w32 n
day_fits (pos n) fits = record { sfits = grind arith }
day_fits (negsuc n) fits = record { sfits = grind arith }

pub moment_fits : (n : ℤ) → is_moment n ≡ true → FitsSigned w64 n
moment_fits (pos n) fits = record { sfits = grind arith }
moment_fits (negsuc n) fits = record { sfits = grind arith }

pub units_fit : (precision scale : ℕ) (d : Dec) → has_digits precision scale d ≡ true → FitsSigned w128 d.units
units_fit precision scale d fits =
    let few : min precision 38 ≤ 38 = omega arith in
    let most : 10 ^ min precision 38 ≤ 10 ^ 38 = pow-le-pow_right {n = 10} (lit< tt) few in
    narrow d.units (omega (arith, most, (tests fits).2))
  where
    tests : has_digits precision scale d ≡ true → (d.scale ≡ scale) × (scale ≤ 38) × (unsigned_abs d.units < 10 ^ min precision 38)
    tests h = grind arith

pub same_scale : (precision scale : ℕ) (d : Dec) → has_digits precision scale d ≡ true → scale ≡ d.scale
same_scale precision scale d fits = grind arith
