-- A depth above 256.
use Rattle.std.proofs.Common.{◌≡◌, ℕ, ◌+◌, ◌<◌, ◌≤◌, true, ap, arith}
use Rattle.std.specs.Prelude.{max, nat_lt, if◌then◌else◌}
use Rattle.std.proofs.lemmas.Bool.Decides.{nat_tests}
use Rattle.hs_builder.specs.Steps.{within, beyond, over}

is_over : (n : ℕ) → 256 < n → nat_lt 256 n ≡ true
is_over n l = grind (arith, nat_tests)

pub too_deep : (a b : ℕ) → 256 ≤ max a b → (d : ℕ) × (over a b ≡ beyond d)
too_deep a b l = (max a b + 1, ap (λ t. if t then beyond (max a b + 1) else within (max a b + 1)) (is_over (max a b + 1) (omega (arith, l))))
