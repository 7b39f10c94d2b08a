-- Two sets of sessions in one.
use Rattle.std.proofs.Common.{◌≡◌, ℕ, zero, suc, ◌-◌, ◌<◌, ◌==◌, ◌||◌, refl, ap, ◌∙◌, max, arith}
use Rattle.std.specs.Prelude.{bit_or}
use Rattle.std.specs.Int.{bit_at}
use Rattle.std.proofs.lemmas.Nat.Bits.{bit_at_or, bit_at-lt}
use Rattle.hs_claims.specs.Blockers.{is_set}

max_is : (a b : ℕ) → a < 2 → b < 2 → (max a b == 1) ≡ ((a == 1) || (b == 1))
max_is zero zero p q = refl
max_is zero (suc zero) p q = refl
max_is (suc zero) zero p q = refl
max_is (suc zero) (suc zero) p q = refl
max_is (suc (suc a)) b p q = absurd (omega (arith, p))
max_is zero (suc (suc b)) p q = absurd (omega (arith, q))
max_is (suc zero) (suc (suc b)) p q = absurd (omega (arith, q))

pub is_set-either : (a b s : ℕ) → is_set (bit_or a b) s ≡ (is_set a s || is_set b s)
is_set-either a b s = ap (λ n. n == 1) (bit_at_or a b (s - 1)) ∙ max_is (bit_at a (s - 1)) (bit_at b (s - 1)) (bit_at-lt a (s - 1)) (bit_at-lt b (s - 1))
