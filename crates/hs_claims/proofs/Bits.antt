-- Sets of sessions as bits.
use Rattle.std.proofs.Common.{◌≡◌, ◌≢◌, ℕ, zero, suc, ◌+◌, ◌-◌, ◌*◌, ◌%◌, ◌^◌, ◌<◌, ◌≤◌, ◌==◌, ◌&&◌, ◌||◌, not, Bool, true, false, refl, sym, ap, ap₂, ◌∙◌, min, w64, arith, eqb-true, eq-eqb}
use Rattle.std.specs.Prelude.{bit_and, bit_or}
use Rattle.std.specs.Int.{bit_at, bit_not, trailing_zeros}
use Rattle.std.proofs.lemmas.Nat.{le_or_l}
use Rattle.std.proofs.lemmas.Nat.Bits.{bit_at_and, bit_at_set_same, bit_at_set_other, bit_at_clear_same, bit_at_clear_other, bit_at-lt, bit_at-zero, bit_at-trailing_zeros, same_from_bits_below}
use Rattle.hs_claims.specs.Blockers.{is_set}
use Rattle.hs_claims.specs.Session.{IsSession}

-- a session is that one, or not
same_or_not : (P : Type 0) (s t : ℕ) → (b : Bool) → (s == t) ≡ b → (s ≡ t → P) → (s ≢ t → P) → P
same_or_not P s t true e here other = here (eqb-true s t e)
same_or_not P s t false e here other = other (λ same. let both : (s == t) ≡ true = eq-eqb s t same in cc)

apart : (s t : ℕ) → IsSession s → IsSession t → s ≢ t → s - 1 ≢ t - 1
apart s t a b ne e = ne (omega (arith, a.0, b.0, e))

differs : (s t : ℕ) → s ≢ t → (s == t) ≡ false
differs s t ne = by (s == t) refl
  where
    by : (b : Bool) → (s == t) ≡ b → (s == t) ≡ false
    by true e = absurd (ne (eqb-true s t e))
    by false e = e

module _ (set t : ℕ) (there : IsSession t) where
  within : t - 1 < 64
  within = omega (arith, there.0, there.1)

  -- one session more
  pub is_set-with : (s : ℕ) → IsSession s → is_set (bit_or set (1 * 2 ^ (t - 1) % 2 ^ 64)) s ≡ ((s == t) || is_set set s)
  is_set-with s h = same_or_not _ s t (s == t) refl
      (λ e. ap (λ i. bit_at (bit_or set (1 * 2 ^ (t - 1) % 2 ^ 64)) i == 1) (ap (λ n. n - 1) e) ∙ ap (λ b. b == 1) (bit_at_set_same w64 set (t - 1) within) ∙ ap (λ b. b || is_set set s) (sym (eq-eqb s t e)))
      (λ ne. ap (λ b. b == 1) (bit_at_set_other w64 set (t - 1) within (s - 1) (apart s t h there ne)) ∙ ap (λ b. b || is_set set s) (sym (differs s t ne)))

  -- one session less
  pub is_set-without : (s : ℕ) → IsSession s → is_set (bit_and set (bit_not w64 (1 * 2 ^ (t - 1) % 2 ^ 64))) s ≡ (not (s == t) && is_set set s)
  is_set-without s h = same_or_not _ s t (s == t) refl
      (λ e. ap (λ i. bit_at (bit_and set (bit_not w64 (1 * 2 ^ (t - 1) % 2 ^ 64))) i == 1) (ap (λ n. n - 1) e) ∙ ap (λ b. b == 1) (bit_at_clear_same w64 set (t - 1) within) ∙ ap (λ b. not b && is_set set s) (sym (eq-eqb s t e)))
      (λ ne. ap (λ b. b == 1) (bit_at_clear_other w64 set (t - 1) within (s - 1) (omega (arith, h.0, h.1)) (apart s t h there ne)) ∙ ap (λ b. not b && is_set set s) (sym (differs s t ne)))

-- in both sets
min_is : (a b : ℕ) → a < 2 → b < 2 → (min a b == 1) ≡ ((a == 1) && (b == 1))
min_is zero zero p q = refl
min_is zero (suc zero) p q = refl
min_is (suc zero) zero p q = refl
min_is (suc zero) (suc zero) p q = refl
min_is (suc (suc a)) b p q = absurd (omega (arith, p))
min_is zero (suc (suc b)) p q = absurd (omega (arith, q))
min_is (suc zero) (suc (suc b)) p q = absurd (omega (arith, q))

pub is_set-both : (a b s : ℕ) → is_set (bit_and a b) s ≡ (is_set a s && is_set b s)
is_set-both a b s = ap (λ n. n == 1) (bit_at_and a b (s - 1)) ∙ min_is (bit_at a (s - 1)) (bit_at b (s - 1)) (bit_at-lt a (s - 1)) (bit_at-lt b (s - 1))

pub is_set-none : (s : ℕ) → is_set 0 s ≡ false
is_set-none s = ap (λ b. b == 1) (bit_at-zero (s - 1))

-- a bit that isn't 1 is 0
zero_bit : (n : ℕ) → n < 2 → (n == 1) ≡ false → n ≡ 0
zero_bit zero p e = refl
zero_bit (suc zero) p e = absurd cc
zero_bit (suc (suc n)) p e = absurd (omega (arith, p))

none_back : (i : ℕ) → i ≡ (i + 1) - 1
none_back i = omega arith

pub none_is_zero : (set : ℕ) → set < 2 ^ 64 → ((s : ℕ) → IsSession s → is_set set s ≡ false) → set ≡ 0
none_is_zero set small none = same_from_bits_below 64 set 0 small (omega arith) (λ i lt.
    zero_bit (bit_at set i) (bit_at-lt set i) (ap (λ k. bit_at set k == 1) (none_back i) ∙ none (i + 1) (omega (arith, lt), omega (arith, lt))) ∙ sym (bit_at-zero i))

pub zero_is_none : (set : ℕ) → set ≡ 0 → (s : ℕ) → is_set set s ≡ false
zero_is_none set e s = ap (λ n. is_set n s) e ∙ is_set-none s

-- the first session of a set that has one
pub record First (set first : ℕ) : Type 0 where
  pub session : IsSession first
  pub there : is_set set first ≡ true
  pub before : (s : ℕ) → 1 ≤ s → s < first → is_set set s ≡ false

pub first_of : (set : ℕ) → (set ≡ 0 → ⊥) → set < 2 ^ 64 → First set (trailing_zeros w64 set + 1)
first_of set some small =
    let low = bit_at-trailing_zeros w64 set (omega (arith, some)) small in record {
      session = (omega arith, omega (arith, low.0));
      there = ap (λ i. bit_at set i == 1) (sym (none_back (trailing_zeros w64 set))) ∙ ap (λ b. b == 1) low.1;
      before = λ s p q. ap (λ b. b == 1) (low.2 (s - 1) (omega (arith, p, q)));
    }

pub greater : (set t : ℕ) → set ≤ bit_or set (1 * 2 ^ (t - 1) % 2 ^ 64)
greater set t = le_or_l set (1 * 2 ^ (t - 1) % 2 ^ 64)
