-- Numbers in bytes, the highest first, and back.
use Rattle.std.proofs.Common.{◌≡◌, ℕ, zero, suc, ◌+◌, ◌-◌, ◌*◌, ◌/◌, ◌%◌, ◌^◌, ◌<◌, List, [], ◌∷◌, length, get_or, refl, sym, ap, subst, ◌∙◌, arith, ℤ, lit<}
use Rattle.std.proofs.Math.Nat.{pow-suc, mod-eq_of_lt}
use Rattle.std.proofs.Math.Arith.{mod-mul}
use Rattle.std.proofs.Math.Facts.{Fits-of_z}
use Rattle.std.proofs.lemmas.Nat.{div-mul-add, mod-mul-add, mul-add-lt}
use Rattle.std.proofs.lemmas.Int.{of_z-to_z, to_z-of_z}
use Rattle.std.specs.Int.{Width, w16, w32, w64, w128, byte_at, byte_worth, bytes_high_first, sum_through, byte_len, to_be_bytes, from_be_bytes, cast_signed, cast_unsigned}
use Rattle.std.specs.Int.RustNames.{FitsSigned}
use Rattle.hs_rowcodec.specs.Encoding.{AreBytes, signed_bytes}
use Rattle.hs_rowcodec.specs.Reading.{signed_in}
use mir.Val.{bits}

-- the number that bytes spell at base 256
abbrev pub number_in : List ℕ → ℕ
number_in [] = 0
number_in (b ∷ bytes) = b * 256 ^ length bytes + number_in bytes

pub behind_first : (b : ℕ) (bytes : List ℕ) → AreBytes (b ∷ bytes) → AreBytes bytes
behind_first b bytes small i = small (suc i)

pub number_small : (bytes : List ℕ) → AreBytes bytes → number_in bytes < 256 ^ length bytes
number_small [] small = lit< tt
number_small (b ∷ bytes) small =
    subst (λ (n : ℕ). b * 256 ^ length bytes + number_in bytes < n) (sym (pow-suc 256 (length bytes)))
    (mul-add-lt b (256 ^ length bytes) (number_in bytes) 256 (small 0) (number_small bytes (behind_first b bytes small)))

digit_at : (k n : ℕ) → byte_at k n ≡ n / 256 ^ k % 256
digit_at zero n = omega arith
digit_at (suc k) n = refl

raised : (high b p v n : ℕ) → n ≡ p * 256 → high * n + (b * p + v) ≡ (high * 256 + b) * p + v
raised high b p v n is = ap (λ m. high * m + (b * p + v)) is ∙ omega arith

split_first : (high b : ℕ) (bytes : List ℕ) → high * 256 ^ suc (length bytes) + number_in (b ∷ bytes) ≡ (high * 256 + b) * 256 ^ length bytes + number_in bytes
split_first high b bytes = raised high b (256 ^ length bytes) (number_in bytes) _ (pow-suc 256 (length bytes))

first_again : (high b : ℕ) (bytes : List ℕ) → AreBytes (b ∷ bytes) → byte_at (length bytes) (high * 256 ^ suc (length bytes) + number_in (b ∷ bytes)) ≡ b
first_again high b bytes small =
    ap (byte_at (length bytes)) (split_first high b bytes)
    ∙ digit_at (length bytes) _
    ∙ ap (λ m. m % 256) (div-mul-add (high * 256 + b) (256 ^ length bytes) (number_in bytes) (number_small bytes (behind_first b bytes small)))
    ∙ mod-mul-add high 256 b (small 0)

-- the bytes are written again, whatever stands above the number
pub written_again : (high : ℕ) (bytes : List ℕ) → AreBytes bytes → bytes_high_first (length bytes) (high * 256 ^ length bytes + number_in bytes) ≡ bytes
written_again high [] small = refl
written_again high (b ∷ bytes) small =
    let others = ap (bytes_high_first (length bytes)) (split_first high b bytes) ∙ written_again (high * 256 + b) bytes (behind_first b bytes small) in
    λ i. first_again high b bytes small i ∷ others i

pub length-bytes_high_first : (k n : ℕ) → length (bytes_high_first k n) ≡ k
length-bytes_high_first zero n = refl
length-bytes_high_first (suc k) n = ap suc (length-bytes_high_first k n)

pow_positive : (k : ℕ) → 0 < 256 ^ k
pow_positive zero = lit< tt
pow_positive (suc k) = subst (λ (n : ℕ). 0 < n) (sym (pow-suc 256 k)) (omega (arith, pow_positive k))

-- what is written is read again, up to what doesn't fit
pub read_again : (k n : ℕ) → number_in (bytes_high_first k n) ≡ n % 256 ^ k
read_again zero n = omega arith
read_again (suc k) n =
    (λ i. digit_at k n i * 256 ^ length-bytes_high_first k n i + read_again k n i)
    ∙ sym (mod-mul n {m = 256} {c = 256 ^ k} (lit< tt) (pow_positive k))
    ∙ ap (λ m. n % m) (omega (arith, pow-suc 256 k))

first_of_sum : (f : ℕ → ℕ) (k : ℕ) → sum_through f (suc k) ≡ f 0 + sum_through (λ i. f (suc i)) k
first_of_sum f zero = refl
first_of_sum f (suc k) = ap (λ n. n + f (suc (suc k))) (first_of_sum f k) ∙ omega arith

-- std's sum over the places is the same number
pub sum_is : (b : ℕ) (bytes : List ℕ) → sum_through (λ i. byte_worth (length bytes - i) (get_or (b ∷ bytes) i 0)) (length bytes) ≡ number_in (b ∷ bytes)
sum_is b [] = omega arith
sum_is b (c ∷ bytes) =
    first_of_sum (λ i. byte_worth (length (c ∷ bytes) - i) (get_or (b ∷ c ∷ bytes) i 0)) (length bytes)
    ∙ (λ j. byte_worth (whole j) b + sum_through (λ i. byte_worth (below i j) (get_or (c ∷ bytes) i 0)) (length bytes))
    ∙ ap (λ n. b * 256 ^ suc (length bytes) + n) (sum_is c bytes)
  where
    whole : suc (length bytes) - 0 ≡ suc (length bytes)
    whole = omega arith

    below : (i : ℕ) → suc (length bytes) - suc i ≡ length bytes - i
    below i = omega arith

-- a width of whole bytes
pub record IsWhole (w : Width) : Type 0 where
  pub more : (k : ℕ) × (byte_len w ≡ suc k)
  pub range : 2 ^ bits w ≡ 256 ^ byte_len w

pub read_is : (w : Width) → IsWhole w → (bytes : List ℕ) → length bytes ≡ byte_len w → from_be_bytes w bytes ≡ number_in bytes
read_is w whole [] len = absurd (omega (arith, len, whole.more.1))
read_is w whole (b ∷ bytes) len =
    (λ j. sum_through (λ i. byte_worth (size j - i) (get_or (b ∷ bytes) i 0)) (size j)) ∙ sum_is b bytes
  where
    size : byte_len w - 1 ≡ length bytes
    size = omega (arith, len)

-- a number that fits is read as it was written
pub signed_read : (w : Width) → IsWhole w → (n : ℤ) → FitsSigned w n → signed_in w (signed_bytes w n) ≡ n
unfolding signed_bytes
signed_read w whole n fits =
    ap (cast_signed w) (read_is w whole _ (length-bytes_high_first _ _) ∙ read_again (byte_len w) (cast_unsigned w n) ∙ small)
    ∙ to_z-of_z w n fits
  where
    small : cast_unsigned w n % 256 ^ byte_len w ≡ cast_unsigned w n
    small = mod-eq_of_lt (subst (λ (m : ℕ). cast_unsigned w n < m) whole.range (Fits-of_z {w = w} fits).fits)

-- and bytes are written as they were read
pub signed_written : (w : Width) → IsWhole w → (bytes : List ℕ) → AreBytes bytes → length bytes ≡ byte_len w → signed_bytes w (signed_in w bytes) ≡ bytes
unfolding signed_bytes
signed_written w whole bytes small len =
    ap (to_be_bytes w) (of_z-to_z w (from_be_bytes w bytes) below ∙ read_is w whole bytes len)
    ∙ ap (λ k. bytes_high_first k (number_in bytes)) (sym len)
    ∙ ap (bytes_high_first (length bytes)) none_above
    ∙ written_again 0 bytes small
  where
    none_above : number_in bytes ≡ 0 * 256 ^ length bytes + number_in bytes
    none_above = omega arith

    below : from_be_bytes w bytes < 2 ^ bits w
    below = subst (λ (m : ℕ). m < 2 ^ bits w) (sym (read_is w whole bytes len))
        (subst (λ (m : ℕ). number_in bytes < m) (ap (λ k. 256 ^ k) len ∙ sym whole.range) (number_small bytes small))

pub whole_16 : IsWhole w16
whole_16 = record { more = (1, refl); range = refl }

pub whole_32 : IsWhole w32
whole_32 = record { more = (3, refl); range = refl }

pub whole_64 : IsWhole w64
whole_64 = record { more = (7, refl); range = refl }

pub whole_128 : IsWhole w128
whole_128 = record { more = (15, refl); range = refl }

pub length-signed_bytes : (w : Width) (n : ℤ) → length (signed_bytes w n) ≡ byte_len w
unfolding signed_bytes
length-signed_bytes w n = length-bytes_high_first (byte_len w) (cast_unsigned w n)
