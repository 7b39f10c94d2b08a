-- How a decimal's text is put together, and how long it becomes.
use Rattle.std.proofs.Common.{◌≡◌, ℕ, ◌+◌, ◌-◌, ◌/◌, ◌^◌, ◌<◌, ◌≤◌, List, ◌++◌, length, replicate, append_assoc, arith, refl, ◌%◌, ◌*◌, ℤ, pos, negsuc, lit≤, pow-add, sym, ap, ◌∙◌, length-append}
use Rattle.std.specs.Prelude.{unsigned_abs}
use Rattle.std.proofs.Math.Nat.{div-lt_iff_lt-mul, one-le-pow, pow-le-pow_right}
use Rattle.hs_values.specs.declared.value.Dec.{Dec}
use Rattle.std.specs.Fmt.{decimal}
use Rattle.std.proofs.lemmas.Fmt.{length-decimal-le_wide}
use Rattle.hs_values.specs.Decimal.{IsDecimal}
use Rattle.hs_decimal.specs.Text.{padded, sign_of, fraction_of, text_of}

pub length-decimal-le_places : (digits : List ℕ) (places n : ℕ) → digits ≡ decimal n → 0 < places → n < 10 ^ places → n < 2 ^ 128 → length digits ≤ places
length-decimal-le_places digits places n are some fits wide =
    rw are (length-decimal-le_wide places n some fits (omega arith))

-- the zeros end where the digits fill the places
pub filled : (digits : List ℕ) (places n count : ℕ) → digits ≡ decimal n → 0 < places → n < 10 ^ places → n < 2 ^ 128 → (length digits ≤ places → count ≤ places) → places ≤ count → count ≡ places
filled digits places n count are some fits wide most least =
    omega (arith, most (length-decimal-le_places digits places n are some fits wide))

-- digits behind zeros that fill the places
pub padded_from : (before text digits after : List ℕ) (places n count : ℕ) → digits ≡ decimal n → count ≡ places → text ≡ before ++ replicate (count - length digits) 48 → after ≡ text ++ digits → after ≡ before ++ padded places n
unfolding padded
padded_from before text digits after places n count are filled zeros all =
    rw (all, zeros, filled, are) (append_assoc before (replicate (places - length (decimal n)) 48) (decimal n))

-- at most 38 digits stand in front of the point and behind it, and one more for a number below one
length-whole-le : (size scale : ℕ) → size < 10 ^ 38 → scale ≤ 38 → length (decimal (size / 10 ^ scale)) + scale ≤ 39
length-whole-le size scale few places =
    let room : 10 ^ (39 - scale) * 10 ^ scale ≡ 10 ^ 39 = sym (pow-add 10 (39 - scale) scale) ∙ ap (λ k. 10 ^ k) {y = 39} (omega arith) in
    let fewer : 39 - scale ≤ 39 = omega arith in
    let most : 10 ^ (39 - scale) ≤ 10 ^ 39 = pow-le-pow_right {n = 10} (omega arith) fewer in
    let some : 0 < 10 ^ scale = one-le-pow scale 10 (omega arith) in
    let below : size / 10 ^ scale < 10 ^ (39 - scale) = (div-lt_iff_lt-mul some).1 (rw room (omega arith)) in
    let short : length (decimal (size / 10 ^ scale)) ≤ 39 - scale = length-decimal-le_wide (39 - scale) (size / 10 ^ scale) (omega arith) below (omega arith) in
    omega (arith, short)

length-sign_of-le : (units : ℤ) → length (sign_of units) ≤ 1
length-sign_of-le (pos n) = lit≤ tt
length-sign_of-le (negsuc n) = lit≤ tt

-- the sign and the digits in front of the point leave room for the point and the digits behind it
pub room_left : (a : Dec) (size one : ℕ) (before digits text : List ℕ) → IsDecimal a → size ≡ unsigned_abs a.units → one ≡ 10 ^ a.scale → before ≡ sign_of a.units → digits ≡ decimal (size / one) → text ≡ before ++ digits → length text + 1 + a.scale ≤ 41
room_left a size one before digits text lawful is_size is_one is_sign are is_whole =
    let whole : length digits + a.scale ≤ 39 = rw (are, is_size, is_one) (length-whole-le (unsigned_abs a.units) a.scale lawful.digits lawful.places) in
    let sign : length before ≤ 1 = rw is_sign (length-sign_of-le a.units) in
    rw is_whole (omega (arith, length-append before digits, whole, sign))

pub text_from : (a : Dec) (size one : ℕ) (before digits text after : List ℕ) → size ≡ unsigned_abs a.units → one ≡ 10 ^ a.scale → before ≡ sign_of a.units → digits ≡ decimal (size / one) → text ≡ before ++ digits → after ≡ text ++ fraction_of a.scale (size % one) → after ≡ text_of a
unfolding text_of
text_from a size one before digits text after is_size is_one is_sign are is_whole is_all =
    rw (is_all, is_whole, are, is_sign, is_size, is_one) refl
