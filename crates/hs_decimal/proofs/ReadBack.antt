-- What is printed of a number without a sign is read as that number.
use Rattle.std.proofs.Common.{◌≡◌, ℕ, zero, suc, ◌+◌, ◌-◌, ◌*◌, ◌/◌, ◌%◌, ◌^◌, ◌<◌, ◌≤◌, List, ◌∷◌, ◌++◌, Some, length, replicate, pos, negsuc, ℤ, refl, sym, ap, subst, ◌∙◌, arith, length-append, append-nil, lit<}
use Rattle.std.specs.Fmt.{decimal}
use Rattle.std.specs.Str.Parse.{AllDigits, digits_value}
use Rattle.std.proofs.lemmas.Bool.{ne_eqb}
use Rattle.std.proofs.lemmas.Fmt.{decimal_is_IsNumeral_wide, length-decimal-le_wide}
use Rattle.std.proofs.lemmas.List.{length-replicate}
use Rattle.std.proofs.Math.Nat.{mod-lt, one-le-pow, div-add-mod, div-one, div-le_self}
use Rattle.hs_decimal.proofs.Numerals.{digits_value-append, all-append}
use Rattle.hs_decimal.proofs.Spelling.{is_read}
use Rattle.hs_decimal.specs.Text.{Spells, whole, pointed, read_of, text_of, padded, unsigned, IsReadable}
use Rattle.hs_values.specs.Decimal.{IsDecimal}
use Rattle.hs_values.specs.declared.value.Dec.{Dec}

all-zeros : (k : ℕ) → AllDigits 10 (replicate k 48)
all-zeros zero = tt
all-zeros (suc k) = (lit< tt, all-zeros k)

digits_value-zeros : (k : ℕ) → digits_value 10 (replicate k 48) ≡ 0
digits_value-zeros zero = refl
digits_value-zeros (suc k) = digits_value-zeros k

-- zeros in front of digits change nothing but their number
pub record Fills (places n : ℕ) (digits : List ℕ) : Type 0 where
  pub all : AllDigits 10 digits
  pub value : digits_value 10 digits ≡ n
  pub size : length digits ≡ places

pub fills : (places n : ℕ) → 0 < places → n < 10 ^ places → n < 10 ^ 64 → Fills places n (padded places n)
unfolding padded
fills places n some fits wide =
    let numeral = decimal_is_IsNumeral_wide n wide in
    let short = length-decimal-le_wide places n some fits wide in
    let zeros = replicate (places - length (decimal n)) 48 in
    record {
      all = all-append zeros (decimal n) (all-zeros (places - length (decimal n))) numeral.0.1;
      value = digits_value-append zeros (decimal n) ∙ rw (digits_value-zeros (places - length (decimal n))) (omega (arith, numeral.1));
      size = omega (arith, length-append zeros (decimal n), length-replicate {A = ℕ} (places - length (decimal n)) 48, short);
    }

-- with nothing behind the point
whole_back : (size : ℕ) → size < 10 ^ 38 → length (decimal size) ≤ 38 → Spells (decimal size) (unsigned size 0)
whole_back size fits few =
    let numeral = decimal_is_IsNumeral_wide size (omega arith) in
    let P : ℕ → Type 0 = λ n. Spells (decimal size) (unsigned n 0) in
    subst P numeral.1 (whole (decimal size) numeral.0 few)

-- with digits behind it
pointed_back : (front back scale : ℕ) → 0 < scale → back < 10 ^ scale → front < 10 ^ 64 → back < 10 ^ 64 → length (decimal front) + scale ≤ 38 → Spells (decimal front ++ 46 ∷ padded scale back) (unsigned (front * 10 ^ scale + back) scale)
pointed_back front back scale some fits front_wide back_wide few =
    let numeral = decimal_is_IsNumeral_wide front front_wide in
    let f = fills scale back some fits back_wide in
    let value : digits_value 10 (decimal front ++ padded scale back) ≡ front * 10 ^ scale + back = digits_value-append (decimal front) (padded scale back) ∙ rw (f.size, f.value, numeral.1) refl in
    let P : ℕ → ℕ → Type 0 = λ n k. Spells (decimal front ++ 46 ∷ padded scale back) (unsigned n k) in
    subst (λ n. P n scale) value (subst (P (digits_value 10 (decimal front ++ padded scale back))) f.size
    (pointed (decimal front) (padded scale back) numeral.0 (omega (arith, f.size), f.all) (omega (arith, f.size))))

pub text_of-whole : (size : ℕ) → text_of (unsigned size 0) ≡ decimal size
unfolding text_of
text_of-whole size = append-nil (decimal (size / 1)) ∙ ap decimal (div-one size)

pub text_of-pointed : (size scale : ℕ) → 0 < scale → text_of (unsigned size scale) ≡ decimal (size / 10 ^ scale) ++ 46 ∷ padded scale (size % 10 ^ scale)
unfolding text_of
text_of-pointed size scale some = rw (ne_eqb scale 0 (omega arith)) refl

pub spelled_back : (units : ℤ) (scale : ℕ) → let a : Dec = record { units = units; scale = scale } in IsDecimal a → IsReadable a → Spells (text_of a) a
spelled_back (negsuc n) scale lawful readable = absurd readable.unsigned.le
spelled_back (pos size) zero lawful readable =
    let few : length (decimal size) ≤ 38 = rw (sym (div-one size)) (omega (arith, readable.few)) in
    rw (text_of-whole size) (whole_back size lawful.digits few)
spelled_back (pos size) (suc k) lawful readable =
    let scale : ℕ = suc k in
    let one : 0 < 10 ^ scale = one-le-pow scale 10 (omega arith) in
    let front = size / 10 ^ scale in
    let back = size % 10 ^ scale in
    let same : front * 10 ^ scale + back ≡ size = omega (arith, div-add-mod size (10 ^ scale)) in
    let P : ℕ → Type 0 = λ n. Spells (decimal front ++ 46 ∷ padded scale back) (unsigned n scale) in
    rw (text_of-pointed size scale (omega arith)) (subst P same
    (pointed_back front back scale (omega arith) (mod-lt size one) (omega (arith, div-le_self size (10 ^ scale), lawful.digits)) (omega (arith, same, lawful.digits)) readable.few))

pub read_back : (a : Dec) → IsDecimal a → IsReadable a → read_of (text_of a) ≡ Some a
read_back a lawful readable = is_read (text_of a) a (spelled_back a.units a.scale lawful readable)
