-- Values of one type: they are lawful, and those that tie are identical.
use Rattle.std.proofs.Common.{◌≡◌, ℕ, ◌^◌, ◌<◌, ◌≤◌, ◌&&◌, ◌==◌, Bool, true, false, List, [], ◌∷◌, ℤ, pos, negsuc, ◌*ℤ◌, refl, sym, ap, subst, ◌∙◌, arith, Ok, IsTrue}
use Rattle.std.specs.Prelude.{nat_lt, nat_le, min, unsigned_abs}
use Rattle.std.specs.List.{All}
use Rattle.std.specs.declared.cmp.Ordering.TheVariants.{Equal}
use Rattle.std.specs.Cmp.{int_ranked}
use Rattle.std.proofs.lemmas.Bool.{and_parts, eqb-true, leb-true, ltb-true, lt-ltb}
use Rattle.std.proofs.lemmas.List.Elements.{All-nil, All-cons}
use Rattle.std.proofs.Math.Nat.{pow-le-pow_right}
use Rattle.hs_values.specs.declared.sql_type.SqlType.{SqlType}
use Rattle.hs_values.specs.declared.sql_type.SqlType.TheVariants as t
use Rattle.hs_values.specs.declared.value.Dec.{Dec}
use Rattle.hs_values.specs.declared.value.Value.{Value}
use Rattle.hs_values.specs.declared.value.Value.TheVariants as v
use Rattle.hs_values.specs.Decimal.{IsDecimal}
use Rattle.hs_values.specs.Lawful.{IsLawful}
use Rattle.hs_values.specs.NumberOrder.{ten_positive}
use Rattle.hs_values.specs.Order.{number_cmp, order_of, row_order_of}
use Rattle.hs_values.specs.SqlType.{is_signed, has_digits, fits_of, row_fits, assign_of}
use Rattle.hs_values.proofs.Assigned.{assign_of-fits}
use Rattle.hs_values.proofs.Keys.{same_from, cancelled, truths_alike, texts_alike, then_Equal}

-- ---- lawful

signed_more : (j k : ℕ) (n : ℤ) → 2 ^ j ≤ 2 ^ k → is_signed j n ≡ true → is_signed k n ≡ true
signed_more j k (pos n) le h = lt-ltb n (2 ^ k) (let lt = ltb-true n (2 ^ j) h in omega arith)
signed_more j k (negsuc n) le h = lt-ltb n (2 ^ k) (let lt = ltb-true n (2 ^ j) h in omega arith)

digits_lawful : (precision scale : ℕ) (d : Dec) → has_digits precision scale d ≡ true → IsDecimal d
digits_lawful precision scale d h =
    let outer = and_parts ((d.scale == scale) && nat_le scale 38) (nat_lt (unsigned_abs d.units) (10 ^ min precision 38)) h in
    let inner = and_parts (d.scale == scale) (nat_le scale 38) outer.0 in
    let same : d.scale ≡ scale = eqb-true d.scale scale inner.0 in
    let few : scale ≤ 38 = leb-true scale 38 inner.1 in
    let size = ltb-true (unsigned_abs d.units) (10 ^ min precision 38) outer.1 in
    let within : min precision 38 ≤ 38 = omega arith in
    let most : 10 ^ min precision 38 ≤ 10 ^ 38 = pow-le-pow_right {n = 10} (omega arith) {i = min precision 38} within in
    record { digits = omega arith; places = omega arith }

pub fits_lawful : (kind : SqlType) (a : Value) → fits_of kind a ≡ true → IsLawful a
fits_lawful kind v.Null h = tt
fits_lawful t.Small (v.Int n) h = signed_more 15 63 n (omega arith) h
fits_lawful t.Integer (v.Int n) h = signed_more 31 63 n (omega arith) h
fits_lawful t.Big (v.Int n) h = h
fits_lawful (t.Decimal precision scale) (v.Dec d) h = digits_lawful precision scale d h
fits_lawful (t.Varchar most) (v.Text text) h = tt
fits_lawful t.Bool (v.Bool b) h = tt
fits_lawful t.Date (v.Day day) h = h
fits_lawful t.Stamp (v.Micros micros) h = h
fits_lawful kind a h = cc

pub assigned_lawful : (kind : SqlType) (a b : Value) → assign_of kind a ≡ Ok b → IsLawful b
assigned_lawful kind a b h = fits_lawful kind b (assign_of-fits kind a b h)

pub row_lawful : (types : List SqlType) (row : List Value) → row_fits types row ≡ true → All IsLawful row
row_lawful [] [] h = All-nil IsLawful
row_lawful [] (a ∷ row) h = cc
row_lawful (kind ∷ types) [] h = cc
row_lawful (kind ∷ types) (a ∷ row) h =
    let both = and_parts (fits_of kind a) (row_fits types row) h in All-cons IsLawful a row (fits_lawful kind a both.0) (row_lawful types row both.1)

-- ---- ties

-- of one scale
one_number : (x y : Dec) → x.scale ≡ y.scale → number_cmp x y ≡ Equal → x ≡ y
one_number x y same h =
    let units = cancelled x.units y.units (10 ^ y.scale) (ten_positive y.scale) (same_from x y h ∙ ap (λ k. y.units *ℤ pos (10 ^ k)) same) in λ i. record { units = units i; scale = same i }

one_decimal : (kind : SqlType) (x y : Dec) → fits_of kind (v.Dec x) ≡ true → fits_of kind (v.Dec y) ≡ true → number_cmp x y ≡ Equal → x ≡ y
one_decimal (t.Decimal precision scale) x y h k e = one_number x y (at x h ∙ sym (at y k)) e
  where
    at : (d : Dec) → has_digits precision scale d ≡ true → d.scale ≡ scale
    at d g = eqb-true d.scale scale (and_parts (d.scale == scale) (nat_le scale 38) (and_parts ((d.scale == scale) && nat_le scale 38) (nat_lt (unsigned_abs d.units) (10 ^ min precision 38)) g).0).0
one_decimal kind x y h k e = cc

not_both : (kind : SqlType) (n : ℤ) (d : Dec) → fits_of kind (v.Int n) ≡ true → fits_of kind (v.Dec d) ≡ true → ⊥
not_both (t.Decimal precision scale) n d h k = cc
not_both kind n d h k = cc

pub one_value : (kind : SqlType) (a b : Value) → fits_of kind a ≡ true → fits_of kind b ≡ true → order_of a b ≡ Equal → a ≡ b
one_value kind v.Null v.Null h k e = refl
one_value kind (v.Int x) (v.Int y) h k e = ap v.Int (int_ranked x y Equal (sym e))
one_value kind (v.Int x) (v.Dec y) h k e = absurd (not_both kind x y h k)
one_value kind (v.Dec x) (v.Int y) h k e = absurd (not_both kind y x k h)
one_value kind (v.Dec x) (v.Dec y) h k e = ap v.Dec (one_decimal kind x y h k e)
one_value kind (v.Text x) (v.Text y) h k e = ap v.Text (texts_alike x y e)
one_value kind (v.Bool x) (v.Bool y) h k e = ap v.Bool (truths_alike x y e)
one_value kind (v.Day x) (v.Day y) h k e = ap v.Day (int_ranked x y Equal (sym e))
one_value kind (v.Micros x) (v.Micros y) h k e = ap v.Micros (int_ranked x y Equal (sym e))
one_value kind a b h k e = cc

pub one_row : (types : List SqlType) (a b : List Value) → row_fits types a ≡ true → row_fits types b ≡ true → row_order_of a b ≡ Equal → a ≡ b
one_row [] [] [] h k e = refl
one_row [] (x ∷ a) b h k e = cc
one_row [] [] (y ∷ b) h k e = cc
one_row (kind ∷ types) [] b h k e = cc
one_row (kind ∷ types) (x ∷ a) [] h k e = cc
one_row (kind ∷ types) (x ∷ a) (y ∷ b) h k e =
    let left = and_parts (fits_of kind x) (row_fits types a) h in
    let right = and_parts (fits_of kind y) (row_fits types b) k in
    let ties = then_Equal (order_of x y) (row_order_of a b) e in
    let head = one_value kind x y left.0 right.0 ties.0 in
    let tail = one_row types a b left.1 right.1 ties.1 in λ i. head i ∷ tail i
