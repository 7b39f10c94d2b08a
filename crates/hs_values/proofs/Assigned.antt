-- What is stored, from a number at the column's scale.
use Rattle.std.proofs.Common.{◌≡◌, ℕ, ◌+◌, ◌^◌, ◌<◌, ◌≤◌, true, false, ◌&&◌, ℤ, pos, negsuc, ◌*ℤ◌, FitsSigned, Ok, Err, refl, sym, ap, subst, ◌∙◌, arith, inl, inr, min}
use Rattle.std.specs.Prelude.{◌==◌, unsigned_abs, if◌then◌else◌, nat_lt, nat_le}
use Rattle.std.specs.Int.{w64}
use Rattle.std.specs.Int.Signed.{mag}
use Rattle.std.proofs.Math.Nat.{pow-le-pow_right, sub_self}
use Rattle.std.proofs.Math.IntN.{one, *ℤ-one}
use Rattle.std.proofs.lemmas.Bool.{cond-true, cond-false, cases_Bool, and_parts, le-ltb, lt-ltb, ltb-true, ltb-false, le-leb, eqb-true, true≢false}
use Rattle.hs_values.specs.declared.fault.EvalFault.{EvalFault}
use Rattle.hs_values.specs.declared.fault.EvalFault.TheVariants.{Range}
use Rattle.hs_values.specs.declared.sql_type.SqlType.{SqlType}
use Rattle.hs_values.specs.declared.sql_type.SqlType.TheVariants as t
use Rattle.hs_values.specs.declared.value.Dec.{Dec}
use Rattle.hs_values.specs.declared.value.Value.{Value}
use Rattle.hs_values.specs.declared.value.Value.TheVariants as v
use Rattle.hs_values.specs.Decimal.{units_at, checked_of, rescaled_of}
use Rattle.hs_values.specs.SqlType.{has_digits, fits_of, column_form, misfit_of, assign_of, is_signed}

abbrev IsNoDecimal : SqlType → Type 0
IsNoDecimal sql_type = (precision scale : ℕ) → ¬ (sql_type ≡ t.Decimal precision scale)

-- the units of what is lawful at a scale
rescaled-Ok : (d x : Dec) (scale : ℕ) → rescaled_of d scale ≡ Ok x → x ≡ record { units = units_at d scale; scale = scale }
unfolding rescaled_of checked_of
rescaled-Ok d x scale e = elim (cases_Bool (nat_lt (unsigned_abs (units_at d scale)) (10 ^ 38) && nat_le scale 38)) [
  | inl both ↦ let at : rescaled_of d scale ≡ Ok (record { units = units_at d scale; scale = scale }) = cond-true _ _ _ both in cc
  | inr other ↦ let at : rescaled_of d scale ≡ Err Range = cond-false _ _ _ other in cc
]

rescaled-Err : (d : Dec) (fault : EvalFault) (scale : ℕ) → rescaled_of d scale ≡ Err fault → (fault ≡ Range) × (nat_lt (unsigned_abs (units_at d scale)) (10 ^ 38) && nat_le scale 38 ≡ false)
unfolding rescaled_of checked_of
rescaled-Err d fault scale e = elim (cases_Bool (nat_lt (unsigned_abs (units_at d scale)) (10 ^ 38) && nat_le scale 38)) [
  | inl both ↦ let at : rescaled_of d scale ≡ Ok (record { units = units_at d scale; scale = scale }) = cond-true _ _ _ both in cc
  | inr other ↦ let at : rescaled_of d scale ≡ Err Range = cond-false _ _ _ other in (cc, other)
]

fits_from_mag : (u : ℤ) → mag u < 2 ^ 63 → FitsSigned w64 u
fits_from_mag u h = record { sfits = h }

-- what has more than 38 digits is no value of any type
unfit_digits : (p s : ℕ) (u : ℤ) → nat_lt (unsigned_abs u) (10 ^ 38) && nat_le s 38 ≡ false → has_digits p s (record { units = u; scale = s }) ≡ false
unfit_digits p s u h = elim (cases_Bool (has_digits p s (record { units = u; scale = s }))) [
  | inr other ↦ other
  | inl held ↦
      let parts = and_parts ((s == s) && nat_le s 38) (nat_lt (unsigned_abs u) (10 ^ min p 38)) held in
      let places = (and_parts (s == s) (nat_le s 38) parts.0).1 in
      let few : unsigned_abs u < 10 ^ min p 38 = ltb-true _ _ parts.1 in
      let most : 10 ^ min p 38 ≤ 10 ^ 38 = pow-le-pow_right {n = 10} (omega arith) {j = 38} (omega arith) in
      let digits : nat_lt (unsigned_abs u) (10 ^ 38) ≡ true = lt-ltb (unsigned_abs u) (10 ^ 38) (omega arith) in
      let both : nat_lt (unsigned_abs u) (10 ^ 38) && nat_le s 38 ≡ true = (λ i. digits i && places i) in
      absurd (true≢false (sym both ∙ h))
]

far : (u : ℤ) → ¬ (FitsSigned w64 u) → 2 ^ 63 ≤ mag u
far u wide = grind (arith, fits_from_mag u)

size_by_mag : (u : ℤ) → unsigned_abs u ≤ mag u + 1
size_by_mag (pos n) = omega arith
size_by_mag (negsuc n) = omega arith

many_far : (u : ℤ) → nat_lt (unsigned_abs u) (10 ^ 38) && nat_le 0 38 ≡ false → 2 ^ 63 ≤ mag u
many_far u h = elim (cases_Bool (nat_lt (unsigned_abs u) (10 ^ 38))) [
  | inl few ↦ absurd (true≢false (sym (λ i. few i && nat_le 0 38) ∙ h))
  | inr many ↦ omega (arith, size_by_mag u, ltb-false (unsigned_abs u) (10 ^ 38) many)
]

unsigned_far : (bits : ℕ) (u : ℤ) → 2 ^ bits ≤ mag u → is_signed bits u ≡ false
unsigned_far bits (pos n) h = le-ltb n (2 ^ bits) h
unsigned_far bits (negsuc n) h = le-ltb n (2 ^ bits) h

-- nor is a whole number of more than 64 bits
unfit_whole : (sql_type : SqlType) (u : ℤ) → 2 ^ 63 ≤ mag u → fits_of sql_type (v.Int u) ≡ false
unfit_whole t.Small u h = unsigned_far 15 u (omega arith)
unfit_whole t.Integer u h = unsigned_far 31 u (omega arith)
unfit_whole t.Big u h = unsigned_far 63 u h
unfit_whole (t.Decimal precision scale) u h = refl
unfit_whole (t.Varchar max) u h = refl
unfit_whole t.Bool u h = refl
unfit_whole t.Date u h = refl
unfit_whole t.Stamp u h = refl

-- a number that is too long for a DECIMAL column
pub decimal_misfit : (p s : ℕ) (d : Dec) (fault : EvalFault) → rescaled_of d s ≡ Err fault → assign_of (t.Decimal p s) (v.Dec d) ≡ Err fault
decimal_misfit p s d fault e =
    let at = rescaled-Err d fault s e in
    cond-false _ _ _ (unfit_digits p s (units_at d s) at.1) ∙ ap Err (sym at.0)

pub decimal_stored : (p s : ℕ) (d x : Dec) → rescaled_of d s ≡ Ok x → assign_of (t.Decimal p s) (v.Dec d) ≡ (if fits_of (t.Decimal p s) (v.Dec x) then Ok (v.Dec x) else Err Range)
decimal_stored p s d x e = ap (λ y. if fits_of (t.Decimal p s) (v.Dec y) then Ok (v.Dec y) else Err Range) (sym (rescaled-Ok d x s e))

-- a number in a column of another type
whole_number : (sql_type : SqlType) (d : Dec) → IsNoDecimal sql_type → assign_of sql_type (v.Dec d) ≡ (if fits_of sql_type (v.Int (units_at d 0)) then Ok (v.Int (units_at d 0)) else Err Range)
whole_number t.Small d n = refl
whole_number t.Integer d n = refl
whole_number t.Big d n = refl
whole_number (t.Decimal precision scale) d n = absurd (n precision scale refl)
whole_number (t.Varchar max) d n = refl
whole_number t.Bool d n = refl
whole_number t.Date d n = refl
whole_number t.Stamp d n = refl

pub whole_misfit : (sql_type : SqlType) (d : Dec) (fault : EvalFault) → IsNoDecimal sql_type → rescaled_of d 0 ≡ Err fault → assign_of sql_type (v.Dec d) ≡ Err fault
whole_misfit sql_type d fault n e =
    let at = rescaled-Err d fault 0 e in
    let wide : 2 ^ 63 ≤ mag (units_at d 0) = many_far (units_at d 0) at.1 in
    whole_number sql_type d n ∙ cond-false _ _ _ (unfit_whole sql_type (units_at d 0) wide) ∙ ap Err (sym at.0)

pub whole_stored : (sql_type : SqlType) (d x : Dec) → IsNoDecimal sql_type → rescaled_of d 0 ≡ Ok x → assign_of sql_type (v.Dec d) ≡ (if fits_of sql_type (v.Int x.units) then Ok (v.Int x.units) else Err Range)
whole_stored sql_type d x n e = whole_number sql_type d n ∙ ap (λ y. if fits_of sql_type (v.Int y.units) then Ok (v.Int y.units) else Err Range) (sym (rescaled-Ok d x 0 e))

pub too_wide_whole : (sql_type : SqlType) (u : ℤ) → ¬ (FitsSigned w64 u) → fits_of sql_type (v.Int u) ≡ false
too_wide_whole sql_type u wide = unfit_whole sql_type u (far u wide)

-- a value of the type is in the column's form already
same_scale : (d : Dec) (scale : ℕ) → d.scale ≡ scale → record { units = units_at d scale; scale = scale } ≡ d
unfolding units_at one
same_scale d scale e =
    let at : units_at d d.scale ≡ d.units = cond-true _ _ _ (le-leb d.scale d.scale (omega arith)) ∙ ap (λ k. d.units *ℤ pos (10 ^ k)) (sub_self d.scale) ∙ *ℤ-one d.units in
    subst (λ k. record { units = units_at d k; scale = k } ≡ d) e (λ i. record { units = at i; scale = d.scale })

form_kept : (sql_type : SqlType) (a : Value) → fits_of sql_type a ≡ true → column_form sql_type a ≡ a
form_kept (t.Decimal precision scale) v.Null h = refl
form_kept (t.Decimal precision scale) (v.Int n) h = cc
form_kept (t.Decimal precision scale) (v.Dec d) h =
    let parts = and_parts ((d.scale == scale) && nat_le scale 38) (nat_lt (unsigned_abs d.units) (10 ^ min precision 38)) h in
    ap v.Dec (same_scale d scale (eqb-true d.scale scale (and_parts (d.scale == scale) (nat_le scale 38) parts.0).0))
form_kept (t.Decimal precision scale) a h = refl
form_kept sql_type (v.Dec d) h = cc
form_kept sql_type a h = refl

pub assign_of-kept : (sql_type : SqlType) (a : Value) → fits_of sql_type a ≡ true → assign_of sql_type a ≡ Ok a
assign_of-kept sql_type a h =
    let form = form_kept sql_type a h in
    cond-true _ _ _ (ap (fits_of sql_type) form ∙ h) ∙ ap Ok form

pub assign_of-fits : (sql_type : SqlType) (a b : Value) → assign_of sql_type a ≡ Ok b → fits_of sql_type b ≡ true
assign_of-fits sql_type a b h = elim (cases_Bool (fits_of sql_type (column_form sql_type a))) [
  | inl held ↦
      let at : assign_of sql_type a ≡ Ok (column_form sql_type a) = cond-true _ _ _ held in
      let same : column_form sql_type a ≡ b = cc in ap (fits_of sql_type) (sym same) ∙ held
  | inr other ↦ let at : assign_of sql_type a ≡ Err (misfit_of a) = cond-false _ _ _ other in cc
]
