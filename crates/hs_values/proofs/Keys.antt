-- Equal values have identical keys.
use Rattle.std.proofs.Common.{◌≡◌, ℕ, zero, suc, ◌+◌, ◌-◌, ◌*◌, ◌%◌, ◌^◌, ◌<◌, ◌≤◌, ◌⊎◌, ◌↔◌, inl, inr, Bool, true, false, List, [], ◌∷◌, map, ℤ, pos, negsuc, neg_ℤ, ◌*ℤ◌, ◌+ℤ◌, refl, sym, ap, subst, ◌∙◌, arith}
use Rattle.std.specs.Prelude.{int_div, int_rem, nat_le}
use Rattle.std.specs.declared.cmp.Ordering.{Ordering}
use Rattle.std.specs.declared.cmp.Ordering.TheVariants.{Less, Equal, Greater}
use Rattle.std.specs.Ordering.{nat_cmp, int_eq, bool_cmp, is_eq, ordering_then}
use Rattle.std.specs.Cmp.{int_ranked, int_cmp_is, signed_Decides, tied_itself, alike_right}
use Rattle.std.specs.Cmp.Lexicographic.{slice_cmp, bytes_decides, texts_ties}
use Rattle.std.proofs.lemmas.Bool.{cond-true, cond-false, cases_Bool, true≢false, leb-true, leb-false}
use Rattle.std.proofs.lemmas.Int.{quot-rem, ints}
use Rattle.std.proofs.lemmas.Nat.{pow-add}
use Rattle.std.proofs.Math.Nat.{pow-suc, add-zero}
use Rattle.std.proofs.Math.IntN.{one, *ℤ-one}
use Rattle.hs_values.specs.declared.value.Dec.{Dec}
use Rattle.hs_values.specs.declared.value.Value.{Value}
use Rattle.hs_values.specs.declared.value.Value.TheVariants as v
use Rattle.hs_values.specs.Key.{without_zeros, key_of}
use Rattle.hs_values.specs.Order.{whole, number_cmp, order_of, row_order_of}
use Rattle.hs_values.specs.TotalOrder.{order_of_total}
use Rattle.hs_values.specs.NumberOrder.{number_cmp_total, compared_times, times_times, times_swap, ten_positive}

-- units ending in a zero, behind the point
pub without_zeros_at_zero : (units : ℤ) (places : ℕ) → int_rem units (pos 10) ≡ pos 0 → without_zeros units (suc places) ≡ without_zeros (int_div units (pos 10)) places
unfolding without_zeros
without_zeros_at_zero units places h = cond-true _ _ _ ((signed_Decides (int_rem units (pos 10)) (pos 0)).1 h)

pub without_zeros_at_other : (units : ℤ) (places : ℕ) → ¬ (int_rem units (pos 10) ≡ pos 0) → without_zeros units (suc places) ≡ record { units = units; scale = suc places }
unfolding without_zeros
without_zeros_at_other units places h = elim (cases_Bool (int_eq (int_rem units (pos 10)) (pos 0))) [
  | inl zero_at_end ↦ absurd (h ((signed_Decides (int_rem units (pos 10)) (pos 0)).0 zero_at_end))
  | inr other ↦ cond-false _ _ _ other
]

pub without_zeros_of_whole : (units : ℤ) → without_zeros units zero ≡ whole units
unfolding without_zeros
without_zeros_of_whole units = refl

-- the same of a decimal as the code has it
pub zero_dropped : (units : ℤ) (scale : ℕ) → ¬ (scale ≡ 0) → int_rem units (pos 10) ≡ pos 0 → without_zeros (int_div units (pos 10)) (scale - 1) ≡ without_zeros units scale
zero_dropped units zero some h = absurd (some refl)
zero_dropped units (suc places) some h =
    let e : suc places - 1 ≡ places = omega arith in
    ap (without_zeros (int_div units (pos 10))) e ∙ sym (without_zeros_at_zero units places h)

pub none_at_end : (d : Dec) → ¬ (int_rem d.units (pos 10) ≡ pos 0) → d ≡ without_zeros d.units d.scale
none_at_end d h = by d.units d.scale h
  where
    by : (units : ℤ) (scale : ℕ) → ¬ (int_rem units (pos 10) ≡ pos 0) → record { units = units; scale = scale } ≡ without_zeros units scale
    by units zero h = sym (without_zeros_of_whole units)
    by units (suc places) h = sym (without_zeros_at_other units places h)

pub none_behind : (d : Dec) → d.scale ≡ 0 → d ≡ without_zeros d.units d.scale
none_behind d e = (λ i. record { units = d.units; scale = e i }) ∙ sym (without_zeros_of_whole d.units) ∙ ap (without_zeros d.units) (sym e)

-- the same number: a * 10^q is b * 10^p
abbrev IsSame : Dec → Dec → Type 0
IsSame a b = a.units *ℤ pos (10 ^ b.scale) ≡ b.units *ℤ pos (10 ^ a.scale)

pub same_from : (a b : Dec) → number_cmp a b ≡ Equal → IsSame a b
same_from a b h = int_ranked _ _ Equal (sym h)

pub same_to : (a b : Dec) → IsSame a b → number_cmp a b ≡ Equal
same_to a b h = sym (int_cmp_is (a.units *ℤ pos (10 ^ b.scale)) (b.units *ℤ pos (10 ^ a.scale)) Equal h)

-- a zero at the end is ten times the rest
tenfold : (units : ℤ) → int_rem units (pos 10) ≡ pos 0 → int_div units (pos 10) *ℤ pos 10 ≡ units
tenfold units h = let e : int_div units (pos 10) *ℤ pos 10 +ℤ int_rem units (pos 10) ≡ units = quot-rem units (pos 10) in omega (arith, ints)

rem_down : (m : ℕ) → m % 10 ≡ 0 → int_rem (neg_ℤ (pos m)) (pos 10) ≡ pos 0
rem_down zero e = ap pos e
rem_down (suc m) e = ap (λ k. neg_ℤ (pos k)) e

rem_tenfold : (a : ℤ) → int_rem (a *ℤ pos 10) (pos 10) ≡ pos 0
rem_tenfold (pos n) = ap pos (omega arith)
rem_tenfold (negsuc n) = rem_down (suc n * 10) (omega arith)

-- one place more, and one zero more
more_same : (a : Dec) (b units : ℤ) (p : ℕ) → IsSame a (record { units = b; scale = p }) → b *ℤ pos 10 ≡ units → IsSame a (record { units = units; scale = suc p })
more_same a b units p h e =
    ap (λ k. a.units *ℤ pos k) (pow-suc 10 p) ∙ sym (times_times a.units (10 ^ p) 10) ∙ ap (λ x. x *ℤ pos 10) h ∙ times_swap b (10 ^ a.scale) 10 ∙ ap (λ x. x *ℤ pos (10 ^ a.scale)) e

-- a decimal without the zeros at its end is the same number
pub without_zeros-is_same : (units : ℤ) (places : ℕ) → IsSame (without_zeros units places) (record { units = units; scale = places })
without_zeros-is_same units zero = subst (λ d. IsSame d (whole units)) (sym (without_zeros_of_whole units)) refl
without_zeros-is_same units (suc places) =
    elim (cases_Bool (int_eq (int_rem units (pos 10)) (pos 0))) [
      | inl at_end ↦
          let ends = (signed_Decides (int_rem units (pos 10)) (pos 0)).0 at_end in
          subst (λ d. IsSame d (record { units = units; scale = suc places })) (sym (without_zeros_at_zero units places ends))
          (more_same _ (int_div units (pos 10)) units places (without_zeros-is_same (int_div units (pos 10)) places) (tenfold units ends))
      | inr other ↦
          let others = λ (e : int_rem units (pos 10) ≡ pos 0). true≢false (sym ((signed_Decides (int_rem units (pos 10)) (pos 0)).1 e) ∙ other) in
          subst (λ d. IsSame d (record { units = units; scale = suc places })) (sym (without_zeros_at_other units places others)) refl
    ]

-- without digits behind the point, or with another last digit than zero
abbrev IsShort : Dec → Type 0
IsShort d = (d.scale ≡ 0) ⊎ (¬ (int_rem d.units (pos 10) ≡ pos 0))

without_zeros-short : (units : ℤ) (places : ℕ) → IsShort (without_zeros units places)
without_zeros-short units zero = subst IsShort (sym (without_zeros_of_whole units)) (inl refl)
without_zeros-short units (suc places) =
    elim (cases_Bool (int_eq (int_rem units (pos 10)) (pos 0))) [
      | inl at_end ↦
          subst IsShort (sym (without_zeros_at_zero units places ((signed_Decides (int_rem units (pos 10)) (pos 0)).0 at_end))) (without_zeros-short (int_div units (pos 10)) places)
      | inr other ↦
          let others = λ (e : int_rem units (pos 10) ≡ pos 0). true≢false (sym ((signed_Decides (int_rem units (pos 10)) (pos 0)).1 e) ∙ other) in
          subst IsShort (sym (without_zeros_at_other units places others)) (inr others)
    ]

pub cancelled : (a b : ℤ) (k : ℕ) → 0 < k → a *ℤ pos k ≡ b *ℤ pos k → a ≡ b
cancelled a b k p h =
    int_ranked a b Equal (int_cmp_is (a *ℤ pos k) (b *ℤ pos k) Equal h ∙ compared_times a b k p)

raised : (a b : Dec) → IsSame a b → a.scale ≤ b.scale → a.units *ℤ pos (10 ^ (b.scale - a.scale)) ≡ b.units
raised a b h le =
    let k = b.scale - a.scale in
    let whole_scale : k + a.scale ≡ b.scale = omega arith in
    cancelled _ b.units (10 ^ a.scale) (ten_positive a.scale)
    (times_times a.units (10 ^ k) (10 ^ a.scale) ∙ ap (λ x. a.units *ℤ pos x) (sym (pow-add 10 k a.scale) ∙ ap (λ x. 10 ^ x) whole_scale) ∙ h)

short_below : (a b : Dec) (k : ℕ) → IsShort b → a.scale + k ≡ b.scale → a.units *ℤ pos (10 ^ k) ≡ b.units → a ≡ b
unfolding one
short_below a b zero short s u = λ i. record { units = (sym (*ℤ-one a.units) ∙ u) i; scale = (sym (add-zero a.scale) ∙ s) i }
short_below a b (suc k) (inl at_point) s u = absurd (omega arith)
short_below a b (suc k) (inr last) s u =
    absurd (last (ap (λ x. int_rem x (pos 10)) (sym u ∙ ap (λ x. a.units *ℤ pos x) (pow-suc 10 k) ∙ sym (times_times a.units (10 ^ k) 10)) ∙ rem_tenfold (a.units *ℤ pos (10 ^ k))))

short_from : (a b : Dec) → IsShort b → IsSame a b → a.scale ≤ b.scale → a ≡ b
short_from a b short h le = short_below a b (b.scale - a.scale) short (omega arith) (raised a b h le)

-- the short form of a number is one
pub short_same : (a b : Dec) → IsShort a → IsShort b → IsSame a b → a ≡ b
short_same a b left right h = elim (cases_Bool (nat_le a.scale b.scale)) [
  | inl le ↦ short_from a b right h (leb-true a.scale b.scale le)
  | inr more ↦ let below : b.scale < a.scale = leb-false a.scale b.scale more in sym (short_from b a left (sym h) (omega arith))
]

-- the same, as the order tells it
pub shortened_ties : (units : ℤ) (places : ℕ) → number_cmp (without_zeros units places) (record { units = units; scale = places }) ≡ Equal
shortened_ties units places = same_to (without_zeros units places) (record { units = units; scale = places }) (without_zeros-is_same units places)

pub truths_alike : (x y : Bool) → bool_cmp x y ≡ Equal → x ≡ y
truths_alike false false h = refl
truths_alike false true h = cc
truths_alike true false h = cc
truths_alike true true h = refl

pub texts_alike : (xs ys : List ℕ) → slice_cmp nat_cmp xs ys ≡ Equal → xs ≡ ys
texts_alike xs ys h = (bytes_decides xs ys).0 (texts_ties xs ys ∙ ap is_eq h)

pub then_Equal : (r s : Ordering) → ordering_then r s ≡ Equal → (r ≡ Equal) × (s ≡ Equal)
then_Equal Less s h = cc
then_Equal Equal s h = (refl, h)
then_Equal Greater s h = cc

-- a value ties with its key
key_of-ties : (a : Value) → order_of (key_of a) a ≡ Equal
key_of-ties v.Null = refl
key_of-ties (v.Int n) = tied_itself number_cmp_total (whole n)
key_of-ties (v.Dec d) = shortened_ties d.units d.scale
key_of-ties (v.Text text) = tied_itself order_of_total (v.Text text)
key_of-ties (v.Bool b) = tied_itself order_of_total (v.Bool b)
key_of-ties (v.Day d) = tied_itself order_of_total (v.Day d)
key_of-ties (v.Micros m) = tied_itself order_of_total (v.Micros m)

-- values are in the order of their keys
pub order_of-key_of : (a b : Value) → order_of (key_of a) (key_of b) ≡ order_of a b
order_of-key_of a b =
    order_of_total.congr (key_of a) a (key_of b) (key_of-ties a) ∙ alike_right order_of_total (key_of b) b a (key_of-ties b)

-- two keys that tie are identical
keys_alike : (a b : Value) → order_of (key_of a) (key_of b) ≡ Equal → key_of a ≡ key_of b
keys_alike v.Null v.Null h = refl
keys_alike (v.Int x) (v.Int y) h = ap v.Dec (short_same (whole x) (whole y) (inl refl) (inl refl) (same_from (whole x) (whole y) h))
keys_alike (v.Int x) (v.Dec y) h = ap v.Dec (short_same (whole x) (without_zeros y.units y.scale) (inl refl) (without_zeros-short y.units y.scale) (same_from (whole x) (without_zeros y.units y.scale) h))
keys_alike (v.Dec x) (v.Int y) h = ap v.Dec (short_same (without_zeros x.units x.scale) (whole y) (without_zeros-short x.units x.scale) (inl refl) (same_from (without_zeros x.units x.scale) (whole y) h))
keys_alike (v.Dec x) (v.Dec y) h = ap v.Dec (short_same (without_zeros x.units x.scale) (without_zeros y.units y.scale) (without_zeros-short x.units x.scale) (without_zeros-short y.units y.scale) (same_from (without_zeros x.units x.scale) (without_zeros y.units y.scale) h))
keys_alike (v.Text x) (v.Text y) h = ap v.Text (texts_alike x y h)
keys_alike (v.Bool x) (v.Bool y) h = ap v.Bool (truths_alike x y h)
keys_alike (v.Day x) (v.Day y) h = ap v.Day (int_ranked x y Equal (sym h))
keys_alike (v.Micros x) (v.Micros y) h = ap v.Micros (int_ranked x y Equal (sym h))
keys_alike a b h = cc

pub equal_keys : (a b : Value) → (order_of a b ≡ Equal) ↔ (key_of a ≡ key_of b)
equal_keys a b = (
  λ h. keys_alike a b (order_of-key_of a b ∙ h),
  λ e. sym (order_of-key_of a b) ∙ ap (order_of (key_of a)) (sym e) ∙ tied_itself order_of_total (key_of a),
)

-- so it is for rows
pub equal_row_keys : (xs ys : List Value) → (row_order_of xs ys ≡ Equal) ↔ (map key_of xs ≡ map key_of ys)
equal_row_keys [] [] = (λ h. refl, λ e. refl)
equal_row_keys [] (y ∷ ys) = (λ h. cc, λ e. cc)
equal_row_keys (x ∷ xs) [] = (λ h. cc, λ e. cc)
equal_row_keys (x ∷ xs) (y ∷ ys) =
    let first = equal_keys x y in
    let rest = equal_row_keys xs ys in (
      λ h. let both = then_Equal (order_of x y) (row_order_of xs ys) h in λ i. first.0 both.0 i ∷ rest.0 both.1 i,
      λ e. let head : key_of x ≡ key_of y = cc in let tail : map key_of xs ≡ map key_of ys = cc in λ i. ordering_then (first.1 head i) (rest.1 tail i),
    )
