-- The number that a text spells is found by its first point.
use Rattle.std.proofs.Common.{◌≡◌, ◌≢◌, ℕ, ◌+◌, ◌<◌, ◌≤◌, List, [], ◌∷◌, ◌++◌, Option, Some, None, ◌↔◌, Bool, true, false, not, length, get_or, take, drop, pos, ℤ, refl, sym, ap, ◌∙◌, ◌⊎◌, inl, inr, arith, if◌then◌else◌, ◌==◌}
use Rattle.std.specs.List.{position_or_len}
use Rattle.std.specs.Int.{IsInRange}
use Rattle.std.specs.Str.{all_ascii_digits}
use Rattle.std.specs.Str.Parse.{AllDigits, digits_value}
use Rattle.std.proofs.lemmas.Bool.{eqb-true, eqb-false, eq-eqb, ne_eqb}
use Rattle.std.proofs.lemmas.Bool.Decides.{nat_tests}
use Rattle.std.proofs.lemmas.List.{append-nil, length-append, length-drop}
use Rattle.std.proofs.lemmas.List.Sums.{position_or_len_is, split_at_first, passes_at_first, prefix_len-le-length}
use Rattle.std.proofs.lemmas.Str.Parse.{digit_at}
use Rattle.std.proofs.Math.ListN.{get_or-append}
use Rattle.std.proofs.Math.Seq.{take-append_seam, drop-append-add, get_or-append_seam}
use Rattle.hs_decimal.proofs.Numerals.{tested}
use Rattle.hs_decimal.specs.Text.{Spells, whole, pointed, read_of, number_of}
use Rattle.hs_values.specs.declared.value.Dec.{Dec}

-- digits in front of a point and behind it, of which there are not too many, are a number
pub number_of_digits : (xs ys : List ℕ) (units : ℤ) → 0 < length xs → length xs + length ys ≤ 38 → all_ascii_digits xs ≡ true → all_ascii_digits ys ≡ true → units ≡ pos (digits_value 10 (xs ++ ys)) → Some (record { units = units; scale = length ys }) ≡ number_of xs ys
number_of_digits xs ys units some few all more is = grind (arith, nat_tests)

-- and nothing else is one
record AreNumber (xs ys : List ℕ) (d : Dec) : Type 0 where
  some : 0 < length xs
  few : length xs + length ys ≤ 38
  all : all_ascii_digits xs ≡ true
  more : all_ascii_digits ys ≡ true
  value : d ≡ record { units = pos (digits_value 10 (xs ++ ys)); scale = length ys }

are_number : (xs ys : List ℕ) (d : Dec) → number_of xs ys ≡ Some d → AreNumber xs ys d
are_number xs ys d is = record {
  some = grind (arith, nat_tests);
  few = grind (arith, nat_tests);
  all = grind (arith, nat_tests);
  more = grind (arith, nat_tests);
  value = grind (arith, nat_tests);
}

-- ---- the first point

abbrev place : List ℕ → ℕ
place text = position_or_len (λ b. b == 46) text

no_point : (ds rest : List ℕ) (k : ℕ) → AllDigits 10 ds → k < length ds → (get_or (ds ++ rest) k 0 == 46) ≡ false
no_point ds rest k all lt =
    let digit : IsInRange 48 57 (get_or ds k 0) = digit_at ds k all lt in
    rw (get_or-append ds rest 0 k lt) (grind (arith, nat_tests))

place-digits : (ds : List ℕ) → AllDigits 10 ds → place ds ≡ length ds
place-digits ds all =
    position_or_len_is (λ b. b == 46) ds (length ds) 0 (omega arith)
    (λ k lt. rw (sym (append-nil ds)) (no_point ds [] k all lt)) (λ lt. absurd (omega arith))

place-pointed : (ds fraction : List ℕ) → AllDigits 10 ds → place (ds ++ 46 ∷ fraction) ≡ length ds
place-pointed ds fraction all =
    position_or_len_is (λ b. b == 46) (ds ++ 46 ∷ fraction) (length ds) 0 (omega (arith, length-append ds (46 ∷ fraction)))
    (λ k lt. no_point ds (46 ∷ fraction) k all lt) (λ _. eq-eqb _ 46 (get_or-append_seam ds 46 fraction 0))

-- ---- what is spelled is read

read_of-digits : (ds : List ℕ) → AllDigits 10 ds → read_of ds ≡ number_of ds []
unfolding read_of
read_of-digits ds all = rw (eq-eqb (place ds) (length ds) (place-digits ds all)) refl

-- two tests that fail leave the last
left : (b c : Bool) (x y : Option Dec) → b ≡ false → c ≡ false → (if b then x else (if c then None else y)) ≡ y
left b c x y first second = rw (first, second) refl

parted : (ds fraction : List ℕ) (point : ℕ) → point ≡ length ds → number_of (take point (ds ++ 46 ∷ fraction)) (drop (point + 1) (ds ++ 46 ∷ fraction)) ≡ number_of ds fraction
parted ds fraction point is = rw (is, take-append_seam ds (46 ∷ fraction), drop-append-add ds (46 ∷ fraction) 1) refl

read_of-pointed : (ds fraction : List ℕ) → AllDigits 10 ds → 0 < length fraction → read_of (ds ++ 46 ∷ fraction) ≡ number_of ds fraction
unfolding read_of
read_of-pointed ds fraction all some =
    let text = ds ++ 46 ∷ fraction in
    let point = place-pointed ds fraction all in
    let size = length-append ds (46 ∷ fraction) in
    left (place text == length text) (place text + 1 == length text) (number_of text []) (number_of (take (place text) text) (drop (place text + 1) text))
    (ne_eqb _ _ (omega (arith, point, size))) (ne_eqb _ _ (omega (arith, point, size)))
    ∙ parted ds fraction (place text) point

pub is_read : (text : List ℕ) (d : Dec) → Spells text d → read_of text ≡ Some d
is_read _ _ (whole ds numeral few) =
    read_of-digits ds numeral.1 ∙ sym (number_of_digits ds [] (pos (digits_value 10 ds)) numeral.0 (omega arith) (tested.from ds numeral.1) refl (ap (λ all. pos (digits_value 10 all)) (sym (append-nil ds))))
is_read _ _ (pointed ds fraction numeral behind few) =
    read_of-pointed ds fraction numeral.1 behind.0 ∙ sym (number_of_digits ds fraction (pos (digits_value 10 (ds ++ fraction))) numeral.0 few (tested.from ds numeral.1) (tested.from fraction behind.1) refl)

-- ---- what is read is spelled

-- what the two tests choose
chosen : (b c : Bool) (x y : Option Dec) (d : Dec) → (if b then x else (if c then None else y)) ≡ Some d → ((b ≡ true) × (x ≡ Some d)) ⊎ ((b ≡ false) × (c ≡ false) × (y ≡ Some d))
chosen true c x y d is = inl (refl, is)
chosen false true x y d is = absurd (cc)
chosen false false x y d is = inr (refl, refl, is)

whole_spelled : (text : List ℕ) (d : Dec) → number_of text [] ≡ Some d → Spells text d
whole_spelled text d is =
    let n = are_number text [] d is in
    let value : d ≡ record { units = pos (digits_value 10 text); scale = 0 } = n.value ∙ ap (λ ds. let r : Dec = record { units = pos (digits_value 10 ds); scale = 0 } in r) (append-nil text) in
    rw value (whole text (n.some, tested.to text n.all) (omega (arith, n.few)))

pointed_spelled : (text xs ys : List ℕ) (d : Dec) → text ≡ xs ++ 46 ∷ ys → 0 < length ys → number_of xs ys ≡ Some d → Spells text d
pointed_spelled text xs ys d split some is =
    let n = are_number xs ys d is in
    rw (split, n.value) (pointed xs ys (n.some, tested.to xs n.all) (some, tested.to ys n.more) n.few)

-- a text with a point in it, before its end
after_point : (text : List ℕ) (d : Dec) → (place text == length text) ≡ false → (place text + 1 == length text) ≡ false → number_of (take (place text) text) (drop (place text + 1) text) ≡ Some d → Spells text d
after_point text d inside more is =
    let most : place text ≤ length text = prefix_len-le-length (λ b. not (b == 46)) text in
    let not_end : place text ≢ length text = eqb-false _ _ inside in
    let not_last : place text + 1 ≢ length text = eqb-false _ _ more in
    let within : place text < length text = omega arith in
    let point : get_or text (place text) 0 ≡ 46 = eqb-true _ _ (passes_at_first (λ b. b == 46) text 0 within) in
    let split : text ≡ take (place text) text ++ get_or text (place text) 0 ∷ drop (place text + 1) text = split_at_first (λ b. b == 46) text 0 within in
    pointed_spelled text (take (place text) text) (drop (place text + 1) text) d
    (split ∙ ap (λ b. take (place text) text ++ b ∷ drop (place text + 1) text) point)
    (omega (arith, length-drop (place text + 1) text)) is

is_spelled : (text : List ℕ) (d : Dec) → read_of text ≡ Some d → Spells text d
unfolding read_of
is_spelled text d is =
    elim (chosen (place text == length text) (place text + 1 == length text) (number_of text []) (number_of (take (place text) text) (drop (place text + 1) text)) d is) [
      | inl one ↦ whole_spelled text d one.1
      | inr two ↦ after_point text d two.0 two.1 two.2
    ]

pub spelled : (text : List ℕ) (answer : Option Dec) → answer ≡ read_of text → (d : Dec) → (answer ≡ Some d) ↔ Spells text d
spelled text answer is d = (λ found. is_spelled text d (sym is ∙ found), λ spells. is ∙ is_read text d spells)
