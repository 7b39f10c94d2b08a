-- Reading is the inverse of printing, both ways.
use Rattle.std.proofs.Common.{◌≡◌, ◌≢◌, ℕ, zero, suc, ◌*◌, Bool, true, false, List, nat_eq, Option, Some, None, MatchOption, Ok, refl, sym, ap, ◌∙◌, arith, ℤ, pos, ◌+ℤ◌, ◌*ℤ◌, ◌<ℤ◌, ◌≤ℤ◌}
use Rattle.std.specs.Prelude.{ok_or, if◌then◌else◌}
use Rattle.std.specs.Cmp.Lexicographic.{pointwise, same_text, other_text}
use Rattle.std.proofs.lemmas.Int.{by_lt_z}
use Rattle.jiff_core.proofs.SignedLemmas.{signed_arith}
use Rattle.hs_values.specs.declared.fault.EvalFault.{EvalFault}
use Rattle.hs_values.specs.declared.fault.EvalFault.TheVariants.{BadDate}
use Rattle.hs_temporal.specs.Days.{first_day, day_total, day_micros, IsDay, IsMicros}
use Rattle.hs_temporal.specs.Texts.{date_text, stamp_text, filled}
use Rattle.hs_temporal.specs.Reading.{first_from, date_in, stamp_in}
use Rattle.hs_temporal.proofs.StampLemmas.{date_text-injective, stamp_text-injective, filled-stamp_text, sum-time_of}

-- what is told of a number read from a text: it has the text, or, where there is none, no number has it
abbrev pub Reads : (ℤ → Type 0) → (ℤ → List ℕ) → List ℕ → Option ℤ → Type 0
Reads Is text_of text r = MatchOption r ((n : ℤ) → Is n → text_of n ≢ text) (λ n. Is n × (text_of n ≡ text))

-- what the search finds
Finds : (ℤ → Bool) → ℤ → ℕ → Option ℤ → Type 0
Finds test low n r =
    MatchOption r ((x : ℤ) → low ≤ℤ x → x <ℤ (low +ℤ pos n) → test x ≡ false)
    (λ x. (low ≤ℤ x) × (x <ℤ (low +ℤ pos n)) × (test x ≡ true))

finds_here : (test : ℤ → Bool) (low : ℤ) (n : ℕ) (b : Bool) (r : Option ℤ) → b ≡ test low → Finds test (low +ℤ pos 1) n r → Finds test low (suc n) (if b then Some low else r)
unfolding Finds
finds_here test low n true r e found = (omega (arith, signed_arith), omega (arith, signed_arith), sym e)
finds_here test low n false None e none = λ x at_least below.
    by_lt_z low x
    (λ later. none x (omega (arith, signed_arith)) (omega (arith, signed_arith)))
    (λ back. let here : x ≡ low = omega (arith, signed_arith) in rw here (sym e))
finds_here test low n false (Some x) e found = (omega (arith, signed_arith, found.0), omega (arith, signed_arith, found.1), found.2)

finds : (test : ℤ → Bool) (low : ℤ) (n : ℕ) → Finds test low n (first_from test low n)
unfolding first_from Finds
finds test low zero = λ x at_least below. absurd (omega (arith, signed_arith))
finds test low (suc n) = finds_here test low n (test low) (first_from test (low +ℤ pos 1) n) refl (finds test (low +ℤ pos 1) n)

-- of numbers with a text each the search finds what was read
found_is : (Is : ℤ → Type 0) (text_of : ℤ → List ℕ) (text : List ℕ) (low : ℤ) (n : ℕ) → ((x : ℤ) → Is x → (low ≤ℤ x) × (x <ℤ (low +ℤ pos n))) → ((x : ℤ) → low ≤ℤ x → x <ℤ (low +ℤ pos n) → Is x) → ((x y : ℤ) → Is x → Is y → text_of x ≡ text_of y → x ≡ y) → (r found : Option ℤ) → Reads Is text_of text r → Finds (λ x. pointwise nat_eq (text_of x) text) low n found → found ≡ r
unfolding Finds
found_is Is text_of text low n range back one None None h found = refl
found_is Is text_of text low n range back one None (Some x) h found =
    absurd (h x (back x found.0 found.1) (same_text _ _ (sym found.2)))
found_is Is text_of text low n range back one (Some y) None h found =
    absurd (other_text _ _ (sym (found y (range y h.0).0 (range y h.0).1)) h.1)
found_is Is text_of text low n range back one (Some y) (Some x) h found =
    ap Some (one x y (back x found.0 found.1) h.0 (same_text _ _ (sym found.2) ∙ sym h.1))

pub date_in-reads : (text : List ℕ) (r : Option ℤ) → Reads IsDay date_text text r → ok_or r BadDate ≡ date_in text
unfolding date_in
date_in-reads text r h =
    sym (ap (λ found. ok_or found BadDate) (found_is IsDay date_text text first_day day_total
    (λ x is. (is.0, omega (arith, signed_arith, is.1)))
    (λ x low high. (low, omega (arith, signed_arith, high)))
    date_text-injective r _ h (finds _ first_day day_total)))

pub stamp_in-reads : (text : List ℕ) (r : Option ℤ) → Reads IsMicros stamp_text (filled text) r → ok_or r BadDate ≡ stamp_in text
unfolding stamp_in
stamp_in-reads text r h =
    sym (ap (λ found. ok_or found BadDate) (found_is IsMicros stamp_text (filled text) (first_day *ℤ pos day_micros) (day_total * day_micros)
    (λ x is. (omega (arith, signed_arith, is.0, sum-time_of x), omega (arith, signed_arith, is.1, sum-time_of x)))
    (λ x low high. (omega (arith, signed_arith, low, sum-time_of x), omega (arith, signed_arith, high, sum-time_of x)))
    stamp_text-injective r _ h (finds _ (first_day *ℤ pos day_micros) (day_total * day_micros))))

-- reading gives back what was printed
pub date_in-date_text : (day : ℤ) → IsDay day → date_in (date_text day) ≡ Ok day
date_in-date_text day h = sym (date_in-reads (date_text day) (Some day) (h, refl))

pub stamp_in-stamp_text : (micros : ℤ) → IsMicros micros → stamp_in (stamp_text micros) ≡ Ok micros
stamp_in-stamp_text micros h = sym (stamp_in-reads (stamp_text micros) (Some micros) (h, sym (filled-stamp_text micros)))

found_text : (Is : ℤ → Type 0) (text_of : ℤ → List ℕ) (text : List ℕ) (low : ℤ) (n : ℕ) (x : ℤ) → ((x : ℤ) → low ≤ℤ x → x <ℤ (low +ℤ pos n) → Is x) → (found : Option ℤ) → Finds (λ x. pointwise nat_eq (text_of x) text) low n found → ok_or {E = EvalFault} found BadDate ≡ Ok x → Is x × (text_of x ≡ text)
unfolding Finds
found_text Is text_of text low n x back None none e = absurd (cc)
found_text Is text_of text low n x back (Some y) found e =
    let same : y ≡ x = cc in
    rw (← same) (back y found.0 found.1, same_text _ _ (sym found.2))

-- and what is read has the text
pub date_text-date_in : (text : List ℕ) (day : ℤ) → date_in text ≡ Ok day → IsDay day × (date_text day ≡ text)
unfolding date_in
date_text-date_in text day e = found_text IsDay date_text text first_day day_total day (λ x low high. (low, omega (arith, signed_arith, high))) _ (finds _ first_day day_total) e

pub stamp_text-stamp_in : (text : List ℕ) (micros : ℤ) → stamp_in text ≡ Ok micros → IsMicros micros × (stamp_text micros ≡ filled text)
unfolding stamp_in
stamp_text-stamp_in text micros e =
    found_text IsMicros stamp_text (filled text) (first_day *ℤ pos day_micros) (day_total * day_micros) micros
    (λ x low high. (omega (arith, signed_arith, low, sum-time_of x), omega (arith, signed_arith, high, sum-time_of x)))
    _ (finds _ (first_day *ℤ pos day_micros) (day_total * day_micros)) e
