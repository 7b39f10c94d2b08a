-- How bytes lead from one place to another.
use Rattle.std.proofs.Common.{◌≡◌, ◌≢◌, ℕ, ◌+◌, ◌<◌, ◌≤◌, true, false, List, [], ◌∷◌, ◌++◌, Some, length, take, drop, slice_index, slice_range, refl, sym, ap, ◌∙◌, arith}
use Rattle.std.proofs.lemmas.List.{take_more}
use Rattle.std.proofs.Math.Seq.{take-add}
use Rattle.hs_entries.proofs.Spans.{span-append, span_one, take-span}
use Rattle.std.proofs.lemmas.Grind.{common_steps}
use Rattle.hs_entries.specs.declared.place.Place.{Place}
use Rattle.hs_entries.specs.declared.place.Place.TheVariants.{Between, Text, Quoted, Line, LineBetween, Block, BlockBetween}
use Rattle.hs_entries.specs.Place.{is_white, next_place, is_open, ends, stops, leads, passes, is_between, KeepsPlace}

-- bytes one after another
pub leads-append : (p q : Place) (xs ys : List ℕ) → leads p xs ≡ Some q → leads p (xs ++ ys) ≡ leads q ys
leads-append p q [] ys h = grind (arith, common_steps)
leads-append p q (x ∷ xs) ys h =
    let later = leads-append (next_place p x) q xs ys in grind (arith, later)

-- one byte more
pub leads_more : (p q : Place) (xs : List ℕ) (i : ℕ) → i < length xs → leads p (take i xs) ≡ Some q
    → stops q (slice_index xs i) ≡ false → leads p (take (i + 1) xs) ≡ Some (next_place q (slice_index xs i))
leads_more p q xs i inside h goes =
    let last : leads q (slice_index xs i ∷ []) ≡ Some (next_place q (slice_index xs i)) = grind (arith, goes) in
    ap (λ (l : List ℕ). leads p l) (take_more xs i 0 inside) ∙ leads-append p q (take i xs) (slice_index xs i ∷ []) h ∙ last

-- one byte more, which leads nowhere else
pub leads_kept : (p q : Place) (xs : List ℕ) (i : ℕ) → i < length xs → leads p (take i xs) ≡ Some q
    → KeepsPlace q (slice_index xs i) → leads p (take (i + 1) xs) ≡ Some q
leads_kept p q xs i inside h keeps = leads_more p q xs i inside h keeps.0 ∙ ap (λ (r : Place). Some r) keeps.1

-- the bytes that end a text, a quoted name or a comment are the only ones that lead out of it
pub text_keeps : (p : Place) → p ≡ Text → (b : ℕ) → b ≢ 39 → KeepsPlace p b
unfolding next_place is_open is_between
text_keeps p is b other = rw is (grind arith)

pub quoted_keeps : (p : Place) → p ≡ Quoted → (b : ℕ) → b ≢ 34 → KeepsPlace p b
unfolding next_place is_open is_between
quoted_keeps p is b other = rw is (grind arith)

pub line_keeps : (p : Place) → p ≡ Line → (b : ℕ) → b ≢ 10 → KeepsPlace p b
unfolding next_place is_open is_between
line_keeps p is b other = rw is (grind arith)

pub line_between_keeps : (p : Place) → p ≡ LineBetween → (b : ℕ) → b ≢ 10 → KeepsPlace p b
unfolding next_place is_open is_between
line_between_keeps p is b other = rw is (grind arith)

pub block_keeps : (p : Place) → p ≡ Block → (b : ℕ) → b ≢ 42 → KeepsPlace p b
unfolding next_place is_open is_between
block_keeps p is b other = rw is (grind arith)

pub block_between_keeps : (p : Place) → p ≡ BlockBetween → (b : ℕ) → b ≢ 42 → KeepsPlace p b
unfolding next_place is_open is_between
block_between_keeps p is b other = rw is (grind arith)

-- some bytes more
pub leads_run : (p q r : Place) (xs : List ℕ) (i n : ℕ) → leads p (take i xs) ≡ Some q
    → leads q (take n (drop i xs)) ≡ Some r → leads p (take (i + n) xs) ≡ Some r
leads_run p q r xs i n first then =
    ap (λ (l : List ℕ). leads p l) (take-add i n xs) ∙ leads-append p q (take i xs) (take n (drop i xs)) first ∙ then

-- what leads on also passes
pub passes_from_leads : (p q : Place) (xs : List ℕ) → leads p xs ≡ Some q → passes p xs ≡ Some q
passes_from_leads p q [] h = h
passes_from_leads p q (x ∷ xs) h =
    let later = passes_from_leads (next_place p x) q xs in grind (arith, later)

pub passes-append : (p q : Place) (xs ys : List ℕ) → passes p xs ≡ Some q → passes p (xs ++ ys) ≡ passes q ys
passes-append p q [] ys h = grind (arith, common_steps)
passes-append p q (x ∷ xs) ys h =
    let later = passes-append (next_place p x) q xs ys in grind (arith, later)

white_last : (b : ℕ) → is_white b ≡ true → passes Between (b ∷ []) ≡ Some Between
unfolding next_place is_open
white_last b white = grind (arith, white)

-- one byte of white space more
pub passes_white : (xs : List ℕ) (i : ℕ) → i < length xs → passes Between (take i xs) ≡ Some Between → is_white (slice_index xs i) ≡ true
    → passes Between (take (i + 1) xs) ≡ Some Between
unfolding next_place is_open
passes_white xs i inside h white =
    let last : passes Between (slice_index xs i ∷ []) ≡ Some Between = white_last (slice_index xs i) white in
    ap (λ (l : List ℕ). passes Between l) (take_more xs i 0 inside) ∙ passes-append Between Between (take i xs) (slice_index xs i ∷ []) h ∙ last

-- bytes that lead between two entries, and such bytes behind them
pub passes_on : (xs : List ℕ) (i j k : ℕ) → passes Between (slice_range xs i j) ≡ Some Between → passes Between (slice_range xs j k) ≡ Some Between
    → i ≤ j → j ≤ k → passes Between (slice_range xs i k) ≡ Some Between
passes_on xs i j k first then low high =
    ap (λ (l : List ℕ). passes Between l) (sym (span-append xs i j k low high))
    ∙ passes-append Between Between (slice_range xs i j) (slice_range xs j k) first ∙ then

-- in a list whose parts lie one behind another: some bytes more
pub leads_span : (p q r : Place) (xs : List ℕ) (i j k e : ℕ) → leads p (slice_range xs i j) ≡ Some q
    → leads q (take k (slice_range xs j e)) ≡ Some r → i ≤ j → j + k ≤ e → leads p (slice_range xs i (j + k)) ≡ Some r
leads_span p q r xs i j k e first then low high =
    ap (λ (l : List ℕ). leads p l) (sym (span-append xs i j (j + k) low (omega arith)))
    ∙ leads-append p q (slice_range xs i j) (slice_range xs j (j + k)) first
    ∙ ap (λ (l : List ℕ). leads q l) (sym (take-span xs k j e high)) ∙ then

-- one byte that leads between two entries: what was begun is skipped
pub passes_span : (p : Place) (xs : List ℕ) (i j k : ℕ) → passes Between (slice_range xs i j) ≡ Some Between
    → leads Between (slice_range xs j k) ≡ Some p → i ≤ j → j ≤ k → k < length xs → ends p (slice_index xs k) ≡ false
    → next_place p (slice_index xs k) ≡ Between → passes Between (slice_range xs i (k + 1)) ≡ Some Between
passes_span p xs i j k first then low high inside on back =
    let last : passes p (slice_index xs k ∷ []) ≡ Some Between = grind (arith, on, back) in
    let parts : slice_range xs i j ++ (slice_range xs j k ++ slice_index xs k ∷ []) ≡ slice_range xs i (k + 1) =
    ap (λ (l : List ℕ). slice_range xs i j ++ (slice_range xs j k ++ l)) (sym (span_one xs k inside))
    ∙ ap (λ (l : List ℕ). slice_range xs i j ++ l) (span-append xs j k (k + 1) high (omega arith))
    ∙ span-append xs i j (k + 1) low (omega arith) in
    ap (λ (l : List ℕ). passes Between l) (sym parts)
    ∙ passes-append Between Between (slice_range xs i j) (slice_range xs j k ++ slice_index xs k ∷ []) first
    ∙ passes-append Between p (slice_range xs j k) (slice_index xs k ∷ []) (passes_from_leads Between p (slice_range xs j k) then)
    ∙ last

pub between_is : (p : Place) → is_between p ≡ true → p ≡ Between
unfolding is_between
between_is Between h = refl
between_is _ h = cc

-- a byte that stops and doesn't end an entry leads between two entries
pub stop_leads : (p : Place) (a b : ℕ) → stops p a ≡ true → a ≡ b → ends p b ≡ false → next_place p b ≡ Between
stop_leads p a b stop same on =
    let back : is_between (next_place p b) ≡ true = grind (arith, stop, same, on) in between_is (next_place p b) back

pub is_between-Between : is_between Between ≡ true
unfolding is_between
is_between-Between = refl

pub leads_step : (p q : Place) (b : ℕ) (xs : List ℕ) → leads p (b ∷ xs) ≡ Some q → (stops p b ≡ false) × (leads (next_place p b) xs ≡ Some q)
leads_step p q b xs h =
    elim (stops p b) as (λ v. stops p b ≡ v → (stops p b ≡ false) × (leads (next_place p b) xs ≡ Some q)) [
      | true ↦ λ is. absurd (grind (arith, h, is))
      | false ↦ λ is. (is, grind (arith, h, is))
    ] refl

pub passes_step : (p q : Place) (b : ℕ) (xs : List ℕ) → passes p (b ∷ xs) ≡ Some q → (ends p b ≡ false) × (passes (next_place p b) xs ≡ Some q)
passes_step p q b xs h =
    elim (ends p b) as (λ v. ends p b ≡ v → (ends p b ≡ false) × (passes (next_place p b) xs ≡ Some q)) [
      | true ↦ λ is. absurd (grind (arith, h, is))
      | false ↦ λ is. (is, grind (arith, h, is))
    ] refl
