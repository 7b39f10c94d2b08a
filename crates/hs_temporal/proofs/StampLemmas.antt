-- The texts of days and times name one day and one time.
use Rattle.std.proofs.Common.{◌≡◌, ◌≢◌, ℕ, ◌+◌, ◌-◌, ◌*◌, ◌/◌, ◌%◌, ◌^◌, ◌<◌, ◌≤◌, List, [], ◌∷◌, ◌++◌, length, get_or, take, drop, codes, append_assoc, length-append, length-drop, drop-cons, Option, Some, None, MatchOption, refl, sym, ap, ◌∙◌, arith, ℤ, pos, ◌+ℤ◌, ◌*ℤ◌}
use Rattle.std.proofs.Math.Seq.{take-add, take-append-add}
use Rattle.std.proofs.lemmas.List.{length-take, take-append-drop, take_all, nil_from_length, append-nil}
use Rattle.std.specs.Prelude.{slice_range, replicate}
use Rattle.jiff_core.specs.Calendar.{IsCivilDate, days_from_civil}
use Rattle.jiff_core.proofs.SignedLemmas.{signed_arith}
use Rattle.jiff_core.proofs.CalendarLemmas.{days_in_month_bounds}
use Rattle.hs_temporal.specs.Days.{IsDay, IsMicros, year_of, month_of, monthday_of, day_of, time_of}
use Rattle.hs_temporal.specs.Texts.{digits, fields, date_text, clock_text, time_text, stamp_text, fraction, filled}
use Rattle.hs_temporal.proofs.DayLemmas.{civil_parts, civil_day}
use Rattle.std.specs.Str.{IsAscii}
use Rattle.std.proofs.lemmas.Str.{IsAscii-append}
use Rattle.hs_temporal.proofs.FractionLemmas.{fraction-full}
use Rattle.hs_temporal.proofs.TextLemmas.{one_ascii, IsAscii-digits, IsAscii-fields, append_split, length-digits, digits-injective, length-fields, fields_are, same_fields}

pub date_text-fields : (day : ℤ) → date_text day ≡ fields 4 (45 ∷ []) (year_of day) (month_of day) (monthday_of day)
unfolding date_text
date_text-fields day = refl

-- the parts of a day fit their digits
pub small_parts : (day : ℤ) → IsDay day → (year_of day < 10 ^ 4) × (month_of day < 100) × (monthday_of day < 100)
small_parts day h =
    let p = (civil_parts day h).0 in
    let long = days_in_month_bounds (pos (year_of day)) (month_of day) in
    (omega (arith, signed_arith), omega arith, omega arith)

-- a date of the calendar is the day with its text
pub date_text-civil : (year month day : ℕ) → 1 ≤ year → IsCivilDate (pos year) month day → date_text (days_from_civil (pos year) month day) ≡ fields 4 (45 ∷ []) year month day
date_text-civil year month day low h =
    let p = civil_day year month day low h in
    date_text-fields (days_from_civil (pos year) month day) ∙ rw (p.1, p.2, p.3) refl

-- the numbers in a day's text are a date of the calendar
pub date_text-only : (text : List ℕ) (year month monthday : ℕ) → (year < 10 ^ 4) × (month < 100) × (monthday < 100) → fields 4 (45 ∷ []) year month monthday ≡ text → (day : ℤ) → IsDay day → date_text day ≡ text → (1 ≤ year) × IsCivilDate (pos year) month monthday
date_text-only text year month monthday small e day h f =
    let own = fields_are text 4 45 (year_of day) (month_of day) (monthday_of day) (sym (date_text-fields day) ∙ f) in
    let same = same_fields text 4 45 _ _ _ _ _ _ own (fields_are text 4 45 year month monthday e) (small_parts day h) small in
    let p = civil_parts day h in
    let low : 1 ≤ year = omega (arith, same.0) in
    (low, rw (same.0, same.1, same.2) at p.0)

-- two days have two texts
pub date_text-injective : (a b : ℤ) → IsDay a → IsDay b → date_text a ≡ date_text b → a ≡ b
date_text-injective a b h k e =
    let own = fields_are (date_text b) 4 45 (year_of a) (month_of a) (monthday_of a) (sym (date_text-fields a) ∙ e) in
    let other = fields_are (date_text b) 4 45 (year_of b) (month_of b) (monthday_of b) (sym (date_text-fields b)) in
    let same = same_fields (date_text b) 4 45 _ _ _ _ _ _ own other (small_parts a h) (small_parts b k) in
    sym (civil_parts a h).2 ∙ (rw (same.0, same.1, same.2) (civil_parts b k).2)

pub clock_text-fields : (second : ℕ) → clock_text second ≡ fields 2 (58 ∷ []) (second / 3600) (second / 60 % 60) (second % 60)
unfolding clock_text
clock_text-fields second = refl

-- a clock that shows these numbers
pub clock_text-is : (hour minute second : ℕ) → minute < 60 → second < 60 → clock_text (hour * 3600 + minute * 60 + second) ≡ fields 2 (58 ∷ []) hour minute second
clock_text-is hour minute second h k =
    let a : (hour * 3600 + minute * 60 + second) / 3600 ≡ hour = omega arith in
    let b : (hour * 3600 + minute * 60 + second) / 60 % 60 ≡ minute = omega arith in
    let c : (hour * 3600 + minute * 60 + second) % 60 ≡ second = omega arith in
    clock_text-fields (hour * 3600 + minute * 60 + second) ∙ rw (a, b, c) refl

-- the numbers in a clock's text are those that it shows
pub clock_text-only : (text : List ℕ) (hour minute second : ℕ) → (hour < 10 ^ 2) × (minute < 100) × (second < 100) → fields 2 (58 ∷ []) hour minute second ≡ text → (n : ℕ) → n < 86_400 → clock_text n ≡ text → (hour < 24) × (minute < 60) × (second < 60)
clock_text-only text hour minute second small e n h f =
    let own = fields_are text 2 58 (n / 3600) (n / 60 % 60) (n % 60) (sym (clock_text-fields n) ∙ f) in
    let same = same_fields text 2 58 _ _ _ _ _ _ own (fields_are text 2 58 hour minute second e) (omega arith, omega arith, omega arith) small in
    (omega (arith, same), omega (arith, same), omega (arith, same))

pub clock_text-injective : (m n : ℕ) → m < 86_400 → n < 86_400 → clock_text m ≡ clock_text n → m ≡ n
clock_text-injective m n h k e =
    let own = fields_are (clock_text n) 2 58 (m / 3600) (m / 60 % 60) (m % 60) (sym (clock_text-fields m) ∙ e) in
    let other = fields_are (clock_text n) 2 58 (n / 3600) (n / 60 % 60) (n % 60) (sym (clock_text-fields n)) in
    let same = same_fields (clock_text n) 2 58 _ _ _ _ _ _ own other (omega arith, omega arith, omega arith) (omega arith, omega arith, omega arith) in
    omega (arith, same)

-- what is told of a number read from a text: it has the text, or, where there is none, no number has it
abbrev pub Reads : {N : Type 0} → (N → Type 0) → (N → List ℕ) → List ℕ → Option N → Type 0
Reads {N} Is text_of text r = MatchOption r ((n : N) → Is n → text_of n ≢ text) (λ n. Is n × (text_of n ≡ text))

-- the day of a date, where the calendar has it, is the one with the text
pub day_read : (text : List ℕ) (year month monthday : ℕ) → (year < 10 ^ 4) × (month < 100) × (monthday < 100) → fields 4 (45 ∷ []) year month monthday ≡ text → (r : Option ℤ) → MatchOption r (1 ≤ year → ¬ (IsCivilDate (pos year) month monthday)) (λ found. (1 ≤ year) × IsCivilDate (pos year) month monthday × (found ≡ days_from_civil (pos year) month monthday)) → Reads IsDay date_text text r
day_read text year month monthday small e None told = λ day h f.
    let is = date_text-only text year month monthday small e day h f in
    told is.0 is.1
day_read text year month monthday small e (Some found) told =
    let day = civil_day year month monthday told.0 told.1 in
    rw told.2 (day.0, date_text-civil year month monthday told.0 told.1 ∙ e)

-- a time of a day
pub time_of-sum : (day : ℤ) (time : ℕ) → time < 86_400_000_000 → (day_of (day *ℤ pos 86_400_000_000 +ℤ pos time) ≡ day) × (time_of (day *ℤ pos 86_400_000_000 +ℤ pos time) ≡ time)
time_of-sum day time h = (omega (arith, signed_arith), omega (arith, signed_arith))

pub sum-time_of : (micros : ℤ) → (day_of micros *ℤ pos 86_400_000_000 +ℤ pos (time_of micros) ≡ micros) × (time_of micros < 86_400_000_000)
sum-time_of micros = (omega (arith, signed_arith), omega (arith, signed_arith))

-- the text of a timestamp in its parts
stamp_parts : (micros : ℤ) → stamp_text micros ≡ date_text (day_of micros) ++ (32 ∷ (clock_text (time_of micros / 1_000_000) ++ (46 ∷ digits 6 (time_of micros % 1_000_000))))
unfolding stamp_text time_text
stamp_parts micros = simp append_assoc refl

-- a text of 19 bytes or more in its parts
text_parts : (text : List ℕ) → 19 ≤ length text → filled text ≡ take 10 text ++ (get_or text 10 0 ∷ (slice_range text 11 19 ++ fraction (drop 19 text)))
unfolding filled
text_parts text h =
    let within : 10 < length text = omega arith in
    let front : take 19 text ≡ take 10 text ++ (get_or text 10 0 ∷ slice_range text 11 19) =
    take-add 10 9 text ∙ ap (λ rest. take 10 text ++ take 9 rest) (drop-cons text 10 0 within) in
    ap (λ part. part ++ fraction (drop 19 text)) front ∙ append_assoc (take 10 text) (get_or text 10 0 ∷ slice_range text 11 19) (fraction (drop 19 text))

length-date_text : (day : ℤ) → length (date_text day) ≡ 10
length-date_text day = ap length (date_text-fields day) ∙ length-fields 4 45 (year_of day) (month_of day) (monthday_of day)

length-clock_text : (second : ℕ) → length (clock_text second) ≡ 8
length-clock_text second = ap length (clock_text-fields second) ∙ length-fields 2 58 (second / 3600) (second / 60 % 60) (second % 60)

pub length-stamp_text : (micros : ℤ) → length (stamp_text micros) ≡ 26
length-stamp_text micros =
    let date = length-date_text (day_of micros) in
    let clock = length-clock_text (time_of micros / 1_000_000) in
    let part = length-digits 6 (time_of micros % 1_000_000) in
    ap length (stamp_parts micros) ∙ simp length-append (omega arith)

length-no_fraction : length (fraction []) ≡ 7
unfolding fraction
length-no_fraction = refl

-- a shorter text is not filled up to a timestamp
pub short_text : (text : List ℕ) (micros : ℤ) → length text < 19 → stamp_text micros ≢ filled text
unfolding filled
short_text text micros h e =
    let none : drop 19 text ≡ [] = nil_from_length _ (length-drop 19 text ∙ omega arith) in
    let all : take 19 text ≡ text = take_all 19 text (omega arith) in
    let long = ap length (rw (none, all) at e) in
    omega (arith, long, length-stamp_text micros, length-append text (fraction []), length-no_fraction)

-- what the text of a timestamp holds at its places
pub record IsStamped (text : List ℕ) (day : ℤ) (second micros : ℕ) : Type 0 where
  pub date : date_text day ≡ take 10 text
  pub space : get_or text 10 0 ≡ 32
  pub clock : clock_text second ≡ slice_range text 11 19
  pub part : codes "." ++ digits 6 micros ≡ fraction (drop 19 text)

pub stamped : (text : List ℕ) (micros : ℤ) → 19 ≤ length text → stamp_text micros ≡ filled text → IsStamped text (day_of micros) (time_of micros / 1_000_000) (time_of micros % 1_000_000)
stamped text micros h e =
    let same = sym (stamp_parts micros) ∙ e ∙ text_parts text h in
    let front : length (date_text (day_of micros)) ≡ length (take 10 text) = rw (length-date_text (day_of micros), length-take 10 text) (omega arith) in
    let p = append_split (date_text (day_of micros)) (take 10 text) _ _ front same in
    let byte : 32 ≡ get_or text 10 0 = cc (p.1) in
    let rest : clock_text (time_of micros / 1_000_000) ++ (46 ∷ digits 6 (time_of micros % 1_000_000)) ≡ slice_range text 11 19 ++ fraction (drop 19 text) = cc (p.1) in
    let middle : length (clock_text (time_of micros / 1_000_000)) ≡ length (slice_range text 11 19) = rw (length-clock_text (time_of micros / 1_000_000), length-take, length-drop) (omega arith) in
    let q = append_split (clock_text (time_of micros / 1_000_000)) (slice_range text 11 19) _ _ middle rest in
    record { date = p.0; space = sym byte; clock = q.0; part = q.1 }

-- such a text is that of the timestamp
pub stamp_same : (text : List ℕ) (micros : ℤ) → 19 ≤ length text → IsStamped text (day_of micros) (time_of micros / 1_000_000) (time_of micros % 1_000_000) → stamp_text micros ≡ filled text
stamp_same text micros h is =
    let clock = clock_text (time_of micros / 1_000_000) in
    let part = 46 ∷ digits 6 (time_of micros % 1_000_000) in
    let behind : 32 ∷ (clock ++ part) ≡ get_or text 10 0 ∷ (slice_range text 11 19 ++ fraction (drop 19 text)) =
    ap (λ byte. byte ∷ (clock ++ part)) (sym is.space)
    ∙ ap (λ rest. get_or text 10 0 ∷ rest) (ap (λ front. front ++ part) is.clock ∙ ap (λ rest. slice_range text 11 19 ++ rest) is.part) in
    stamp_parts micros
    ∙ ap (λ front. front ++ (32 ∷ (clock ++ part))) is.date
    ∙ ap (λ rest. take 10 text ++ rest) behind
    ∙ sym (text_parts text h)

pub stamp_read : (text : List ℕ) (day : ℤ) (second part : ℕ) (micros : ℤ) → micros ≡ day *ℤ pos 86_400_000_000 +ℤ pos (second * 1_000_000 + part) → 19 ≤ length text → IsDay day → second < 86_400 → part < 1_000_000 → IsStamped text day second part → IsMicros micros × (stamp_text micros ≡ filled text)
stamp_read text day second part micros e long h k l is =
    let time : second * 1_000_000 + part < 86_400_000_000 = omega arith in
    let whole = rw (← e) at (time_of-sum day (second * 1_000_000 + part) time) in
    let a : time_of micros / 1_000_000 ≡ second = omega (arith, whole.1) in
    let b : time_of micros % 1_000_000 ≡ part = omega (arith, whole.1) in
    (rw whole.0 h, stamp_same text micros long (rw (whole.0, a, b) is))

pub stamp_text-injective : (a b : ℤ) → IsMicros a → IsMicros b → stamp_text a ≡ stamp_text b → a ≡ b
stamp_text-injective a b h k e =
    let same = sym (stamp_parts a) ∙ e ∙ stamp_parts b in
    let p = append_split (date_text (day_of a)) (date_text (day_of b)) _ _ (length-date_text (day_of a) ∙ sym (length-date_text (day_of b))) same in
    let rest : clock_text (time_of a / 1_000_000) ++ (46 ∷ digits 6 (time_of a % 1_000_000)) ≡ clock_text (time_of b / 1_000_000) ++ (46 ∷ digits 6 (time_of b % 1_000_000)) = cc (p.1) in
    let q = append_split (clock_text (time_of a / 1_000_000)) (clock_text (time_of b / 1_000_000)) _ _ (length-clock_text (time_of a / 1_000_000) ∙ sym (length-clock_text (time_of b / 1_000_000))) rest in
    let day = date_text-injective (day_of a) (day_of b) h k p.0 in
    let first = sum-time_of a in
    let second = sum-time_of b in
    let clock = clock_text-injective (time_of a / 1_000_000) (time_of b / 1_000_000) (omega arith) (omega arith) q.0 in
    let part = digits-injective 6 (time_of a % 1_000_000) (time_of b % 1_000_000) (omega arith) (omega arith) (cc (q.1)) in
    let time : time_of a ≡ time_of b = omega arith in
    sym first.0 ∙ rw (day, time) second.0

-- the text of a timestamp has all six digits already
pub filled-stamp_text : (micros : ℤ) → filled (stamp_text micros) ≡ stamp_text micros
unfolding filled
filled-stamp_text micros =
    let text = stamp_text micros in
    let seven : length (drop 19 text) ≡ 7 = length-drop 19 text ∙ ap (λ n. n - 19) (length-stamp_text micros) in
    ap (λ part. take 19 text ++ part) (fraction-full (drop 19 text) seven) ∙ take-append-drop 19 text

-- texts are ASCII
pub IsAscii-date_text : (day : ℤ) → IsAscii (date_text day)
IsAscii-date_text day = rw (date_text-fields day) (IsAscii-fields 4 45 (year_of day) (month_of day) (monthday_of day) (omega arith))

pub IsAscii-stamp_text : (micros : ℤ) → IsAscii (stamp_text micros)
unfolding stamp_text time_text
IsAscii-stamp_text micros =
    let clock = time_of micros / 1_000_000 in
    let ascii : IsAscii (clock_text clock) = rw (clock_text-fields clock) (IsAscii-fields 2 58 (clock / 3600) (clock / 60 % 60) (clock % 60) (omega arith)) in
    IsAscii-append _ _ (IsAscii-append _ _ (IsAscii-date_text (day_of micros)) (one_ascii 32 (omega arith)))
    (IsAscii-append _ _ (IsAscii-append _ _ ascii (one_ascii 46 (omega arith))) (IsAscii-digits 6 (time_of micros % 1_000_000)))

-- a time of day from its bytes
pub time_text-parts : (time : ℕ) (clock part : List ℕ) → clock ≡ clock_text (time / 1_000_000) → part ≡ digits 6 (time % 1_000_000) → clock ++ (46 ∷ part) ≡ time_text time
unfolding time_text
time_text-parts time clock part e f = rw (e, f) (sym (append_assoc (clock_text (time / 1_000_000)) (46 ∷ []) (digits 6 (time % 1_000_000))))

-- a timestamp from its bytes, where the date and the time are written over spaces
pub stamp_text-parts : (micros : ℤ) (date time : List ℕ) → date ≡ date_text (day_of micros) → time ≡ time_text (time_of micros) → take 11 (date ++ replicate 16 32) ++ (time ++ drop 15 (drop 11 (date ++ replicate 16 32))) ≡ stamp_text micros
unfolding stamp_text
stamp_text-parts micros date time e f =
    let ten : length date ≡ 10 = ap length e ∙ length-date_text (day_of micros) in
    let front : take 11 (date ++ replicate 16 32) ≡ date ++ 32 ∷ [] = rw ten at (take-append-add date (replicate 16 32) 1) in
    let long : length (drop 15 (drop 11 (date ++ replicate 16 32))) ≡ 0 =
    length-drop 15 (drop 11 (date ++ replicate 16 32)) ∙ ap (λ n. n - 15) (length-drop 11 (date ++ replicate 16 32) ∙ ap (λ n. n - 11) (length-append date (replicate 16 32) ∙ ap (λ n. n + 16) ten)) in
    let none : drop 15 (drop 11 (date ++ replicate 16 32)) ≡ [] = nil_from_length _ long in
    ap (λ part. part ++ (time ++ drop 15 (drop 11 (date ++ replicate 16 32)))) front
    ∙ ap (λ rest. (date ++ 32 ∷ []) ++ (time ++ rest)) none
    ∙ ap (λ rest. (date ++ 32 ∷ []) ++ rest) (append-nil time)
    ∙ rw (e, f) refl
