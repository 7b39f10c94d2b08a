-- Lines with numbers, as they are read.
use Rattle.std.proofs.Common.{◌≡◌, ◌≢◌, ℕ, suc, ◌+◌, ◌<◌, ◌≤◌, ◌^◌, true, false, List, [], ◌∷◌, ◌++◌, length, take, drop, get_or, Option, Some, None, Bor, inr, refl, sym, ap, subst, ◌∙◌, append_assoc, append-nil, length-append, arith, codes}
use Rattle.std.specs.Prelude.{MatchOption}
use Rattle.std.specs.Fmt.{decimal}
use Rattle.std.specs.List.{flat_map, AllByRecursion}
use Rattle.std.specs.Str.Pattern.{RFindsChar, HasCharAt}
use Rattle.std.specs.Str.Parse.{AllDigits}
use Rattle.std.proofs.lemmas.Bool.{eqb-false}
use Rattle.std.proofs.lemmas.Fmt.{decimal_is_IsNumeral_wide, decimal_injective}
use Rattle.std.proofs.lemmas.List.{take-append-drop}
use Rattle.std.proofs.lemmas.List.Concat.{flat_map-append}
use Rattle.std.proofs.lemmas.Str.Parse.{digit_from_value}
use Rattle.std.proofs.lemmas.Str.Pattern.{NoCharPasses-char, drop_at_char}
use Rattle.hs_valuetext.specs.Values.{IsUnsigned}
use Rattle.hs_valuetext.proofs.Bits.{any-append, or_false}
use Rattle.hs_valuetext.proofs.TextLemmas.{Alone}
use Rattle.hs_columnlaws.proofs.CleanValues.{clean++, clean_decimal}
use Rattle.hs_tabletext.proofs.CleanRules.{feedless}
use Rattle.hs_parttext.specs.Lines.{is_feed, has_feed}
use Rattle.hs_parttext.proofs.FeedLemmas.{one_line}
use Rattle.hs_script.specs.Numbered.{IsWord, number_part, line_end, IsNumberedLine, IsNumberedAt, IsPast, numbered_lines, joined, is_some_line, IsRunAt}

-- ---- words

word_each : (xs : List ℕ) → ((i : ℕ) → i < length xs → get_or xs i 0 ≢ 32) → IsWord xs
word_each [] h = tt
word_each (x ∷ xs) h = (h 0 (omega arith), word_each xs (λ i lt. h (suc i) (omega arith)))

last_split : (text front behind : List ℕ) → (i : ℕ) × (j : ℕ) × RFindsChar 32 text (Some (i, j)) × (front ≡ take i text) × (behind ≡ drop j text) × (i ≤ j) × (length front ≡ i) × (length behind + j ≡ length text) → (text ≡ front ++ 32 ∷ behind) × IsWord behind
last_split text front behind h =
    let at : HasCharAt 32 text h.0 h.1 = h.2.1 in (
      sym (take-append-drop h.0 text) ∙ ap (λ (xs : List ℕ). take h.0 text ++ xs) (drop_at_char 32 text h.0 h.1 at (omega arith) ∙ ap (λ (xs : List ℕ). 32 ∷ xs) (sym h.4))
          ∙ ap (λ (xs : List ℕ). xs ++ 32 ∷ behind) (sym h.3),
      subst IsWord (sym h.4) (word_each (drop h.1 text) (λ k below. NoCharPasses-char 32 (drop h.1 text) k h.2.0 (omega arith) below)),
    )

no_split : (text : List ℕ) → RFindsChar 32 text None → IsWord text
no_split text h = word_each text (λ k below. NoCharPasses-char 32 text k h (omega arith) below)

abbrev Cut : List ℕ → Option (Bor (List ℕ) × Bor (List ℕ)) → Type 0
Cut text r = MatchOption r (RFindsChar 32 text None) (λ x. (i : ℕ) × (j : ℕ) × RFindsChar 32 text (Some (i, j)) × (x.0.now ≡ take i text) × (x.1.now ≡ drop j text) × (i ≤ j) × (length x.0.now ≡ i) × (length x.1.now + j ≡ length text))

pub word_cut : (text : List ℕ) (r : Option (Bor (List ℕ) × Bor (List ℕ))) → Cut text r → MatchOption r (IsWord text) (λ p. (text ≡ p.0.now ++ 32 ∷ p.1.now) × IsWord p.1.now)
word_cut text None h = no_split text h
word_cut text (Some p) h = last_split text p.0.now p.1.now h

word_within : (xs ys : List ℕ) → IsWord (xs ++ 32 ∷ ys) → ⊥
word_within [] ys h = h.0 refl
word_within (x ∷ xs) ys h = word_within xs ys h.1

-- a text has one last word
same_words : (xs ds ys es : List ℕ) → IsWord ds → IsWord es → xs ++ 32 ∷ ds ≡ ys ++ 32 ∷ es → (xs ≡ ys) × (ds ≡ es)
same_words [] ds [] es a b e = (refl, cc)
same_words [] ds (y ∷ ys) es a b e = let behind : ds ≡ ys ++ 32 ∷ es = cc in absurd (word_within ys es (subst IsWord behind a))
same_words (x ∷ xs) ds [] es a b e = let behind : es ≡ xs ++ 32 ∷ ds = cc in absurd (word_within xs ds (subst IsWord behind b))
same_words (x ∷ xs) ds (y ∷ ys) es a b e =
    let first : x ≡ y = cc in
    let behind : xs ++ 32 ∷ ds ≡ ys ++ 32 ∷ es = cc in
    let more = same_words xs ds ys es a b behind in
    ((λ i. first i ∷ more.0 i), more.1)

word_digits : (ds : List ℕ) → AllDigits 10 ds → IsWord ds
word_digits [] all = tt
word_digits (d ∷ ds) all =
    let digit = digit_from_value d all.0 in
    ((λ e. omega (arith, digit, e)), word_digits ds all.1)

word_decimal : (n : ℕ) → n < 2 ^ 64 → IsWord (decimal n)
word_decimal n small = word_digits (decimal n) (decimal_is_IsNumeral_wide n (omega (arith, small))).0.1

-- ---- one line

is_word_number : IsWord (codes "NUMBER")
is_word_number = (eqb-false 78 32 refl, (eqb-false 85 32 refl, (eqb-false 77 32 refl, (eqb-false 66 32 refl, (eqb-false 69 32 refl, (eqb-false 82 32 refl, tt))))))

-- a numbered line by its last two words
by_words : (said : List ℕ) (number : ℕ) → said ++ number_part number ≡ (said ++ 32 ∷ codes "NUMBER") ++ 32 ∷ decimal number
by_words said number = sym (append_assoc said (32 ∷ codes "NUMBER") (32 ∷ decimal number))

pub line_found : (line front digits said word : List ℕ) (number : ℕ) → line ≡ front ++ 32 ∷ digits → IsWord digits → front ≡ said ++ 32 ∷ word → IsWord word → word ≡ codes "NUMBER" → IsUnsigned digits number → IsNumberedLine line (said, number) × ((p : List ℕ × ℕ) → IsNumberedLine line p → p ≡ (said, number))
line_found line front digits said word number first a second b is known =
    let written : line ≡ said ++ number_part number = first ∙ ap (λ (xs : List ℕ). xs ++ 32 ∷ digits) (second ∙ ap (λ (xs : List ℕ). said ++ 32 ∷ xs) is) ∙ ap (λ (xs : List ℕ). (said ++ 32 ∷ codes "NUMBER") ++ 32 ∷ xs) (sym known.written) ∙ sym (by_words said number) in (
      record { lawful = known.lawful; written = written },
      λ p h.
          let both : (p.0 ++ 32 ∷ codes "NUMBER") ++ 32 ∷ decimal p.1 ≡ (said ++ 32 ∷ codes "NUMBER") ++ 32 ∷ decimal number = sym (by_words p.0 p.1) ∙ sym h.written ∙ written ∙ by_words said number in
          let last = same_words (p.0 ++ 32 ∷ codes "NUMBER") (decimal p.1) (said ++ 32 ∷ codes "NUMBER") (decimal number) (word_decimal p.1 h.lawful) (word_decimal number known.lawful) both in
          let front_is = same_words p.0 (codes "NUMBER") said (codes "NUMBER") is_word_number is_word_number last.0 in
          let number_is : p.1 ≡ number = decimal_injective p.1 number h.lawful known.lawful last.1 in
          λ i. (front_is.0 i, number_is i),
    )

pub line_wordless : (line : List ℕ) → IsWord line → (p : List ℕ × ℕ) → ¬ (IsNumberedLine line p)
line_wordless line h p is = word_within (p.0 ++ 32 ∷ codes "NUMBER") (decimal p.1) (subst IsWord (is.written ∙ by_words p.0 p.1) h)

-- its last two words
its_words : (line front digits : List ℕ) → line ≡ front ++ 32 ∷ digits → IsWord digits → (p : List ℕ × ℕ) → IsNumberedLine line p → (front ≡ p.0 ++ 32 ∷ codes "NUMBER") × (digits ≡ decimal p.1)
its_words line front digits first a p is =
    same_words front digits (p.0 ++ 32 ∷ codes "NUMBER") (decimal p.1) a (word_decimal p.1 is.lawful) (sym first ∙ is.written ∙ by_words p.0 p.1)

pub line_short : (line front digits : List ℕ) → line ≡ front ++ 32 ∷ digits → IsWord digits → IsWord front → (p : List ℕ × ℕ) → ¬ (IsNumberedLine line p)
line_short line front digits first a b p is = word_within p.0 (codes "NUMBER") (subst IsWord (its_words line front digits first a p is).0 b)

pub line_unsaid : (line front digits said word : List ℕ) → line ≡ front ++ 32 ∷ digits → IsWord digits → front ≡ said ++ 32 ∷ word → IsWord word → word ≢ codes "NUMBER" → (p : List ℕ × ℕ) → ¬ (IsNumberedLine line p)
line_unsaid line front digits said word first a second b not p is =
    not (same_words said word p.0 (codes "NUMBER") b is_word_number (sym second ∙ (its_words line front digits first a p is).0)).1

pub line_numberless : (line front digits : List ℕ) → line ≡ front ++ 32 ∷ digits → IsWord digits → ((n : ℕ) → ¬ (IsUnsigned digits n)) → (p : List ℕ × ℕ) → ¬ (IsNumberedLine line p)
line_numberless line front digits first a none p is = none p.1 (record { lawful = is.lawful; written = sym (its_words line front digits first a p is).1 })

-- ---- a numbered line at the front of a text

bare_part : (n : ℕ) → n < 2 ^ 64 → has_feed (number_part n) ≡ false
bare_part n small = feedless (number_part n) (clean++ (codes " NUMBER ") (decimal n) refl (clean_decimal n (omega (arith, small))))

bare_line : (line : List ℕ) (n : ℕ) → has_feed line ≡ false → n < 2 ^ 64 → has_feed (line ++ number_part n) ≡ false
bare_line line n plain small = any-append is_feed line (number_part n) plain (bare_part n small)

front_bare : (xs ys : List ℕ) → has_feed (xs ++ ys) ≡ false → has_feed xs ≡ false
front_bare [] ys h = refl
front_bare (x ∷ xs) ys h =
    let parts = or_false (is_feed x) (has_feed (xs ++ ys)) h in
    rw parts.0 (front_bare xs ys parts.1)

-- by its line, and what is behind the line feed
by_line : (said rest : List ℕ) (n : ℕ) → said ++ (line_end n ++ rest) ≡ (said ++ number_part n) ++ 10 ∷ rest
by_line said rest n = ap (λ (xs : List ℕ). said ++ xs) (append_assoc (number_part n) (10 ∷ []) rest) ∙ sym (append_assoc said (number_part n) (10 ∷ rest))

tails_same : (x y : ℕ) (xs ys : List ℕ) → x ∷ xs ≡ y ∷ ys → xs ≡ ys
tails_same x y xs ys e = cc

-- the line that is at the front
its_line : (text line rest : List ℕ) → text ≡ line ++ 10 ∷ rest → has_feed line ≡ false → (p : List ℕ × ℕ) (others : List ℕ) → IsNumberedAt text p others → (p.0 ++ number_part p.1 ≡ line) × (others ≡ rest)
its_line text line rest first plain p others h =
    let same = one_line line (10 ∷ rest) (p.0 ++ number_part p.1) (10 ∷ others) (sym first ∙ h.written ∙ by_line p.0 others p.1) plain (bare_line p.0 p.1 h.bare h.lawful) (inr refl) (inr refl) in
    (same.0, tails_same 10 10 others rest same.1)

pub numbered_found : (text line rest said : List ℕ) (number : ℕ) → text ≡ line ++ 10 ∷ rest → has_feed line ≡ false → IsNumberedLine line (said, number) × ((p : List ℕ × ℕ) → IsNumberedLine line p → p ≡ (said, number)) → Alone (IsNumberedAt text) (said, number) rest
numbered_found text line rest said number first plain known = (
  record {
    lawful = known.0.lawful;
    bare = front_bare said (number_part number) (sym (ap has_feed known.0.written) ∙ plain);
    written = first ∙ ap (λ (xs : List ℕ). xs ++ 10 ∷ rest) known.0.written ∙ sym (by_line said rest number);
  },
  λ p others h.
      let same = its_line text line rest first plain p others h in
      (known.1 p (record { lawful = h.lawful; written = sym same.0 }), same.1),
)

pub numbered_none : (text line rest : List ℕ) → text ≡ line ++ 10 ∷ rest → has_feed line ≡ false → ((p : List ℕ × ℕ) → ¬ (IsNumberedLine line p)) → (p : List ℕ × ℕ) (others : List ℕ) → ¬ (IsNumberedAt text p others)
numbered_none text line rest first plain none p others h = none p (record { lawful = h.lawful; written = sym (its_line text line rest first plain p others h).0 })

feed_within : (line rest : List ℕ) → has_feed (line ++ 10 ∷ rest) ≡ false → ⊥
feed_within [] rest h = absurd cc
feed_within (b ∷ line) rest h = feed_within line rest (or_false (is_feed b) (has_feed (line ++ 10 ∷ rest)) h).1

pub numbered_unended : (text : List ℕ) → has_feed text ≡ false → (p : List ℕ × ℕ) (others : List ℕ) → ¬ (IsNumberedAt text p others)
numbered_unended text plain p others h = feed_within (p.0 ++ number_part p.1) others (sym (ap has_feed (h.written ∙ by_line p.0 others p.1)) ∙ plain)

-- a text has one numbered line at its front
numbered_same : (text : List ℕ) (p q : List ℕ × ℕ) (rest others : List ℕ) → IsNumberedAt text p rest → IsNumberedAt text q others → (p.0 ≡ q.0) × (p.1 ≡ q.1) × (rest ≡ others)
numbered_same text p q rest others a b =
    let same = its_line text (q.0 ++ number_part q.1) others (b.written ∙ by_line q.0 others q.1) (bare_line q.0 q.1 b.bare b.lawful) p rest a in
    let both : (p.0 ++ 32 ∷ codes "NUMBER") ++ 32 ∷ decimal p.1 ≡ (q.0 ++ 32 ∷ codes "NUMBER") ++ 32 ∷ decimal q.1 = sym (by_words p.0 p.1) ∙ same.0 ∙ by_words q.0 q.1 in
    let last = same_words (p.0 ++ 32 ∷ codes "NUMBER") (decimal p.1) (q.0 ++ 32 ∷ codes "NUMBER") (decimal q.1) (word_decimal p.1 a.lawful) (word_decimal q.1 b.lawful) both in
    ((same_words p.0 (codes "NUMBER") q.0 (codes "NUMBER") is_word_number is_word_number last.0).0, decimal_injective p.1 q.1 a.lawful b.lawful last.1, same.1)

-- ---- lines of a number

pub past_none : (text : List ℕ) (number : ℕ) → number < 2 ^ 64 → ((p : List ℕ × ℕ) (others : List ℕ) → ¬ (IsNumberedAt text p others)) → IsPast number text
past_none text number small none line rest bare e = none (line, number) rest (record { lawful = small; bare = bare; written = e })

pub past_other : (text said rest : List ℕ) (other number : ℕ) → number < 2 ^ 64 → Alone (IsNumberedAt text) (said, other) rest → other ≢ number → IsPast number text
past_other text said rest other number small found not line others bare e =
    let there : IsNumberedAt text (line, number) others = record { lawful = small; bare = bare; written = e } in
    let same = found.1 (line, number) others there in
    not (sym (ap (λ (p : List ℕ × ℕ). p.1) same.0))

pub next_found : (text said rest : List ℕ) (other number : ℕ) → Alone (IsNumberedAt text) (said, other) rest → other ≡ number → (has_feed said ≡ false) × (text ≡ said ++ (line_end number ++ rest))
next_found text said rest other number found is = (found.0.bare, found.0.written ∙ ap (λ (n : ℕ). said ++ (line_end n ++ rest)) is)

-- lines of this number were read so far
pub record RunSoFar (text : List ℕ) (number : ℕ) (said rest : List ℕ) : Type 0 where
  pub lines : List (List ℕ)
  pub some : is_some_line lines ≡ true
  pub bare : AllByRecursion (λ line. has_feed line ≡ false) lines
  pub is : said ≡ joined lines
  pub written : text ≡ numbered_lines number lines ++ rest

run_front : (line xs rest : List ℕ) (number : ℕ) → ((line ++ line_end number) ++ xs) ++ rest ≡ line ++ (line_end number ++ (xs ++ rest))
run_front line xs rest number = append_assoc (line ++ line_end number) xs rest ∙ append_assoc line (line_end number) (xs ++ rest)

pub run_begun : (text line said rest : List ℕ) (number : ℕ) → Alone (IsNumberedAt text) (line, number) rest → said ≡ line → RunSoFar text number said rest
run_begun text line said rest number found is = record {
  lines = line ∷ [];
  some = refl;
  bare = (found.0.bare, tt);
  is = is ∙ sym (append-nil line);
  written = found.0.written ∙ sym (run_front line [] rest number);
}

joined_more : (lines : List (List ℕ)) (more : List ℕ) → is_some_line lines ≡ true → joined (lines ++ more ∷ []) ≡ joined lines ++ 10 ∷ more
joined_more [] more some = absurd cc
joined_more (line ∷ lines) more some =
    ap (λ (xs : List ℕ). line ++ xs) (flat_map-append (λ (l : List ℕ). 10 ∷ l) lines (more ∷ []) ∙ ap (λ (xs : List ℕ). flat_map (λ (l : List ℕ). 10 ∷ l) lines ++ xs) (append-nil (10 ∷ more)))
    ∙ sym (append_assoc line (flat_map (λ (l : List ℕ). 10 ∷ l) lines) (10 ∷ more))

some_more : (lines : List (List ℕ)) (more : List ℕ) → is_some_line (lines ++ more ∷ []) ≡ true
some_more [] more = refl
some_more (line ∷ lines) more = refl

bare_more : (lines : List (List ℕ)) (more : List ℕ) → AllByRecursion (λ line. has_feed line ≡ false) lines → has_feed more ≡ false → AllByRecursion (λ line. has_feed line ≡ false) (lines ++ more ∷ [])
bare_more [] more h plain = (plain, tt)
bare_more (line ∷ lines) more h plain = (h.0, bare_more lines more h.1 plain)

numbered_more : (number : ℕ) (lines : List (List ℕ)) (more : List ℕ) → numbered_lines number (lines ++ more ∷ []) ≡ numbered_lines number lines ++ (more ++ line_end number)
numbered_more number lines more =
    flat_map-append (λ (line : List ℕ). line ++ line_end number) lines (more ∷ [])
    ∙ ap (λ (xs : List ℕ). numbered_lines number lines ++ xs) (append-nil (more ++ line_end number))

pub run_more : (text said rest more others first second : List ℕ) (number : ℕ) → RunSoFar text number said rest → (has_feed more ≡ false) × (rest ≡ more ++ (line_end number ++ others)) → first ≡ said ++ 10 ∷ [] → second ≡ first ++ more → RunSoFar text number second others
run_more text said rest more others first second number so_far next a b = record {
  lines = so_far.lines ++ more ∷ [];
  some = some_more so_far.lines more;
  bare = bare_more so_far.lines more so_far.bare next.0;
  is =
      b ∙ ap (λ (xs : List ℕ). xs ++ more) a ∙ append_assoc said (10 ∷ []) more ∙ ap (λ (xs : List ℕ). xs ++ 10 ∷ more) so_far.is
      ∙ sym (joined_more so_far.lines more so_far.some);
  written =
      so_far.written ∙ ap (λ (xs : List ℕ). numbered_lines number so_far.lines ++ xs) (next.1 ∙ sym (append_assoc more (line_end number) others))
      ∙ sym (append_assoc (numbered_lines number so_far.lines) (more ++ line_end number) others)
      ∙ ap (λ (xs : List ℕ). xs ++ others) (sym (numbered_more number so_far.lines more));
}

same_lines : (number : ℕ) → number < 2 ^ 64 → (ls ms : List (List ℕ)) (rest others : List ℕ) → AllByRecursion (λ line. has_feed line ≡ false) ls → AllByRecursion (λ line. has_feed line ≡ false) ms → IsPast number rest → IsPast number others → numbered_lines number ls ++ rest ≡ numbered_lines number ms ++ others → (ls ≡ ms) × (rest ≡ others)
same_lines number small [] [] rest others a b past over e = (refl, e)
same_lines number small [] (m ∷ ms) rest others a b past over e = absurd (past m (numbered_lines number ms ++ others) b.0 (e ∙ run_front m (numbered_lines number ms) others number))
same_lines number small (l ∷ ls) [] rest others a b past over e = absurd (over l (numbered_lines number ls ++ rest) a.0 (sym e ∙ run_front l (numbered_lines number ls) rest number))
same_lines number small (l ∷ ls) (m ∷ ms) rest others a b past over e =
    let text : List ℕ = numbered_lines number (l ∷ ls) ++ rest in
    let first : IsNumberedAt text (l, number) (numbered_lines number ls ++ rest) = record { lawful = small; bare = a.0; written = run_front l (numbered_lines number ls) rest number } in
    let second : IsNumberedAt text (m, number) (numbered_lines number ms ++ others) = record { lawful = small; bare = b.0; written = e ∙ run_front m (numbered_lines number ms) others number } in
    let same = numbered_same text (l, number) (m, number) (numbered_lines number ls ++ rest) (numbered_lines number ms ++ others) first second in
    let more = same_lines number small ls ms rest others a.1 b.1 past over same.2 in
    ((λ i. same.0 i ∷ more.0 i), more.1)

its_first : (text : List ℕ) (p : ℕ × List ℕ) (rest : List ℕ) (h : IsRunAt text p rest) → (line : List ℕ) × (lines : List (List ℕ)) × (h.lines ≡ line ∷ lines)
its_first text p rest h = begun h.lines h.some
  where
    begun : (lines : List (List ℕ)) → is_some_line lines ≡ true → (first : List ℕ) × (others : List (List ℕ)) × (lines ≡ first ∷ others)
    begun [] some = absurd cc
    begun (line ∷ lines) some = (line, lines, refl)

-- the first line of a run
run_line : (text : List ℕ) (p : ℕ × List ℕ) (rest line : List ℕ) (lines : List (List ℕ)) → (h : IsRunAt text p rest) → h.lines ≡ line ∷ lines → IsNumberedAt text (line, p.0) (numbered_lines p.0 lines ++ rest)
run_line text p rest line lines h is =
    let bare : AllByRecursion (λ l. has_feed l ≡ false) (line ∷ lines) = subst (AllByRecursion (λ l. has_feed l ≡ false)) is h.bare in
    record {
      lawful = h.lawful;
      bare = bare.0;
      written = h.written ∙ ap (λ (ls : List (List ℕ)). numbered_lines p.0 ls ++ rest) is ∙ run_front line (numbered_lines p.0 lines) rest p.0;
    }

run_same : (text : List ℕ) (p q : ℕ × List ℕ) (rest others : List ℕ) → IsRunAt text p rest → IsRunAt text q others → (q ≡ p) × (others ≡ rest)
run_same text p q rest others a b =
    let one = its_first text p rest a in
    let two = its_first text q others b in
    let first = numbered_same text (two.0, q.0) (one.0, p.0) (numbered_lines q.0 two.1 ++ others) (numbered_lines p.0 one.1 ++ rest) (run_line text q others two.0 two.1 b two.2) (run_line text p rest one.0 one.1 a one.2) in
    let number : q.0 ≡ p.0 = first.1 in
    let past : IsPast p.0 others = subst (λ (n : ℕ). IsPast n others) number b.past in
    let same = same_lines p.0 a.lawful b.lines a.lines others rest b.bare a.bare past a.past (ap (λ (n : ℕ). numbered_lines n b.lines ++ others) (sym number) ∙ sym b.written ∙ a.written) in
    let said : q.1 ≡ p.1 = b.said ∙ ap joined same.0 ∙ sym a.said in
    ((λ i. (number i, said i)), same.1)

pub run_found : (text said rest : List ℕ) (number : ℕ) → number < 2 ^ 64 → RunSoFar text number said rest → IsPast number rest → Alone (IsRunAt text) (number, said) rest
run_found text said rest number small so_far past =
    let there : IsRunAt text (number, said) rest = record { lawful = small; lines = so_far.lines; some = so_far.some; bare = so_far.bare; said = so_far.is; written = so_far.written; past = past } in
    (there, λ q others h. run_same text (number, said) q rest others there h)

pub run_none : (text : List ℕ) → ((p : List ℕ × ℕ) (others : List ℕ) → ¬ (IsNumberedAt text p others)) → (p : ℕ × List ℕ) (rest : List ℕ) → ¬ (IsRunAt text p rest)
run_none text none p rest h =
    let one = its_first text p rest h in
    none (one.0, p.0) (numbered_lines p.0 one.1 ++ rest) (run_line text p rest one.0 one.1 h one.2)

-- what is read makes the rest shorter
pub run_shorter : (text : List ℕ) (p : ℕ × List ℕ) (rest : List ℕ) → IsRunAt text p rest → length rest < length text
run_shorter text p rest h =
    let one = its_first text p rest h in
    let at = run_line text p rest one.0 one.1 h one.2 in
    let whole : length text ≡ length ((one.0 ++ number_part p.0) ++ 10 ∷ (numbered_lines p.0 one.1 ++ rest)) = ap length (at.written ∙ by_line one.0 (numbered_lines p.0 one.1 ++ rest) p.0) in
    omega (arith, whole, length-append (one.0 ++ number_part p.0) (10 ∷ (numbered_lines p.0 one.1 ++ rest)), length-append (numbered_lines p.0 one.1) rest)

-- ---- behind lines of a number

pub past_nothing : (number : ℕ) → IsPast number []
past_nothing number [] rest bare e = absurd cc
past_nothing number (b ∷ line) rest bare e = absurd cc

pub past_run : (text : List ℕ) (p : ℕ × List ℕ) (rest : List ℕ) (number : ℕ) → number < 2 ^ 64 → IsRunAt text p rest → number ≢ p.0 → IsPast number text
past_run text p rest number small h other line others bare e =
    let one = its_first text p rest h in
    let there : IsNumberedAt text (line, number) others = record { lawful = small; bare = bare; written = e } in
    other (numbered_same text (line, number) (one.0, p.0) others (numbered_lines p.0 one.1 ++ rest) there (run_line text p rest one.0 one.1 h one.2)).1
