-- That the texts of commits are split into what they are made of.
use Rattle.std.proofs.Common.{◌≡◌, ℕ, ◌-◌, ◌<◌, ◌^◌, Bool, true, false, not, ◌==◌, ◌&&◌, ◌||◌, nat_eq, nat_lt, List, [], ◌∷◌, ◌++◌, length, take, drop, Option, None, Some, Result, Ok, Err, codes, Bor, refl, sym, ap, subst, ◌∙◌, arith, append_assoc, length-append}
use Rattle.std.specs.Char.{is_ascii_digit, digit_value}
use Rattle.std.specs.Cmp.Lexicographic.{pointwise}
use Rattle.std.specs.Fmt.{decimal}
use Rattle.std.specs.List.{prefix_len, ends_with}
use Rattle.std.specs.Option.{MatchOption, option_and_then, option_map}
use Rattle.std.specs.Str.Parse.{AllDigits, digits_value}
use Rattle.std.proofs.Math.Seq.{take-append_seam, drop-append_seam}
use Rattle.std.proofs.lemmas.Bool.{cond-true, cond-false, and_parts, and_from, ltb-true, lt-ltb, eqb-true, eq-eqb, not-true, not_from_false}
use Rattle.std.proofs.lemmas.Fmt.{decimal_is_IsNumeral}
use Rattle.std.proofs.lemmas.List.{append_cancel_left}
use Rattle.std.proofs.lemmas.Option.{none-some, same_Some, cond_some, option_and_then_some}
use Rattle.std.proofs.lemmas.Bool.Decides.{Decides-eqb}
use Rattle.std.proofs.lemmas.Slice.Eq.{bytes_eq-Decides, ends_is}
use Rattle.hs_log.specs.CommitText.{IsSession, AreLines, mark, ending, is_of, opening, commit_text, are_whole, begin_marked, number_in, session_in, lines_in, are_lines, is_session, if_made_of, split_of}

pub on_none : {A P : Type 0} (Q : A → Type 0) (answer : Option A) → answer ≡ None → P → MatchOption answer P Q
on_none {A} {P} Q answer is p = subst (λ (o : Option A). MatchOption o P Q) (sym is) p

pub ok_same : {E : Type 0} (m n : ℕ) → (let r : Result ℕ E = Ok m in r) ≡ Ok n → m ≡ n
ok_same m n is = cc

pub never_both : {E : Type 0} (e : E) (n : ℕ) → (let r : Result ℕ E = Err e in r) ≡ Ok n → ⊥
never_both e n is = absurd (cc)

-- digits in front of what is none
digit_is : (b : ℕ) → digit_value b < 10 → is_ascii_digit b ≡ true
digit_is b h = grind arith

digits_before : (ds rest : List ℕ) → AllDigits 10 ds → prefix_len is_ascii_digit rest ≡ 0 → prefix_len is_ascii_digit (ds ++ rest) ≡ length ds
digits_before [] rest d clear = clear
digits_before (c ∷ cs) rest d clear =
    let more : prefix_len is_ascii_digit (cs ++ rest) ≡ length cs = digits_before cs rest d.1 clear in
    cond-true _ _ _ (digit_is c d.0) ∙ omega (arith, more)

-- the mark
mark_parts : (session : ℕ) (rest : List ℕ) → mark session ++ rest ≡ codes "/*C" ++ (decimal session ++ (codes "*/\n" ++ rest))
mark_parts session rest = append_assoc (codes "/*C" ++ decimal session) (codes "*/\n") rest ∙ append_assoc (codes "/*C") (decimal session) (codes "*/\n" ++ rest)

marked_begins : (session : ℕ) (rest : List ℕ) → begin_marked (mark session ++ rest) ≡ true
marked_begins session rest = refl

-- the digits at the front of these bytes
abbrev pub digits_of : List ℕ → List ℕ
digits_of bytes = take (prefix_len is_ascii_digit bytes) bytes

pub mark_digits : (session : ℕ) (rest : List ℕ) → IsSession session → digits_of (drop 3 (mark session ++ rest)) ≡ decimal session
mark_digits session rest good =
    let behind : List ℕ = codes "*/\n" ++ rest in
    let digits = (decimal_is_IsNumeral session (omega (arith, good.1))).0.1 in
    ap (λ (l : List ℕ). digits_of (drop 3 l)) (mark_parts session rest)
    ∙ ap (λ (k : ℕ). take k (decimal session ++ behind)) (digits_before (decimal session) behind digits refl)
    ∙ take-append_seam (decimal session) behind

pub mark_number : (session : ℕ) (rest : List ℕ) → IsSession session → number_in (mark session ++ rest) ≡ session
mark_number session rest good = ap (digits_value 10) (mark_digits session rest good) ∙ (decimal_is_IsNumeral session (omega (arith, good.1))).1

-- a mark at the front is the only one
pub mark_same : (m n : ℕ) (rest more : List ℕ) → IsSession m → IsSession n → mark m ++ rest ≡ mark n ++ more → (m ≡ n) × (rest ≡ more)
mark_same m n rest more good fine is =
    let same : m ≡ n = sym (mark_number m rest good) ∙ ap number_in is ∙ mark_number n more fine in
    (same, append_cancel_left (mark n) rest more (ap (λ (k : ℕ). mark k ++ rest) (sym same) ∙ is))

-- what stands behind the first bytes of a mark
pub mark_behind : (text behind : List ℕ) (session : ℕ) (rest : List ℕ) → text ≡ codes "/*C" ++ behind → text ≡ mark session ++ rest → behind ≡ decimal session ++ (codes "*/\n" ++ rest)
mark_behind text behind session rest front is = append_cancel_left (codes "/*C") behind (decimal session ++ (codes "*/\n" ++ rest)) (sym front ∙ is ∙ mark_parts session rest)

pub behind_digits : (text behind : List ℕ) (session : ℕ) (rest : List ℕ) → IsSession session → text ≡ codes "/*C" ++ behind → text ≡ mark session ++ rest → digits_of behind ≡ decimal session
behind_digits text behind session rest good front is =
    ap (λ (l : List ℕ). digits_of (drop 3 l)) (sym front ∙ is) ∙ mark_digits session rest good

-- a mark is found part by part
pub mark_found : (text behind digits tail rest : List ℕ) (session : ℕ) → text ≡ codes "/*C" ++ behind → digits ≡ decimal session → behind ≡ digits ++ tail → tail ≡ codes "*/\n" ++ rest → text ≡ mark session ++ rest
mark_found text behind digits tail rest session front digits_is next last =
    front ∙ ap (λ (l : List ℕ). codes "/*C" ++ l) (next ∙ ap (λ (l : List ℕ). l ++ tail) digits_is ∙ ap (λ (l : List ℕ). decimal session ++ l) last) ∙ sym (mark_parts session rest)

-- lines in front of the ending
and_none : (b : Bool) → (b && false) ≡ false
and_none true = refl
and_none false = refl

pub unmarked_text : (lines : List ℕ) → AreLines lines → begin_marked (lines ++ ending) ≡ false
unmarked_text [] h = refl
unmarked_text (a ∷ []) h = and_none (47 == a)
unmarked_text (a ∷ b ∷ []) h =
    let last : 10 ≡ b = eqb-true 10 b (and_parts (10 == b) true h.whole).0 in
    subst (λ (n : ℕ). begin_marked (a ∷ n ∷ ending) ≡ false) last (and_none (47 == a))
unmarked_text (a ∷ b ∷ c ∷ ls) h = h.unmarked

-- the parts of a text
pub record IsTextOf (before : Option ℕ) (text : List ℕ) (session : ℕ) (lines : List ℕ) : Type 0 where
  pub session_is : IsSession session
  pub lines_are : AreLines lines
  pub is : text ≡ commit_text before session lines

same_session : (before : Option ℕ) (session : ℕ) → is_of before session ≡ true → before ≡ Some session
same_session None session h = cc
same_session (Some number) session h = ap Some (eqb-true number session h)

pub of_itself : (session : ℕ) → is_of (Some session) session ≡ true
of_itself session = eq-eqb session session refl

-- with a mark or without
pub with_mark : (before : Option ℕ) (session : ℕ) (lines : List ℕ) → is_of before session ≡ false → commit_text before session lines ≡ mark session ++ (lines ++ ending)
with_mark before session lines is = ap (λ (l : List ℕ). l ++ lines ++ ending) (cond-false (is_of before session) [] (mark session) is) ∙ append_assoc (mark session) lines ending

pub without_mark : (before : Option ℕ) (session : ℕ) (lines : List ℕ) → is_of before session ≡ true → commit_text before session lines ≡ lines ++ ending
without_mark before session lines is = ap (λ (l : List ℕ). l ++ lines ++ ending) (cond-true (is_of before session) [] (mark session) is)

unmarked_by : (before : Option ℕ) (text : List ℕ) (session : ℕ) (lines : List ℕ) → IsTextOf before text session lines → begin_marked text ≡ false → (t : Bool) → is_of before session ≡ t → (before ≡ Some session) × (text ≡ lines ++ ending)
unmarked_by before text session lines h plain true is = (same_session before session is, h.is ∙ without_mark before session lines is)
unmarked_by before text session lines h plain false is =
    let marked : begin_marked text ≡ true = ap begin_marked (h.is ∙ with_mark before session lines is) ∙ marked_begins session (lines ++ ending) in absurd (cc)

pub unmarked_is : (before : Option ℕ) (text : List ℕ) (session : ℕ) (lines : List ℕ) → IsTextOf before text session lines → begin_marked text ≡ false → (before ≡ Some session) × (text ≡ lines ++ ending)
unmarked_is before text session lines h plain = unmarked_by before text session lines h plain (is_of before session) refl

marked_by : (before : Option ℕ) (text : List ℕ) (session : ℕ) (lines : List ℕ) → IsTextOf before text session lines → begin_marked text ≡ true → (t : Bool) → is_of before session ≡ t → (is_of before session ≡ false) × (text ≡ mark session ++ (lines ++ ending))
marked_by before text session lines h marked false is = (is, h.is ∙ with_mark before session lines is)
marked_by before text session lines h marked true is =
    let plain : begin_marked text ≡ false = ap begin_marked (h.is ∙ without_mark before session lines is) ∙ unmarked_text lines h.lines_are in absurd (cc)

pub marked_is : (before : Option ℕ) (text : List ℕ) (session : ℕ) (lines : List ℕ) → IsTextOf before text session lines → begin_marked text ≡ true → (is_of before session ≡ false) × (text ≡ mark session ++ (lines ++ ending))
marked_is before text session lines h marked = marked_by before text session lines h marked (is_of before session) refl

-- what is made is split
session_by : (before : Option ℕ) (session : ℕ) (lines : List ℕ) → IsSession session → AreLines lines → (t : Bool) → is_of before session ≡ t → session_in before (commit_text before session lines) ≡ Some session
session_by before session lines good h true is =
    ap (session_in before) (without_mark before session lines is) ∙ cond-false _ _ _ (unmarked_text lines h) ∙ same_session before session is
session_by before session lines good h false is =
    ap (session_in before) (with_mark before session lines is) ∙ ap Some (mark_number session (lines ++ ending) good)

-- what stands between a front and the ending
between : (front lines : List ℕ) → take (length (front ++ lines ++ ending) - length front - length ending) (drop (length front) (front ++ lines ++ ending)) ≡ lines
between front lines =
    let parts : front ++ lines ++ ending ≡ front ++ (lines ++ ending) = append_assoc front lines ending in
    let count : length (front ++ lines ++ ending) - length front - length ending ≡ length lines =
    omega (arith, length-append (front ++ lines) ending, length-append front lines) in
    ap (λ (n : ℕ). take n (drop (length front) (front ++ lines ++ ending))) count
    ∙ ap (λ (l : List ℕ). take (length lines) (drop (length front) l)) parts
    ∙ ap (take (length lines)) (drop-append_seam front (lines ++ ending))
    ∙ take-append_seam lines ending

session_holds : (session : ℕ) → IsSession session → is_session session ≡ true
session_holds session good = and_from _ _ (lt-ltb _ _ good.0) (lt-ltb _ _ good.1)

lines_hold : (lines : List ℕ) → AreLines lines → are_lines lines ≡ true
lines_hold lines h = and_from _ _ h.whole (not_from_false _ h.unmarked)

pub split_back : (before : Option ℕ) (session : ℕ) (lines : List ℕ) → IsSession session → AreLines lines → split_of before (commit_text before session lines) ≡ Some (session, lines)
unfolding split_of
split_back before session lines good h =
    let text : List ℕ = commit_text before session lines in
    ap (option_and_then (λ (n : ℕ). if_made_of before text n (lines_in before n text))) (session_by before session lines good h (is_of before session) refl)
    ∙ ap (if_made_of before text session) (between (opening before session) lines)
    ∙ cond-true _ _ _ (and_from _ _ (session_holds session good) (and_from _ _ (lines_hold lines h) ((bytes_eq-Decides text text).1 refl)))

pub split_found : (before : Option ℕ) (text : List ℕ) (session : ℕ) (lines : List ℕ) → IsTextOf before text session lines → split_of before text ≡ Some (session, lines)
split_found before text session lines h = ap (split_of before) h.is ∙ split_back before session lines h.session_is h.lines_are

-- and what is split is made
made_parts : (before : Option ℕ) (text : List ℕ) (n : ℕ) (ls : List ℕ) (session : ℕ) (lines : List ℕ) → if_made_of before text n ls ≡ Some (session, lines) → IsTextOf before text session lines
made_parts before text n ls session lines h =
    let parts = cond_some (is_session n && (are_lines ls && pointwise nat_eq text (commit_text before n ls))) (n, ls) (session, lines) h in
    let tests = and_parts (is_session n) (are_lines ls && pointwise nat_eq text (commit_text before n ls)) parts.0 in
    let sizes = and_parts (nat_lt 0 n) (nat_lt n (2 ^ 32)) tests.0 in
    let more = and_parts (are_lines ls) (pointwise nat_eq text (commit_text before n ls)) tests.1 in
    let forms = and_parts (are_whole ls) (not (begin_marked ls)) more.0 in
    let here : IsTextOf before text n ls = record {
      session_is = (ltb-true 0 n sizes.0, ltb-true n (2 ^ 32) sizes.1);
      lines_are = record { whole = forms.0; unmarked = not-true (begin_marked ls) forms.1 };
      is = (bytes_eq-Decides text (commit_text before n ls)).0 more.1;
    } in
    subst (λ (p : ℕ × List ℕ). IsTextOf before text p.0 p.1) parts.1 here

pub split_parts : (before : Option ℕ) (text : List ℕ) (session : ℕ) (lines : List ℕ) → split_of before text ≡ Some (session, lines) → IsTextOf before text session lines
unfolding split_of
split_parts before text session lines h =
    option_and_then_some (λ (n : ℕ). if_made_of before text n (lines_in before n text)) (session_in before text) (session, lines) h
    (λ n is made. made_parts before text n (lines_in before n text) session lines made)

pub made_text : (before : Option ℕ) (text : List ℕ) (session : ℕ) (lines : List ℕ) → split_of before text ≡ Some (session, lines) → text ≡ commit_text before session lines
made_text before text session lines h = (split_parts before text session lines h).is

pub made_lawful : (before : Option ℕ) (text : List ℕ) (session : ℕ) (lines : List ℕ) → split_of before text ≡ Some (session, lines) → IsSession session × AreLines lines
made_lawful before text session lines h = let parts = split_parts before text session lines h in (parts.session_is, parts.lines_are)

pub split_never : (before : Option ℕ) (text : List ℕ) (session : ℕ) (lines : List ℕ) → split_of before text ≡ None → IsSession session → AreLines lines → text ≡ commit_text before session lines → ⊥
split_never before text session lines none good h is =
    none-some (session, lines) (sym none ∙ split_found before text session lines (record { session_is = good; lines_are = h; is = is }))

none_by : (before : Option ℕ) (text : List ℕ) (o : Option (ℕ × List ℕ)) → split_of before text ≡ o → ((session : ℕ) (lines : List ℕ) → IsTextOf before text session lines → ⊥) → split_of before text ≡ None
none_by before text None is never = is
none_by before text (Some p) is never = absurd (never p.0 p.1 (split_parts before text p.0 p.1 is))

pub split_none : (before : Option ℕ) (text : List ℕ) → ((session : ℕ) (lines : List ℕ) → IsTextOf before text session lines → ⊥) → split_of before text ≡ None
split_none before text never = none_by before text (split_of before text) refl never

-- the answer, with what it lends
pub none_split : (before : Option ℕ) (text : List ℕ) (answer : Option (ℕ × Bor (List ℕ))) → answer ≡ None → ((session : ℕ) (lines : List ℕ) → IsTextOf before text session lines → ⊥) → option_map (λ p. (p.0, p.1.now)) answer ≡ split_of before text
none_split before text answer is never = ap (option_map (λ (p : ℕ × Bor (List ℕ)). (p.0, p.1.now))) is ∙ sym (split_none before text never)

-- no two commits have one text
pub split_once : (before : Option ℕ) (session other : ℕ) (lines more : List ℕ) → IsSession session → IsSession other → AreLines lines → AreLines more → commit_text before session lines ≡ commit_text before other more → (session ≡ other) × (lines ≡ more)
split_once before session other lines more good fine h k is =
    let same : (session, lines) ≡ (other, more) = same_Some _ _ (sym (split_back before session lines good h) ∙ ap (split_of before) is ∙ split_back before other more fine k) in
    (ap (λ (p : ℕ × List ℕ). p.0) same, ap (λ (p : ℕ × List ℕ). p.1) same)

-- whole lines behind whatever stands in front
or_so : (b : Bool) → (b || true) ≡ true
or_so true = refl
or_so false = refl

pub ends_whole : (front : List ℕ) (byte : ℕ) → are_whole (front ++ byte ∷ 10 ∷ []) ≡ true
ends_whole front byte =
    let lines : List ℕ = front ++ byte ∷ 10 ∷ [] in
    let last : ends_with nat_eq lines (10 ∷ []) ≡ true = (ends_is Decides-eqb lines (10 ∷ []) (ends_with nat_eq lines (10 ∷ [])) refl).1 (front ++ byte ∷ []) (sym (append_assoc front (byte ∷ []) (10 ∷ []))) in
    ap (λ (b : Bool). (length lines == 0) || b) last ∙ or_so (length lines == 0)
