-- What calls on texts answer, by bytes.
use Rattle.std.proofs.Common.{◌≡◌, ◌≢◌, ℕ, ℤ, ◌+◌, ◌<◌, ◌≤◌, Bool, true, false, eqb, List, [], ◌∷◌, ◌++◌, length, take, drop, Option, Some, None, Result, Ok, Err, Bor, MatchOption, inl, inr, refl, sym, ap, subst, ◌∙◌, append_assoc, append-nil, IsUtf8, FitsSigned, pos, ◌+ℤ◌, ◌*ℤ◌, arith}
use Rattle.std.specs.Prelude.{MatchResult, encode_utf8, encode_utf8_all, codes}
use Rattle.std.specs.Cmp.Lexicographic.{pointwise}
use Rattle.std.specs.Int.{w64}
use Rattle.std.specs.List.{flat_map}
use Rattle.std.specs.Result.{result_ok}
use Rattle.std.specs.Str.{IsCharBoundary}
use Rattle.std.specs.Str.Pattern.{FindsChar, HasCharAt}
use Rattle.std.proofs.lemmas.Bool.{eqb-true}
use Rattle.std.proofs.lemmas.Int.{ints}
use Rattle.std.proofs.lemmas.List.{take-append-drop, nil_from_length}
use Rattle.std.proofs.lemmas.List.Concat.{flat_map-append}
use Rattle.std.proofs.lemmas.Slice.Eq.{bytes_eq-Decides}
use Rattle.std.proofs.lemmas.Str.{IsUtf8-drop, IsUtf8-past_char, encode_ascii, encodes-append}
use Rattle.std.proofs.lemmas.Str.Pattern.{NoCharPasses-char, drop_at_char}
use Rattle.hs_temporal.specs.Days.{IsDay, IsMicros, day_of, time_of}
use Rattle.hs_temporal.specs.Texts.{date_text, stamp_text, filled}
use Rattle.hs_temporal.proofs.StampLemmas.{sum-time_of}
use Rattle.hs_values.specs.declared.fault.EvalFault.{EvalFault}
use Rattle.hs_valuetext.specs.Finding.{Knows}
use Rattle.hs_valuetext.specs.Quotes.{doubled, begins_with}
use Rattle.hs_valuetext.specs.Texts.{escaped_byte, escaped}
use Rattle.hs_valuetext.specs.Values.{IsDayText, IsMomentText}
use Rattle.hs_valuetext.proofs.Bits.{not_both, same_or_not}
use Rattle.hs_valuetext.proofs.NumberLemmas.{same_front, day_found, day_missing, moment_found, moment_missing}
use Rattle.hs_valuetext.proofs.QuoteLemmas.{Lacks, lacks_each, doubled-lacks, doubled-front}

-- ---- tests of equality and of emptiness

pub same_texts : (xs ys : List ℕ) (r : Bool) → r ≡ pointwise eqb xs ys → r ≡ true → xs ≡ ys
same_texts xs ys r is holds = (bytes_eq-Decides xs ys).0 (sym is ∙ holds)

pub other_texts : (xs ys : List ℕ) (r : Bool) → r ≡ pointwise eqb xs ys → r ≡ false → xs ≢ ys
other_texts xs ys r is fails e = not_both r (is ∙ (bytes_eq-Decides xs ys).1 e) fails

pub empty_from : (xs : List ℕ) (r : Bool) → r ≡ eqb (length xs) 0 → r ≡ true → xs ≡ []
empty_from xs r is holds = nil_from_length xs (eqb-true (length xs) 0 (sym is ∙ holds))

pub nonempty_from : (xs : List ℕ) (r : Bool) → r ≡ eqb (length xs) 0 → r ≡ false → xs ≢ []
nonempty_from xs r is fails e = not_both r (is ∙ ap (λ (ys : List ℕ). eqb (length ys) 0) e) fails

-- ---- a text cut at a byte

pub record Splits (q : ℕ) (text front behind : List ℕ) : Type 0 where
  pub parts : text ≡ front ++ q ∷ behind
  pub lacks : Lacks q front
  pub valid : IsUtf8 behind

pub split : (q : ℕ) (text front behind : List ℕ) → q < 128 → IsUtf8 text → (i : ℕ) × (j : ℕ) × FindsChar q text (Some (i, j)) × (front ≡ take i text) × (behind ≡ drop j text) × (i ≤ j) × (length front ≡ i) × (length behind + j ≡ length text) → Splits q text front behind
split q text front behind small valid h =
    let at : HasCharAt q text h.0 h.1 = h.2.1 in
    let cut : IsCharBoundary text h.1 = subst (λ (k : ℕ). IsCharBoundary text k) (sym at.ends) at.after in
    record {
      parts =
          sym (take-append-drop h.0 text) ∙ ap (λ (xs : List ℕ). take h.0 text ++ xs) (drop_at_char q text h.0 h.1 at small ∙ ap (λ (xs : List ℕ). q ∷ xs) (sym h.4))
          ∙ ap (λ (xs : List ℕ). xs ++ q ∷ behind) (sym h.3);
      lacks = subst (Lacks q) (sym h.3) (lacks_each q (take h.0 text) (λ k below. NoCharPasses-char q (take h.0 text) k h.2.0 small below));
      valid = subst IsUtf8 (sym h.4) (IsUtf8-drop text h.1 valid cut);
    }

pub uncut : (q : ℕ) (text : List ℕ) → q < 128 → FindsChar q text None → Lacks q text
uncut q text small h = lacks_each q text (λ k below. NoCharPasses-char q text k h small below)

pub not_begun : (q : ℕ) (text : List ℕ) → q < 128 → ((rest : List ℕ) → text ≢ encode_utf8 q ++ rest) → begins_with q text ≡ false
not_begun q [] small other = refl
not_begun q (b ∷ text) small other = elim (same_or_not b q) [
  | inl same ↦ absurd (other text (ap (λ (x : ℕ). x ∷ text) same.0 ∙ ap (λ (xs : List ℕ). xs ++ text) (sym (encode_ascii q small))))
  | inr not ↦ not.1
]

pub begun_valid : (q : ℕ) (text rest : List ℕ) → q < 128 → IsUtf8 text → text ≡ q ∷ rest → IsUtf8 rest
begun_valid q text rest small valid e = IsUtf8-past_char text rest q valid (e ∙ ap (λ (xs : List ℕ). xs ++ rest) (sym (encode_ascii q small)))

-- ---- doubling

pub pushed : (q : ℕ) (out front behind rest a b d whole : List ℕ) → q < 128 → Splits q rest front behind → a ≡ out ++ front → b ≡ a ++ encode_utf8 q → d ≡ b ++ encode_utf8 q → out ++ doubled q rest ≡ whole → d ++ doubled q behind ≡ whole
pushed q out front behind rest a b d whole small cut first second third all =
    let quote : encode_utf8 q ≡ q ∷ [] = encode_ascii q small in
    let b_is : b ≡ (out ++ front) ++ q ∷ [] = second ∙ (λ i. first i ++ quote i) in
    let d_is : d ≡ ((out ++ front) ++ q ∷ []) ++ q ∷ [] = third ∙ (λ i. b_is i ++ quote i) in
    ap (λ (xs : List ℕ). xs ++ doubled q behind) d_is
    ∙ append_assoc ((out ++ front) ++ q ∷ []) (q ∷ []) (doubled q behind)
    ∙ append_assoc (out ++ front) (q ∷ []) (q ∷ doubled q behind)
    ∙ append_assoc out front (q ∷ q ∷ doubled q behind)
    ∙ ap (λ (xs : List ℕ). out ++ xs) (sym (doubled-front q front behind cut.lacks))
    ∙ ap (λ (xs : List ℕ). out ++ doubled q xs) (sym cut.parts)
    ∙ all

pub pushed_last : (q : ℕ) (out rest new whole : List ℕ) → Lacks q rest → out ++ doubled q rest ≡ whole → new ≡ out ++ rest → new ≡ whole
pushed_last q out rest new whole lacks all is = is ∙ ap (λ (xs : List ℕ). out ++ xs) (sym (doubled-lacks q rest lacks)) ∙ all

pub pushed_quote : (q : ℕ) (front new before : List ℕ) → q < 128 → new ≡ before ++ encode_utf8 q → before ≡ front → new ≡ front ++ q ∷ []
pushed_quote q front new before small is same = is ∙ (λ i. same i ++ encode_ascii q small i)

-- ---- escapes

pub escape_more : (out new yielded : List ℕ) (c : ℕ) → out ≡ escaped (encode_utf8_all yielded) → new ≡ out ++ flat_map escaped_byte (encode_utf8 c) → new ≡ escaped (encode_utf8_all (yielded ++ c ∷ []))
escape_more out new yielded c so_far more =
    more ∙ ap (λ (xs : List ℕ). xs ++ flat_map escaped_byte (encode_utf8 c)) so_far
    ∙ sym (flat_map-append escaped_byte (encode_utf8_all yielded) (encode_utf8 c))
    ∙ ap escaped (ap (λ (xs : List ℕ). encode_utf8_all yielded ++ xs) (sym (append-nil (encode_utf8 c))) ∙ sym (encodes-append yielded (c ∷ [])))

-- ---- what is between a front and a quote

pub between_from : (text front rest : List ℕ) (r : Option (Bor (List ℕ))) → text ≡ front ++ rest → MatchOption r ((xs : List ℕ) → rest ≢ xs ++ (39 ∷ [])) (λ x. rest ≡ x.now ++ (39 ∷ [])) → MatchOption r ((content : List ℕ) → text ≢ (front ++ content) ++ 39 ∷ []) (λ content. text ≡ (front ++ content.now) ++ 39 ∷ [])
between_from text front rest None e h = λ content is. h content (same_front front rest (content ++ 39 ∷ []) (sym e ∙ is ∙ append_assoc front content (39 ∷ [])))
between_from text front rest (Some x) e h = e ∙ ap (λ (xs : List ℕ). front ++ xs) h ∙ sym (append_assoc front x.now (39 ∷ []))

pub day_from : (text date : List ℕ) (r : Result ℤ EvalFault) (o : Option ℤ) → text ≡ (codes "DATE '" ++ date) ++ codes "'" → o ≡ result_ok r → MatchResult r (λ day. IsDay day × (date_text day ≡ date)) (λ _. (day : ℤ) → IsDay day → date_text day ≢ date) → Knows (λ d. d) (IsDayText text) o
day_from text date (Ok day) o e is h = subst (λ (x : Option ℤ). Knows (λ d. d) (IsDayText text) x) (sym is) (day_found text date day e h)
day_from text date (Err f) o e is h = subst (λ (x : Option ℤ). Knows (λ d. d) (IsDayText text) x) (sym is) (day_missing text date e h)

pub moment_from : (text stamp : List ℕ) (r : Result ℤ EvalFault) (o : Option ℤ) → text ≡ (codes "TIMESTAMP '" ++ stamp) ++ codes "'" → length stamp ≡ 26 → o ≡ result_ok r → MatchResult r (λ micros. IsMicros micros × (stamp_text micros ≡ filled stamp)) (λ _. (micros : ℤ) → IsMicros micros → stamp_text micros ≢ filled stamp) → Knows (λ m. m) (IsMomentText text) o
moment_from text stamp (Ok micros) o e long is h = subst (λ (x : Option ℤ). Knows (λ m. m) (IsMomentText text) x) (sym is) (moment_found text stamp micros e long h)
moment_from text stamp (Err f) o e long is h = subst (λ (x : Option ℤ). Knows (λ m. m) (IsMomentText text) x) (sym is) (moment_missing text stamp e long h)

fits_by : (micros day : ℤ) (time : ℕ) → micros ≡ day *ℤ pos 86_400_000_000 +ℤ pos time → time < 86_400_000_000 → IsDay day → FitsSigned w64 micros
fits_by micros day time is less h = omega (arith, ints, h.0, h.1)

pub moment_fits : (micros : ℤ) → IsMicros micros → FitsSigned w64 micros
moment_fits micros h =
    let whole = sum-time_of micros in
    fits_by micros (day_of micros) (time_of micros) (sym whole.0) whole.1 h
