-- What a token says is what its quotes hold.
use Rattle.std.proofs.Common.{◌≡◌, ℕ, ◌+◌, ◌-◌, ◌<◌, ◌≤◌, true, ◌&&◌, cond, List, [], ◌∷◌, ◌++◌, length, length-append, length-drop, get_or, drop, Some, refl, sym, ◌∙◌, ap, subst, arith, inl, inr, leb, append_assoc}
use Rattle.std.specs.Prelude.{encode_utf8, is_some, unwrap_or, slice_range}
use Rattle.std.specs.Str.{IsUtf8, IsCharBoundary}
use Rattle.std.proofs.lemmas.Str.{encode_ascii, IsCharBoundary-after_ascii, IsCharBoundary-before_ascii}
use Rattle.std.proofs.lemmas.Bool.{ne_eqb, eq-eqb, le-leb, leb-true}
use Rattle.std.proofs.lemmas.List.{drop-drop, get_or-drop, length-take-le, take-append-drop}
use Rattle.std.proofs.lemmas.Bool.Decides.{eqb_tells, nat_tests}
use Rattle.hs_lexer.specs.declared.token.Token.{Token}
use Rattle.hs_lexer.specs.declared.token.TokenKind.TheVariants.{Quoted, Text, UnicodeText}
use Rattle.hs_lexer.specs.Pieces.{doubled}
use Rattle.hs_lexer.specs.Content.{undoubled, coded, unescaped, is_cut, is_slice, slice_of, in_quotes, named, told, name_of, text_of, AreEscaped, IsWritten}
use Rattle.hs_lexer.specs.Content.AreEscaped.{none, plain, backslash, character}
use Rattle.hs_lexer.proofs.Steps.{undoubled_other}
use Rattle.hs_lexer.proofs.Found.{and_left, and_right, behind_all}
use Rattle.hs_lexer.proofs.Fronts.{take_all}
use Rattle.hs_lexer.proofs.Slices.{cut_of, get_or_last}

-- doubling and undoubling
pub undoubled_doubled : (quote : ℕ) (bytes : List ℕ) → undoubled quote (doubled quote bytes) ≡ bytes
undoubled_doubled quote [] = refl
undoubled_doubled quote (b ∷ bytes) = elim (eqb_tells b quote) [
  | inl here ↦ rw (here.0, eq-eqb quote quote refl) (ap (λ z. quote ∷ z) (undoubled_doubled quote bytes) ∙ ap (λ z. z ∷ bytes) (sym here.1))
  | inr other ↦ rw other.0 (undoubled_other quote b (doubled quote bytes) other.1 ∙ ap (λ z. b ∷ z) (undoubled_doubled quote bytes))
]

not_coded : (b c d code : ℕ) (bytes : List ℕ) → coded (92 ∷ b ∷ c ∷ d ∷ bytes) ≡ Some code → ⊥
not_coded b c d code bytes is = cc

-- what is escaped is read
pub unescaped_means : {bytes means : List ℕ} → AreEscaped bytes means → unescaped 0 bytes ≡ means
unescaped_means none = refl
unescaped_means (plain b bytes means other h) = rw (ne_eqb b 92 other) (ap (λ z. b ∷ z) (unescaped_means h))
unescaped_means (backslash bytes means h) = rw (encode_ascii 92 (omega arith)) (ap (λ z. 92 ∷ z) (unescaped_means h))
unescaped_means (character a b c d code bytes means is h) = elim (eqb_tells a 92) [
  | inl here ↦ absurd (not_coded b c d code bytes (ap (λ z. coded (z ∷ b ∷ c ∷ d ∷ bytes)) (sym here.1) ∙ is))
  | inr other ↦
      let behind = a ∷ b ∷ c ∷ d ∷ bytes in
      ap (λ t. encode_utf8 (cond t 92 (unwrap_or (coded behind) 92)) ++ unescaped (cond t 1 (cond (is_some (coded behind)) 4 0)) behind) other.0
      ∙ ap (λ o. encode_utf8 (unwrap_or o 92) ++ unescaped (cond (is_some o) 4 0) behind) is
      ∙ ap (λ z. encode_utf8 code ++ z) (unescaped_means h)
]

-- ---- of a token

cut_fits : (source : List ℕ) (at : ℕ) → is_cut source at ≡ true → at ≤ length source
cut_fits source at h = grind (arith, nat_tests)

-- the bytes that stand at a place, and those behind them
record StandsAt (source : List ℕ) (at : ℕ) (bytes rest : List ℕ) : Type 0 where
  pub cut : drop at source ≡ bytes ++ rest
  pub fits : at + (length bytes + length rest) ≡ length source

stands : (source bytes : List ℕ) (start end : ℕ) → is_slice source start end ≡ true → slice_range source start end ≡ bytes
    → (rest : List ℕ) × StandsAt source start bytes rest × (start + length bytes ≡ end)
stands source bytes start end whole is =
    let forward : start ≤ end = leb-true start end (and_left (leb start end) (is_cut source start) (and_left (leb start end && is_cut source start) (is_cut source end) whole)) in
    let fits : end ≤ length source = cut_fits source end (and_right (leb start end && is_cut source start) (is_cut source end) whole) in
    let rest = drop (end - start) (drop start source) in
    let long : length bytes ≡ end - start = ap length (sym is) ∙ length-take-le (end - start) (drop start source) (omega (arith, length-drop start source)) in (
      rest,
      record {
        cut = sym (take-append-drop (end - start) (drop start source)) ∙ ap (λ z. z ++ rest) is;
        fits = omega (arith, long, length-drop start source, length-drop (end - start) (drop start source));
      },
      omega (arith, long),
    )

-- what stands between a front that ends in a byte of ASCII and a last byte of ASCII
between : (source front middle rest : List ℕ) (c last start : ℕ) → IsUtf8 source → c < 128 → last < 128
    → StandsAt source start (((front ++ c ∷ []) ++ middle) ++ last ∷ []) rest
    → slice_of source (start + length (front ++ c ∷ [])) (start + length ((front ++ c ∷ []) ++ middle)) ≡ middle
unfolding slice_of
between source front middle rest c last start utf8 ascii last_ascii h =
    let head = front ++ c ∷ [] in
    let long : length head ≡ length front + 1 = length-append front (c ∷ []) in
    let all : length (head ++ middle) ≡ length head + length middle = length-append head middle in
    let whole : length ((head ++ middle) ++ last ∷ []) ≡ length (head ++ middle) + 1 = length-append (head ++ middle) (last ∷ []) in
    let behind : drop start source ≡ head ++ (middle ++ last ∷ rest) =
    h.cut ∙ append_assoc (head ++ middle) (last ∷ []) rest ∙ append_assoc head middle (last ∷ rest) in
    let at_c : get_or source (start + length front) 0 ≡ c =
    sym (get_or-drop start source (length front) 0) ∙ ap (λ z. get_or z (length front) 0) behind ∙ get_or_last front c (middle ++ last ∷ rest) in
    let from : start + length front + 1 ≡ start + length head = omega (arith, long) in
    let begins = cut_of source (start + length head) (subst (IsCharBoundary source) from
    (IsCharBoundary-after_ascii source (start + length front) utf8 (omega (arith, h.fits, whole, all, long)) (omega (arith, at_c, ascii)))) in
    let at_last : get_or source (start + length (head ++ middle)) 0 ≡ last =
    sym (get_or-drop start source (length (head ++ middle)) 0) ∙ ap (λ z. get_or z (length (head ++ middle)) 0) h.cut ∙ get_or_last (head ++ middle) last rest in
    let ends = cut_of source (start + length (head ++ middle))
    (IsCharBoundary-before_ascii source (start + length (head ++ middle)) (omega (arith, h.fits, whole)) (omega (arith, at_last, last_ascii))) in
    let forward : leb (start + length head) (start + length (head ++ middle)) ≡ true = le-leb (start + length head) (start + length (head ++ middle)) (omega (arith, all)) in
    let size : start + length (head ++ middle) - (start + length head) ≡ length middle = omega (arith, all) in
    let there : drop (start + length head) source ≡ middle ++ last ∷ rest =
    sym (drop-drop (length head) start source) ∙ ap (drop (length head)) behind ∙ behind_all head (middle ++ last ∷ rest) in
    rw (forward, begins, ends, size, there) (take_all middle (last ∷ rest))

quoted_inside : (source : List ℕ) (token : Token) (quote : ℕ) (middle : List ℕ) → quote < 128 → IsWritten source token (quote ∷ (middle ++ quote ∷ []))
    → in_quotes 1 source token ≡ middle
quoted_inside source token quote middle ascii w =
    let s = stands source (quote ∷ (middle ++ quote ∷ [])) token.start token.end w.whole w.is in
    let m = between source [] middle s.0 quote quote token.start w.utf8 ascii ascii s.1 in
    let end : token.start + length (quote ∷ middle) ≡ token.end - 1 = omega (arith, s.2, length-append middle (quote ∷ [])) in
    ap (slice_of source (token.start + 1)) (sym end) ∙ m

unicode_inside : (source : List ℕ) (token : Token) (middle : List ℕ) → IsWritten source token (85 ∷ 38 ∷ 39 ∷ (middle ++ 39 ∷ [])) → in_quotes 3 source token ≡ middle
unicode_inside source token middle w =
    let s = stands source (85 ∷ 38 ∷ 39 ∷ (middle ++ 39 ∷ [])) token.start token.end w.whole w.is in
    let m = between source (85 ∷ 38 ∷ []) middle s.0 39 39 token.start w.utf8 (omega arith) (omega arith) s.1 in
    let end : token.start + length (85 ∷ 38 ∷ 39 ∷ middle) ≡ token.end - 1 = omega (arith, s.2, length-append middle (39 ∷ [])) in
    ap (slice_of source (token.start + 3)) (sym end) ∙ m

pub quoted_named : (source : List ℕ) (token : Token) (name : List ℕ) → token.kind ≡ Quoted → IsWritten source token (34 ∷ (doubled 34 name ++ 34 ∷ [])) → name_of source token ≡ name
unfolding name_of
quoted_named source token name kind w =
    ap (λ k. named k source token) kind ∙ ap (undoubled 34) (quoted_inside source token 34 (doubled 34 name) (omega arith) w) ∙ undoubled_doubled 34 name

pub text_told : (source : List ℕ) (token : Token) (inside : List ℕ) → token.kind ≡ Text → IsWritten source token (39 ∷ (doubled 39 inside ++ 39 ∷ [])) → text_of source token ≡ inside
unfolding text_of
text_told source token inside kind w =
    ap (λ k. told k source token) kind ∙ ap (undoubled 39) (quoted_inside source token 39 (doubled 39 inside) (omega arith) w) ∙ undoubled_doubled 39 inside

pub unicode_told : (source : List ℕ) (token : Token) (inside means : List ℕ) → token.kind ≡ UnicodeText → IsWritten source token (85 ∷ 38 ∷ 39 ∷ (doubled 39 inside ++ 39 ∷ []))
    → AreEscaped inside means → text_of source token ≡ means
unfolding text_of
unicode_told source token inside means kind w escaped =
    ap (λ k. told k source token) kind
    ∙ ap (λ z. unescaped 0 (undoubled 39 z)) (unicode_inside source token (doubled 39 inside) w) ∙ ap (unescaped 0) (undoubled_doubled 39 inside) ∙ unescaped_means escaped
