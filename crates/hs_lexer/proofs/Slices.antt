-- Tokens are slices of their text, in order.
use Rattle.std.proofs.Common.{◌≡◌, ℕ, ◌+◌, ◌<◌, ◌≤◌, Bool, true, List, [], ◌∷◌, ◌++◌, length, length-append, get_or, leb, drop, Ok, refl, sym, ◌∙◌, ap, subst, arith, append_assoc}
use Rattle.std.specs.List.{list_all}
use Rattle.std.specs.Str.{IsUtf8, IsCharBoundary}
use Rattle.std.proofs.lemmas.Str.{IsCharBoundary-before_ascii, IsCharBoundary-after_ascii}
use Rattle.std.proofs.lemmas.List.{drop-drop, get_or-drop}
use Rattle.std.proofs.lemmas.Bool.{le-leb}
use Rattle.std.proofs.lemmas.Bool.Decides.{nat_tests}
use Rattle.hs_lexer.specs.declared.token.TokenKind.{TokenKind}
use Rattle.hs_lexer.specs.declared.token.Token.{Token as Found}
use Rattle.hs_lexer.specs.declared.lexeme.Lexeme.TheVariants.{Token}
use Rattle.hs_lexer.specs.Bytes.{is_digit, begins_word, is_in_word, is_single, is_pair}
use Rattle.hs_lexer.specs.Pieces.{is_digits, is_symbol, doubled, Spells}
use Rattle.hs_lexer.specs.Pieces.Spells.{word, whole, pointed, quoted, text, unicode_text, symbol}
use Rattle.hs_lexer.specs.Reading.{tokens_of}
use Rattle.hs_lexer.specs.Content.{is_cut, is_slice}
use Rattle.hs_lexer.specs.Tokens.{AreTokens, AreInOrder, AreSlices}
use Rattle.hs_lexer.specs.Tokens.AreTokens.{none, between, token}
use Rattle.hs_lexer.proofs.Found.{and_left, and_right, behind_all}
use Rattle.hs_lexer.proofs.Taken.{word_goes}
use Rattle.hs_lexer.proofs.Fronts.{piece_some, tokens_found}

-- ---- in order

order_from : (a b end : ℕ) (tokens : List Found) → a ≤ b → AreInOrder b end tokens → AreInOrder a end tokens
order_from a b end [] h m = tt
order_from a b end (t ∷ tokens) h (start, some, fits, rest) = (omega arith, some, fits, rest)

in_order : {at : ℕ} {bytes : List ℕ} {tokens : List Found} (end : ℕ) → at + length bytes ≡ end → AreTokens at bytes tokens → AreInOrder at end tokens
in_order end same (none at) = tt
in_order end same (between at bytes lexeme piece rest tokens front h more) =
    let parts = ap length front.is.cut ∙ length-append piece rest in
    order_from at (at + length piece) end tokens (omega arith) (in_order end (omega (arith, parts, same)) more)
in_order end same (token at bytes kind piece rest tokens front sound more) =
    let parts = ap length front.is.cut ∙ length-append piece rest in
    let some = piece_some front.is.spelled in
    let fits : at + length piece ≤ end = omega (arith, parts, same) in
    (omega arith, omega (arith, some), fits, in_order end (omega (arith, parts, same)) more)

pub tokens_in_order : (source : List ℕ) (tokens : List Found) → tokens_of source ≡ Ok tokens → AreInOrder 0 (length source) tokens
tokens_in_order source tokens is = in_order (length source) (omega arith) (tokens_found source tokens is)

-- ---- slices

in_word_ascii : (b : ℕ) → is_in_word b ≡ true → b < 128
in_word_ascii b h = grind (arith, nat_tests)

word_ascii : (b : ℕ) → begins_word b ≡ true → b < 128
word_ascii b h = grind (arith, nat_tests)

digit_ascii : (b : ℕ) → is_digit b ≡ true → b < 128
digit_ascii b h = grind (arith, nat_tests)

single_ascii : (b : ℕ) → is_single b ≡ true → b < 128
single_ascii b h = grind (arith, nat_tests)

pair_ascii : (b c : ℕ) → is_pair b c ≡ true → (b < 128) × (c < 128)
pair_ascii b c h = (grind (arith, nat_tests), grind (arith, nat_tests))

-- the first byte and the last one are of ASCII
pub record IsFramed (piece : List ℕ) (first last : ℕ) (behind front : List ℕ) : Type 0 where
  pub begins : piece ≡ first ∷ behind
  pub ends : piece ≡ front ++ last ∷ []
  pub first_ascii : first < 128
  pub last_ascii : last < 128

abbrev pub Framed : List ℕ → Type 0
Framed piece = (first : ℕ) × (last : ℕ) × (behind : List ℕ) × (front : List ℕ) × IsFramed piece first last behind front

-- the last byte
last_of : (p : ℕ → Bool) (b : ℕ) (bytes : List ℕ) → p b ≡ true → list_all p bytes ≡ true → (front : List ℕ) × (c : ℕ) × (b ∷ bytes ≡ front ++ c ∷ []) × (p c ≡ true)
last_of p b [] h all = ([], b, refl, h)
last_of p b (c ∷ bytes) h all =
    let m = last_of p c bytes (and_left (p c) (list_all p bytes) all) (and_right (p c) (list_all p bytes) all) in
    (b ∷ m.0, m.1, ap (λ z. b ∷ z) m.2, m.3)

digits_last : (digits : List ℕ) → is_digits digits ≡ true → (b : ℕ) × (behind : List ℕ) × (front : List ℕ) × (c : ℕ) × (digits ≡ b ∷ behind) × (digits ≡ front ++ c ∷ []) × (b < 128) × (c < 128)
digits_last [] h = cc
digits_last (b ∷ bytes) h =
    let here = and_left (is_digit b) (list_all is_digit bytes) h in
    let m = last_of is_digit b bytes here (and_right (is_digit b) (list_all is_digit bytes) h) in
    (b, bytes, m.0, m.1, refl, m.2, digit_ascii b here, digit_ascii m.1 m.3)

symbol_framed : (bytes : List ℕ) → is_symbol bytes ≡ true → Framed bytes
symbol_framed [] h = cc
symbol_framed (b ∷ []) h = (b, b, [], [], record { begins = refl; ends = refl; first_ascii = single_ascii b h; last_ascii = single_ascii b h })
symbol_framed (b ∷ c ∷ []) h = let k = pair_ascii b c h in (b, c, c ∷ [], b ∷ [], record { begins = refl; ends = refl; first_ascii = k.0; last_ascii = k.1 })
symbol_framed (b ∷ c ∷ d ∷ bytes) h = cc

pub framed : {kind : TokenKind} {piece : List ℕ} → Spells (Token kind) piece → Framed piece
framed (word b bytes h all) =
    let m = last_of is_in_word b bytes (word_goes b h) all in
    (b, m.1, bytes, m.0, record { begins = refl; ends = m.2; first_ascii = word_ascii b h; last_ascii = in_word_ascii m.1 m.3 })
framed (whole digits h) =
    let m = digits_last digits h in (m.0, m.3, m.1, m.2, record { begins = m.4; ends = m.5; first_ascii = m.6; last_ascii = m.7 })
framed (pointed digits fraction d f) =
    let m = digits_last digits d in
    let n = digits_last fraction f in (
      m.0,
      n.3,
      m.1 ++ 46 ∷ fraction,
      digits ++ 46 ∷ n.2,
      record {
        begins = ap (λ z. z ++ 46 ∷ fraction) m.4;
        ends = ap (λ z. digits ++ 46 ∷ z) n.5 ∙ sym (append_assoc digits (46 ∷ n.2) (n.3 ∷ []));
        first_ascii = m.6;
        last_ascii = n.7;
      },
    )
framed (quoted name) = (34, 34, doubled 34 name ++ 34 ∷ [], 34 ∷ doubled 34 name, record { begins = refl; ends = refl; first_ascii = omega arith; last_ascii = omega arith })
framed (text inside) = (39, 39, doubled 39 inside ++ 39 ∷ [], 39 ∷ doubled 39 inside, record { begins = refl; ends = refl; first_ascii = omega arith; last_ascii = omega arith })
framed (unicode_text inside) =
    (85, 39, 38 ∷ 39 ∷ (doubled 39 inside ++ 39 ∷ []), 85 ∷ 38 ∷ 39 ∷ doubled 39 inside, record { begins = refl; ends = refl; first_ascii = omega arith; last_ascii = omega arith })
framed (symbol bytes h) = symbol_framed bytes h

pub cut_of : (source : List ℕ) (at : ℕ) → IsCharBoundary source at → is_cut source at ≡ true
cut_of source at (fits, lead) = grind (arith, nat_tests)

pub get_or_last : (front : List ℕ) (b : ℕ) (rest : List ℕ) → get_or ((front ++ b ∷ []) ++ rest) (length front) 0 ≡ b
get_or_last [] b rest = refl
get_or_last (x ∷ front) b rest = get_or_last front b rest

pub rest_of : (source bytes piece rest : List ℕ) (at : ℕ) → drop at source ≡ bytes → bytes ≡ piece ++ rest → drop (at + length piece) source ≡ rest
rest_of source bytes piece rest at here cut = sym (drop-drop (length piece) at source) ∙ ap (drop (length piece)) (here ∙ cut) ∙ behind_all piece rest

pub slice_of_piece : (source bytes piece rest : List ℕ) (at : ℕ) → IsUtf8 source → at + length bytes ≡ length source → drop at source ≡ bytes → bytes ≡ piece ++ rest → Framed piece
    → is_slice source at (at + length piece) ≡ true
slice_of_piece source bytes piece rest at utf8 size here cut (first, last, behind, front, f) =
    let parts = ap length cut ∙ length-append piece rest in
    let long : length piece ≡ length front + 1 = ap length f.ends ∙ length-append front (last ∷ []) in
    let head : get_or source at 0 ≡ first =
    ap (λ k. get_or source k 0) (omega arith) ∙ sym (get_or-drop at source 0 0) ∙ ap (λ z. get_or z 0 0) (here ∙ cut ∙ ap (λ z. z ++ rest) f.begins) in
    let tail : get_or source (at + length front) 0 ≡ last =
    sym (get_or-drop at source (length front) 0) ∙ ap (λ z. get_or z (length front) 0) (here ∙ cut ∙ ap (λ z. z ++ rest) f.ends) ∙ get_or_last front last rest in
    let starts = cut_of source at (IsCharBoundary-before_ascii source at (omega (arith, parts, size, long)) (omega (arith, head, f.first_ascii))) in
    let moved : at + length front + 1 ≡ at + length piece = omega (arith, long) in
    let stops = cut_of source (at + length piece) (subst (IsCharBoundary source) moved
    (IsCharBoundary-after_ascii source (at + length front) utf8 (omega (arith, parts, size, long)) (omega (arith, tail, f.last_ascii)))) in
    let forward : leb at (at + length piece) ≡ true = le-leb at (at + length piece) (omega arith) in
    rw (forward, starts, stops) refl

slices : {at : ℕ} {bytes : List ℕ} {tokens : List Found} (source : List ℕ) → IsUtf8 source → at + length bytes ≡ length source → drop at source ≡ bytes → AreTokens at bytes tokens
    → AreSlices source tokens
slices source utf8 size here (none at) = tt
slices source utf8 size here (between at bytes lexeme piece rest tokens front h more) =
    let parts = ap length front.is.cut ∙ length-append piece rest in
    slices source utf8 (omega (arith, parts, size)) (rest_of source bytes piece rest at here front.is.cut) more
slices source utf8 size here (token at bytes kind piece rest tokens front sound more) =
    let parts = ap length front.is.cut ∙ length-append piece rest in (
      slice_of_piece source bytes piece rest at utf8 size here front.is.cut (framed front.is.spelled),
      slices source utf8 (omega (arith, parts, size)) (rest_of source bytes piece rest at here front.is.cut) more,
    )

pub tokens_are_slices : (source : List ℕ) (tokens : List Found) → IsUtf8 source → tokens_of source ≡ Ok tokens → AreSlices source tokens
tokens_are_slices source tokens utf8 is = slices source utf8 (omega arith) refl (tokens_found source tokens is)
