-- The name that a token is, is text where the tokens' text is.
use Rattle.std.proofs.Common.{◌≡◌, ℕ, zero, suc, ◌+◌, ◌-◌, ◌<◌, ◌≤◌, Bool, true, false, ◌==◌, cond, List, [], ◌∷◌, length, length-drop, map, not, drop, get_or, refl, sym, ap, subst, ◌∙◌, arith, append-nil, inl, inr, eqb-true}
use Rattle.std.specs.Prelude.{encode_utf8, if◌then◌else◌, slice_range}
use Rattle.std.specs.Char.{IsScalar, to_ascii_uppercase}
use Rattle.std.specs.List.{after_first, before_first, position_or_len}
use Rattle.std.specs.Str.{IsUtf8, all_scalars, encode_utf8_all}
use Rattle.std.proofs.lemmas.Bool.{and_parts, cases_lt, leb-true}
use Rattle.std.proofs.lemmas.Bool.Decides.{nat_tests}
use Rattle.std.proofs.lemmas.List.{map-append}
use Rattle.std.proofs.lemmas.Str.{IsCharBoundary-after_ascii, IsCharBoundary-before_ascii, IsUtf8-append, IsUtf8-between, IsUtf8-drop, IsUtf8-encode, IsUtf8-nil, IsUtf8-take, encode_ascii, inside_one}
use Rattle.hs_lexer.specs.Bytes.{begins_with}
use Rattle.hs_lexer.specs.Content.{in_quotes, is_cut, is_slice, name_of, named, past_second, slice_of, undoubled, written}
use Rattle.hs_lexer.specs.declared.token.Token.{Token}
use Rattle.hs_lexer.specs.declared.token.TokenKind.{TokenKind}
use Rattle.hs_lexer.specs.declared.token.TokenKind.TheVariants.{Number, Quoted, Symbol, Text, UnicodeText, Word}
use Rattle.hs_lexer.proofs.Cuts.{boundary}
use Rattle.hs_lexer.proofs.Parts.{past_second_short, undoubled_at, undoubled_none}

-- ---- capitals

high_stays : (b : ℕ) → 128 ≤ b → to_ascii_uppercase b ≡ b
high_stays b h = grind (arith, nat_tests)

low_stays : (b : ℕ) → b < 128 → to_ascii_uppercase b < 128
low_stays b h = grind (arith, nat_tests)

low_scalar : (b : ℕ) → b < 128 → IsScalar b
low_scalar b h = grind (arith, nat_tests)

all_high : (bytes : List ℕ) → ((k : ℕ) → k < length bytes → 128 ≤ get_or bytes k 0) → map to_ascii_uppercase bytes ≡ bytes
all_high [] h = refl
all_high (b ∷ bytes) h =
    let here : to_ascii_uppercase b ≡ b = high_stays b (h 0 (omega arith)) in
    let rest : map to_ascii_uppercase bytes ≡ bytes = all_high bytes (λ k less. h (suc k) (omega (arith, less))) in
    (λ i. here i ∷ rest i)

high : (c k : ℕ) → 128 ≤ c → k < length (encode_utf8 c) → 128 ≤ get_or (encode_utf8 c) k 0
high c k large less = elim (cases_lt (get_or (encode_utf8 c) k 0) 128) [
  | inl low ↦ let is : c ≡ get_or (encode_utf8 c) k 0 = inside_one c [] (encode_utf8 c) k (sym (append-nil (encode_utf8 c))) less low in absurd (omega (arith, is, low, large))
  | inr its ↦ its
]

one_upper : (c : ℕ) → IsScalar c → IsUtf8 (map to_ascii_uppercase (encode_utf8 c))
one_upper c is = elim (cases_lt c 128) [
  | inl low ↦
      let small : to_ascii_uppercase c < 128 = low_stays c low in
      subst IsUtf8 (encode_ascii (to_ascii_uppercase c) small ∙ sym (ap (map to_ascii_uppercase) (encode_ascii c low))) (IsUtf8-encode (to_ascii_uppercase c) (low_scalar (to_ascii_uppercase c) small))
  | inr large ↦ subst IsUtf8 (sym (all_high (encode_utf8 c) (λ k less. high c k large less))) (IsUtf8-encode c is)
]

all_upper : (cs : List ℕ) → all_scalars cs ≡ true → IsUtf8 (map to_ascii_uppercase (encode_utf8_all cs))
all_upper [] h = IsUtf8-nil
all_upper (c ∷ cs) h =
    let parts = and_parts _ (all_scalars cs) h in
    subst IsUtf8 (sym (map-append to_ascii_uppercase (encode_utf8 c) (encode_utf8_all cs)))
    (IsUtf8-append (map to_ascii_uppercase (encode_utf8 c)) (map to_ascii_uppercase (encode_utf8_all cs)) (one_upper c parts.0) (all_upper cs parts.1))

upper_utf8 : (bytes : List ℕ) → IsUtf8 bytes → IsUtf8 (map to_ascii_uppercase bytes)
upper_utf8 bytes is = subst (λ z. IsUtf8 (map to_ascii_uppercase z)) is.1.1 (all_upper is.0 is.1.0)

-- ---- quotes

abbrev is_quote : ℕ → Bool
is_quote b = b == 34

quote_by : (b : ℕ) (bytes : List ℕ) (t : Bool) → is_quote b ≡ t → (position_or_len is_quote bytes < length bytes → get_or bytes (position_or_len is_quote bytes) 0 ≡ 34)
    → cond (not t) (1 + position_or_len is_quote bytes) 0 < suc (length bytes) → get_or (b ∷ bytes) (cond (not t) (1 + position_or_len is_quote bytes) 0) 0 ≡ 34
quote_by b bytes true is rest within = eqb-true b 34 is
quote_by b bytes false is rest within =
    let k : 1 + position_or_len is_quote bytes ≡ suc (position_or_len is_quote bytes) = omega arith in
    ap (λ (i : ℕ). get_or (b ∷ bytes) i 0) k ∙ rest (omega (arith, within))

quote_there : (bytes : List ℕ) → position_or_len is_quote bytes < length bytes → get_or bytes (position_or_len is_quote bytes) 0 ≡ 34
quote_there [] within = absurd (omega (arith, within))
quote_there (b ∷ bytes) within = quote_by b bytes (is_quote b) refl (quote_there bytes) within

begins_is : (bytes : List ℕ) → begins_with 34 bytes ≡ true → (0 < length bytes) × (get_or bytes 0 0 ≡ 34)
begins_is [] h = cc
begins_is (b ∷ bytes) h = (omega arith, eqb-true b 34 h)

no_further : (bytes : List ℕ) → position_or_len is_quote bytes ≤ length bytes
no_further [] = omega arith
no_further (b ∷ bytes) = elim (is_quote b) as (λ t. cond (not t) (1 + position_or_len is_quote bytes) 0 ≤ suc (length bytes)) [ true ↦ omega arith | false ↦ omega (arith, no_further bytes) ]

none : (bytes : List ℕ) → length bytes ≤ position_or_len is_quote bytes → position_or_len is_quote bytes ≡ length bytes
none bytes beyond = omega (arith, beyond, no_further bytes)

past_by : (bytes : List ℕ) (t : Bool) → begins_with 34 bytes ≡ t → IsUtf8 bytes → IsUtf8 (if t then drop 1 bytes else bytes)
past_by bytes true is text = let first = begins_is bytes is in IsUtf8-drop bytes 1 text (IsCharBoundary-after_ascii bytes 0 text first.0 (omega (arith, first.1)))
past_by bytes false is text = text

quote_utf8 : IsUtf8 (34 ∷ [])
quote_utf8 = let low : 34 < 128 = omega arith in subst IsUtf8 (encode_ascii 34 low) (IsUtf8-encode 34 (low_scalar 34 low))

undoubled_by : (fuel : ℕ) (bytes : List ℕ) → length bytes ≤ fuel → IsUtf8 bytes → IsUtf8 (undoubled 34 bytes)
undoubled_by zero [] short text = IsUtf8-nil
undoubled_by zero (b ∷ bytes) short text = absurd (omega (arith, short))
undoubled_by (suc fuel) bytes short text = elim (cases_lt (position_or_len is_quote bytes) (length bytes)) [
  | inl within ↦
      let place : ℕ = position_or_len is_quote bytes in
      let low : get_or bytes place 0 < 128 = omega (arith, quote_there bytes within) in
      let behind : List ℕ = after_first is_quote bytes in
      let text_behind : IsUtf8 behind = IsUtf8-drop bytes (place + 1) text (IsCharBoundary-after_ascii bytes place text within low) in
      let rest : IsUtf8 (undoubled 34 (past_second 34 behind)) =
      undoubled_by fuel (past_second 34 behind) (omega (arith, short, within, past_second_short 34 behind, length-drop (place + 1) bytes)) (past_by behind (begins_with 34 behind) refl text_behind) in
      subst IsUtf8 (sym (undoubled_at 34 bytes within))
      (IsUtf8-append (before_first is_quote bytes) (34 ∷ undoubled 34 (past_second 34 behind)) (IsUtf8-take bytes place text (IsCharBoundary-before_ascii bytes place within low))
      (IsUtf8-append (34 ∷ []) (undoubled 34 (past_second 34 behind)) quote_utf8 rest))
  | inr beyond ↦ subst IsUtf8 (sym (undoubled_none 34 bytes (none bytes beyond))) text
]

-- ---- a token

slice_by : (text : List ℕ) (from to : ℕ) (t : Bool) → is_slice text from to ≡ t → IsUtf8 text → IsUtf8 (if t then slice_range text from to else [])
slice_by text from to true is utf8 =
    let ends = and_parts _ (is_cut text to) is in
    let starts = and_parts _ (is_cut text from) ends.0 in
    IsUtf8-between text from to utf8 (leb-true from to starts.0) (boundary text from starts.1) (boundary text to ends.1)
slice_by text from to false is utf8 = IsUtf8-nil

slice_utf8 : (text : List ℕ) (from to : ℕ) → IsUtf8 text → IsUtf8 (slice_of text from to)
unfolding slice_of
slice_utf8 text from to utf8 = slice_by text from to (is_slice text from to) refl utf8

capitals : (text : List ℕ) (token : Token) → IsUtf8 text → IsUtf8 (map to_ascii_uppercase (written text token))
capitals text token utf8 = upper_utf8 (written text token) (slice_utf8 text token.start token.end utf8)

named_utf8 : (kind : TokenKind) (text : List ℕ) (token : Token) → IsUtf8 text → IsUtf8 (named kind text token)
named_utf8 Quoted text token utf8 = undoubled_by (length (in_quotes 1 text token)) (in_quotes 1 text token) (omega arith) (slice_utf8 text (token.start + 1) (token.end - 1) utf8)
named_utf8 Word text token utf8 = capitals text token utf8
named_utf8 Number text token utf8 = capitals text token utf8
named_utf8 Text text token utf8 = capitals text token utf8
named_utf8 UnicodeText text token utf8 = capitals text token utf8
named_utf8 Symbol text token utf8 = capitals text token utf8

pub name_utf8 : (text : List ℕ) (token : Token) → IsUtf8 text → IsUtf8 (name_of text token)
unfolding name_of
name_utf8 text token utf8 = named_utf8 token.kind text token utf8
