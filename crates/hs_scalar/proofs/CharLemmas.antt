-- The characters of a text and of its parts.
use Rattle.std.proofs.Common.{◌≡◌, ℕ, List, [], ◌∷◌, ◌++◌, length, take, drop, sym, ◌∙◌, ap, append-nil, length-append, inl, inr, ◌≤◌, ◌+◌, ◌-◌, arith}
use Rattle.std.specs.Prelude.{encode_utf8, encode_utf8_all}
use Rattle.std.specs.Str.{chars, IsUtf8, IsCharBoundary}
use Rattle.std.proofs.lemmas.List.{take-append-drop, drop-take, length-take}
use Rattle.std.proofs.Math.Seq.{take-append_seam}
use Rattle.std.proofs.Math.ListN.{drop_of_length-le}
use Rattle.std.proofs.lemmas.Bool.{cases_lt}
use Rattle.std.proofs.lemmas.Str.{IsCharBoundary-at_seam, IsUtf8-take, chars-nil, chars_from_encodes, encodes-append, encodes-chars}

-- no bytes are no characters
pub chars_of_none : (text : List ℕ) → length text ≡ 0 → chars text ≡ []
chars_of_none [] e = chars-nil
chars_of_none (b ∷ bs) e = absurd (omega arith)

-- a text that ends with the bytes of a character ends with that character
pub chars_before_char : (text front : List ℕ) (c : ℕ) → IsUtf8 text → IsUtf8 front → text ≡ front ++ encode_utf8 c → chars text ≡ chars front ++ c ∷ []
chars_before_char text front c valid front_valid e =
    let spelled : encode_utf8_all (chars front ++ c ∷ []) ≡ text = rw (encodes-append, encodes-chars front front_valid, append-nil) (sym e) in
    sym (chars_from_encodes (chars front ++ c ∷ []) text valid spelled)

-- a text is the bytes of its characters
pub spelled : (text cs : List ℕ) → IsUtf8 text → chars text ≡ cs → text ≡ encode_utf8_all cs
spelled text cs valid e = rw (← e) (sym (encodes-chars text valid))

-- before the rest without the first n characters stand these
pub seam : (text rest : List ℕ) (n : ℕ) → IsUtf8 text → IsUtf8 rest → chars rest ≡ drop n (chars text) → text ≡ encode_utf8_all (take n (chars text)) ++ rest
seam text rest n valid rest_valid e =
    let front : List ℕ = encode_utf8_all (take n (chars text)) in
    let behind : rest ≡ encode_utf8_all (drop n (chars text)) = spelled rest (drop n (chars text)) rest_valid e in
    let whole : text ≡ encode_utf8_all (take n (chars text) ++ drop n (chars text)) = spelled text _ valid (sym (take-append-drop n (chars text))) in
    whole ∙ encodes-append (take n (chars text)) (drop n (chars text)) ∙ ap (λ (bs : List ℕ). encode_utf8_all (take n (chars text)) ++ bs) (sym behind)

-- the seam lies within the text, and may be cut at
pub seam_fits : (text rest : List ℕ) (n : ℕ) → IsUtf8 text → IsUtf8 rest → chars rest ≡ drop n (chars text) → length rest ≤ length text
seam_fits text rest n valid rest_valid e = omega (arith, ap length (seam text rest n valid rest_valid e), length-append {A = ℕ})

seam_at : (text rest : List ℕ) (n : ℕ) → IsUtf8 text → IsUtf8 rest → chars rest ≡ drop n (chars text) → length text - length rest ≡ length (encode_utf8_all (take n (chars text)))
seam_at text rest n valid rest_valid e = omega (arith, ap length (seam text rest n valid rest_valid e), length-append {A = ℕ})

pub seam_boundary : (text rest : List ℕ) (n : ℕ) → IsUtf8 text → IsUtf8 rest → chars rest ≡ drop n (chars text) → IsCharBoundary text (length text - length rest)
seam_boundary text rest n valid rest_valid e =
    rw (seam_at text rest n valid rest_valid e) (IsCharBoundary-at_seam text (encode_utf8_all (take n (chars text))) rest (seam text rest n valid rest_valid e) rest_valid)

-- what stands before it has the first n characters
pub chars_before_seam : (text rest front : List ℕ) (n : ℕ) → IsUtf8 text → IsUtf8 rest → chars rest ≡ drop n (chars text) → front ≡ take (length text - length rest) text → chars front ≡ take n (chars text)
chars_before_seam text rest front n valid rest_valid e cut =
    let xs : List ℕ = encode_utf8_all (take n (chars text)) in
    let joined : text ≡ xs ++ rest = seam text rest n valid rest_valid e in
    let front_is : front ≡ xs = cut ∙ (rw (seam_at text rest n valid rest_valid e) (ap (take (length xs)) joined ∙ take-append_seam xs rest)) in
    let front_valid : IsUtf8 front = rw cut (IsUtf8-take text (length text - length rest) valid (seam_boundary text rest n valid rest_valid e)) in
    sym (chars_from_encodes (take n (chars text)) front front_valid (sym front_is))

-- m elements less the first n of them
pub take_past : (n m : ℕ) (xs : List ℕ) → take (m - n) (drop n xs) ≡ drop n (take m xs)
take_past n m xs = elim (cases_lt m n) [
  | inl short ↦
      let none : drop n (take m xs) ≡ [] = drop_of_length-le (take m xs) (omega (arith, length-take m xs)) in
      let zero_left : m - n ≡ 0 = omega arith in
      rw (none, zero_left)
  | inr long ↦ let m_is : n + (m - n) ≡ m = omega arith in sym (ap (λ (k : ℕ). drop n (take k xs)) (sym m_is) ∙ drop-take n (m - n) xs)
]

-- no characters are no bytes
pub none_of_chars : (text : List ℕ) → IsUtf8 text → chars text ≡ [] → length text ≡ 0
none_of_chars text valid e = ap length (spelled text [] valid e)
