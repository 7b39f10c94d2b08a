-- A piece that is spelled at the front is no longer than the length that is found there.
use Rattle.std.proofs.Common.{◌≡◌, ℕ, suc, ◌+◌, ◌≤◌, Bool, true, false, ◌&&◌, ◌||◌, ◌==◌, not, cond, List, [], ◌∷◌, ◌++◌, length, length-append, drop, Some, None, refl, ◌∙◌, ap, arith, inl, inr, append_assoc}
use Rattle.std.specs.List.{prefix_len, list_all}
use Rattle.std.proofs.lemmas.Bool.{eq-eqb}
use Rattle.std.proofs.lemmas.Bool.Decides.{eqb_tells}
use Rattle.hs_lexer.specs.declared.lexeme.Lexeme.{Lexeme}
use Rattle.hs_lexer.specs.Bytes.{is_letter, begins_word, is_in_word, is_digit, is_in_line, is_single, is_pair, begins_with, begins_digit}
use Rattle.hs_lexer.specs.Pieces.{lacks_close, doubled, is_digits, is_symbol, Spells, is_apart}
use Rattle.hs_lexer.specs.Pieces.Spells.{white, line, block, word, whole, pointed, quoted, text, unicode_text, symbol}
use Rattle.hs_lexer.specs.Lengths.{block_end, quote_end, has_fraction, number_len, symbol_len, piece_len}
use Rattle.hs_lexer.proofs.Steps.{quote_other, quote_doubled, quote_single}

-- ---- booleans

pub and_left : (s t : Bool) → (s && t) ≡ true → s ≡ true
and_left true t h = refl
and_left false t h = h

pub and_right : (s t : Bool) → (s && t) ≡ true → t ≡ true
and_right true t h = h
and_right false t h = cc

pub not_true : (t : Bool) → not t ≡ true → t ≡ false
not_true true h = cc
not_true false h = refl

-- ---- runs of bytes

pub all_prefix : (p : ℕ → Bool) (xs ys : List ℕ) → list_all p xs ≡ true → prefix_len p (xs ++ ys) ≡ length xs + prefix_len p ys
all_prefix p [] ys h = omega arith
all_prefix p (x ∷ xs) ys h =
    let here : p x ≡ true = and_left (p x) (list_all p xs) h in
    let more : prefix_len p (xs ++ ys) ≡ length xs + prefix_len p ys = all_prefix p xs ys (and_right (p x) (list_all p xs) h) in
    rw here (omega arith)

-- ---- comments

close_first : (b : ℕ) (comment rest : List ℕ) → not (b == 42 && begins_with 47 comment) ≡ true → (b == 42 && begins_with 47 (comment ++ 42 ∷ 47 ∷ rest)) ≡ false
close_first b [] rest h = elim (b == 42) as (λ t. (t && false) ≡ false) [ true ↦ refl | false ↦ refl ]
close_first b (c ∷ comment) rest h = not_true (b == 42 && c == 47) h

pub block_closes : (at : ℕ) (comment rest : List ℕ) → lacks_close comment ≡ true → block_end at (comment ++ 42 ∷ 47 ∷ rest) ≡ Some (at + length comment + 2)
block_closes at [] rest h = ap Some (omega arith)
block_closes at (b ∷ comment) rest h =
    let first = close_first b comment rest (and_left _ (lacks_close comment) h) in
    let more = block_closes (at + 1) comment rest (and_right (not (b == 42 && begins_with 47 comment)) (lacks_close comment) h) in
    let moved : at + 1 + length comment + 2 ≡ at + suc (length comment) + 2 = omega arith in
    rw first (more ∙ ap Some moved)

-- ---- quotes

pub quote_closes : (quote at : ℕ) (inside rest : List ℕ) → begins_with quote rest ≡ false → quote_end quote at (doubled quote inside ++ quote ∷ rest) ≡ Some (at + length (doubled quote inside) + 1)
quote_closes quote at [] rest h = quote_single quote at quote rest refl h ∙ ap Some (omega arith)
quote_closes quote at (b ∷ inside) rest h = elim (eqb_tells b quote) [
  | inl here ↦
      let more = quote_closes quote (at + 2) inside rest h in
      let moved : at + 2 + length (doubled quote inside) + 1 ≡ at + suc (suc (length (doubled quote inside))) + 1 = omega arith in
      rw here.0 (quote_doubled quote at quote (quote ∷ (doubled quote inside ++ quote ∷ rest)) refl (eq-eqb quote quote refl) ∙ more ∙ ap Some moved)
  | inr other ↦
      let more = quote_closes quote (at + 1) inside rest h in
      let moved : at + 1 + length (doubled quote inside) + 1 ≡ at + suc (length (doubled quote inside)) + 1 = omega arith in
      rw other.0 (quote_other quote at b (doubled quote inside ++ quote ∷ rest) other.1 ∙ more ∙ ap Some moved)
]

-- ---- numbers

digits_all : (digits : List ℕ) → is_digits digits ≡ true → list_all is_digit digits ≡ true
digits_all [] h = cc
digits_all (b ∷ digits) h = h

digits_begin : (digits rest : List ℕ) → is_digits digits ≡ true → begins_digit (digits ++ rest) ≡ true
digits_begin [] rest h = cc
digits_begin (b ∷ digits) rest h = and_left (is_digit b) (list_all is_digit digits) h

pub behind_all : (a b : List ℕ) → drop (length a) (a ++ b) ≡ b
behind_all [] b = refl
behind_all (x ∷ a) b = behind_all a b

pub behind_one : (a : List ℕ) (x : ℕ) (b : List ℕ) → drop (length a + 1) (a ++ x ∷ b) ≡ b
behind_one [] x b = refl
behind_one (y ∷ a) x b = let e : suc (length a) + 1 ≡ suc (length a + 1) = omega arith in rw e (behind_one a x b)

number_whole : (bytes : List ℕ) → prefix_len is_digit bytes ≤ number_len bytes
number_whole bytes = let n = prefix_len is_digit bytes in
    elim (has_fraction n bytes) as (λ t. n ≤ cond t (n + 1 + prefix_len is_digit (drop (n + 1) bytes)) n) [ true ↦ omega arith | false ↦ omega arith ]

number_pointed : (digits fraction rest : List ℕ) → is_digits digits ≡ true → is_digits fraction ≡ true
    → number_len ((digits ++ 46 ∷ fraction) ++ rest) ≡ length digits + 1 + (length fraction + prefix_len is_digit rest)
number_pointed digits fraction rest d f =
    let bytes = digits ++ 46 ∷ (fraction ++ rest) in
    let whole : prefix_len is_digit bytes ≡ length digits = all_prefix is_digit digits (46 ∷ (fraction ++ rest)) (digits_all digits d) ∙ (omega arith) in
    let behind : drop (length digits + 1) bytes ≡ fraction ++ rest = behind_one digits 46 (fraction ++ rest) in
    let pointed : has_fraction (length digits) bytes ≡ true = rw (behind_all digits (46 ∷ (fraction ++ rest)), behind, digits_begin fraction rest f) in
    let more = all_prefix is_digit fraction rest (digits_all fraction f) in
    rw (append_assoc digits (46 ∷ fraction) rest, whole, pointed, behind, more)

-- ---- words and symbols

word_goes : (b : ℕ) → begins_word b ≡ true → is_in_word b ≡ true
word_goes b h = either (is_letter b) (is_digit b) (b == 95) h where
  either : (letter digit score : Bool) → (letter || score) ≡ true → (letter || digit || score) ≡ true
  either true digit score e = refl
  either false true score e = refl
  either false false score e = e

symbol_found : (bytes rest : List ℕ) → is_symbol bytes ≡ true → (m : ℕ) × (symbol_len (bytes ++ rest) ≡ Some m) × (length bytes ≤ m)
symbol_found [] rest h = cc
symbol_found (b ∷ []) [] h = (1, rw h, omega arith)
symbol_found (b ∷ []) (c ∷ rest) h =
    elim (is_pair b c) as (λ t. (m : ℕ) × (cond t (Some 2) (cond (is_single b) (Some 1) None) ≡ Some m) × (1 ≤ m)) [
      | true ↦ (2, refl, omega arith)
      | false ↦ (1, rw h, omega arith)
    ]
symbol_found (b ∷ c ∷ []) rest h = (2, rw h, omega arith)
symbol_found (b ∷ c ∷ d ∷ bytes) rest h = cc

-- ---- each piece

pub found : {lexeme : Lexeme} {piece : List ℕ} (rest : List ℕ) → Spells lexeme piece → is_apart lexeme rest ≡ true → (m : ℕ) × (piece_len lexeme (piece ++ rest) ≡ Some m) × (length piece ≤ m)
unfolding piece_len
found rest (white b h) apart = (1, refl, omega arith)
found rest (line comment h) apart =
    let all = all_prefix is_in_line comment rest h in (2 + prefix_len is_in_line (comment ++ rest), refl, omega (arith, all))
found rest (block comment h) apart =
    let e : (comment ++ 42 ∷ 47 ∷ []) ++ rest ≡ comment ++ 42 ∷ 47 ∷ rest = append_assoc comment (42 ∷ 47 ∷ []) rest in
    (2 + length comment + 2, ap (block_end 2) e ∙ block_closes 2 comment rest h, omega (arith, length-append comment (42 ∷ 47 ∷ [])))
found rest (word b bytes h all) apart =
    let run = all_prefix is_in_word bytes rest all in
    (1 + prefix_len is_in_word (bytes ++ rest), ap (λ t. Some (cond t (1 + prefix_len is_in_word (bytes ++ rest)) 0)) (word_goes b h), omega (arith, run))
found rest (whole digits h) apart =
    let all = all_prefix is_digit digits rest (digits_all digits h) in
    (number_len (digits ++ rest), refl, omega (arith, all, number_whole (digits ++ rest)))
found rest (pointed digits fraction d f) apart =
    (length digits + 1 + (length fraction + prefix_len is_digit rest), ap Some (number_pointed digits fraction rest d f), omega (arith, length-append digits (46 ∷ fraction)))
found rest (quoted name) apart =
    let e : (doubled 34 name ++ 34 ∷ []) ++ rest ≡ doubled 34 name ++ 34 ∷ rest = append_assoc (doubled 34 name) (34 ∷ []) rest in
    (1 + length (doubled 34 name) + 1, ap (quote_end 34 1) e ∙ quote_closes 34 1 name rest (not_true (begins_with 34 rest) apart), omega (arith, length-append (doubled 34 name) (34 ∷ [])))
found rest (text inside) apart =
    let e : (doubled 39 inside ++ 39 ∷ []) ++ rest ≡ doubled 39 inside ++ 39 ∷ rest = append_assoc (doubled 39 inside) (39 ∷ []) rest in
    (1 + length (doubled 39 inside) + 1, ap (quote_end 39 1) e ∙ quote_closes 39 1 inside rest (not_true (begins_with 39 rest) apart), omega (arith, length-append (doubled 39 inside) (39 ∷ [])))
found rest (unicode_text inside) apart =
    let e : (doubled 39 inside ++ 39 ∷ []) ++ rest ≡ doubled 39 inside ++ 39 ∷ rest = append_assoc (doubled 39 inside) (39 ∷ []) rest in
    (3 + length (doubled 39 inside) + 1, ap (quote_end 39 3) e ∙ quote_closes 39 3 inside rest (not_true (begins_with 39 rest) apart), omega (arith, length-append (doubled 39 inside) (39 ∷ [])))
found rest (symbol bytes h) apart = symbol_found bytes rest h
