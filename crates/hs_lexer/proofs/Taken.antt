-- Where a length is found at the front, a piece of that length stands there.
use Rattle.std.proofs.Common.{◌≡◌, ℕ, ◌+◌, Bool, true, false, ◌&&◌, ◌||◌, ◌==◌, not, cond, List, [], ◌∷◌, ◌++◌, length, length-append, drop, Option, Some, None, refl, sym, ◌∙◌, ap, subst, arith, inl, inr, append_assoc}
use Rattle.std.specs.List.{prefix_len, list_all}
use Rattle.std.proofs.lemmas.Bool.{eq-eqb, eqb-true}
use Rattle.std.proofs.lemmas.Bool.Decides.{eqb_tells}
use Rattle.hs_lexer.specs.declared.token.TokenKind.TheVariants.{Word, Quoted, Number, Text, UnicodeText, Symbol}
use Rattle.hs_lexer.specs.declared.lexeme.Lexeme.{Lexeme}
use Rattle.hs_lexer.specs.declared.lexeme.Lexeme.TheVariants.{White, Line, Block, Token}
use Rattle.hs_lexer.specs.Bytes.{is_white, is_letter, begins_word, is_in_word, is_digit, is_in_line, is_single, is_pair, begins_symbol, begins_with, begins_digit}
use Rattle.hs_lexer.specs.Pieces.{lacks_close, doubled, is_digits, begun, IsPiece}
use Rattle.hs_lexer.specs.Pieces.Spells.{white, line, block, word, whole, pointed, quoted, text, unicode_text, symbol}
use Rattle.hs_lexer.specs.Lengths.{block_end, quote_end, has_fraction, number_len, symbol_len, piece_len}
use Rattle.hs_lexer.proofs.Found.{and_left, and_right, behind_all, behind_one}

-- ---- what the first bytes begin

abbrev BeginsAs : Lexeme → ℕ → List ℕ → Type 0
BeginsAs White b bytes = is_white b ≡ true
BeginsAs Line b bytes = (b == 45 && begins_with 45 bytes) ≡ true
BeginsAs Block b bytes = (b == 47 && begins_with 42 bytes) ≡ true
BeginsAs (Token UnicodeText) b bytes = (b == 85 && (begins_with 38 bytes && begins_with 39 (drop 1 bytes))) ≡ true
BeginsAs (Token Word) b bytes = begins_word b ≡ true
BeginsAs (Token Number) b bytes = is_digit b ≡ true
BeginsAs (Token Quoted) b bytes = (b == 34) ≡ true
BeginsAs (Token Text) b bytes = (b == 39) ≡ true
BeginsAs (Token Symbol) b bytes = begins_symbol b ≡ true

step : (P : Lexeme → Type 0) (t : Bool) (x y : Lexeme) (o : Option Lexeme) → cond t (Some x) o ≡ Some y → (t ≡ true → P x) → (o ≡ Some y → P y) → P y
step P true x y o h holds goes = let same : x ≡ y = cc in subst P same (holds refl)
step P false x y o h holds goes = goes h

pub begun_as : (b : ℕ) (bytes : List ℕ) (y : Lexeme) → begun (b ∷ bytes) ≡ Some y → BeginsAs y b bytes
begun_as b bytes y h =
    let P : Lexeme → Type 0 = λ l. BeginsAs l b bytes in
    step P (is_white b) White y _ h (λ e. e) (λ h1.
    step P (b == 45 && begins_with 45 bytes) Line y _ h1 (λ e. e) (λ h2.
    step P (b == 47 && begins_with 42 bytes) Block y _ h2 (λ e. e) (λ h3.
    step P (b == 85 && (begins_with 38 bytes && begins_with 39 (drop 1 bytes))) (Token UnicodeText) y _ h3 (λ e. e) (λ h4.
    step P (begins_word b) (Token Word) y _ h4 (λ e. e) (λ h5.
    step P (is_digit b) (Token Number) y _ h5 (λ e. e) (λ h6.
    step P (b == 34) (Token Quoted) y _ h6 (λ e. e) (λ h7.
    step P (b == 39) (Token Text) y _ h7 (λ e. e) (λ h8.
    step P (begins_symbol b) (Token Symbol) y None h8 (λ e. e) (λ h9. cc)))))))))

begins_rest : (a : ℕ) (bytes : List ℕ) → begins_with a bytes ≡ true → (rest : List ℕ) × (bytes ≡ a ∷ rest)
begins_rest a [] h = cc
begins_rest a (b ∷ bytes) h = (bytes, ap (λ z. z ∷ bytes) (eqb-true b a h))

some_same : (m n : ℕ) → Some m ≡ Some n → m ≡ n
some_same m n h = cc

-- ---- runs of bytes

pub record Run (p : ℕ → Bool) (bytes front rest : List ℕ) : Type 0 where
  pub cut : bytes ≡ front ++ rest
  pub all : list_all p front ≡ true
  pub len : length front ≡ prefix_len p bytes

run_at : (p : ℕ → Bool) (b : ℕ) (bytes : List ℕ) (t : Bool) → p b ≡ t → (front : List ℕ) × (rest : List ℕ) × Run p bytes front rest
    → (front : List ℕ) × (rest : List ℕ) × Run p (b ∷ bytes) front rest
run_at p b bytes true h (front, rest, run) = (
  b ∷ front,
  rest,
  record {
    cut = ap (λ z. b ∷ z) run.cut;
    all = rw h run.all;
    len = rw h (omega (arith, run.len));
  },
)
run_at p b bytes false h (front, rest, run) = ([], b ∷ bytes, record { cut = refl; all = refl; len = rw h refl })

pub run_of : (p : ℕ → Bool) (bytes : List ℕ) → (front : List ℕ) × (rest : List ℕ) × Run p bytes front rest
run_of p [] = ([], [], record { cut = refl; all = refl; len = refl })
run_of p (b ∷ bytes) = run_at p b bytes (p b) refl (run_of p bytes)

-- ---- comments

close_before : (b : ℕ) (comment rest : List ℕ) → (b == 42 && begins_with 47 (comment ++ 42 ∷ 47 ∷ rest)) ≡ false → not (b == 42 && begins_with 47 comment) ≡ true
close_before b [] rest h = elim (b == 42) as (λ t. not (t && false) ≡ true) [ true ↦ refl | false ↦ refl ]
close_before b (c ∷ comment) rest h = ap not h

pub record Closes (at : ℕ) (bytes : List ℕ) (n : ℕ) (comment rest : List ℕ) : Type 0 where
  pub cut : bytes ≡ comment ++ 42 ∷ 47 ∷ rest
  pub lacks : lacks_close comment ≡ true
  pub len : n ≡ at + length comment + 2

both : (s t : Bool) → s ≡ true → t ≡ true → (s && t) ≡ true
both s t hs ht = rw (hs, ht) refl

block_at : (at b : ℕ) (bytes : List ℕ) (n : ℕ) (t : Bool) → (b == 42 && begins_with 47 bytes) ≡ t → cond t (Some (at + 2)) (block_end (at + 1) bytes) ≡ Some n
    → (block_end (at + 1) bytes ≡ Some n → (comment : List ℕ) × (rest : List ℕ) × Closes (at + 1) bytes n comment rest)
    → (comment : List ℕ) × (rest : List ℕ) × Closes at (b ∷ bytes) n comment rest
block_at at b bytes n true h is more =
    let star : b ≡ 42 = eqb-true b 42 (and_left (b == 42) (begins_with 47 bytes) h) in
    let slash = begins_rest 47 bytes (and_right (b == 42) (begins_with 47 bytes) h) in
    ([], slash.0, record { cut = ap (λ z. z ∷ bytes) star ∙ ap (λ z. 42 ∷ z) slash.1; lacks = refl; len = sym (some_same (at + 2) n is) ∙ (omega arith) })
block_at at b bytes n false h is more =
    let (comment, rest, m) = more is in (
      b ∷ comment,
      rest,
      record {
        cut = ap (λ z. b ∷ z) m.cut;
        lacks = both _ _ (close_before b comment rest (ap (λ z. b == 42 && begins_with 47 z) (sym m.cut) ∙ h)) m.lacks;
        len = omega (arith, m.len);
      },
    )

block_of : (at : ℕ) (bytes : List ℕ) (n : ℕ) → block_end at bytes ≡ Some n → (comment : List ℕ) × (rest : List ℕ) × Closes at bytes n comment rest
block_of at [] n h = cc
block_of at (b ∷ bytes) n h = block_at at b bytes n (b == 42 && begins_with 47 bytes) refl h (block_of (at + 1) bytes n)

-- ---- quotes

pub record Ends (quote at : ℕ) (bytes : List ℕ) (n : ℕ) (inside rest : List ℕ) : Type 0 where
  pub cut : bytes ≡ doubled quote inside ++ quote ∷ rest
  pub apart : begins_with quote rest ≡ false
  pub len : n ≡ at + length (doubled quote inside) + 1

doubled_quote : (quote : ℕ) (inside : List ℕ) → doubled quote (quote ∷ inside) ≡ quote ∷ quote ∷ doubled quote inside
doubled_quote quote inside = rw (eq-eqb quote quote refl)

doubled_other : (quote b : ℕ) (inside : List ℕ) → (b == quote) ≡ false → doubled quote (b ∷ inside) ≡ b ∷ doubled quote inside
doubled_other quote b inside h = rw h

ends_pair : (quote at b c : ℕ) (bytes : List ℕ) (n : ℕ) (inside rest : List ℕ) → b ≡ quote → c ≡ quote → Ends quote (at + 2) bytes n inside rest
    → Ends quote at (b ∷ c ∷ bytes) n (quote ∷ inside) rest
ends_pair quote at b c bytes n inside rest here again m = record {
  cut = rw (here, again, doubled_quote quote inside) (ap (λ z. quote ∷ quote ∷ z) m.cut);
  apart = m.apart;
  len = rw (doubled_quote quote inside) (omega (arith, m.len));
}

ends_here : (quote at b : ℕ) (rest : List ℕ) (n : ℕ) → b ≡ quote → begins_with quote rest ≡ false → Some (at + 1) ≡ Some n → Ends quote at (b ∷ rest) n [] rest
ends_here quote at b rest n here apart is = record { cut = ap (λ z. z ∷ rest) here; apart = apart; len = sym (some_same (at + 1) n is) ∙ (omega arith) }

ends_other : (quote at b : ℕ) (bytes : List ℕ) (n : ℕ) (inside rest : List ℕ) → (b == quote) ≡ false → Ends quote (at + 1) bytes n inside rest
    → Ends quote at (b ∷ bytes) n (b ∷ inside) rest
ends_other quote at b bytes n inside rest other m = record {
  cut = rw (doubled_other quote b inside other) (ap (λ z. b ∷ z) m.cut);
  apart = m.apart;
  len = rw (doubled_other quote b inside other) (omega (arith, m.len));
}

pub quote_of : (quote at : ℕ) (bytes : List ℕ) (n : ℕ) → quote_end quote at bytes ≡ Some n → (inside : List ℕ) × (rest : List ℕ) × Ends quote at bytes n inside rest
quote_of quote at [] n h = cc
quote_of quote at (b ∷ []) n h = elim (eqb_tells b quote) [
  | inl here ↦ ([], [], ends_here quote at b [] n here.1 refl (rw here.0 at h))
  | inr other ↦ let none : None ≡ Some n = rw other.0 at h in cc
]
quote_of quote at (b ∷ c ∷ bytes) n h = elim (eqb_tells b quote) [
  | inl here ↦ elim (eqb_tells c quote) [
    | inl again ↦ let m = quote_of quote (at + 2) bytes n (rw (here.0, again.0) at h) in (quote ∷ m.0, m.1, ends_pair quote at b c bytes n m.0 m.1 here.1 again.1 m.2)
    | inr other ↦ ([], c ∷ bytes, ends_here quote at b (c ∷ bytes) n here.1 other.0 (rw (here.0, other.0) at h))
  ]
  | inr other ↦ let m = quote_of quote (at + 1) (c ∷ bytes) n (rw other.0 at h) in (b ∷ m.0, m.1, ends_other quote at b (c ∷ bytes) n m.0 m.1 other.0 m.2)
]

-- ---- each piece

-- a piece of this kind and length stands at the front
pub record Takes (bytes : List ℕ) (lexeme : Lexeme) (n : ℕ) (piece rest : List ℕ) : Type 0 where
  pub is : IsPiece bytes lexeme piece rest
  pub len : length piece ≡ n

abbrev pub Piece : List ℕ → Lexeme → ℕ → Type 0
Piece bytes lexeme n = (piece : List ℕ) × (rest : List ℕ) × Takes bytes lexeme n piece rest

-- bytes that are known by their first ones
known : (lexeme : Lexeme) (bytes other : List ℕ) (n : ℕ) → bytes ≡ other → (piece_len lexeme other ≡ Some n → Piece other lexeme n) → piece_len lexeme bytes ≡ Some n → Piece bytes lexeme n
known lexeme bytes other n same = subst (λ z. (piece_len lexeme z ≡ Some n → Piece z lexeme n)) (sym same)

line_taken : (rest : List ℕ) (n : ℕ) → piece_len Line (45 ∷ 45 ∷ rest) ≡ Some n → Piece (45 ∷ 45 ∷ rest) Line n
unfolding piece_len
line_taken rest n h =
    let (front, behind, run) = run_of is_in_line rest in (
      45 ∷ 45 ∷ front,
      behind,
      record {
        is = record { cut = ap (λ z. 45 ∷ 45 ∷ z) run.cut; spelled = line front run.all; apart = refl };
        len = omega (arith, run.len, some_same (2 + prefix_len is_in_line rest) n h);
      },
    )

block_taken : (rest : List ℕ) (n : ℕ) → piece_len Block (47 ∷ 42 ∷ rest) ≡ Some n → Piece (47 ∷ 42 ∷ rest) Block n
unfolding piece_len
block_taken rest n h =
    let (comment, behind, m) = block_of 2 rest n h in
    let cut : rest ≡ (comment ++ 42 ∷ 47 ∷ []) ++ behind = m.cut ∙ sym (append_assoc comment (42 ∷ 47 ∷ []) behind) in (
      47 ∷ 42 ∷ (comment ++ 42 ∷ 47 ∷ []),
      behind,
      record {
        is = record { cut = ap (λ z. 47 ∷ 42 ∷ z) cut; spelled = block comment m.lacks; apart = refl };
        len = omega (arith, m.len, length-append comment (42 ∷ 47 ∷ []));
      },
    )

quoted_taken : (rest : List ℕ) (n : ℕ) → piece_len (Token Quoted) (34 ∷ rest) ≡ Some n → Piece (34 ∷ rest) (Token Quoted) n
unfolding piece_len
quoted_taken rest n h =
    let (inside, behind, m) = quote_of 34 1 rest n h in
    let cut : rest ≡ (doubled 34 inside ++ 34 ∷ []) ++ behind = m.cut ∙ sym (append_assoc (doubled 34 inside) (34 ∷ []) behind) in (
      34 ∷ (doubled 34 inside ++ 34 ∷ []),
      behind,
      record {
        is = record { cut = ap (λ z. 34 ∷ z) cut; spelled = quoted inside; apart = ap not m.apart };
        len = omega (arith, m.len, length-append (doubled 34 inside) (34 ∷ []));
      },
    )

text_taken : (rest : List ℕ) (n : ℕ) → piece_len (Token Text) (39 ∷ rest) ≡ Some n → Piece (39 ∷ rest) (Token Text) n
unfolding piece_len
text_taken rest n h =
    let (inside, behind, m) = quote_of 39 1 rest n h in
    let cut : rest ≡ (doubled 39 inside ++ 39 ∷ []) ++ behind = m.cut ∙ sym (append_assoc (doubled 39 inside) (39 ∷ []) behind) in (
      39 ∷ (doubled 39 inside ++ 39 ∷ []),
      behind,
      record {
        is = record { cut = ap (λ z. 39 ∷ z) cut; spelled = text inside; apart = ap not m.apart };
        len = omega (arith, m.len, length-append (doubled 39 inside) (39 ∷ []));
      },
    )

unicode_taken : (rest : List ℕ) (n : ℕ) → piece_len (Token UnicodeText) (85 ∷ 38 ∷ 39 ∷ rest) ≡ Some n → Piece (85 ∷ 38 ∷ 39 ∷ rest) (Token UnicodeText) n
unfolding piece_len
unicode_taken rest n h =
    let (inside, behind, m) = quote_of 39 3 rest n h in
    let cut : rest ≡ (doubled 39 inside ++ 39 ∷ []) ++ behind = m.cut ∙ sym (append_assoc (doubled 39 inside) (39 ∷ []) behind) in (
      85 ∷ 38 ∷ 39 ∷ (doubled 39 inside ++ 39 ∷ []),
      behind,
      record {
        is = record { cut = ap (λ z. 85 ∷ 38 ∷ 39 ∷ z) cut; spelled = unicode_text inside; apart = ap not m.apart };
        len = omega (arith, m.len, length-append (doubled 39 inside) (39 ∷ []));
      },
    )

pub word_goes : (b : ℕ) → begins_word b ≡ true → is_in_word b ≡ true
word_goes b h = either (is_letter b) (is_digit b) (b == 95) h where
  either : (letter digit score : Bool) → (letter || score) ≡ true → (letter || digit || score) ≡ true
  either true digit score e = refl
  either false true score e = refl
  either false false score e = e

word_taken : (b : ℕ) (bytes : List ℕ) (n : ℕ) → begins_word b ≡ true → piece_len (Token Word) (b ∷ bytes) ≡ Some n → Piece (b ∷ bytes) (Token Word) n
unfolding piece_len
word_taken b bytes n begins h =
    let (front, behind, run) = run_of is_in_word bytes in
    let one : 1 + prefix_len is_in_word bytes ≡ n = some_same (1 + prefix_len is_in_word bytes) n (rw (word_goes b begins) at h) in (
      b ∷ front,
      behind,
      record {
        is = record { cut = ap (λ z. b ∷ z) run.cut; spelled = word b front begins run.all; apart = refl };
        len = omega (arith, run.len, one);
      },
    )

symbol_taken : (bytes : List ℕ) (n : ℕ) → symbol_len bytes ≡ Some n → Piece bytes (Token Symbol) n
symbol_taken [] n h = cc
symbol_taken (b ∷ []) n h = single (is_single b) refl h where
  single : (t : Bool) → is_single b ≡ t → cond t (Some 1) None ≡ Some n → Piece (b ∷ []) (Token Symbol) n
  single true e g = (b ∷ [], [], record { is = record { cut = refl; spelled = symbol (b ∷ []) e; apart = refl }; len = some_same 1 n g })
  single false e g = cc
symbol_taken (b ∷ c ∷ bytes) n h = pair (is_pair b c) (is_single b) refl refl h where
  pair : (t u : Bool) → is_pair b c ≡ t → is_single b ≡ u → cond t (Some 2) (cond u (Some 1) None) ≡ Some n → Piece (b ∷ c ∷ bytes) (Token Symbol) n
  pair true u e f g = (b ∷ c ∷ [], bytes, record { is = record { cut = refl; spelled = symbol (b ∷ c ∷ []) e; apart = refl }; len = some_same 2 n g })
  pair false true e f g = (b ∷ [], c ∷ bytes, record { is = record { cut = refl; spelled = symbol (b ∷ []) f; apart = refl }; len = some_same 1 n g })
  pair false false e f g = cc

-- ---- numbers

digits_of_run : (bytes front rest : List ℕ) → begins_digit bytes ≡ true → Run is_digit bytes front rest → is_digits front ≡ true
digits_of_run [] front rest begins run = cc
digits_of_run (b ∷ bytes) [] rest begins run = let len : 0 ≡ 1 + prefix_len is_digit bytes = rw begins at run.len in absurd (omega arith)
digits_of_run (b ∷ bytes) (c ∷ front) rest begins run = run.all

pointed_taken : (digits behind : List ℕ) (n : ℕ) → is_digits digits ≡ true → begins_digit behind ≡ true → length digits + 1 + prefix_len is_digit behind ≡ n
    → Piece (digits ++ 46 ∷ behind) (Token Number) n
pointed_taken digits behind n d begins len =
    let (fraction, rest, run) = run_of is_digit behind in
    let cut : digits ++ 46 ∷ behind ≡ (digits ++ 46 ∷ fraction) ++ rest = ap (λ z. digits ++ 46 ∷ z) run.cut ∙ sym (append_assoc digits (46 ∷ fraction) rest) in (
      digits ++ 46 ∷ fraction,
      rest,
      record {
        is = record { cut = cut; spelled = pointed digits fraction d (digits_of_run behind fraction rest begins run); apart = refl };
        len = omega (arith, run.len, len, length-append digits (46 ∷ fraction));
      },
    )

fraction_taken : (digits behind : List ℕ) (n : ℕ) (t : Bool) → is_digits digits ≡ true → (begins_with 46 behind && begins_digit (drop (length digits + 1) (digits ++ behind))) ≡ t
    → cond t (length digits + 1 + prefix_len is_digit (drop (length digits + 1) (digits ++ behind))) (length digits) ≡ n → Piece (digits ++ behind) (Token Number) n
fraction_taken digits behind n false d is len = (digits, behind, record { is = record { cut = refl; spelled = whole digits d; apart = refl }; len = len })
fraction_taken digits [] n true d is len = cc
fraction_taken digits (b ∷ behind) n true d is len =
    let point : b ≡ 46 = eqb-true b 46 (and_left (b == 46) (begins_digit (drop (length digits + 1) (digits ++ b ∷ behind))) is) in
    let next : drop (length digits + 1) (digits ++ b ∷ behind) ≡ behind = behind_one digits b behind in
    let begins = ap begins_digit (sym next) ∙ and_right (b == 46) (begins_digit (drop (length digits + 1) (digits ++ b ∷ behind))) is in
    let long = ap (λ z. length digits + 1 + prefix_len is_digit z) (sym next) ∙ len in
    subst (λ z. Piece (digits ++ z ∷ behind) (Token Number) n) (sym point) (pointed_taken digits behind n d begins long)

split_taken : (digits behind : List ℕ) (n : ℕ) → is_digits digits ≡ true → prefix_len is_digit (digits ++ behind) ≡ length digits → number_len (digits ++ behind) ≡ n
    → Piece (digits ++ behind) (Token Number) n
split_taken digits behind n d run len =
    let at = behind_all digits behind in
    let size : cond (has_fraction (length digits) (digits ++ behind)) (length digits + 1 + prefix_len is_digit (drop (length digits + 1) (digits ++ behind))) (length digits) ≡ n
    = rw run at len in
    fraction_taken digits behind n (has_fraction (length digits) (digits ++ behind)) d
    (ap (λ z. begins_with 46 z && begins_digit (drop (length digits + 1) (digits ++ behind))) (sym at)) size

number_taken : (b : ℕ) (bytes : List ℕ) (n : ℕ) → is_digit b ≡ true → number_len (b ∷ bytes) ≡ n → Piece (b ∷ bytes) (Token Number) n
number_taken b bytes n begins h =
    let (front, behind, run) = run_of is_digit bytes in
    let cut : b ∷ bytes ≡ (b ∷ front) ++ behind = ap (λ z. b ∷ z) run.cut in
    let digits : is_digits (b ∷ front) ≡ true = both (is_digit b) (list_all is_digit front) begins run.all in
    let long : prefix_len is_digit (b ∷ bytes) ≡ length (b ∷ front) = rw begins (omega (arith, run.len)) in
    subst (λ z. Piece z (Token Number) n) (sym cut)
    (split_taken (b ∷ front) behind n digits (ap (prefix_len is_digit) (sym cut) ∙ long) (ap number_len (sym cut) ∙ h))

-- ---- which piece it is

two : (a c b : ℕ) (bytes : List ℕ) → (b == a && begins_with c bytes) ≡ true → (rest : List ℕ) × (b ∷ bytes ≡ a ∷ c ∷ rest)
two a c b bytes h =
    let behind = begins_rest c bytes (and_right (b == a) (begins_with c bytes) h) in
    (behind.0, ap (λ z. z ∷ bytes) (eqb-true b a (and_left (b == a) (begins_with c bytes) h)) ∙ ap (λ z. a ∷ z) behind.1)

three : (b : ℕ) (bytes : List ℕ) → (b == 85 && (begins_with 38 bytes && begins_with 39 (drop 1 bytes))) ≡ true → (rest : List ℕ) × (b ∷ bytes ≡ 85 ∷ 38 ∷ 39 ∷ rest)
three b bytes h =
    let behind = and_right (b == 85) (begins_with 38 bytes && begins_with 39 (drop 1 bytes)) h in
    let second = begins_rest 38 bytes (and_left (begins_with 38 bytes) (begins_with 39 (drop 1 bytes)) behind) in
    let third = begins_rest 39 (drop 1 bytes) (and_right (begins_with 38 bytes) (begins_with 39 (drop 1 bytes)) behind) in
    let rest : second.0 ≡ 39 ∷ third.0 = sym (ap (drop 1) second.1) ∙ third.1 in
    (third.0, ap (λ z. z ∷ bytes) (eqb-true b 85 (and_left (b == 85) (begins_with 38 bytes && begins_with 39 (drop 1 bytes)) h)) ∙ ap (λ z. 85 ∷ z) (second.1 ∙ ap (λ z. 38 ∷ z) rest))

one_taken : (b : ℕ) (bytes : List ℕ) (n : ℕ) → is_white b ≡ true → Some 1 ≡ Some n → Piece (b ∷ bytes) White n
one_taken b bytes n is h = (b ∷ [], bytes, record { is = record { cut = refl; spelled = white b is; apart = refl }; len = some_same 1 n h })

pub taken : (lexeme : Lexeme) (bytes : List ℕ) (n : ℕ) → begun bytes ≡ Some lexeme → piece_len lexeme bytes ≡ Some n → Piece bytes lexeme n
unfolding piece_len
taken lexeme [] n kind h = cc
taken White (b ∷ bytes) n kind h = one_taken b bytes n (begun_as b bytes White kind) h
taken Line (b ∷ bytes) n kind h = let k = two 45 45 b bytes (begun_as b bytes Line kind) in known Line (b ∷ bytes) (45 ∷ 45 ∷ k.0) n k.1 (line_taken k.0 n) h
taken Block (b ∷ bytes) n kind h = let k = two 47 42 b bytes (begun_as b bytes Block kind) in known Block (b ∷ bytes) (47 ∷ 42 ∷ k.0) n k.1 (block_taken k.0 n) h
taken (Token Word) (b ∷ bytes) n kind h = word_taken b bytes n (begun_as b bytes (Token Word) kind) h
taken (Token Number) (b ∷ bytes) n kind h = number_taken b bytes n (begun_as b bytes (Token Number) kind) (some_same (number_len (b ∷ bytes)) n h)
taken (Token Quoted) (b ∷ bytes) n kind h =
    known (Token Quoted) (b ∷ bytes) (34 ∷ bytes) n (ap (λ z. z ∷ bytes) (eqb-true b 34 (begun_as b bytes (Token Quoted) kind))) (quoted_taken bytes n) h
taken (Token Text) (b ∷ bytes) n kind h =
    known (Token Text) (b ∷ bytes) (39 ∷ bytes) n (ap (λ z. z ∷ bytes) (eqb-true b 39 (begun_as b bytes (Token Text) kind))) (text_taken bytes n) h
taken (Token UnicodeText) (b ∷ bytes) n kind h =
    let k = three b bytes (begun_as b bytes (Token UnicodeText) kind) in known (Token UnicodeText) (b ∷ bytes) (85 ∷ 38 ∷ 39 ∷ k.0) n k.1 (unicode_taken k.0 n) h
taken (Token Symbol) (b ∷ bytes) n kind h = symbol_taken (b ∷ bytes) n h
