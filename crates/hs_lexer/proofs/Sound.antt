-- What the tokens of a text say is lawful: their names and their numbers.
use Rattle.std.proofs.Common.{◌≡◌, ℕ, ◌+◌, ◌-◌, ◌<◌, ◌≤◌, Bool, true, false, ◌&&◌, not, List, [], ◌∷◌, ◌++◌, length, length-append, map, drop, take, Option, None, Some, Ok, refl, sym, ◌∙◌, ap, subst, arith}
use Rattle.std.specs.Prelude.{nat_le, nat_lt, count_by, slice_range, if◌then◌else◌}
use Rattle.std.specs.Char.{to_ascii_uppercase}
use Rattle.std.specs.List.{list_all}
use Rattle.std.specs.Str.{IsUtf8}
use Rattle.std.proofs.lemmas.Bool.{leb-true}
use Rattle.std.proofs.lemmas.Bool.Decides.{nat_tests}
use Rattle.std.proofs.lemmas.List.{length-map}
use Rattle.std.proofs.lemmas.List.Folds.{list_all-map}
use Rattle.hs_lexer.specs.declared.token.TokenKind.{TokenKind}
use Rattle.hs_lexer.specs.declared.token.TokenKind.TheVariants.{Word, Quoted, Number, Text, UnicodeText, Symbol}
use Rattle.hs_lexer.specs.declared.token.Token.{Token as Found}
use Rattle.hs_lexer.specs.declared.lexeme.Lexeme.TheVariants.{Token}
use Rattle.hs_lexer.specs.declared.fault.LexFault.{LexFault}
use Rattle.hs_lexer.specs.declared.fault.LexFault.TheVariants.{WideNumber}
use Rattle.hs_lexer.specs.Bytes.{is_digit, is_control}
use Rattle.hs_lexer.specs.Pieces.{doubled, Spells}
use Rattle.hs_lexer.specs.Pieces.Spells.{word, whole, pointed, quoted, text, unicode_text, symbol}
use Rattle.hs_lexer.specs.Reading.{tokens_of, fault_in, bad_unless, wide_at}
use Rattle.hs_lexer.specs.Content.{undoubled, inside, is_slice, slice_of, written, named, name_of, is_name_len, lacks_control, is_name, IsWritten}
use Rattle.hs_lexer.specs.Tokens.{AreTokens, IsShortNumber, IsSoundAs, AreSound}
use Rattle.hs_lexer.specs.Tokens.AreTokens.{none, between, token}
use Rattle.hs_lexer.proofs.Found.{and_left, and_right, behind_all}
use Rattle.hs_lexer.proofs.Fronts.{take_all, tokens_found}
use Rattle.hs_lexer.proofs.Sayings.{undoubled_doubled, quoted_named}
use Rattle.hs_lexer.proofs.Slices.{framed, rest_of, slice_of_piece}

-- ---- names in capitals

upper_plain : (b : ℕ) → not (is_control b) ≡ true → not (is_control (to_ascii_uppercase b)) ≡ true
upper_plain b h = grind (arith, nat_tests)

upper_lacks : (name : List ℕ) → lacks_control name ≡ true → list_all (λ b. not (is_control (to_ascii_uppercase b))) name ≡ true
upper_lacks [] h = refl
upper_lacks (b ∷ name) h =
    let here = upper_plain b (and_left (not (is_control b)) (lacks_control name) h) in
    let rest = upper_lacks name (and_right (not (is_control b)) (lacks_control name) h) in
    ap (λ z. z && list_all (λ c. not (is_control (to_ascii_uppercase c))) name) here ∙ rest

upper_name : (name : List ℕ) → is_name name ≡ true → is_name (map to_ascii_uppercase name) ≡ true
upper_name name h =
    let size = and_left (is_name_len (length name)) (lacks_control name) h in
    let plain = list_all-map (λ b. not (is_control b)) to_ascii_uppercase name ∙ upper_lacks name (and_right (is_name_len (length name)) (lacks_control name) h) in
    ap (λ n. is_name_len n && lacks_control (map to_ascii_uppercase name)) (length-map name to_ascii_uppercase) ∙ ap (λ z. z && lacks_control (map to_ascii_uppercase name)) size ∙ plain

-- ---- what makes no fault

unless_is : (at : ℕ) (t : Bool) → bad_unless at t ≡ None → t ≡ true
unless_is at true h = refl
unless_is at false h = cc

within : (at n : ℕ) (t : Bool) → nat_le n 38 ≡ t → (if t then None else Some (WideNumber at)) ≡ None → n ≤ 38
within at n true e h = leb-true n 38 e
within at n false e h = cc

short_is : (at n : ℕ) → wide_at at n ≡ None → n ≤ 38
short_is at n h = within at n (nat_le n 38) refl h

-- ---- a token, as it is written

written_is : (source : List ℕ) (t : Found) (piece : List ℕ) → IsWritten source t piece → written source t ≡ piece
unfolding slice_of
written_is source t piece w = ap (λ z. if z then slice_range source t.start t.end else []) w.whole ∙ w.is

inside_is : (name : List ℕ) → inside 1 (34 ∷ (name ++ 34 ∷ [])) ≡ name
inside_is name =
    let size : length (name ++ 34 ∷ []) ≡ length name + 1 = length-append name (34 ∷ []) in
    let count : length (34 ∷ (name ++ 34 ∷ [])) - 1 - 1 ≡ length name = omega (arith, size) in
    rw count (take_all name (34 ∷ []))

sound : {kind : TokenKind} {piece : List ℕ} (source : List ℕ) (t : Found) (at : ℕ) → t.kind ≡ kind → Spells (Token kind) piece → fault_in at (Token kind) piece ≡ None → IsWritten source t piece → IsSoundAs kind source t
unfolding fault_in name_of
sound source t at kind (word b bytes h all) free w =
    let name = unless_is at (is_name (b ∷ bytes)) free in
    ap (λ k. is_name (named k source t)) kind ∙ ap (λ z. is_name (map to_ascii_uppercase z)) (written_is source t (b ∷ bytes) w) ∙ upper_name (b ∷ bytes) name
sound source t at kind (quoted name) free w =
    let lawful = unless_is at (is_name (undoubled 34 (inside 1 (34 ∷ (doubled 34 name ++ 34 ∷ []))))) free in
    let same : undoubled 34 (inside 1 (34 ∷ (doubled 34 name ++ 34 ∷ []))) ≡ name = ap (undoubled 34) (inside_is (doubled 34 name)) ∙ undoubled_doubled 34 name in
    ap is_name (quoted_named source t name kind w ∙ sym same) ∙ lawful
sound source t at kind (whole digits h) free w =
    let is = written_is source t digits w in
    subst IsShortNumber (sym is) (record { spelled = whole digits h; short = short_is at (count_by is_digit digits) free })
sound source t at kind (pointed digits fraction d f) free w =
    let is = written_is source t (digits ++ 46 ∷ fraction) w in
    subst IsShortNumber (sym is) (record { spelled = pointed digits fraction d f; short = short_is at (count_by is_digit (digits ++ 46 ∷ fraction)) free })
sound source t at kind (text inside) free w = tt
sound source t at kind (unicode_text inside) free w = tt
sound source t at kind (symbol bytes h) free w = tt

-- ---- the tokens

piece_is : (source bytes piece rest : List ℕ) (at : ℕ) → drop at source ≡ bytes → bytes ≡ piece ++ rest → slice_range source at (at + length piece) ≡ piece
piece_is source bytes piece rest at here cut =
    let size : at + length piece - at ≡ length piece = omega arith in
    ap (λ n. take n (drop at source)) size ∙ ap (take (length piece)) (here ∙ cut) ∙ take_all piece rest

all_sound : {at : ℕ} {bytes : List ℕ} {tokens : List Found} (source : List ℕ) → IsUtf8 source → at + length bytes ≡ length source → drop at source ≡ bytes → AreTokens at bytes tokens → AreSound source tokens
all_sound source utf8 size here (none at) = tt
all_sound source utf8 size here (between at bytes lexeme piece rest tokens front h more) =
    let parts = ap length front.is.cut ∙ length-append piece rest in
    all_sound source utf8 (omega (arith, parts, size)) (rest_of source bytes piece rest at here front.is.cut) more
all_sound source utf8 size here (token at bytes kind piece rest tokens front free more) =
    let parts = ap length front.is.cut ∙ length-append piece rest in
    let t : Found = record { kind = kind; start = at; end = at + length piece } in
    let w : IsWritten source t piece = record { utf8 = utf8; whole = slice_of_piece source bytes piece rest at utf8 size here front.is.cut (framed front.is.spelled); is = piece_is source bytes piece rest at here front.is.cut } in (
      sound source t at refl front.is.spelled free w,
      all_sound source utf8 (omega (arith, parts, size)) (rest_of source bytes piece rest at here front.is.cut) more,
    )

pub tokens_are_sound : (source : List ℕ) (tokens : List Found) → IsUtf8 source → tokens_of source ≡ Ok tokens → AreSound source tokens
tokens_are_sound source tokens utf8 is = all_sound source utf8 (omega arith) refl (tokens_found source tokens is)
