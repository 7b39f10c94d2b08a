-- What `tokens_of` gives are the tokens of the text, and no others.
use Rattle.std.proofs.Common.{◌≡◌, ℕ, zero, suc, ◌+◌, ◌<◌, ◌≤◌, true, List, [], ◌∷◌, ◌++◌, length, length-append, length-drop, drop, take, Option, Some, None, Result, Ok, Err, refl, sym, ◌∙◌, ap, subst, arith}
use Rattle.hs_lexer.specs.declared.token.Token.{Token as Found}
use Rattle.hs_lexer.specs.declared.lexeme.Lexeme.{Lexeme}
use Rattle.hs_lexer.specs.declared.lexeme.Lexeme.TheVariants.{White, Line, Block, Token}
use Rattle.hs_lexer.specs.declared.lexeme.Piece.{Piece}
use Rattle.hs_lexer.specs.declared.fault.LexFault.{LexFault}
use Rattle.hs_lexer.specs.declared.fault.LexFault.TheVariants.{BadChar}
use Rattle.hs_lexer.specs.Pieces.{is_digits, is_symbol, begun, Spells, IsPiece, IsFront, IsUnfinished}
use Rattle.hs_lexer.specs.Pieces.Spells.{white, line, block, word, whole, pointed, quoted, text, unicode_text, symbol}
use Rattle.hs_lexer.specs.Lengths.{piece_len}
use Rattle.hs_lexer.specs.Reading.{fault_in, unfinished, passed, measured, started, front_of, token_of, with_front, tokens_from, tokens_of}
use Rattle.hs_lexer.specs.Tokens.{IsBetween, AreTokens, IsFault}
use Rattle.hs_lexer.specs.Tokens.AreTokens.{none, between, token}
use Rattle.hs_lexer.specs.Tokens.IsFault.{later, nothing, unclosed, unsound}
use Rattle.hs_lexer.proofs.Found.{found, behind_all}
use Rattle.hs_lexer.proofs.Taken.{taken}
use Rattle.hs_lexer.proofs.Rounds.{tokens_goes, tokens_stops}

some_same : (m n : ℕ) → Some m ≡ Some n → m ≡ n
some_same m n h = cc

pub take_all : (a b : List ℕ) → take (length a) (a ++ b) ≡ a
take_all [] b = refl
take_all (x ∷ a) b = ap (λ z. x ∷ z) (take_all a b)

-- the length of the piece at the front
front_len : (bytes : List ℕ) (lexeme : Lexeme) (piece rest : List ℕ) → IsFront bytes lexeme piece rest → piece_len lexeme bytes ≡ Some (length piece)
front_len bytes lexeme piece rest front =
    let f = found rest front.is.spelled front.is.apart in
    let is : piece_len lexeme bytes ≡ Some f.0 = ap (piece_len lexeme) front.is.cut ∙ f.1 in
    let t = taken lexeme bytes f.0 front.kind is in
    let most = front.longest t.0 t.1 t.2.is in
    let same : f.0 ≡ length piece = omega (arith, most, t.2.len, f.2) in
    is ∙ ap Some same

-- the piece of the length that is found
front_at : (bytes : List ℕ) (lexeme : Lexeme) (n : ℕ) → begun bytes ≡ Some lexeme → piece_len lexeme bytes ≡ Some n
    → IsFront bytes lexeme (take n bytes) (drop n bytes) × (length (take n bytes) ≡ n)
front_at bytes lexeme n kind is =
    let t = taken lexeme bytes n kind is in
    let longest : (longer shorter : List ℕ) → IsPiece bytes lexeme longer shorter → length longer ≤ length t.0 = λ longer shorter p.
    let f = found shorter p.spelled p.apart in
    let same : f.0 ≡ n = some_same f.0 n (sym f.1 ∙ ap (piece_len lexeme) (sym p.cut) ∙ is) in
    omega (arith, f.2, t.2.len) in
    let front : IsFront bytes lexeme t.0 t.1 = record { kind = kind; is = t.2.is; longest = longest } in
    let first : take n bytes ≡ t.0 = ap (λ k. take k bytes) (sym t.2.len) ∙ ap (take (length t.0)) t.2.is.cut ∙ take_all t.0 t.1 in
    let rest : drop n bytes ≡ t.1 = ap (λ k. drop k bytes) (sym t.2.len) ∙ ap (drop (length t.0)) t.2.is.cut ∙ behind_all t.0 t.1 in
    (rw (first, rest) front, ap length first ∙ t.2.len)

unfinished_at : (bytes : List ℕ) (lexeme : Lexeme) → begun bytes ≡ Some lexeme → piece_len lexeme bytes ≡ None → IsUnfinished bytes lexeme
unfinished_at bytes lexeme kind is = record {
  kind = kind;
  none = λ piece rest p.
      let f = found rest p.spelled p.apart in
      let both : None ≡ Some f.0 = sym is ∙ ap (piece_len lexeme) p.cut ∙ f.1 in cc;
}

digits_some : (digits : List ℕ) → is_digits digits ≡ true → 0 < length digits
digits_some [] h = cc
digits_some (b ∷ digits) h = omega arith

symbol_some : (bytes : List ℕ) → is_symbol bytes ≡ true → 0 < length bytes
symbol_some [] h = cc
symbol_some (b ∷ bytes) h = omega arith

-- a piece has a byte at least
pub piece_some : {lexeme : Lexeme} {piece : List ℕ} → Spells lexeme piece → 0 < length piece
piece_some (white b h) = omega arith
piece_some (line comment h) = omega arith
piece_some (block comment h) = omega arith
piece_some (word b bytes h all) = omega arith
piece_some (whole digits h) = digits_some digits h
piece_some (pointed digits fraction d f) = omega (arith, length-append digits (46 ∷ fraction))
piece_some (quoted name) = omega arith
piece_some (text inside) = omega arith
piece_some (unicode_text inside) = omega arith
piece_some (symbol bytes h) = symbol_some bytes h

-- ---- what stands at the front

pub data Shows (at : ℕ) (bytes : List ℕ) : Result Piece LexFault → Type 0 where
  is_piece : (lexeme : Lexeme) (n : ℕ) → IsFront bytes lexeme (take n bytes) (drop n bytes) → length (take n bytes) ≡ n → fault_in at lexeme (take n bytes) ≡ None → Shows at bytes (Ok (record { lexeme = lexeme; len = n }))
  is_fault : (f : LexFault) → IsFault at bytes f → Shows at bytes (Err f)

shows_passed : (at : ℕ) (bytes : List ℕ) (lexeme : Lexeme) (n : ℕ) (o : Option LexFault) → IsFront bytes lexeme (take n bytes) (drop n bytes) → length (take n bytes) ≡ n
    → fault_in at lexeme (take n bytes) ≡ o → Shows at bytes (passed lexeme n o)
shows_passed at bytes lexeme n None front len is = is_piece lexeme n front len is
shows_passed at bytes lexeme n (Some f) front len is = is_fault f (unsound at bytes lexeme (take n bytes) (drop n bytes) f front is)

shows_measured : (at : ℕ) (bytes : List ℕ) (lexeme : Lexeme) (o : Option ℕ) → begun bytes ≡ Some lexeme → piece_len lexeme bytes ≡ o → Shows at bytes (measured at bytes lexeme o)
shows_measured at bytes lexeme None kind is = is_fault (unfinished at lexeme) (unclosed at bytes lexeme (unfinished_at bytes lexeme kind is))
shows_measured at bytes lexeme (Some n) kind is =
    let f = front_at bytes lexeme n kind is in shows_passed at bytes lexeme n (fault_in at lexeme (take n bytes)) f.0 f.1 refl

shows_started : (at b : ℕ) (bytes : List ℕ) (o : Option Lexeme) → begun (b ∷ bytes) ≡ o → Shows at (b ∷ bytes) (started at (b ∷ bytes) o)
shows_started at b bytes None kind = is_fault (BadChar at) (nothing at b bytes kind)
shows_started at b bytes (Some lexeme) kind = shows_measured at (b ∷ bytes) lexeme (piece_len lexeme (b ∷ bytes)) kind refl

shows : (at b : ℕ) (bytes : List ℕ) → Shows at (b ∷ bytes) (front_of at (b ∷ bytes))
unfolding front_of
shows at b bytes = shows_started at b bytes (begun (b ∷ bytes)) refl

-- ---- what is found

abbrev pub Means : ℕ → List ℕ → Result (List Found) LexFault → Type 0
Means at bytes (Ok tokens) = AreTokens at bytes tokens
Means at bytes (Err f) = IsFault at bytes f

means_more : (at : ℕ) (bytes : List ℕ) (lexeme : Lexeme) (n : ℕ) → IsFront bytes lexeme (take n bytes) (drop n bytes) → length (take n bytes) ≡ n → fault_in at lexeme (take n bytes) ≡ None
    → (r : Result (List Found) LexFault) → Means (at + n) (drop n bytes) r → Means at bytes (with_front (token_of lexeme at n) r)
means_more at bytes lexeme n front len is (Err f) m = later at bytes lexeme (take n bytes) (drop n bytes) f front is (rw len m)
means_more at bytes White n front len is (Ok tokens) m = between at bytes White (take n bytes) (drop n bytes) tokens front tt (rw len m)
means_more at bytes Line n front len is (Ok tokens) m = between at bytes Line (take n bytes) (drop n bytes) tokens front tt (rw len m)
means_more at bytes Block n front len is (Ok tokens) m = between at bytes Block (take n bytes) (drop n bytes) tokens front tt (rw len m)
means_more at bytes (Token kind) n front len is (Ok tokens) m =
    let made = token at bytes kind (take n bytes) (drop n bytes) tokens front is (rw len m) in
    subst (λ k. AreTokens at bytes (record { kind = kind; start = at; end = at + k } ∷ tokens)) len made

means_round : (at b : ℕ) (bytes : List ℕ) (r : Result Piece LexFault) → front_of at (b ∷ bytes) ≡ r → Shows at (b ∷ bytes) r
    → ((n : ℕ) → 0 < n → Means (at + n) (drop n (b ∷ bytes)) (tokens_from (at + n) 0 (drop n (b ∷ bytes)))) → Means at (b ∷ bytes) (tokens_from at 0 (b ∷ bytes))
means_round at b bytes (Err f) is (is_fault f' h) rest = subst (Means at (b ∷ bytes)) (sym (tokens_stops at (b ∷ bytes) f (omega arith) is)) h
means_round at b bytes (Ok p) is (is_piece lexeme n front len sound) rest =
    let some : 0 < n = omega (arith, piece_some front.is.spelled, len) in
    let parts = ap length front.is.cut ∙ length-append (take n (b ∷ bytes)) (drop n (b ∷ bytes)) in
    let fits : n ≤ length (b ∷ bytes) = omega (arith, parts, len) in
    subst (Means at (b ∷ bytes)) (sym (tokens_goes at (b ∷ bytes) (record { lexeme = lexeme; len = n }) is some fits))
    (means_more at (b ∷ bytes) lexeme n front len sound (tokens_from (at + n) 0 (drop n (b ∷ bytes))) (rest n some))

means : (fuel at : ℕ) (bytes : List ℕ) → length bytes ≤ fuel → Means at bytes (tokens_from at 0 bytes)
means fuel at [] fits = none at
means zero at (b ∷ bytes) fits = absurd (omega arith)
means (suc fuel) at (b ∷ bytes) fits =
    means_round at b bytes (front_of at (b ∷ bytes)) refl (shows at b bytes) (λ n some. means fuel (at + n) (drop n (b ∷ bytes)) (omega (arith, length-drop n (b ∷ bytes))))

pub tokens_found : (source : List ℕ) (tokens : List Found) → tokens_of source ≡ Ok tokens → AreTokens 0 source tokens
unfolding tokens_of
tokens_found source tokens is = subst (Means 0 source) is (means (length source) 0 source (omega arith))

pub fault_found : (source : List ℕ) (f : LexFault) → tokens_of source ≡ Err f → IsFault 0 source f
unfolding tokens_of
fault_found source f is = subst (Means 0 source) is (means (length source) 0 source (omega arith))

-- ---- and nothing else

take_front : (bytes : List ℕ) (lexeme : Lexeme) (piece rest : List ℕ) → IsFront bytes lexeme piece rest → (take (length piece) bytes ≡ piece) × (drop (length piece) bytes ≡ rest)
take_front bytes lexeme piece rest front =
    (ap (take (length piece)) front.is.cut ∙ take_all piece rest, ap (drop (length piece)) front.is.cut ∙ behind_all piece rest)

front_passes : (at : ℕ) (bytes : List ℕ) (lexeme : Lexeme) (piece rest : List ℕ) → IsFront bytes lexeme piece rest
    → front_of at bytes ≡ passed lexeme (length piece) (fault_in at lexeme piece)
unfolding front_of
front_passes at bytes lexeme piece rest front =
    ap (started at bytes) front.kind ∙ ap (measured at bytes lexeme) (front_len bytes lexeme piece rest front)
    ∙ ap (λ z. passed lexeme (length piece) (fault_in at lexeme z)) (take_front bytes lexeme piece rest front).0

-- behind a sound piece the rest is read
goes_on : (at : ℕ) (bytes : List ℕ) (lexeme : Lexeme) (piece rest : List ℕ) → IsFront bytes lexeme piece rest → fault_in at lexeme piece ≡ None
    → tokens_from at 0 bytes ≡ with_front (token_of lexeme at (length piece)) (tokens_from (at + length piece) 0 rest)
goes_on at bytes lexeme piece rest front sound =
    let is = front_passes at bytes lexeme piece rest front ∙ ap (passed lexeme (length piece)) sound in
    let parts = ap length front.is.cut ∙ length-append piece rest in
    let fits : length piece ≤ length bytes = omega (arith, parts) in
    tokens_goes at bytes (record { lexeme = lexeme; len = length piece }) is (piece_some front.is.spelled) fits
    ∙ ap (λ z. with_front (token_of lexeme at (length piece)) (tokens_from (at + length piece) 0 z)) (take_front bytes lexeme piece rest front).1

between_sound : (at : ℕ) (lexeme : Lexeme) (piece : List ℕ) → IsBetween lexeme → fault_in at lexeme piece ≡ None
unfolding fault_in
between_sound at White piece h = refl
between_sound at Line piece h = refl
between_sound at Block piece h = refl
between_sound at (Token kind) piece h = absurd h

no_token : (lexeme : Lexeme) (at n : ℕ) → IsBetween lexeme → token_of lexeme at n ≡ []
no_token White at n h = refl
no_token Line at n h = refl
no_token Block at n h = refl
no_token (Token kind) at n h = absurd h

tokens_read : {at : ℕ} {bytes : List ℕ} {tokens : List Found} → AreTokens at bytes tokens → tokens_from at 0 bytes ≡ Ok tokens
tokens_read (none at) = refl
tokens_read (between at bytes lexeme piece rest tokens front h more) =
    goes_on at bytes lexeme piece rest front (between_sound at lexeme piece h)
    ∙ ap (λ z. with_front z (tokens_from (at + length piece) 0 rest)) (no_token lexeme at (length piece) h) ∙ ap (with_front []) (tokens_read more)
tokens_read (token at bytes kind piece rest tokens front sound more) =
    goes_on at bytes (Token kind) piece rest front sound ∙ ap (with_front (token_of (Token kind) at (length piece))) (tokens_read more)

some_bytes : (bytes : List ℕ) (lexeme : Lexeme) → begun bytes ≡ Some lexeme → 0 < length bytes
some_bytes [] lexeme h = cc
some_bytes (b ∷ bytes) lexeme h = omega arith

not_measured : (bytes : List ℕ) (lexeme : Lexeme) (o : Option ℕ) → IsUnfinished bytes lexeme → piece_len lexeme bytes ≡ o → o ≡ None
not_measured bytes lexeme None h is = refl
not_measured bytes lexeme (Some n) h is = let t = taken lexeme bytes n h.kind is in absurd (h.none t.0 t.1 t.2.is)

fault_read : {at : ℕ} {bytes : List ℕ} {f : LexFault} → IsFault at bytes f → tokens_from at 0 bytes ≡ Err f
unfolding front_of
fault_read (later at bytes lexeme piece rest f front sound more) =
    goes_on at bytes lexeme piece rest front sound ∙ ap (with_front (token_of lexeme at (length piece))) (fault_read more)
fault_read (nothing at b bytes kind) = tokens_stops at (b ∷ bytes) (BadChar at) (omega arith) (ap (started at (b ∷ bytes)) kind)
fault_read (unclosed at bytes lexeme h) =
    tokens_stops at bytes (unfinished at lexeme) (some_bytes bytes lexeme h.kind)
    (ap (started at bytes) h.kind ∙ ap (measured at bytes lexeme) (not_measured bytes lexeme (piece_len lexeme bytes) h refl))
fault_read (unsound at bytes lexeme piece rest f front is) =
    tokens_stops at bytes f (some_bytes bytes lexeme front.kind) (front_passes at bytes lexeme piece rest front ∙ ap (passed lexeme (length piece)) is)

pub tokens_only : (source : List ℕ) (tokens : List Found) → AreTokens 0 source tokens → tokens_of source ≡ Ok tokens
unfolding tokens_of
tokens_only source tokens h = tokens_read h

pub fault_only : (source : List ℕ) (f : LexFault) → IsFault 0 source f → tokens_of source ≡ Err f
unfolding tokens_of
fault_only source f h = fault_read h

ok_same : (tokens others : List Found) (r : Result (List Found) LexFault) → r ≡ Ok tokens → r ≡ Ok others → tokens ≡ others
ok_same tokens others r a b = cc

pub tokens_alone : (source : List ℕ) (tokens others : List Found) → AreTokens 0 source tokens → AreTokens 0 source others → tokens ≡ others
tokens_alone source tokens others a b = ok_same tokens others (tokens_of source) (tokens_only source tokens a) (tokens_only source others b)

err_same : (f g : LexFault) (r : Result (List Found) LexFault) → r ≡ Err f → r ≡ Err g → f ≡ g
err_same f g r a b = cc

pub fault_alone : (source : List ℕ) (f g : LexFault) → IsFault 0 source f → IsFault 0 source g → f ≡ g
fault_alone source f g a b = err_same f g (tokens_of source) (fault_only source f a) (fault_only source g b)

apart : (tokens : List Found) (f : LexFault) (r : Result (List Found) LexFault) → r ≡ Ok tokens → r ≡ Err f → ⊥
apart tokens f r a b = cc

pub not_both : (source : List ℕ) (tokens : List Found) (f : LexFault) → AreTokens 0 source tokens → IsFault 0 source f → ⊥
not_both source tokens f a b = apart tokens f (tokens_of source) (tokens_only source tokens a) (fault_only source f b)
