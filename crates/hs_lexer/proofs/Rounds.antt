-- The tokens of a text, round by round.
use Rattle.std.proofs.Common.{◌≡◌, ℕ, zero, suc, ◌+◌, ◌-◌, ◌<◌, ◌≤◌, List, [], ◌∷◌, ◌++◌, length, drop, Ok, Err, Result, refl, sym, ◌∙◌, ap, arith, append_assoc, append-nil, add-zero}
use Rattle.hs_lexer.specs.declared.token.Token.{Token as Found}
use Rattle.hs_lexer.specs.declared.lexeme.Piece.{Piece}
use Rattle.hs_lexer.specs.declared.fault.LexFault.{LexFault}
use Rattle.hs_lexer.specs.Reading.{front_of, token_of, with_front, followed, tokens_from, read_on}

pub tokens_from-drop : (at n : ℕ) (bytes : List ℕ) → n ≤ length bytes → tokens_from at n bytes ≡ tokens_from (at + n) 0 (drop n bytes)
tokens_from-drop at zero bytes fits = rw add-zero
tokens_from-drop at (suc n) [] fits = absurd (omega arith)
tokens_from-drop at (suc n) (b ∷ bytes) fits =
    let moved : at + 1 + n ≡ at + suc n = omega arith in
    tokens_from-drop (at + 1) n bytes (omega arith) ∙ ap (λ k. tokens_from k 0 (drop n bytes)) moved

drop-cons : (n b : ℕ) (bytes : List ℕ) → 0 < n → drop (n - 1) bytes ≡ drop n (b ∷ bytes)
drop-cons zero b bytes some = absurd (omega arith)
drop-cons (suc n) b bytes some = let e : suc n - 1 ≡ n = omega arith in ap (λ k. drop k bytes) e

-- over a piece
pub tokens_goes : (at : ℕ) (bytes : List ℕ) (piece : Piece) → front_of at bytes ≡ Ok piece → 0 < piece.len → piece.len ≤ length bytes
    → tokens_from at 0 bytes ≡ with_front (token_of piece.lexeme at piece.len) (tokens_from (at + piece.len) 0 (drop piece.len bytes))
tokens_goes at [] piece is some fits = absurd (omega arith)
tokens_goes at (b ∷ bytes) piece is some fits =
    let moved : at + 1 + (piece.len - 1) ≡ at + piece.len = omega arith in
    let within : piece.len - 1 ≤ length bytes = omega arith in
    let rest = tokens_from-drop (at + 1) (piece.len - 1) bytes within ∙ ap (λ k. tokens_from k 0 (drop (piece.len - 1) bytes)) moved
    ∙ ap (tokens_from (at + piece.len) 0) (drop-cons piece.len b bytes some) in
    ap (λ r. followed at r (λ len. tokens_from (at + 1) (len - 1) bytes)) is ∙ ap (with_front (token_of piece.lexeme at piece.len)) rest

-- at a fault
pub tokens_stops : (at : ℕ) (bytes : List ℕ) (fault : LexFault) → 0 < length bytes → front_of at bytes ≡ Err fault → tokens_from at 0 bytes ≡ Err fault
tokens_stops at [] fault some is = absurd (omega arith)
tokens_stops at (b ∷ bytes) fault some is = ap (λ r. followed at r (λ len. tokens_from (at + 1) (len - 1) bytes)) is

pub with_front-nil : (r : Result (List Found) LexFault) → with_front [] r ≡ r
with_front-nil (Ok tokens) = refl
with_front-nil (Err fault) = refl

pub with_front-append : (a b : List Found) (r : Result (List Found) LexFault) → with_front (a ++ b) r ≡ with_front a (with_front b r)
with_front-append a b (Ok tokens) = rw append_assoc
with_front-append a b (Err fault) = refl

pub read_on-nil : (at : ℕ) (rest : List ℕ) → read_on [] at rest ≡ tokens_from at 0 rest
read_on-nil at rest = with_front-nil (tokens_from at 0 rest)

pub read_on-end : (tokens : List Found) (at : ℕ) (rest : List ℕ) → length rest ≡ 0 → read_on tokens at rest ≡ Ok tokens
read_on-end tokens at [] end = ap Ok (append-nil tokens)
read_on-end tokens at (b ∷ rest) end = absurd (omega arith)

pub read_on-goes : (tokens : List Found) (at : ℕ) (rest : List ℕ) (piece : Piece) → front_of at rest ≡ Ok piece → 0 < piece.len → piece.len ≤ length rest
    → read_on (tokens ++ token_of piece.lexeme at piece.len) (at + piece.len) (drop piece.len rest) ≡ read_on tokens at rest
read_on-goes tokens at rest piece is some fits =
    let behind = tokens_from (at + piece.len) 0 (drop piece.len rest) in
    with_front-append tokens (token_of piece.lexeme at piece.len) behind ∙ ap (with_front tokens) (sym (tokens_goes at rest piece is some fits))

pub read_on-stops : (tokens : List Found) (at : ℕ) (rest : List ℕ) (fault : LexFault) → 0 < length rest → front_of at rest ≡ Err fault → read_on tokens at rest ≡ Err fault
read_on-stops tokens at rest fault some is = ap (with_front tokens) (tokens_stops at rest fault some is)

pub ruleset rounds = (read_on-nil, read_on-end, read_on-goes, read_on-stops)
