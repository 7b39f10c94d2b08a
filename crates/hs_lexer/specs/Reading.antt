-- The tokens of a text, or its first fault, as a function: piece by piece.
use Rattle.std.specs.Prelude.{◌≡◌, ◌≢◌, ℕ, zero, suc, ◌+◌, ◌-◌, Bool, nat_le, if◌then◌else◌, List, [], ◌∷◌, ◌++◌, take, count_by, Option, None, Some, Result, Ok, Err}
use Rattle.hs_lexer.specs.declared.token.TokenKind.TheVariants.{Word, Quoted, Number, UnicodeText, Symbol}
use Rattle.hs_lexer.specs.declared.token.Token.{Token as Found}
use Rattle.hs_lexer.specs.declared.lexeme.Lexeme.{Lexeme}
use Rattle.hs_lexer.specs.declared.lexeme.Lexeme.TheVariants.{Token}
use Rattle.hs_lexer.specs.declared.lexeme.Piece.{Piece}
use Rattle.hs_lexer.specs.declared.fault.LexFault.{LexFault}
use Rattle.hs_lexer.specs.declared.fault.LexFault.TheVariants.{OpenQuote, BadChar, WideNumber, NoMemory}
use Rattle.hs_lexer.specs.Bytes.{is_digit}
use Rattle.hs_lexer.specs.Pieces.{begun}
use Rattle.hs_lexer.specs.Lengths.{piece_len}
use Rattle.hs_lexer.specs.Content.{undoubled, is_name, inside, lone_escape}

-- ---- what is wrong with a piece

abbrev pub bad_unless : ℕ → Bool → Option LexFault
bad_unless at holds = if holds then None else Some (BadChar at)

abbrev pub bad_at : Option ℕ → Option LexFault
bad_at None = None
bad_at (Some at) = Some (BadChar at)

abbrev pub wide_at : ℕ → ℕ → Option LexFault
wide_at at digits = if nat_le digits 38 then None else Some (WideNumber at)

-- A name has from 1 to 128 bytes and no control character, a number at most 38 digits, and in a text behind `U&` each `\`
-- begins an escape. The fault of any other stands at its first byte, and at the first such `\`.
unfoldable pub fault_in : ℕ → Lexeme → List ℕ → Option LexFault
fault_in at (Token Word) piece = bad_unless at (is_name piece)
fault_in at (Token Quoted) piece = bad_unless at (is_name (undoubled 34 (inside 1 piece)))
fault_in at (Token Number) piece = wide_at at (count_by is_digit piece)
fault_in at (Token UnicodeText) piece = bad_at (lone_escape (at + 3) 0 (inside 3 piece))
fault_in at _ piece = None

-- a text, a quoted name and a comment that isn't closed is an open quote; a `!` or `|` alone is a bad character
unfoldable pub unfinished : ℕ → Lexeme → LexFault
unfinished at (Token Symbol) = BadChar at
unfinished at _ = OpenQuote at

-- ---- the piece at the front of some bytes, which stand at a place

abbrev pub passed : Lexeme → ℕ → Option LexFault → Result Piece LexFault
passed lexeme len None = Ok (record { lexeme = lexeme; len = len })
passed lexeme len (Some fault) = Err fault

abbrev pub measured : ℕ → List ℕ → Lexeme → Option ℕ → Result Piece LexFault
measured at bytes lexeme None = Err (unfinished at lexeme)
measured at bytes lexeme (Some len) = passed lexeme len (fault_in at lexeme (take len bytes))

abbrev pub started : ℕ → List ℕ → Option Lexeme → Result Piece LexFault
started at bytes None = Err (BadChar at)
started at bytes (Some lexeme) = measured at bytes lexeme (piece_len lexeme bytes)

-- its kind and its length, or the fault
unfoldable pub front_of : ℕ → List ℕ → Result Piece LexFault
front_of at bytes = started at bytes (begun bytes)

-- ---- the tokens

abbrev pub token_of : Lexeme → ℕ → ℕ → List Found
token_of (Token kind) at len = record { kind = kind; start = at; end = at + len } ∷ []
token_of _ at len = []

-- these before the others, if there are others
abbrev pub with_front : List Found → Result (List Found) LexFault → Result (List Found) LexFault
with_front front (Ok tokens) = Ok (front ++ tokens)
with_front front (Err fault) = Err fault

abbrev pub followed : ℕ → Result Piece LexFault → (ℕ → Result (List Found) LexFault) → Result (List Found) LexFault
followed at (Ok piece) rest = with_front (token_of piece.lexeme at piece.len) (rest piece.len)
followed at (Err fault) rest = Err fault

-- the tokens of bytes that stand at a place, without as many that belong to a piece that was begun
abbrev pub tokens_from : ℕ → ℕ → List ℕ → Result (List Found) LexFault
tokens_from at left [] = Ok []
tokens_from at (suc left) (b ∷ bytes) = tokens_from (at + 1) left bytes
tokens_from at zero (b ∷ bytes) = followed at (front_of at (b ∷ bytes)) (λ len. tokens_from (at + 1) (len - 1) bytes)

-- the tokens of a text, or its first fault
unfoldable pub tokens_of : List ℕ → Result (List Found) LexFault
tokens_of text = tokens_from 0 0 text

-- these, and then the tokens of what is left of the text at a place
abbrev pub read_on : List Found → ℕ → List ℕ → Result (List Found) LexFault
read_on tokens at rest = with_front tokens (tokens_from at 0 rest)

-- the answer is this, unless memory is wanting
abbrev pub Gives : {A : Type 0} → (A → List Found) → Result A LexFault → Result (List Found) LexFault → Type 0
Gives view (Ok x) means = means ≡ Ok (view x)
Gives view (Err fault) means = fault ≢ NoMemory → means ≡ Err fault
