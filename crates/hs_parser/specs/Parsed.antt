-- What the tokens of a text are by the grammar: a statement, or no statement from some place on.
use Rattle.std.specs.Prelude.{◌≡◌, ℕ, ◌+◌, ◌-◌, Bool, true, false, ◌⊎◌, if◌then◌else◌, ◌==◌, ◌&&◌, ◌||◌, nat_lt, List, [], ◌∷◌, length, slice_get, Option, Some, None, Result, Ok, Err}
use Rattle.hs_ast.specs.Depth.{statement_depth_of}
use Rattle.hs_ast.specs.declared.statement.Stmt.{Stmt}
use Rattle.hs_grammar.specs.Answer.{Only, Faulty}
use Rattle.hs_grammar.specs.declared.types.Fault.{Fault}
use Rattle.hs_grammar.specs.declared.types.Fault.TheVariants as f
use Rattle.hs_grammar.specs.declared.types.Item.{Item}
use Rattle.hs_lexer.specs.declared.token.Token.{Token}
use Rattle.hs_lexer.specs.Content.{written}
use Rattle.hs_parser.specs.declared.syntax_fault.SyntaxFault.{SyntaxFault}
use Rattle.hs_parser.specs.declared.syntax_fault.SyntaxFault.TheVariants.{At, NotOffered, Depth, NoMemory}
use Rattle.hs_parser.specs.Building.{tree_of, StandsNot}
use Rattle.hs_syntax.specs.Classes.{classes_of}
use Rattle.hs_syntax.specs.Meant.{IsMeantBy}
use Rattle.hs_syntax.specs.Sql.{sql}
use Rattle.hs_syntax.specs.Statement.{IsFaultOf}
use Rattle.hs_builder.specs.Steps.{Step, stands, deep, wrong}

-- ---- places

-- the end of a text; a place has 32 bits
abbrev pub end_of : List ℕ → ℕ
end_of text = if nat_lt 4294967295 (length text) then 4294967295 else length text

abbrev pub start_or : ℕ → Option Token → ℕ
start_or end (Some token) = token.start
start_or end None = end

-- the place of a token; behind the last one, the end of the text
abbrev pub place_of : List ℕ → List Token → ℕ → ℕ
place_of text tokens at = start_or (end_of text) (slice_get tokens at)

-- ---- parentheses

abbrev pub is_sign : ℕ → List ℕ → Bool
is_sign sign [] = false
is_sign sign (b ∷ rest) = b == sign && length rest == 0

-- how many are open behind a token: `(` is 40 and `)` is 41
abbrev pub open_behind : List ℕ → ℕ → Token → ℕ
open_behind text open_before token =
    if is_sign 40 (written text token) then open_before + 1 else if is_sign 41 (written text token) then open_before - 1 else open_before

-- more than 1,024 are open behind some token
abbrev pub opens_too_many : List ℕ → ℕ → List Token → Bool
opens_too_many text open_before [] = false
opens_too_many text open_before (t ∷ tokens) = nat_lt 1024 (open_behind text open_before t) || opens_too_many text (open_behind text open_before t) tokens

-- ---- statements

-- a tree is deeper than 256, or more than 1,024 parentheses are open at one place
abbrev pub too_deep : List ℕ → List Token → Stmt → Bool
too_deep text tokens statement = nat_lt 256 (statement_depth_of statement) || opens_too_many text 0 tokens

-- this is the tree that the items build of the tokens, however deep it is
abbrev pub IsTree : Step Stmt → Stmt → Type 0
IsTree (stands statement) tree = statement ≡ tree
IsTree (deep statement) tree = statement ≡ tree
IsTree wrong tree = ⊥

abbrev pub Grown : List ℕ → List Token → List Item → Result Stmt SyntaxFault → Type 0
Grown text tokens items (Ok statement) = (opens_too_many text 0 tokens ≡ false) × (tree_of text tokens items ≡ stands statement)
Grown text tokens items (Err Depth) = (opens_too_many text 0 tokens ≡ true) ⊎ StandsNot (tree_of text tokens items)
Grown text tokens items (Err NoMemory) = Unit {0}
Grown text tokens items (Err (At p)) = ⊥
Grown text tokens items (Err (NotOffered p)) = ⊥

abbrev pub fault_at : List ℕ → List Token → Fault → SyntaxFault
fault_at text tokens (f.At k) = At (place_of text tokens k)
fault_at text tokens (f.NotOffered k) = NotOffered (place_of text tokens k)
fault_at text tokens f.NoMemory = NoMemory

-- The answer for the tokens of a text. A tree is that of the only sentence with these tokens, and is not too deep; `Depth` is answered for
-- one that is. A place is that of the first token with which no sentence begins any more.
abbrev pub Parsed : List ℕ → List Token → Result Stmt SyntaxFault → Type 0
Parsed text tokens (Ok statement) =
    (items : List Item) × Only sql (classes_of text tokens) items × IsTree (tree_of text tokens items) statement × (too_deep text tokens statement ≡ false)
Parsed text tokens (Err Depth) =
    (items : List Item) × Only sql (classes_of text tokens) items × (tree : Stmt) × IsTree (tree_of text tokens items) tree × (too_deep text tokens tree ≡ true)
Parsed text tokens (Err (At p)) = (k : ℕ) × Faulty sql (classes_of text tokens) (f.At k) × (p ≡ place_of text tokens k)
Parsed text tokens (Err (NotOffered p)) = (k : ℕ) × Faulty sql (classes_of text tokens) (f.NotOffered k) × (p ≡ place_of text tokens k)
Parsed text tokens (Err NoMemory) = Unit {0}

-- The same by the literal grammar: there is a tree, or one that is too deep, only for a statement, and it is what the items build by
-- which that grammar reads it and which are meant, whichever way else it reads these tokens; and a fault of anything else.
abbrev pub Read : List ℕ → List Token → Result Stmt SyntaxFault → Type 0
Read text tokens (Ok statement) =
    (items : List Item) × IsMeantBy (classes_of text tokens) items × IsTree (tree_of text tokens items) statement × (too_deep text tokens statement ≡ false)
Read text tokens (Err Depth) =
    (items : List Item) × IsMeantBy (classes_of text tokens) items × (tree : Stmt) × IsTree (tree_of text tokens items) tree × (too_deep text tokens tree ≡ true)
Read text tokens (Err (At p)) = (k : ℕ) × IsFaultOf (classes_of text tokens) (f.At k) × (p ≡ place_of text tokens k)
Read text tokens (Err (NotOffered p)) = (k : ℕ) × IsFaultOf (classes_of text tokens) (f.NotOffered k) × (p ≡ place_of text tokens k)
Read text tokens (Err NoMemory) = Unit {0}
