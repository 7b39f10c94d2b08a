-- What the recogniser of statements answers, in terms of the literal grammar.
use Rattle.std.specs.Prelude.{ℕ, ◌≤◌, List, [], ◌∷◌, ◌++◌, length, take, drop}
use Rattle.hs_grammar.specs.declared.types.Fault.{Fault}
use Rattle.hs_grammar.specs.declared.types.Fault.TheVariants as F
use Rattle.hs_grammar.specs.Grammar.{Grammar}
use Rattle.hs_syntax.specs.declared.table.TheConstants.{PRODUCTIONS, SYMBOLS, VIEWS}
use Rattle.hs_syntax.specs.Literal.{IsStatement, IsRefused}

-- the grammar of the table
abbrev pub table_grammar : Grammar
table_grammar = record { productions = PRODUCTIONS; symbols = SYMBOLS; views = VIEWS }

-- no statement is the front, if the tokens end there; else none begins with the front and the next token
abbrev pub NoneGoesOn : List ℕ → List ℕ → Type 0
NoneGoesOn front [] = ¬ IsStatement front
NoneGoesOn front (c ∷ rest) = (more : List ℕ) → ¬ IsStatement (front ++ c ∷ more)

-- p is the first token with which no statement begins any more, or the end
pub record LeavesAt (ts : List ℕ) (p : ℕ) : Type 0 where
  pub in_range : p ≤ length ts
  pub begins : (more : List ℕ) × IsStatement (take p ts ++ more)
  pub leaves : NoneGoesOn (take p ts) (drop p ts)

-- behind the front the next token is one that stands there in the literal grammar but is not offered
abbrev pub IsRefusedAt : List ℕ → List ℕ → Type 0
IsRefusedAt front [] = ⊥
IsRefusedAt front (c ∷ rest) = IsRefused (front ++ c ∷ [])

-- the fault of these tokens
abbrev pub IsFaultOf : List ℕ → Fault → Type 0
IsFaultOf ts (F.At p) = LeavesAt ts p × ¬ IsRefusedAt (take p ts) (drop p ts)
IsFaultOf ts (F.NotOffered p) = LeavesAt ts p × IsRefusedAt (take p ts) (drop p ts)
IsFaultOf ts F.NoMemory = Unit {0}
