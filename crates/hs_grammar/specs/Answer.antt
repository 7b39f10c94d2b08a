-- What a recogniser of a grammar answers.
use Rattle.std.specs.Prelude.{◌≡◌, ◌≢◌, ℕ, ◌≤◌, List, [], ◌∷◌, ◌++◌, length, take, drop, IsTrue}
use Rattle.hs_grammar.specs.declared.types.Item.{Item}
use Rattle.hs_grammar.specs.declared.types.Fault.{Fault}
use Rattle.hs_grammar.specs.declared.types.Fault.TheVariants as F
use Rattle.hs_grammar.specs.Grammar.{Grammar, Starts, refused, Sentence, tokens_of, Begins}
use Rattle.hs_grammar.specs.Check.{Table, checked}

-- the items whose tokens these are, and no others
pub record Only (g : Grammar) (ts : List ℕ) (m : List Item) : Type 0 where
  pub sentence : Sentence g m
  pub spelt : tokens_of m ≡ ts
  pub alone : (other : List Item) → Sentence g other → tokens_of other ≡ ts → other ≡ m

-- no sentence is the front, if the tokens end there; else none begins with the front and the next token
abbrev pub Leaves : Grammar → List ℕ → List ℕ → Type 0
Leaves g front [] = (m : List Item) → Sentence g m → tokens_of m ≢ front
Leaves g front (c ∷ rest) = (m : List Item) (more : List ℕ) → Sentence g m → tokens_of m ≢ front ++ c ∷ more

-- p is the first place where the tokens leave the grammar
pub record First (g : Grammar) (ts : List ℕ) (p : ℕ) : Type 0 where
  pub in_range : p ≤ length ts
  pub begins : Begins g (take p ts)
  pub leaves : Leaves g (take p ts) (drop p ts)

-- behind the front the next token is a refused word of the grammar
abbrev pub Refuses : Grammar → List ℕ → List ℕ → Type 0
Refuses g front [] = ⊥
Refuses g front (c ∷ rest) = (m : List Item) × Starts g refused m × (tokens_of m ≡ front ++ c ∷ [])

-- the fault of these tokens
abbrev pub Faulty : Grammar → List ℕ → Fault → Type 0
Faulty g ts (F.At p) = First g ts p × ¬ Refuses g (take p ts) (drop p ts)
Faulty g ts (F.NotOffered p) = First g ts p × Refuses g (take p ts) (drop p ts)
Faulty g ts F.NoMemory = Unit {0}

-- a table for the grammar whose choices are these
abbrev pub Serves : Grammar → List (List ℕ) → Table → Type 0
Serves g rows t = (t.choice ≡ rows) × IsTrue (checked g t)
