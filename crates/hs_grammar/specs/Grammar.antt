-- A grammar as data, and what it derives.
use Rattle.std.specs.Prelude.{◌≡◌, ℕ, zero, suc, ◌+◌, ◌<◌, ◌≤◌, max, List, [], ◌∷◌, ◌++◌, length, slice_index_or, slice_range, reverse}
use Rattle.hs_grammar.specs.declared.types.Symbol.{Symbol}
use Rattle.hs_grammar.specs.declared.types.Symbol.TheVariants as S
use Rattle.hs_grammar.specs.declared.types.Item.{Item}
use Rattle.hs_grammar.specs.declared.types.Item.TheVariants as I
use Rattle.hs_grammar.specs.declared.types.Production.{Production}
use Rattle.hs_grammar.specs.declared.types.View.{View}
use Rattle.hs_grammar.specs.declared.types.Tables.{Tables}

pub record Grammar : Type 0 where
  pub productions : List Production
  pub symbols : List Symbol
  pub views : List View

abbrev pub grammar : Tables → Grammar
grammar t = record { productions = t.productions.now; symbols = t.symbols.now; views = t.views.now }

abbrev pub nothing : Production
nothing = record { rule = 0; from = 0; to = 0 }

-- the rule of production p, and its right side, which the symbols hold from its end to its beginning
abbrev pub rule_of : Grammar → ℕ → ℕ
rule_of g p = (slice_index_or g.productions p nothing).rule

abbrev pub raw : Grammar → ℕ → List Symbol
raw g p = let x = slice_index_or g.productions p nothing in slice_range g.symbols x.from x.to

abbrev pub right : Grammar → ℕ → List Symbol
right g p = reverse (raw g p)

-- how far a turn goes in a state
abbrev pub turned : ℕ → ℕ
turned zero = 0
turned (suc zero) = 1
turned (suc (suc q)) = 2

-- derived as a whole, or up to a refused word, that word included
pub data Extent : Type 0 where
  whole : Extent
  refused : Extent

-- From these symbols, in this state, these items are derived, the leftmost symbol first.
pub data Derives (g : Grammar) : Extent → List Symbol → ℕ → List Item → Type 0 where
  ends : {q : ℕ} → Derives g whole [] q []
  take : {e : Extent} {c q : ℕ} {s : List Symbol} {m : List Item} → Derives g e s q m → Derives g e (S.Take c ∷ s) q (I.Token c ∷ m)
  take_keep : {e : Extent} {a b c q : ℕ} {s : List Symbol} {m : List Item} → a ≤ c → c ≤ b → Derives g e s c m → Derives g e (S.TakeKeep a b ∷ s) q (I.Token c ∷ m)
  take_up_to : {e : Extent} {a b c q : ℕ} {s : List Symbol} {m : List Item} → a ≤ c → c ≤ b → c ≤ max a q → Derives g e s q m → Derives g e (S.TakeUpTo a b ∷ s) q (I.Token c ∷ m)
  refuse : {a b c q : ℕ} {s : List Symbol} → a ≤ c → c ≤ b → Derives g refused (S.Refuse a b ∷ s) q (I.Token c ∷ [])
  mark : {e : Extent} {a q : ℕ} {s : List Symbol} {m : List Item} → Derives g e s q m → Derives g e (S.Mark a ∷ s) q (I.Mark a ∷ m)
  keep : {e : Extent} {k q : ℕ} {s : List Symbol} {m : List Item} → Derives g e s k m → Derives g e (S.Keep k ∷ s) q m
  turn : {e : Extent} {n q : ℕ} {s : List Symbol} {m : List Item} → Derives g e (S.Rule (n + turned q) ∷ s) q m → Derives g e (S.Turn n ∷ s) q m
  rule : {e : Extent} {n q : ℕ} {s : List Symbol} {m : List Item} (p : ℕ) → 0 < p → p < length g.productions → rule_of g p ≡ n
      → Derives g e (right g p ++ s) q m → Derives g e (S.Rule n ∷ s) q m

-- the tokens of items
abbrev pub tokens_of : List Item → List ℕ
tokens_of [] = []
tokens_of (I.Token c ∷ m) = c ∷ tokens_of m
tokens_of (I.Mark a ∷ m) = tokens_of m

-- what the first rule derives
abbrev pub Starts : Grammar → Extent → List Item → Type 0
Starts g e m = Derives g e (S.Rule 0 ∷ []) 0 m

-- a sentence, with its marks
abbrev pub Sentence : Grammar → List Item → Type 0
Sentence g m = Starts g whole m

-- some sentence begins with these tokens
abbrev pub Begins : Grammar → List ℕ → Type 0
Begins g front = (m : List Item) × (more : List ℕ) × Sentence g m × (tokens_of m ≡ front ++ more)
