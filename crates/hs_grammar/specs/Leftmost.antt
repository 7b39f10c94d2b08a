-- The ordinary leftmost derivation, step by step, and what it has to do with `Derives`; and that a text has one answer.
use Rattle.std.specs.Prelude.{◌≡◌, ℕ, ◌+◌, ◌<◌, ◌≤◌, ◌↔◌, max, List, [], ◌∷◌, ◌++◌, length}
use Rattle.hs_grammar.specs.declared.types.Symbol.{Symbol}
use Rattle.hs_grammar.specs.declared.types.Symbol.TheVariants as S
use Rattle.hs_grammar.specs.declared.types.Item.{Item}
use Rattle.hs_grammar.specs.declared.types.Item.TheVariants as I
use Rattle.hs_grammar.specs.Grammar.{Grammar, right, rule_of, turned, Sentence}
use Rattle.hs_grammar.specs.Answer.{Only, First}

-- One step from a sentential form to the next. A form is the items in front, the state, and the symbols that are left. The
-- leftmost symbol becomes an item, or gives way to the right side of a production of its rule.
pub data Step (g : Grammar) : List Item → ℕ → List Symbol → List Item → ℕ → List Symbol → Type 0 where
  take : {m : List Item} {c q : ℕ} {s : List Symbol} → Step g m q (S.Take c ∷ s) (m ++ I.Token c ∷ []) q s
  take_keep : {m : List Item} {a b c q : ℕ} {s : List Symbol} → a ≤ c → c ≤ b → Step g m q (S.TakeKeep a b ∷ s) (m ++ I.Token c ∷ []) c s
  take_up_to : {m : List Item} {a b c q : ℕ} {s : List Symbol} → a ≤ c → c ≤ b → c ≤ max a q → Step g m q (S.TakeUpTo a b ∷ s) (m ++ I.Token c ∷ []) q s
  mark : {m : List Item} {a q : ℕ} {s : List Symbol} → Step g m q (S.Mark a ∷ s) (m ++ I.Mark a ∷ []) q s
  keep : {m : List Item} {k q : ℕ} {s : List Symbol} → Step g m q (S.Keep k ∷ s) m k s
  turn : {m : List Item} {n q : ℕ} {s : List Symbol} → Step g m q (S.Turn n ∷ s) m q (S.Rule (n + turned q) ∷ s)
  rule : {m : List Item} {n q : ℕ} {s : List Symbol} (p : ℕ) → 0 < p → p < length g.productions → rule_of g p ≡ n
      → Step g m q (S.Rule n ∷ s) m q (right g p ++ s)

-- steps that leave the items m, a state and no symbol
pub data Completes (g : Grammar) (m : List Item) : List Item → ℕ → List Symbol → Type 0 where
  done : {q : ℕ} → Completes g m m q []
  more : {r x : List Item} {q k : ℕ} {s a : List Symbol} → Step g r q s x k a → Completes g m x k a → Completes g m r q s

-- a sentence is what steps lead to from the first rule
abbrev pub IsLeftmost : Grammar → Type 0
IsLeftmost g = (m : List Item) → Sentence g m ↔ Completes g m [] 0 (S.Rule 0 ∷ [])

-- tokens are a sentence's, or leave the grammar at one place, and not both
pub record HasOneAnswer (g : Grammar) : Type 0 where
  pub one_place : (ts : List ℕ) (p q : ℕ) → First g ts p → First g ts q → p ≡ q
  pub not_both : (ts : List ℕ) (m : List Item) (p : ℕ) → Only g ts m → First g ts p → ⊥
