-- The reserved words: those of the grammar that are no names.
use Rattle.std.specs.Prelude.{◌≡◌, ℕ, Bool, not, nat_eq, List, [], ◌∷◌}
use Rattle.std.specs.List.{list_any}
use Rattle.hs_grammar.specs.declared.types.Item.{Item}
use Rattle.hs_grammar.specs.Grammar.{whole, tokens_of}
use Rattle.hs_syntax.specs.Classes.{word_class}
use Rattle.hs_syntax.specs.Literal.{rule, Writes}
use Rattle.hs_syntax.specs.Names.{name}
use Rattle.hs_syntax.specs.Words.{name_classes}

-- the class of a word is none of those that are names; without regard to case
abbrev pub is_reserved : List ℕ → Bool
is_reserved word = not (list_any (λ class. nat_eq class (word_class word)) name_classes)

-- the word, as a token, is what the rule `name` of the literal grammar writes
abbrev pub IsName : List ℕ → Type 0
IsName word = (items : List Item) × Writes whole (rule name ∷ []) items × (tokens_of items ≡ word_class word ∷ [])
