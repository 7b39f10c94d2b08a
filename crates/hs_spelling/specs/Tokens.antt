-- What one token spells. A spelling is a relation between the tokens from some place on and those that are left behind what is spelled.
use Rattle.std.specs.Prelude.{◌≡◌, ℕ, ◌≤◌, nat_eq, Bool, true, false, IsTrue, List, [], ◌∷◌}
use Rattle.std.specs.List.{list_any}
use Rattle.hs_ast.specs.declared.literal.Number.{Number}
use Rattle.hs_ast.specs.declared.word.Identifier.{Identifier}
use Rattle.hs_builder.specs.Leaves.{number_in, units_of}
use Rattle.hs_lexer.specs.Content.{written, name_of, text_of}
use Rattle.hs_lexer.specs.declared.token.Token.{Token}
use Rattle.hs_syntax.specs.Classes.{class_of}
use Rattle.hs_syntax.specs.Names as class
use Rattle.hs_syntax.specs.Words.{name_classes}

-- the place of the first of these tokens
abbrev pub start_of : List Token → ℕ
start_of [] = 0
start_of (t ∷ tokens) = t.start

-- the first of the tokens is such a one, and the others are left
abbrev pub First : (Token → Type 0) → List Token → List Token → Type 0
First P from rest = (t : Token) × (from ≡ t ∷ rest) × P t

-- a token of this class: a word of the grammar, or a symbol
abbrev pub Word : List ℕ → ℕ → List Token → List Token → Type 0
Word text class = First (λ t. class_of text t ≡ class)

-- it, or nothing
pub data Maybe (text : List ℕ) (class : ℕ) : List Token → List Token → Type 0 where
  left_out : {a : List Token} → Maybe text class a a
  written_out : {a b : List Token} → Word text class a b → Maybe text class a b

-- whether it is written
pub data Flag (text : List ℕ) (class : ℕ) : Bool → List Token → List Token → Type 0 where
  no : {a : List Token} → Flag text class false a a
  yes : {a b : List Token} → Word text class a b → Flag text class true a b

-- a token of a class from the first to the second
abbrev pub Between : List ℕ → ℕ → ℕ → List Token → List Token → Type 0
Between text low high = First (λ t. (low ≤ class_of text t) × (class_of text t ≤ high))

-- a name, quoted or a word that isn't reserved, which stands at its token
abbrev pub Name : List ℕ → Identifier → List Token → List Token → Type 0
Name text n = First (λ t. IsTrue (list_any (λ class. nat_eq class (class_of text t)) name_classes) × (n ≡ record { name = name_of text t; at = t.start }))

-- a number, with or without a point
abbrev pub Numeral : List ℕ → Number → List Token → List Token → Type 0
Numeral text n = First (λ t. (class.number_0 ≤ class_of text t) × (class_of text t ≤ class.fraction) × (n ≡ number_in (written text t)))

-- a whole number of a class from the first to the second
abbrev pub Whole : List ℕ → ℕ → ℕ → ℕ → List Token → List Token → Type 0
Whole text low high n = First (λ t. (low ≤ class_of text t) × (class_of text t ≤ high) × (n ≡ units_of (written text t)))

-- a text
abbrev pub Told : List ℕ → List ℕ → List Token → List Token → Type 0
Told text told = First (λ t. (class.digit_text ≤ class_of text t) × (class_of text t ≤ class.other_text) × (told ≡ text_of text t))

-- a text of 1 to 18 digits, as their number
abbrev pub Digits : List ℕ → ℕ → List Token → List Token → Type 0
Digits text n = First (λ t. (class_of text t ≡ class.digit_text) × (n ≡ units_of (text_of text t)))
