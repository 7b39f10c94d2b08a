-- The tree of a statement's items is spelled by its tokens.
use Rattle.std.proofs.Common.{◌≡◌, ℕ, suc, zero, ◌-◌, ◌<◌, List, [], ◌∷◌, length, slice_index_or, refl, sym, subst, arith}
use Rattle.hs_ast.specs.declared.statement.Stmt.{Stmt}
use Rattle.hs_builder.specs.MarkSteps.{no_parts, topmost}
use Rattle.hs_builder.specs.Steps.{Step, stands, deep, wrong, and_then, deepened}
use Rattle.hs_builder.specs.declared.part.Parts.{Parts}
use Rattle.hs_grammar.specs.declared.types.Item.{Item}
use Rattle.hs_lexer.specs.declared.token.Token.{Token}
use Rattle.hs_parser.specs.Building.{token_at, built, tree_of}
use Rattle.hs_syntax.specs.Classes.{classes_of}
use Rattle.hs_syntax.specs.Names.{semicolon_mark}
use Rattle.hs_spelling.specs.Tokens.{Maybe}
use Rattle.hs_syntax.specs.Literal.{Production, productions, production, to, IsBuiltBy}
use Rattle.hs_spelling.specs.Statements.{IsSpelledBy, spelled}
use Rattle.hs_spelling.proofs.Every.{Every, every}
use Rattle.hs_spelling.proofs.Meanings.{with_statement}
use Rattle.hs_spelling.proofs.Promises.{OnBuilt, walk, Keeps}
use Rattle.hs_spelling.proofs.Rules.{means, Kept}

among : (text : List ℕ) (x : List Production) → Every text x → (n : ℕ) → n < length x → Kept text (slice_index_or x n (to 0 []))
among text [] a n h = absurd (omega (arith, h))
among text (x ∷ xs) a zero h = a.0
among text (x ∷ xs) a (suc n) h = among text xs a.1 n (omega (arith, h))

-- the tree that a step comes to, however deep
abbrev pub OnTree : Step Stmt → (Stmt → Type 0) → Type 0
OnTree (stands x) K = K x
OnTree (deep x) K = K x
OnTree wrong K = Unit {0}

still_deep : (x : Step Stmt) (K : Stmt → Type 0) → OnTree x K → OnTree (deepened x) K
still_deep (stands s) K h = h
still_deep (deep s) K h = h
still_deep wrong K h = h

topped : (x : Step Parts) (K : Stmt → Type 0) → OnBuilt x (λ p. OnTree (topmost p.statements) K) → OnTree (and_then x (λ p. topmost p.statements)) K
topped (stands p) K h = h
topped (deep p) K h = still_deep (topmost p.statements) K h
topped wrong K h = h

on_built : (x : Step Parts) (A B : Parts → Type 0) → OnBuilt x A → ((p : Parts) → A p → B p) → OnBuilt x B
on_built (stands p) A B h f = f p h
on_built (deep p) A B h f = f p h
on_built wrong A B h f = tt

module _ (text : List ℕ) (tokens : List Token) where
  -- behind the last token
  abbrev Ended : Token → List Token → Parts → Type 0
  Ended last rest p = rest ≡ [] → OnTree (topmost p.statements) (λ x. IsSpelledBy text x tokens)

  pub tree_spelled : (items : List Item) → IsBuiltBy (classes_of text tokens) items → OnTree (tree_of text tokens items) (λ x. IsSpelledBy text x tokens)
  tree_spelled items b =
      topped (built text tokens 0 items no_parts) (λ x. IsSpelledBy text x tokens)
      (on_built (built text tokens 0 items no_parts) (λ p. (last : Token) × Ended last [] p) (λ p. OnTree (topmost p.statements) (λ x. IsSpelledBy text x tokens))
      (walk text (means text) (among text productions (every text)) tokens b.0 0 (token_at tokens (0 - 1)) tokens no_parts Ended refl refl b.1
      (λ x taken rest s e. spelled s.1 (subst (λ z. Maybe text semicolon_mark s.0 z) e s.2)))
      (λ p h. h.1 refl))
