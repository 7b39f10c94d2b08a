-- How the items of a sentence build its tree: a step for each mark, one after another.
use Rattle.std.specs.Prelude.{◌≡◌, ℕ, ◌+◌, ◌-◌, ◌≤◌, List, [], ◌∷◌, Option, Some, None, slice_get, unwrap_or, Result, Ok, Err}
use Rattle.hs_ast.specs.declared.statement.Stmt.{Stmt}
use Rattle.hs_grammar.specs.declared.types.Item.{Item}
use Rattle.hs_grammar.specs.declared.types.Item.TheVariants as item
use Rattle.hs_lexer.specs.declared.token.Token.{Token}
use Rattle.hs_lexer.specs.declared.token.TokenKind.TheVariants.{Symbol}
use Rattle.hs_builder.specs.declared.build_fault.BuildFault.{BuildFault}
use Rattle.hs_builder.specs.declared.build_fault.BuildFault.TheVariants.{Depth, NoMemory}
use Rattle.hs_builder.specs.declared.mark.Mark.{Mark}
use Rattle.hs_builder.specs.declared.part.Parts.{Parts}
use Rattle.hs_parser.specs.Marks.{steps}
use Rattle.hs_builder.specs.MarkSteps.{step, no_parts, topmost}
use Rattle.hs_builder.specs.Steps.{Step, stands, deep, wrong, and_then}

abbrev pub token_at : List Token → ℕ → Token
token_at tokens at = unwrap_or (slice_get tokens at) (record { kind = Symbol; start = 0; end = 0 })

-- the step with this mark, where as many tokens were taken; none is no mark of the grammar
abbrev pub marked : List ℕ → List Token → ℕ → Option Mark → Parts → Step Parts
marked text tokens taken (Some m) p = step text (token_at tokens (taken - 1)) (token_at tokens taken).start m p
marked text tokens taken None p = wrong

abbrev pub built : List ℕ → List Token → ℕ → List Item → Parts → Step Parts
built text tokens taken [] p = stands p
built text tokens taken (item.Token class ∷ items) p = built text tokens (taken + 1) items p
built text tokens taken (item.Mark n ∷ items) p = and_then (marked text tokens taken (slice_get steps n) p) (built text tokens taken items)

-- the statement that the items build of the tokens of a text
abbrev pub tree_of : List ℕ → List Token → List Item → Step Stmt
tree_of text tokens items = and_then (built text tokens 0 items no_parts) (λ p. topmost p.statements)

-- a tree that is deeper than 256 stands behind it, or none
abbrev pub StandsNot : {S : Type 0} → Step S → Type 0
StandsNot (stands s) = ⊥
StandsNot (deep s) = Unit {0}
StandsNot wrong = Unit {0}

-- what a call answers and leaves, that does what an item says
abbrev pub Acts : List ℕ → List Token → ℕ → Item → Parts → Result ℕ BuildFault → Parts → Type 0
Acts text tokens taken item before (Ok now) after =
    (now ≤ taken + 1) × ((items : List Item) → built text tokens taken (item ∷ items) before ≡ built text tokens now items after)
Acts text tokens taken item before (Err Depth) after = (items : List Item) → StandsNot (built text tokens taken (item ∷ items) before)
Acts text tokens taken item before (Err NoMemory) after = Unit {0}

-- what a call answers that builds a statement
abbrev pub Builds : Step Stmt → Result Stmt BuildFault → Type 0
Builds step (Ok statement) = step ≡ stands statement
Builds step (Err Depth) = StandsNot step
Builds step (Err NoMemory) = Unit {0}
