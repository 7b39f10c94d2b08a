-- What an item with a mark does, as the step with its mark, whatever items come behind it.
use Rattle.std.proofs.Common.{arith, ◌≡◌, ℕ, ◌+◌, ◌≤◌, List, Result, Ok, Err, slice_get, refl, ap, subst}
use Rattle.hs_grammar.specs.declared.types.Item.{Item}
use Rattle.hs_grammar.specs.declared.types.Item.TheVariants as item
use Rattle.hs_lexer.specs.declared.token.Token.{Token}
use Rattle.hs_builder.specs.declared.build_fault.BuildFault.{BuildFault}
use Rattle.hs_builder.specs.declared.build_fault.BuildFault.TheVariants.{Depth, NoMemory}
use Rattle.hs_parser.specs.declared.marks.TheConstants.{MARKS}
use Rattle.hs_builder.specs.declared.part.Parts.{Parts}
use Rattle.hs_parser.specs.Building.{marked, built, tree_of, StandsNot, Acts}
use Rattle.hs_parser.specs.Marks.{steps}
use Rattle.hs_builder.specs.MarkSteps.{no_parts, topmost}
use Rattle.hs_builder.specs.Steps.{Step, stands, deep, wrong, IsDeep, deepened, Gives, and_then}

-- the code's marks are the steps that the literal grammar names
marks_are_steps : MARKS ≡ steps
marks_are_steps = refl

by_steps : (text : List ℕ) (tokens : List Token) (taken n : ℕ) (before : Parts) (result : Result (Unit {0}) BuildFault) (after : Parts)
    → Gives (marked text tokens taken (slice_get MARKS n) before) result after → Gives (marked text tokens taken (slice_get steps n) before) result after
by_steps text tokens taken n before result after h = subst (λ l. Gives (marked text tokens taken (slice_get l n) before) result after) marks_are_steps h

pub acted : (text : List ℕ) (tokens : List Token) (taken n : ℕ) (before : Parts) (result : Unit {0}) (after : Parts) → Gives (marked text tokens taken (slice_get MARKS n) before) (Ok result) after → Acts text tokens taken (item.Mark n) before (Ok taken) after
acted text tokens taken n before result after h =
    let later : taken ≤ taken + 1 = omega arith
    in (later, λ items. ap (λ s. and_then s (built text tokens taken items)) (by_steps text tokens taken n before (Ok result) after h))

still_deep : {S : Type 0} (s : Step S) → StandsNot (deepened s)
still_deep (stands z) = tt
still_deep (deep z) = tt
still_deep wrong = tt

deep_then : {S T : Type 0} (s : Step S) (f : S → Step T) → IsDeep s → StandsNot (and_then s f)
deep_then (stands z) f h = absurd h
deep_then (deep z) f h = still_deep (f z)
deep_then wrong f h = absurd h

stands_not_then : {S T : Type 0} (s : Step S) (f : S → Step T) → StandsNot s → StandsNot (and_then s f)
stands_not_then (stands z) f h = absurd h
stands_not_then (deep z) f h = still_deep (f z)
stands_not_then wrong f h = tt

-- where building goes no further behind some items, neither is there a tree
pub no_tree : (text : List ℕ) (tokens : List Token) (items : List Item) → StandsNot (built text tokens 0 items no_parts) → StandsNot (tree_of text tokens items)
no_tree text tokens items h = stands_not_then (built text tokens 0 items no_parts) (λ p. topmost p.statements) h

pub failed : (text : List ℕ) (tokens : List Token) (taken n : ℕ) (before : Parts) (fault : BuildFault) (after : Parts) → Gives (marked text tokens taken (slice_get MARKS n) before) (Err fault) after → Acts text tokens taken (item.Mark n) before (Err fault) after
failed text tokens taken n before Depth after h = λ items. deep_then (marked text tokens taken (slice_get steps n) before) (built text tokens taken items) (by_steps text tokens taken n before (Err Depth) after h)
failed text tokens taken n before NoMemory after h = tt
