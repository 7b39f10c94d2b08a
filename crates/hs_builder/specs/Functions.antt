-- The steps that build what begins with a word of its own: CASE, CAST, functions and aggregates.
use Rattle.std.specs.Prelude.{ℕ, Bool, List, [], ◌∷◌, ◌++◌, Some, None, max}
use Rattle.hs_ast.specs.declared.definition.DataType.{DataType}
use Rattle.hs_ast.specs.declared.expression.Aggregate.{Aggregate}
use Rattle.hs_ast.specs.declared.expression.CaseArm.{roll-CaseArm}
use Rattle.hs_ast.specs.declared.expression.DateField.{DateField}
use Rattle.hs_ast.specs.declared.expression.ExpressionKind.TheVariants as kind
use Rattle.hs_ast.specs.declared.expression.Function.{Function}
use Rattle.hs_ast.specs.declared.expression.TrimForm.{TrimForm}
use Rattle.hs_lexer.specs.declared.token.Token.{Token}
use Rattle.hs_builder.specs.declared.part.Built.{Built}
use Rattle.hs_builder.specs.declared.part.BuiltCase.{BuiltCase}
use Rattle.hs_builder.specs.declared.part.BuiltList.{BuiltList}
use Rattle.hs_builder.specs.declared.part.BuiltOptional.{BuiltOptional}
use Rattle.hs_builder.specs.Expressions.{built}
use Rattle.hs_builder.specs.Steps.{Step, stands, wrong, over, at_depth}

abbrev pub cast : List ℕ × List DataType × List Built → Step (List ℕ × List DataType × List Built)
cast ((at ∷ places), (t ∷ types), (a ∷ below)) = at_depth (over a.depth 0) (λ depth. (places, types, built at (kind.Cast a.tree t) depth ∷ below))
cast _ = wrong

abbrev pub begin_case : Token → List BuiltCase → Step (List BuiltCase)
begin_case token below = stands (record { arms = []; depth = 0; at = token.start } ∷ below)

abbrev pub arm : List BuiltCase × List Built → Step (List BuiltCase × List Built)
arm ((c ∷ cases), (value ∷ test ∷ below)) =
    let arm = roll-CaseArm (record { test = test.tree; value = value.tree }) in
    stands (record { arms = c.arms ++ arm ∷ []; depth = max c.depth (max test.depth value.depth); at = c.at } ∷ cases, below)
arm _ = wrong

abbrev pub end_case : List BuiltOptional × List BuiltCase × List Built → Step (List BuiltOptional × List BuiltCase × List Built)
end_case ((otherwise ∷ optional), (c ∷ cases), below) =
    at_depth (over c.depth otherwise.depth) (λ depth. (optional, cases, built c.at (kind.Case c.arms otherwise.tree) depth ∷ below))
end_case _ = wrong

abbrev pub call : Function → List ℕ × List Built × List BuiltList → Step (List ℕ × List Built × List BuiltList)
call function ((at ∷ places), below, (list ∷ lists)) =
    at_depth (over list.depth 0) (λ depth. (places, built at (kind.Call function list.trees) depth ∷ below, lists))
call _ _ = wrong

abbrev pub substring : List ℕ × List Built → Step (List ℕ × List Built)
substring ((at ∷ places), (start ∷ text ∷ below)) =
    at_depth (over text.depth start.depth) (λ depth. (places, built at (kind.Substring text.tree start.tree None) depth ∷ below))
substring _ = wrong

abbrev pub substring_for : List ℕ × List Built → Step (List ℕ × List Built)
substring_for ((at ∷ places), (count ∷ start ∷ text ∷ below)) =
    at_depth (over text.depth (max start.depth count.depth)) (λ depth. (places, built at (kind.Substring text.tree start.tree (Some count.tree)) depth ∷ below))
substring_for _ = wrong

abbrev pub trim : List ℕ × List TrimForm × List Built → Step (List ℕ × List TrimForm × List Built)
trim ((at ∷ places), (manner ∷ forms), (text ∷ below)) =
    at_depth (over text.depth 0) (λ depth. (places, forms, built at (kind.Trim manner None text.tree) depth ∷ below))
trim _ = wrong

abbrev pub trim_character : List ℕ × List TrimForm × List Built → Step (List ℕ × List TrimForm × List Built)
trim_character ((at ∷ places), (manner ∷ forms), (text ∷ character ∷ below)) =
    at_depth (over character.depth text.depth) (λ depth. (places, forms, built at (kind.Trim manner (Some character.tree) text.tree) depth ∷ below))
trim_character _ = wrong

abbrev pub extract : List ℕ × List DateField × List Built → Step (List ℕ × List DateField × List Built)
extract ((at ∷ places), (field ∷ fields), (a ∷ below)) = at_depth (over a.depth 0) (λ depth. (places, fields, built at (kind.Extract field a.tree) depth ∷ below))
extract _ = wrong

-- a function of no operand is one level
abbrev pub count_rows : List ℕ × List Built → Step (List ℕ × List Built)
count_rows ((at ∷ places), below) = stands (places, built at kind.CountRows 1 ∷ below)
count_rows _ = wrong

abbrev pub aggregate : Aggregate → List ℕ × List Bool × List Built → Step (List ℕ × List Bool × List Built)
aggregate function ((at ∷ places), (distinct ∷ flags), (a ∷ below)) =
    at_depth (over a.depth 0) (λ depth. (places, flags, built at (kind.Aggregate function distinct a.tree) depth ∷ below))
aggregate _ _ = wrong
