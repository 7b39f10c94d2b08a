-- VALUES and the set operations.
use Rattle.std.specs.Prelude.{true, false, List, [], ◌∷◌, map, Result, Ok}
use Rattle.hs_ast.specs.declared.query.SetOperator.{SetOperator}
use Rattle.hs_ast.specs.declared.query.SetOperator.TheVariants as o
use Rattle.hs_plan.specs.declared.expression.Expr.TheOpen.{QueryBody-F}
use Rattle.hs_plan.specs.declared.kind.Kind.{Kind}
use Rattle.hs_values.specs.declared.fault.EvalFault.{EvalFault}
use Rattle.hs_values.specs.declared.value.Value.{Value}
use Rattle.hs_values.specs.Outcome.{◌>>=◌}
use Rattle.hs_expression.specs.Kinds.{given_at}
use Rattle.hs_expression.specs.Numbers.{Outcome}
use Rattle.hs_rel.specs.Bags.{united, intersected, excepted}
use Rattle.hs_expression.specs.Expression.{valued_at}
use Rattle.hs_expression.specs.Outcomes.{all_or_least}
use Rattle.hs_expression.specs.Surroundings.{Rows, Valued}
use Rattle.hs_answer.specs.Layers.{BodyLayer, Bodied, Line, RowLayer}
use Rattle.hs_answer.specs.Places.{in_rows}
use Rattle.hs_answer.specs.Selects.{bare, rows_of}

-- each value given at the kind of its column, before the next is evaluated
abbrev pub given_row : List Kind → List Outcome → Result (List Value) EvalFault
given_row [] outcomes = Ok []
given_row (kind ∷ kinds) [] = Ok []
given_row (kind ∷ kinds) (first ∷ more) = first >>= given_at kind >>= λ x. given_row kinds more >>= λ xs. Ok (x ∷ xs)

-- a row of VALUES
abbrev pub values_row : List Kind → Rows → List Valued → Result (List Value) EvalFault
values_row kinds outer row = given_row kinds (map (valued_at (in_rows outer)) row)

-- a row of a side of a set operation
abbrev pub widened : List Kind → List Value → Result (List Value) EvalFault
widened kinds row = given_row kinds (map Ok row)

-- the rows of a side of a set operation, or the least fault
abbrev pub side_rows : List Kind → List Line → Result Rows EvalFault
side_rows kinds lines = all_or_least (map (widened kinds) (rows_of lines))

-- UNION ALL adds the bags; each of the others gives a row once
abbrev pub combined : SetOperator → Rows → Rows → Rows
combined o.Union left right = united false left right
combined o.UnionAll left right = united true left right
combined o.Except left right = excepted left right
combined o.Intersect left right = intersected left right

abbrev pub values_given : List Kind → List (List Valued) → Bodied
values_given kinds rows outer = all_or_least (map (values_row kinds outer) rows) >>= λ given. Ok (map (bare outer) given)

-- the left side comes before the right, and both before their values are given at the columns' kinds
abbrev pub sides_combined : SetOperator → List Kind → Bodied → Bodied → Bodied
sides_combined operator kinds left right outer =
    left outer >>= λ above.
    right outer >>= λ below.
    side_rows kinds above >>= λ a.
    side_rows kinds below >>= λ b. Ok (map (bare outer) (combined operator a b))

abbrev pub of_body : BodyLayer → Bodied
of_body (QueryBody-F.Select select) = select
of_body (QueryBody-F.Values kinds rows) = values_given kinds rows
of_body (QueryBody-F.SetOperation operator kinds left right) = sides_combined operator kinds left right

abbrev pub of_row : RowLayer → List Valued
of_row x = x.values
