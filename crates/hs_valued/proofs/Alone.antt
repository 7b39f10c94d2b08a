-- Subqueries of expressions alone count as ones without rows.
use Rattle.std.specs.Prelude.{◌≡◌}
use Rattle.hs_plan.specs.declared.query.Query.{Query, fold-Query, fold_out-Query}
use Rattle.hs_expression.specs.Expression.{Arm, Listed, Nothing, none, no_rows, of_expression, of_arm, of_item}
use Rattle.hs_expression.specs.Surroundings.{Valued, Answered}

abbrev pub answer_of : Query → Answered
answer_of = fold-Query Valued Nothing Nothing Nothing Nothing Arm Listed Nothing Answered Nothing Nothing Nothing of_expression none none none none of_arm of_item none no_rows none none none

pub answers_none : (query : Query) → answer_of query ≡ no_rows query
answers_none query = fold_out-Query Valued Nothing Nothing Nothing Nothing Arm Listed Nothing Answered Nothing Nothing Nothing of_expression none none none none of_arm of_item none no_rows none none none query
