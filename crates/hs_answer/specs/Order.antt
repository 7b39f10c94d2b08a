-- ORDER BY and LIMIT.
use Rattle.std.specs.Prelude.{Bool, List, [], ◌∷◌, ◌++◌, length, map, slice_get, unwrap_or, Option, None, Some, Result, Ok}
use Rattle.hs_ast.specs.declared.query.Limit.{Limit}
use Rattle.hs_plan.specs.declared.expression.Expr.TheOpen.{Key-F}
use Rattle.hs_values.specs.declared.fault.EvalFault.{EvalFault}
use Rattle.hs_values.specs.declared.value.Value.{Value}
use Rattle.hs_values.specs.Outcome.{◌>>=◌}
use Rattle.hs_values.specs.Sorted.{keyed_rows}
use Rattle.hs_rel.specs.Groups.{cut_rows}
use Rattle.hs_expression.specs.Outcomes.{all_or_least}
use Rattle.hs_expression.specs.Surroundings.{Answered, Rows, or_null}
use Rattle.hs_answer.specs.Groups.{without_keys}
use Rattle.hs_answer.specs.Layers.{KeyLayer, Keyed, Line, QueryLayer, SortBy, SortKeyLayer}
use Rattle.hs_answer.specs.Places.{in_rows}

-- ---- keys

-- an output column, or an expression over the row of FROM
abbrev pub of_key : KeyLayer → Keyed
of_key (Key-F.Output at) line = Ok (or_null (slice_get line.row at))
of_key (Key-F.Value a) line = a (in_rows line.around)

abbrev pub of_sort_key : SortKeyLayer → SortBy
of_sort_key x = record { key = x.key; descending = x.descending }

abbrev pub is_descending : SortBy → Bool
is_descending by = by.descending

-- what the keys give for a line, from the left
abbrev pub keys_at : List SortBy → Line → Result (List Value) EvalFault
keys_at [] line = Ok []
keys_at (by ∷ more) line = by.key line >>= λ x. keys_at more line >>= λ xs. Ok (x ∷ xs)

-- a row behind its keys
abbrev pub behind_sort_keys : List SortBy → Line → Result (List Value) EvalFault
behind_sort_keys order_by line = keys_at order_by line >>= λ keys. Ok (keys ++ line.row)

-- ---- the whole

-- rows behind their keys in the order of these, and then of all output columns from the left, ascending
abbrev pub ordered : List SortBy → Rows → Rows
ordered order_by rows = without_keys (length order_by) (keyed_rows (map is_descending order_by) rows)

-- LIMIT cuts the list
abbrev pub limited : Option Limit → Rows → Rows
limited None rows = rows
limited (Some limit) rows = cut_rows (unwrap_or limit.offset 0) limit.count rows

-- the rows of a body, ordered and cut. The keys come behind the body, and the least of their faults counts
abbrev pub of_query : QueryLayer → Answered
of_query x outer =
    x.body outer >>= λ lines.
    all_or_least (map (behind_sort_keys x.order_by) lines) >>= λ rows. Ok (limited x.limit (ordered x.order_by rows))
