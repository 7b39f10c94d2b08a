-- What the parts of a query come to, by the outcomes that their expressions have.
use Rattle.std.specs.Prelude.{ℕ, zero, suc, Bool, true, false, List, [], ◌∷◌, length, map, Option, None, Some, Result, Ok}
use Rattle.hs_ast.specs.declared.query.Limit.{Limit}
use Rattle.hs_ast.specs.declared.query.SetOperator.{SetOperator}
use Rattle.hs_plan.specs.declared.kind.Kind.{Kind}
use Rattle.hs_values.specs.declared.fault.EvalFault.{EvalFault}
use Rattle.hs_values.specs.declared.value.Value.{Value}
use Rattle.hs_values.specs.Outcome.{◌>>=◌}
use Rattle.hs_values.specs.Sorted.{keyed_rows}
use Rattle.hs_expression.specs.Outcomes.{all_or_least}
use Rattle.hs_expression.specs.Surroundings.{Rows}
use Rattle.hs_expression.specs.Numbers.{Outcome}
use Rattle.hs_rel.specs.Bags.{distinct_rows}
use Rattle.hs_answer.specs.Bodies.{combined, widened}
use Rattle.hs_answer.specs.Groups.{parted, without_keys}
use Rattle.hs_answer.specs.Order.{limited}
use Rattle.hs_places.specs.declared.lines.Lines.{Lines}
use Rattle.hs_places.specs.declared.places.Over.{Over}
use Rattle.hs_places.specs.declared.places.Over.TheVariants as over
use Rattle.hs_places.specs.Keyed.{behind_each}
use Rattle.hs_places.specs.Picking.{kept_by}

abbrev pub RowOutcome : Type 0
RowOutcome = Result (List Value) EvalFault

-- the groups of rows by the outcomes of so many keys, or the rows where nothing is grouped
abbrev pub grouped_by : Bool → ℕ → List RowOutcome → Rows → Result Over EvalFault
grouped_by false many keys rows = Ok (over.Rows rows)
grouped_by true zero keys rows = Ok (over.Groups (rows ∷ []))
grouped_by true (suc many) keys rows = all_or_least keys >>= λ given. Ok (over.Groups (parted (suc many) (behind_each given rows)))

-- those for which HAVING is TRUE, by its outcomes
abbrev pub kept_over : Over → List Outcome → Result Over EvalFault
kept_over (over.Rows rows) outcomes = kept_by rows outcomes >>= λ kept. Ok (over.Rows kept)
kept_over (over.Groups groups) outcomes = kept_by groups outcomes >>= λ kept. Ok (over.Groups kept)

-- the rows of the items, and of equal ones one where DISTINCT is written
abbrev pub lines_by : Bool → Over → Rows → Lines
lines_by false over rows = record { rows = rows; over = Some over }
lines_by true over rows = record { rows = distinct_rows rows; over = None }

abbrev pub lines_given : Bool → Over → List RowOutcome → Result Lines EvalFault
lines_given distinct over items = all_or_least items >>= λ rows. Ok (lines_by distinct over rows)

-- the rows of a set operation, by those of its sides
abbrev pub sides_given : SetOperator → List Kind → Rows → Rows → Result Rows EvalFault
sides_given operator kinds above below = all_or_least (map (widened kinds) above) >>= λ a. all_or_least (map (widened kinds) below) >>= λ b. Ok (combined operator a b)

-- rows in the order of their keys, and cut
abbrev pub sorted_given : Option Limit → List Bool → List RowOutcome → Rows → Result Rows EvalFault
sorted_given limit descending keys rows =
    all_or_least keys >>= λ given. Ok (limited limit (without_keys (length descending) (keyed_rows descending (behind_each given rows))))
