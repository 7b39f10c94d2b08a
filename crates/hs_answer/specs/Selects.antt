-- SELECT. Its parts are FROM with each ON from the left, WHERE, GROUP BY, HAVING and the items: the first part that has a fault
-- gives it, the least over that part's rows.
use Rattle.std.specs.Prelude.{Bool, true, false, List, map, filter, Option, None, Some, Result, Ok}
use Rattle.std.specs.List.{filter_map}
use Rattle.hs_values.specs.declared.fault.EvalFault.{EvalFault}
use Rattle.hs_values.specs.declared.value.Value.{Value}
use Rattle.hs_values.specs.Outcome.{◌>>=◌}
use Rattle.hs_rel.specs.Bags.{distinct_rows}
use Rattle.hs_rel.specs.Selection.{fault_of, is_true, least, selected, unless}
use Rattle.hs_expression.specs.Outcomes.{all_or_least}
use Rattle.hs_expression.specs.Surroundings.{Rows, Surroundings, Valued}
use Rattle.hs_answer.specs.From.{from_rows}
use Rattle.hs_answer.specs.Groups.{places_of}
use Rattle.hs_answer.specs.Layers.{Bodied, Line, SelectLayer}
use Rattle.hs_answer.specs.Places.{value_over, values_at}

-- ---- WHERE and HAVING

-- the rows for which WHERE is TRUE
abbrev pub where_true : Rows → Option Valued → Rows → Result Rows EvalFault
where_true outer None rows = Ok rows
where_true outer (Some condition) rows = selected (value_over condition outer) rows

abbrev pub fault_at : Valued → Surroundings → Option EvalFault
fault_at condition s = fault_of (condition s)

abbrev pub is_true_at : Valued → Surroundings → Bool
is_true_at condition s = is_true (condition s)

-- the groups for which HAVING is TRUE
abbrev pub having_true : Option Valued → List Surroundings → Result (List Surroundings) EvalFault
having_true None places = Ok places
having_true (Some condition) places = unless (least (filter_map (fault_at condition) places)) (filter (is_true_at condition) places)

-- ---- items and DISTINCT

-- what the items give of a row or a group
abbrev pub line_at : List Valued → Surroundings → Result Line EvalFault
line_at items s = values_at items s >>= λ row. Ok (record { row = row; around = s.rows })

abbrev pub row_of : Line → List Value
row_of line = line.row

abbrev pub rows_of : List Line → Rows
rows_of lines = map row_of lines

-- a row over which no keys are evaluated
abbrev pub bare : Rows → List Value → Line
bare outer row = record { row = row; around = outer }

-- of equal rows one, where DISTINCT is written
abbrev pub one_of_each : Bool → Rows → List Line → List Line
one_of_each false outer lines = lines
one_of_each true outer lines = map (bare outer) (distinct_rows (rows_of lines))

-- ---- the whole

abbrev pub of_select : SelectLayer → Bodied
of_select x outer =
    from_rows outer x.from >>= λ all.
    where_true outer x.filter all >>= λ rows.
    places_of x.grouped outer x.group_by rows >>= λ places.
    having_true x.having places >>= λ kept.
    all_or_least (map (line_at x.items) kept) >>= λ lines. Ok (one_of_each x.distinct outer lines)
