-- The steps of a SELECT, of a body and of a query, from what each step answers.
use Rattle.std.proofs.Common.{◌≡◌, ℕ, Bool, List, map, length, Some, Result, Ok, Err, IfOk, refl, sym, ap, ◌∙◌}
use Rattle.hs_ast.specs.declared.query.SetOperator.{SetOperator}
use Rattle.hs_plan.specs.declared.kind.Kind.{Kind}
use Rattle.hs_values.specs.declared.fault.EvalFault.{EvalFault}
use Rattle.hs_values.specs.Outcome.{Gives, ◌>>=◌}
use Rattle.hs_expression.specs.Outcomes.{all_or_least}
use Rattle.hs_expression.specs.Surroundings.{Rows, Surroundings, Valued}
use Rattle.hs_expression.specs.Numbers.{Outcome}
use Rattle.hs_answer.specs.Bodies.{sides_combined}
use Rattle.hs_answer.specs.From.{from_rows}
use Rattle.hs_answer.specs.Groups.{places_of}
use Rattle.hs_answer.specs.Layers.{Bodied, Line, SelectLayer}
use Rattle.hs_answer.specs.Places.{over_row, value_over, values_at}
use Rattle.hs_answer.specs.Selects.{bare, having_true, line_at, of_select, one_of_each, where_true}
use Rattle.hs_places.proofs.Keeping.{selected_kept}
use Rattle.hs_places.specs.declared.lines.Lines.{Lines}
use Rattle.hs_places.specs.declared.places.Over.{Over}
use Rattle.hs_places.specs.Lines.{lines_seen}
use Rattle.hs_places.specs.Picking.{kept_by}
use Rattle.hs_places.specs.Places.{places_over}
use Rattle.hs_settled.specs.Giving.{GivesAs}
use Rattle.hs_settled.specs.Parts.{RowOutcome, grouped_by, kept_over, lines_given, sides_given}
use Rattle.hs_settled.proofs.Clauses.{groups_are, having_are, lines_are, sides_are}
use Rattle.hs_eval.specs.Parts.{lines_alone, lines_of_sides}

-- ---- answers

-- what shows an answer, where that is what is meant
pub shown_as : {A B : Type 0} (shown : A → B) (answer step : Result A EvalFault) (means : Result B EvalFault) → Gives answer step → means ≡ (step >>= λ a. Ok (shown a)) → GivesAs shown answer means
shown_as shown (Ok a) step means gives is = is ∙ ap (λ r. r >>= λ a. Ok (shown a)) gives
shown_as shown (Err fault) step means gives is = λ other. is ∙ ap (λ r. r >>= λ a. Ok (shown a)) (gives other)

-- an answer to what is equal
pub given_too : {A : Type 0} (answer step means : Result A EvalFault) → Gives answer step → means ≡ step → Gives answer means
given_too (Ok a) step means gives is = is ∙ gives
given_too (Err fault) step means gives is = λ other. is ∙ gives other

pub shown_too : {A B : Type 0} (shown : A → B) (answer : Result A EvalFault) (step means : Result B EvalFault) → GivesAs shown answer step → means ≡ step → GivesAs shown answer means
shown_too shown (Ok a) step means gives is = is ∙ gives
shown_too shown (Err fault) step means gives is = λ other. is ∙ gives other

-- what is made without a fault
pub made_too : {A E B : Type 0} (answer : Result A E) (f : A → B) (x y : B) → IfOk answer (λ a. f a ≡ x) → x ≡ y → IfOk answer (λ a. f a ≡ y)
made_too (Ok a) f x y made same = made ∙ same
made_too (Err e) f x y made same = tt

-- ---- the clauses of a SELECT

pub where_given : (a : Valued) (outer rows : Rows) (outcomes : List Outcome) (answer : Result Rows EvalFault) → outcomes ≡ map (value_over a outer) rows → Gives answer (kept_by rows outcomes) → Gives answer (where_true outer (Some a) rows)
where_given a outer rows outcomes answer is gives =
    given_too answer (kept_by rows outcomes) _ gives (sym (selected_kept (value_over a outer) rows) ∙ ap (kept_by rows) (sym is))

pub groups_given : (is_grouped : Bool) (outer : Rows) (group_by : List Valued) (many : ℕ) (rows : Rows) (keys : List RowOutcome) (answer : Result Over EvalFault) → many ≡ length group_by → keys ≡ map (values_at group_by) (map (over_row outer) rows) → Gives answer (grouped_by is_grouped many keys rows) → GivesAs (places_over outer) answer (places_of is_grouped outer group_by rows)
groups_given is_grouped outer group_by many rows keys answer long is gives =
    shown_as (places_over outer) answer (grouped_by is_grouped many keys rows) _ gives
    (groups_are is_grouped outer group_by rows keys is ∙ ap (λ n. grouped_by is_grouped n keys rows >>= λ over. Ok (places_over outer over)) (sym long))

pub having_given : (outer : Rows) (condition : Valued) (over : Over) (outcomes : List Outcome) (answer : Result Over EvalFault) → outcomes ≡ map condition (places_over outer over) → Gives answer (kept_over over outcomes) → GivesAs (places_over outer) answer (having_true (Some condition) (places_over outer over))
having_given outer condition over outcomes answer is gives =
    shown_as (places_over outer) answer (kept_over over outcomes) _ gives (having_are outer condition over outcomes is)

pub lines_shown : (is_distinct : Bool) (outer : Rows) (items : List Valued) (over : Over) (outcomes : List RowOutcome) (answer : Result Lines EvalFault) → outcomes ≡ map (values_at items) (places_over outer over) → Gives answer (lines_given is_distinct over outcomes) → GivesAs (lines_seen outer) answer (all_or_least (map (line_at items) (places_over outer over)) >>= λ lines. Ok (one_of_each is_distinct outer lines))
lines_shown is_distinct outer items over outcomes answer is gives =
    shown_as (lines_seen outer) answer (lines_given is_distinct over outcomes) _ gives (lines_are is_distinct outer items over outcomes is)

-- ---- the whole of a SELECT, behind each of its steps

module _ (x : SelectLayer) (outer : Rows) where
  abbrev pub behind_having : List Surroundings → Result (List Line) EvalFault
  behind_having kept = all_or_least (map (line_at x.items) kept) >>= λ lines. Ok (one_of_each x.distinct outer lines)

  abbrev pub behind_groups : List Surroundings → Result (List Line) EvalFault
  behind_groups places = having_true x.having places >>= behind_having

  abbrev pub behind_where : Rows → Result (List Line) EvalFault
  behind_where rows = places_of x.grouped outer x.group_by rows >>= behind_groups

  abbrev pub behind_from : Rows → Result (List Line) EvalFault
  behind_from all = where_true outer x.filter all >>= behind_where

  pub after_from : (from : Result Rows EvalFault) → from_rows outer x.from ≡ from → of_select x outer ≡ (from >>= behind_from)
  after_from from is = ap (λ r. r >>= behind_from) is

  pub after_where : (all : Rows) (rows : Result Rows EvalFault) → from_rows outer x.from ≡ Ok all → where_true outer x.filter all ≡ rows → of_select x outer ≡ (rows >>= behind_where)
  after_where all rows from is = after_from (Ok all) from ∙ ap (λ r. r >>= behind_where) is

  pub after_groups : (all rows : Rows) (places : Result (List Surroundings) EvalFault) → from_rows outer x.from ≡ Ok all → where_true outer x.filter all ≡ Ok rows → places_of x.grouped outer x.group_by rows ≡ places → of_select x outer ≡ (places >>= behind_groups)
  after_groups all rows places from kept is = after_where all (Ok rows) from kept ∙ ap (λ r. r >>= behind_groups) is

  pub after_having : (all rows : Rows) (places : List Surroundings) (kept : Result (List Surroundings) EvalFault) → from_rows outer x.from ≡ Ok all → where_true outer x.filter all ≡ Ok rows → places_of x.grouped outer x.group_by rows ≡ Ok places → having_true x.having places ≡ kept → of_select x outer ≡ (kept >>= behind_having)
  after_having all rows places kept from kept_rows groups is = after_groups all rows (Ok places) from kept_rows groups ∙ ap (λ r. r >>= behind_having) is

-- ---- bodies

pub sides_shown : (operator : SetOperator) (kinds : List Kind) (left right : Bodied) (outer : Rows) (above below : Lines) (answer : Result Lines EvalFault) → left outer ≡ Ok (lines_seen outer above) → right outer ≡ Ok (lines_seen outer below) → Gives answer (lines_of_sides operator kinds above.rows below.rows) → GivesAs (lines_seen outer) answer (sides_combined operator kinds left right outer)
sides_shown operator kinds left right outer above below answer first second gives =
    shown_as (lines_seen outer) answer (lines_of_sides operator kinds above.rows below.rows) _ gives
    (sides_are operator kinds left right outer above below first second ∙ by (sides_given operator kinds above.rows below.rows))
  where
    by : (given : Result Rows EvalFault) → (given >>= λ rows. Ok (map (bare outer) rows)) ≡ ((given >>= λ rows. Ok (lines_alone rows)) >>= λ lines. Ok (lines_seen outer lines))
    by (Ok rows) = refl
    by (Err fault) = refl
