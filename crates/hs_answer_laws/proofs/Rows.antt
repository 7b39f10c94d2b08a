-- Joins, FROM, the items, DISTINCT and the set operations.
use Rattle.std.proofs.Common.{◌≡◌, List, [], ◌∷◌, ◌++◌, map, Result, Ok, Err, refl, sym, ap, ◌∙◌}
use Rattle.std.proofs.lemmas.List.{append-nil, map-id}
use Rattle.std.specs.List.Sorted.{IsPermutation}
use Rattle.hs_ast.specs.declared.query.SetOperator.{SetOperator}
use Rattle.hs_plan.specs.declared.kind.Kind.{Kind}
use Rattle.hs_values.specs.declared.fault.EvalFault.{EvalFault}
use Rattle.hs_values.specs.declared.value.Value.{Value}
use Rattle.hs_values.specs.Outcome.{◌>>=◌}
use Rattle.hs_rel.specs.Join.{joined, left_joined, padded, product, unmatched}
use Rattle.hs_rel.proofs.Joining.{left_joined_rows}
use Rattle.hs_expression.specs.Outcomes.{all_or_least}
use Rattle.hs_expression.specs.Surroundings.{Answered, Rows, Surroundings, Valued}
use Rattle.hs_answer.specs.Bodies.{combined, side_rows, sides_combined, values_given, values_row}
use Rattle.hs_answer.specs.From.{empty_row, from_rows, inner_to, left_to}
use Rattle.hs_answer.specs.Layers.{Bodied, Line, Sourced}
use Rattle.hs_answer.specs.Places.{value_over, values_at}
use Rattle.hs_answer.specs.Selects.{bare, line_at, rows_of}
use Rattle.hs_answer_laws.proofs.Outcomes.{all_given}

-- ---- joins and FROM

pub inner_is : (source : Sourced) (on : Valued) (outer left right : Rows) → source.rows outer ≡ Ok right → inner_to source on outer left ≡ joined (value_over on outer) left right
inner_is source on outer left right h = ap (λ r. r >>= λ rows. joined (value_over on outer) left rows) h

pub left_is : (source : Sourced) (on : Valued) (outer left right : Rows) → source.rows outer ≡ Ok right → left_to source on outer left ≡ left_joined (value_over on outer) source.width left right
left_is source on outer left right h = ap (λ r. r >>= λ rows. left_joined (value_over on outer) source.width left rows) h

pub left_adds : (source : Sourced) (on : Valued) (outer left right pairs : Rows) → source.rows outer ≡ Ok right → inner_to source on outer left ≡ Ok pairs → (rows : Rows) × (left_to source on outer left ≡ Ok rows) × IsPermutation (pairs ++ map (padded source.width) (unmatched (value_over on outer) left right)) rows
left_adds source on outer left right pairs h is =
    let told = left_joined_rows (value_over on outer) source.width left right pairs (sym (inner_is source on outer left right h) ∙ is) in
    (told.0, left_is source on outer left right h ∙ told.1, told.2)

beside_nothing : (rows : Rows) → product empty_row rows ≡ rows
beside_nothing rows = append-nil (map (λ row. row) rows) ∙ map-id rows

pub one_element : (outer : Rows) (element : Answered) → from_rows outer (element ∷ []) ≡ element outer
one_element outer element = by (element outer)
  where
    by : (given : Result Rows EvalFault) → (given >>= λ rows. Ok (product empty_row rows)) ≡ given
    by (Ok rows) = ap Ok (beside_nothing rows)
    by (Err fault) = refl

pub two_elements : (outer left right : Rows) (element other : Answered) → element outer ≡ Ok left → other outer ≡ Ok right → from_rows outer (element ∷ other ∷ []) ≡ Ok (product left right)
two_elements outer left right element other h k =
    ap (λ r. r >>= λ rows. other outer >>= λ more. Ok (product (product empty_row rows) more)) h
    ∙ ap (λ r. r >>= λ more. Ok (product (product empty_row left) more)) k
    ∙ ap (λ rows. Ok (product rows right)) (beside_nothing left)

-- ---- items

item_row : (items : List Valued) (s : Surroundings) (line : Line) → line_at items s ≡ Ok line → values_at items s ≡ Ok line.row
item_row items s line = by (values_at items s)
  where
    by : (given : Result (List Value) EvalFault) → (given >>= λ row. Ok (record { row = row; around = s.rows })) ≡ Ok line → given ≡ Ok line.row
    by (Ok row) h = let same : record { row = row; around = s.rows } ≡ line = cc in ap (λ l. Ok l.row) same
    by (Err fault) h = absurd (cc)

pub item_rows : (items : List Valued) (places : List Surroundings) (lines : List Line) → map (line_at items) places ≡ map Ok lines → map (values_at items) places ≡ map Ok (rows_of lines)
item_rows items [] [] h = refl
item_rows items [] (line ∷ lines) h = absurd (cc)
item_rows items (s ∷ places) [] h = absurd (cc)
item_rows items (s ∷ places) (line ∷ lines) h =
    let here : line_at items s ≡ Ok line = cc in
    let later : map (line_at items) places ≡ map Ok lines = cc in
    let first = item_row items s line here in
    let rest = item_rows items places lines later in
    λ i. first i ∷ rest i

pub bare_rows : (outer rows : Rows) → rows_of (map (bare outer) rows) ≡ rows
bare_rows outer [] = refl
bare_rows outer (row ∷ rows) = let rest = bare_rows outer rows in λ i. row ∷ rest i

-- ---- bodies

pub values_are : (kinds : List Kind) (rows : List (List Valued)) (outer : Rows) (lines : List Line) → values_given kinds rows outer ≡ Ok lines → map (values_row kinds outer) rows ≡ map Ok (rows_of lines)
values_are kinds rows outer lines = by (all_or_least (map (values_row kinds outer) rows)) refl
  where
    by : (given : Result Rows EvalFault) → all_or_least (map (values_row kinds outer) rows) ≡ given → (given >>= λ values. Ok (map (bare outer) values)) ≡ Ok lines → map (values_row kinds outer) rows ≡ map Ok (rows_of lines)
    by (Ok values) is h =
        let same : map (bare outer) values ≡ lines = cc in
        all_given (map (values_row kinds outer) rows) values is ∙ ap (map Ok) (sym (bare_rows outer values) ∙ ap rows_of same)
    by (Err fault) is h = absurd (cc)

pub sides_are : (operator : SetOperator) (kinds : List Kind) (left right : Bodied) (outer a b : Rows) (above below : List Line) → left outer ≡ Ok above → right outer ≡ Ok below → side_rows kinds above ≡ Ok a → side_rows kinds below ≡ Ok b → (lines : List Line) × (sides_combined operator kinds left right outer ≡ Ok lines) × (rows_of lines ≡ combined operator a b)
sides_are operator kinds left right outer a b above below l r x y = (
  map (bare outer) (combined operator a b),
  ap (λ s. s >>= λ above. right outer >>= λ below. side_rows kinds above >>= λ a. side_rows kinds below >>= λ b. Ok (map (bare outer) (combined operator a b))) l
      ∙ ap (λ s. s >>= λ below. side_rows kinds above >>= λ a. side_rows kinds below >>= λ b. Ok (map (bare outer) (combined operator a b))) r
      ∙ ap (λ s. s >>= λ a. side_rows kinds below >>= λ b. Ok (map (bare outer) (combined operator a b))) x
      ∙ ap (λ s. s >>= λ b. Ok (map (bare outer) (combined operator a b))) y,
  bare_rows outer (combined operator a b),
)
