-- Columns of outcomes, one expression and one place after another.
use Rattle.std.proofs.Common.{◌≡◌, ℕ, ◌+◌, ◌<◌, true, List, [], ◌∷◌, ◌++◌, length, map, take, fold, Result, refl, sym, ap, ◌∙◌, append_assoc}
use Rattle.std.proofs.lemmas.List.{append-nil, length-map}
use Rattle.hs_plan.specs.declared.expression.Expr.{Expr}
use Rattle.hs_plan.specs.declared.query.SortKey.{SortKey}
use Rattle.hs_values.specs.declared.fault.EvalFault.{EvalFault}
use Rattle.hs_values.specs.declared.value.Value.{Value}
use Rattle.hs_changes.specs.Settings.{Maps}
use Rattle.hs_expression.specs.Expression.{value_of}
use Rattle.hs_expression.specs.Plain.{is_plain}
use Rattle.hs_expression.specs.Surroundings.{Rows, Surroundings, Valued, or_null}
use Rattle.std.specs.Prelude.{slice_get, Ok}
use Rattle.hs_answer.specs.Answer.{sort_key_in, value_in}
use Rattle.hs_answer.specs.Layers.{Line, SortBy}
use Rattle.hs_answer.specs.Order.{is_descending, keys_at}
use Rattle.hs_answer.specs.Places.{in_rows, values_at}
use Rattle.hs_answer.specs.Selects.{row_of, rows_of}
use Rattle.hs_answer_laws.proofs.Plain.{alone_at}
use Rattle.hs_places.specs.declared.lines.Lines.{Lines}
use Rattle.hs_places.specs.Keyed.{descends}
use Rattle.hs_places.specs.Lines.{lines_seen}
use Rattle.hs_settled.specs.Columns.{column_of, no_columns, with_column}
use Rattle.hs_settled.specs.Spots.{key_place}
use Rattle.hs_settled.proofs.AtSpots.{outcome_more, rows_seen}
use Rattle.hs_settled.proofs.Growing.{by_more, items_more, no_items, no_keys}
use Rattle.hs_eval.specs.Parts.{place_at}
use Rattle.hs_eval.proofs.Layers.{sort_key_is}

abbrev RowOutcomes : Type 0
RowOutcomes = List (Result (List Value) EvalFault)

-- ---- one column

pub plain_column : (tables : Maps) (e : Expr) (places : List Surroundings) → is_plain e ≡ true → map (value_in tables e) places ≡ map (value_of e) places
plain_column tables e [] h = refl
plain_column tables e (s ∷ places) h = let first = alone_at tables e s h in let rest = plain_column tables e places h in λ i. first i ∷ rest i

pub place_next : (a : Valued) (places : List Surroundings) (at : ℕ) → at < length places → map a (take (at + 1) places) ≡ map a (take at places) ++ a (place_at places at) ∷ []
place_next a places at h = outcome_more a places at (place_at places at) h refl refl

-- ---- several columns

-- rows that grow by what each expression gives
abbrev pub with_columns : List Surroundings → RowOutcomes → List Valued → RowOutcomes
with_columns places rows items = fold (λ rows item. with_column rows (map item places)) rows items

columns_behind : (places : List Surroundings) (before items : List Valued) → with_columns places (map (values_at before) places) items ≡ map (values_at (before ++ items)) places
columns_behind places before [] = ap (λ l. map (values_at l) places) (sym (append-nil before))
columns_behind places before (item ∷ items) =
    ap (λ rows. with_columns places rows items) (items_more before item places)
    ∙ columns_behind places (before ++ item ∷ []) items
    ∙ ap (λ l. map (values_at l) places) (append_assoc before (item ∷ []) items)

pub columns_all : (places : List Surroundings) (items : List Valued) → with_columns places (no_columns (length places)) items ≡ map (values_at items) places
columns_all places items = ap (λ rows. with_columns places rows items) (no_items places) ∙ columns_behind places [] items

-- ---- keys of ORDER BY

abbrev pub with_keys : List Line → RowOutcomes → List SortBy → RowOutcomes
with_keys lines rows order_by = fold (λ rows (by : SortBy). with_column rows (map by.key lines)) rows order_by

keys_behind : (lines : List Line) (before order_by : List SortBy) → with_keys lines (map (keys_at before) lines) order_by ≡ map (keys_at (before ++ order_by)) lines
keys_behind lines before [] = ap (λ l. map (keys_at l) lines) (sym (append-nil before))
keys_behind lines before (by ∷ order_by) =
    ap (λ rows. with_keys lines rows order_by) (by_more before by lines)
    ∙ keys_behind lines (before ++ by ∷ []) order_by
    ∙ ap (λ l. map (keys_at l) lines) (append_assoc before (by ∷ []) order_by)

pub keys_all : (lines : List Line) (order_by : List SortBy) → with_keys lines (no_columns (length lines)) order_by ≡ map (keys_at order_by) lines
keys_all lines order_by = ap (λ rows. with_keys lines rows order_by) (no_keys lines) ∙ keys_behind lines [] order_by

pub flags_are : (tables : Maps) (order_by : List SortKey) → map descends order_by ≡ map is_descending (map (sort_key_in tables) order_by)
flags_are tables [] = refl
flags_are tables (by ∷ order_by) =
    let first = ap is_descending (sort_key_is tables by) in
    let rest = flags_are tables order_by in
    λ i. sym first i ∷ rest i

pub many_seen : (outer : Rows) (lines : Lines) → length (lines_seen outer lines) ≡ length lines.rows
many_seen outer lines = sym (length-map (lines_seen outer lines) row_of) ∙ ap length (rows_seen outer lines)

-- an output column, by the rows of lines
output_of_lines : (lines : List Line) (at : ℕ) → column_of (rows_of lines) at ≡ map (λ (line : Line). Ok (or_null (slice_get line.row at))) lines
output_of_lines [] at = refl
output_of_lines (line ∷ lines) at = ap (λ l. Ok (or_null (slice_get line.row at)) ∷ l) (output_of_lines lines at)

pub output_at : (outer : Rows) (lines : Lines) (at : ℕ) → column_of lines.rows at ≡ map (λ (line : Line). Ok (or_null (slice_get line.row at))) (lines_seen outer lines)
output_at outer lines at = ap (λ rows. column_of rows at) (sym (rows_seen outer lines)) ∙ output_of_lines (lines_seen outer lines) at

-- an expression over what each line was made of
pub value_at_lines : (a : Valued) (lines : List Line) → map a (map key_place lines) ≡ map (λ (line : Line). a (in_rows line.around)) lines
value_at_lines a [] = refl
value_at_lines a (line ∷ lines) = ap (λ l. a (in_rows line.around) ∷ l) (value_at_lines a lines)
