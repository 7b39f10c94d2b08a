-- Rows that serve as well as all rows, and copies that serve as well as tables.
use Rattle.std.proofs.Common.{◌≡◌, ℕ, true, List, [], Some, Result, Ok, Err, IfOk, sym, ap, subst, ◌∙◌}
use Rattle.std.specs.FinMap.{values}
use Rattle.std.specs.Result.{IsErrAnd}
use Rattle.hs_base.specs.declared.numbers.TableNo.{TableNo}
use Rattle.hs_plan.specs.declared.expression.Expr.{Expr}
use Rattle.hs_plan.specs.declared.query.Query.{Query}
use Rattle.hs_plan.specs.Named.{named_in_query}
use Rattle.hs_values.specs.declared.fault.EvalFault.{EvalFault}
use Rattle.hs_values.specs.declared.value.Value.{Value}
use Rattle.hs_changes.specs.Settings.{Maps}
use Rattle.hs_expression.specs.Expression.{value_of}
use Rattle.hs_expression.specs.Plain.{is_plain}
use Rattle.hs_expression.specs.Surroundings.{Rows}
use Rattle.hs_index.specs.Table.{has_key}
use Rattle.hs_index.specs.Table as index
use Rattle.hs_rel.specs.declared.stop.EvalStop.{EvalStop}
use Rattle.hs_rel.specs.declared.stop.EvalStop.TheVariants.{Fault, Stop}
use Rattle.hs_rel.specs.Outcome.{Answers, IsNoVerdict}
use Rattle.hs_rel.specs.Selection.{Verdict, selected}
use Rattle.hs_answer.specs.Answer.{query_in, value_in}
use Rattle.hs_answer.specs.From.{rows_in}
use Rattle.hs_answer.specs.Places.{over_row, value_over}
use Rattle.hs_answer_laws.proofs.Plain.{alone_at}
use Rattle.hs_rows.specs.Numbers.{numbers_with, rows_numbered}
use Rattle.hs_rows.proofs.Keys.{rows_with_key}
use Rattle.hs_lookups.specs.Asked.{Narrows}
use Rattle.hs_lookups.proofs.Selecting.{selected_again, selected_kept}
use Rattle.hs_copied.specs.declared.table_copies.TableCopies.{TableCopies}
use Rattle.hs_copied.specs.Copies.{Stand, maps_of, with_rows}
use Rattle.hs_copied.proofs.Answering.{copies_answer}
use Rattle.hs_copied.proofs.Held.{others_with, rows_with}
use Rattle.hs_narrowed.specs.Alone.{ReadsThrough, chosen}
use Rattle.hs_narrowed.specs.Chosen.{Chooses, Serves}

-- ---- rows

pub keyed_chosen : (verdict : Verdict) (columns : List ℕ) (key : List Value) (rows : index.Rows) (numbers : List ℕ) → Narrows verdict columns key → numbers ≡ numbers_with columns key rows → selected verdict (rows_numbered rows numbers) ≡ selected verdict (values rows)
keyed_chosen verdict columns key rows numbers narrows is =
    ap (λ (l : List ℕ). selected verdict (rows_numbered rows l)) is
    ∙ ap (selected verdict) (rows_with_key columns key rows)
    ∙ selected_kept verdict (λ row. has_key columns key (Some row)) narrows (values rows)

-- copies of rows of which a condition chooses the same
pub chooses_from : (verdict : Verdict) (all : Rows) (result : Result Rows EvalStop) → IsNoVerdict result → IfOk result (λ kept. selected verdict kept ≡ selected verdict all) → Chooses verdict all result
chooses_from verdict all (Ok kept) alone same = same
chooses_from verdict all (Err (Fault fault)) alone same = λ other. absurd (other alone)
chooses_from verdict all (Err (Stop kind)) alone same = tt

-- the rows that it chooses
chooses_true : (verdict : Verdict) (all : Rows) (result : Result Rows EvalStop) → Answers (selected verdict all) result → Chooses verdict all result
chooses_true verdict all (Ok kept) is = selected_again verdict all kept is ∙ sym is
chooses_true verdict all (Err (Fault fault)) is = is
chooses_true verdict all (Err (Stop kind)) is = tt

pub chooses_plain : (tables : Maps) (condition : Expr) (all : Rows) (result : Result Rows EvalStop) → is_plain condition ≡ true → Answers (selected (value_over (value_of condition) []) all) result → Chooses (value_over (value_in tables condition) []) all result
chooses_plain tables condition all result plain is =
    let same : value_over (value_of condition) [] ≡ value_over (value_in tables condition) [] = λ i row. sym (alone_at tables condition (over_row [] row) plain) i in
    subst (λ (verdict : Verdict). Chooses verdict all result) same (chooses_true (value_over (value_of condition) []) all result is)

-- ---- copies

pub serves_from : (query : Query) (tables : Maps) (result : Result TableCopies EvalStop) → IsNoVerdict result → IfOk result (λ copies. query_in (maps_of copies) query [] ≡ query_in tables query []) → Serves query tables result
serves_from query tables (Ok copies) alone same = same
serves_from query tables (Err (Fault fault)) alone same = λ other. absurd (other alone)
serves_from query tables (Err (Stop kind)) alone same = tt

pub copies_serve : (query : Query) (tables : Maps) (copies : TableCopies) → Stand tables (named_in_query query) copies → query_in (maps_of copies) query [] ≡ query_in tables query []
copies_serve query tables copies stand = ap (λ f. f []) (copies_answer tables query copies stand)

module _ (query : Query) (table : TableNo) (condition : Expr) (through : ReadsThrough query table condition) (tables : Maps) where
  pub beside_serve : (kept : Rows) (copies : TableCopies) → chosen tables condition [] kept ≡ chosen tables condition [] (rows_in tables table) → Stand (with_rows tables table kept) (named_in_query query) copies → query_in (maps_of copies) query [] ≡ query_in tables query []
  beside_serve kept copies same stand =
      let others = with_rows tables table kept in
      copies_serve query others copies stand
      ∙ through.same tables others []
      (λ other found apart. sym (others_with tables table kept other apart))
      (ap (chosen tables condition []) (rows_with tables table kept) ∙ same)

  fault_serves : (stop : EvalStop) → Chooses (value_over (value_in tables condition) []) (rows_in tables table) (Err stop) → Serves query tables (Err stop)
  fault_serves (Fault fault) is = λ other. through.fault tables [] fault (is other)
  fault_serves (Stop kind) is = tt

  -- a fault of the condition is that of the query
  pub handed_on : (stop : EvalStop) (result : Result TableCopies EvalStop) → IsErrAnd result (λ other. other ≡ stop) → Chooses (value_over (value_in tables condition) []) (rows_in tables table) (Err stop) → Serves query tables result
  handed_on stop (Ok copies) same is = absurd same
  handed_on stop (Err other) same is = subst (λ (e : EvalStop). Serves query tables (Err e)) (sym same) (fault_serves stop is)
