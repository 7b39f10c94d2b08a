-- FROM with one table.
use Rattle.std.proofs.Common.{◌≡◌, ◌<◌, ◌≤◌, List, [], ◌∷◌, ◌++◌, length, map, get_or, Result, Ok, sym, ap, ◌∙◌, arith}
use Rattle.hs_base.specs.declared.numbers.TableNo.{TableNo}
use Rattle.hs_plan.specs.declared.query.FromItem.{FromItem, out-FromItem}
use Rattle.hs_plan.specs.declared.query.Join.{Join}
use Rattle.hs_plan.specs.Named.{Found, concat, named_in_from, named_in_join}
use Rattle.hs_values.specs.declared.fault.EvalFault.{EvalFault}
use Rattle.hs_values.specs.Outcome.{◌>>=◌}
use Rattle.hs_changes.specs.Settings.{Maps}
use Rattle.hs_expression.specs.Surroundings.{Rows}
use Rattle.hs_answer.specs.Answer.{element_in, join_in, source_in}
use Rattle.hs_answer.specs.From.{from_rows, joined_to, rows_in}
use Rattle.hs_answer_laws.proofs.Rows.{one_element}
use Rattle.hs_narrowed.specs.Alone.{IsTable, IsTableAlone}
use Rattle.hs_narrowed.proofs.Opened.{element_is, element_lists}

pub only_one : {X : Type 0} (xs : List X) (x : X) → 1 ≤ length xs → length xs < 2 → x ≡ get_or xs 0 x → xs ≡ x ∷ []
only_one [] x least below is = absurd (omega arith)
only_one (y ∷ []) x least below is = λ i. (sym is i) ∷ []
only_one (y ∷ z ∷ xs) x least below is = absurd (omega arith)

pub table_alone : (from : List FromItem) (element : FromItem) (table : TableNo) → from ≡ element ∷ [] → (out-FromItem element).joins ≡ [] → IsTable (out-FromItem element).source table → IsTableAlone from table
table_alone from element table one none is = record {
  rows = λ tables outer.
      let source : Result Rows EvalFault = (source_in tables (out-FromItem element).source).rows outer in
      ap (λ (l : List FromItem). from_rows outer (map (element_in tables) l)) one
      ∙ one_element outer (element_in tables element)
      ∙ ap (λ f. f outer) (element_is tables element)
      ∙ ap (λ (joins : List Join). source >>= joined_to outer (map (join_in tables) joins)) none
      ∙ ap (λ (r : Result Rows EvalFault). r >>= joined_to outer []) (is.rows tables outer);
  named =
      ap (λ (l : List FromItem). concat (map named_in_from l)) one
      ∙ ap (λ (l : Found). l ++ []) (element_lists element ∙ (λ i. is.named i ++ concat (map named_in_join (none i))));
}
