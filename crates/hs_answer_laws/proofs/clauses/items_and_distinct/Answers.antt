use Rattle.std.proofs.Common.{◌≡◌, sym, subst}
use Rattle.std.specs.List.{Contains}
use Rattle.std.specs.List.Sorted.{IsStrictlySortedBy}
use Rattle.hs_values.specs.Order.{row_order_of}
use Rattle.hs_rel.specs.Bags.{distinct_rows, is_among}
use Rattle.hs_rel.proofs.Among.{distinct_among, distinct_found, distinct_strict}
use Rattle.hs_answer.specs.Selects.{rows_of}
use Rattle.hs_answer_laws.proofs.Rows.{bare_rows, item_rows}
use Rattle.hs_answer_laws.proofs.clauses.items_and_distinct.Goals as goal

pub returns : goal.returns
returns c = record {
  items = item_rows;
  each = λ outer lines row. subst (λ rows. is_among rows row ≡ is_among (rows_of lines) row) (sym (bare_rows outer (distinct_rows (rows_of lines)))) (distinct_among (rows_of lines) row);
  found = λ outer lines row h. distinct_found (rows_of lines) row (subst (λ rows. Contains rows row) (bare_rows outer (distinct_rows (rows_of lines))) h);
  once = λ outer lines. subst (IsStrictlySortedBy row_order_of) (sym (bare_rows outer (distinct_rows (rows_of lines)))) (distinct_strict (rows_of lines));
}
