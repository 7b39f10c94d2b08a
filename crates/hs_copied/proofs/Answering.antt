-- Over copies a query has the same answer.
use Rattle.std.proofs.Common.{◌≡◌, zero, suc, Bool, true, false, cond, List, [], ◌∷◌, Ok, refl, sym, ap, ◌∙◌, arith}
use Rattle.std.proofs.lemmas.Bool.Decides.{nat_tests}
use Rattle.std.specs.FinMap.{values}
use Rattle.std.specs.List.{Contains, list_any}
use Rattle.hs_base.specs.declared.numbers.TableNo.{TableNo}
use Rattle.hs_plan.specs.declared.expression.Expr.{Expr, fold-Expr}
use Rattle.hs_plan.specs.declared.expression.Expr.TheOpen.{Source-F}
use Rattle.hs_plan.specs.declared.query.Query.{Query, fold-Query}
use Rattle.hs_plan.specs.Named.{named, named_in_query}
use Rattle.hs_changes.specs.Settings.{Maps}
use Rattle.hs_expression.specs.Expression.{Arm, Listed, of_arm, of_expression, of_item}
use Rattle.hs_expression.specs.Surroundings.{Answered, Valued}
use Rattle.hs_answer.specs.Answer.{query_in, value_in}
use Rattle.hs_answer.specs.Bodies.{of_body, of_row}
use Rattle.hs_answer.specs.Frame.{Agree}
use Rattle.hs_answer.specs.From.{of_element, of_join, of_source, rows_in}
use Rattle.hs_answer.specs.Layers.{Bodied, Joining, Keyed, SortBy, Sourced, SourceLayer}
use Rattle.hs_answer.specs.Order.{of_key, of_query, of_sort_key}
use Rattle.hs_answer.specs.Selects.{of_select}
use Rattle.hs_answer_laws.proofs.Framed.{query_framed, value_framed}
use Rattle.hs_copied.specs.declared.table_copies.TableCopies.{TableCopies}
use Rattle.hs_copied.specs.Copies.{Stand, has_number, maps_of}
use Rattle.hs_copied.proofs.Held.{rows_stand}

-- ---- states of the tables with the same rows

module _ (a b : Maps) (same : (table : TableNo) → rows_in a table ≡ rows_in b table) where
  same_source : (x : SourceLayer) → of_source a x ≡ of_source b x
  same_source (Source-F.Table table width) = let is = same table in λ i. record { width = width; rows = λ outer. Ok (is i) }
  same_source (Source-F.Derived query width) = refl

  same_sources : of_source a ≡ of_source b
  same_sources = λ i x. same_source x i

  pub same_answer : query_in a ≡ query_in b
  same_answer = ap (λ source. fold-Query Valued Joining Keyed Bodied Sourced Arm Listed Answered Answered Bodied SortBy (List Valued) of_expression of_join of_key of_body source of_arm of_item of_element of_query of_select of_sort_key of_row) same_sources

  pub same_value : value_in a ≡ value_in b
  same_value = ap (λ source. fold-Expr Valued Joining Keyed Bodied Sourced Arm Listed Answered Answered Bodied SortBy (List Valued) of_expression of_join of_key of_body source of_arm of_item of_element of_query of_select of_sort_key of_row) same_sources

-- ---- copies

is_named : (named : List TableNo) (table : TableNo) → Contains named table → list_any (has_number table.0) named ≡ true
is_named [] table h = absurd (omega (arith, h.1))
is_named (one ∷ named) table (zero, within, is) = let same : one.0 ≡ table.0 = ap (λ (t : TableNo). t.0) is in grind (arith, nat_tests, same)
is_named (one ∷ named) table (suc k, within, is) = let rest = is_named named table (k, omega (arith, within), is) in grind (arith, nat_tests, rest)

module _ (tables : Maps) (named : List TableNo) (copies : TableCopies) (stand : Stand tables named copies) where
  -- the tables that are named, and for others the copies
  abbrev mixed : Maps
  mixed table = cond (list_any (has_number table) named) (tables table) (maps_of copies table)

  agree : Agree tables mixed named
  agree table found = sym (ap (λ b. cond b (tables table.0) (maps_of copies table.0)) (is_named named table found))

  same_rows : (table : TableNo) → rows_in mixed table ≡ rows_in (maps_of copies) table
  same_rows table = by (list_any (has_number table.0) named) refl
    where
      by : (b : Bool) → list_any (has_number table.0) named ≡ b → values (cond b (tables table.0) (maps_of copies table.0)) ≡ rows_in (maps_of copies) table
      by true h = sym (stand table.0 h) ∙ sym (rows_stand copies table)
      by false h = refl

pub copies_answer : (tables : Maps) (query : Query) (copies : TableCopies) → Stand tables (named_in_query query) copies → query_in (maps_of copies) query ≡ query_in tables query
copies_answer tables query copies stand =
    let named = named_in_query query in
    let m = mixed tables named copies stand in
    sym (ap (λ f. f query) (same_answer m (maps_of copies) (same_rows tables named copies stand)))
    ∙ sym (query_framed tables m query (agree tables named copies stand))

pub copies_evaluate : (tables : Maps) (e : Expr) (copies : TableCopies) → Stand tables (named e) copies → value_in (maps_of copies) e ≡ value_in tables e
copies_evaluate tables e copies stand =
    let m = mixed tables (named e) copies stand in
    sym (ap (λ f. f e) (same_value m (maps_of copies) (same_rows tables (named e) copies stand)))
    ∙ sym (value_framed tables m e (agree tables (named e) copies stand))
