-- What is told by the form of an expression alone is what its meaning has, whatever the catalogue.
use Rattle.std.proofs.Common.{◌≡◌, ◌≢◌, ◌==◌, ◌&&◌, ℕ, Bool, List, [], ◌∷◌, map, length, Option, Some, None, refl, sym, ap, ◌∙◌}
use Rattle.std.specs.List.{cons_option, list_all}
use Rattle.std.specs.Option.{option_map}
use Rattle.std.proofs.lemmas.List.{length-map}
use Rattle.hs_ast.specs.declared.expression.CaseArm.{CaseArm}
use Rattle.hs_ast.specs.declared.expression.ColumnName.{ColumnName}
use Rattle.hs_ast.specs.declared.expression.Expression.{Expression, out-Expression, fold_out-Expression}
use Rattle.hs_ast.specs.declared.expression.ExpressionKind.{ExpressionKind, out-ExpressionKind, map-ExpressionKind, fold_out-ExpressionKind}
use Rattle.hs_ast.specs.declared.expression.ExpressionKind.TheOpen.{ExpressionKind-F}
use Rattle.hs_ast.specs.declared.query.FromItem.{FromItem}
use Rattle.hs_ast.specs.declared.query.Join.{Join}
use Rattle.hs_ast.specs.declared.query.Query.{Query}
use Rattle.hs_ast.specs.declared.query.QueryBody.{QueryBody}
use Rattle.hs_ast.specs.declared.query.Select.{Select}
use Rattle.hs_ast.specs.declared.query.SelectItem.{SelectItem}
use Rattle.hs_ast.specs.declared.query.SortKey.{SortKey, out-SortKey, fold_out-SortKey}
use Rattle.hs_ast.specs.declared.query.TableReference.{TableReference}
use Rattle.hs_ast.specs.declared.query.ValuesRow.{ValuesRow, out-ValuesRow, fold_out-ValuesRow}
use Rattle.hs_ast.specs.declared.literal.Literal.{Literal}
use Rattle.hs_ast.specs.declared.word.Identifier.{Identifier}
use Rattle.hs_plan.specs.declared.fault.Cause.TheVariants as cause
use Rattle.hs_plan.specs.declared.kind.Kind.TheVariants as kinds
use Rattle.hs_schema.specs.Catalogue.{Things}
use Rattle.hs_scope.specs.declared.column.OutputColumn.{OutputColumn}
use Rattle.hs_scope.specs.declared.from_table.FromTable.{FromTable}
use Rattle.hs_scope.specs.declared.outputs.KeyMeaning.{KeyMeaning}
use Rattle.hs_scope.specs.declared.outputs.KeyMeaning.TheVariants as key
use Rattle.hs_scope.specs.Outputs.{Layer, by_layer, column_name, key_meaning, layer_of, output_name}
use Rattle.hs_typed.specs.Faults.{fault_at}
use Rattle.hs_meaning.specs.declared.placed.PlacedColumn.{PlacedColumn}
use Rattle.hs_meaning.specs.Expressions as spec
use Rattle.hs_meaning.specs.Expressions.{arm_step, form_step, part_step}
use Rattle.hs_meaning.specs.From.{element_step, join_step, table_step}
use Rattle.hs_meaning.specs.Layers.{ArmPart, BodyPart, ElementPart, Form, FormLayer, ItemPart, JoinPart, KeyPart, Part, QueryPart, RowPart, TablePart}
use Rattle.hs_meaning.specs.Queries.{above, are_even, body_step, first_row, key_by, key_step, name_in, query_step, row_step, sort_by}
use Rattle.hs_meaning.specs.Selects.{grouped_columns, item_step, name_by, place_named, select_step}
use Rattle.hs_meaning.specs.Surroundings.{Surroundings}
use Rattle.hs_meaning.specs.Trees.{arm_of, body_of, element_of, form_of, item_of, join_of, key_of, part_of, query_of, row_of, select_of, table_of}
use Rattle.hs_clauses.specs.Forms.{as_many, column_above, column_in, column_of, columns_above, first_of, have_one_length, literal_in, literal_of, place_of, places_of, sorted, values_in}

module _ (things : Things) where
  -- one layer, with what is known of its parts
  abbrev told_of : Layer → FormLayer
  told_of = map-ExpressionKind ExpressionKind Join QueryBody SelectItem TableReference CaseArm Expression FromItem Query Select SortKey ValuesRow Form JoinPart BodyPart ItemPart TablePart ArmPart Part ElementPart QueryPart BodyPart KeyPart RowPart (form_of things) (join_of things) (body_of things) (item_of things) (table_of things) (arm_of things) (part_of things) (element_of things) (query_of things) (select_of things) (key_of things) (row_of things)

  kind_is : (k : ExpressionKind) → form_of things k ≡ form_step (told_of (out-ExpressionKind k))
  kind_is k = fold_out-ExpressionKind Form JoinPart BodyPart ItemPart TablePart ArmPart Part ElementPart QueryPart BodyPart KeyPart RowPart form_step join_step body_step item_step (table_step things) arm_step part_step element_step query_step select_step key_step row_step k

  part_is : (e : Expression) → part_of things e ≡ record { at = (out-Expression e).at; form = form_of things (out-Expression e).kind }
  part_is e = fold_out-Expression Form JoinPart BodyPart ItemPart TablePart ArmPart Part ElementPart QueryPart BodyPart KeyPart RowPart form_step join_step body_step item_step (table_step things) arm_step part_step element_step query_step select_step key_step row_step e

  row_is : (row : ValuesRow) → row_of things row ≡ map (part_of things) (values_in row)
  row_is row = fold_out-ValuesRow Form JoinPart BodyPart ItemPart TablePart ArmPart Part ElementPart QueryPart BodyPart KeyPart RowPart form_step join_step body_step item_step (table_step things) arm_step part_step element_step query_step select_step key_step row_step row

  key_is : (k : SortKey) → key_of things k ≡ record { at = (out-SortKey k).at; value = part_of things (out-SortKey k).value; descending = (out-SortKey k).descending }
  key_is k = fold_out-SortKey Form JoinPart BodyPart ItemPart TablePart ArmPart Part ElementPart QueryPart BodyPart KeyPart RowPart form_step join_step body_step item_step (table_step things) arm_step part_step element_step query_step select_step key_step row_step k

  -- the same is told by a layer alone
  record IsTold (y : Layer) : Type 0 where
    literal : spec.literal_in (told_of y) ≡ literal_in y
    column : spec.column_in (told_of y) ≡ column_in y
    name : option_map (λ (c : ColumnName). c.column) (column_in y) ≡ column_name y
    by : (plain : Bool) (columns : List OutputColumn) → key_by plain columns (literal_in y) (column_in y) ≡ by_layer plain columns y

  is_told : (y : Layer) → IsTold y
  is_told (ExpressionKind-F.Literal l) = record { literal = refl; column = refl; name = refl; by = λ plain columns. refl }
  is_told (ExpressionKind-F.Column c) = record { literal = refl; column = refl; name = refl; by = λ plain columns. refl }
  is_told (ExpressionKind-F.Signed s a) = record { literal = refl; column = refl; name = refl; by = λ plain columns. refl }
  is_told (ExpressionKind-F.Not a) = record { literal = refl; column = refl; name = refl; by = λ plain columns. refl }
  is_told (ExpressionKind-F.Binary o a b) = record { literal = refl; column = refl; name = refl; by = λ plain columns. refl }
  is_told (ExpressionKind-F.IsNull a n) = record { literal = refl; column = refl; name = refl; by = λ plain columns. refl }
  is_told (ExpressionKind-F.Between a n l h) = record { literal = refl; column = refl; name = refl; by = λ plain columns. refl }
  is_told (ExpressionKind-F.InList a n l) = record { literal = refl; column = refl; name = refl; by = λ plain columns. refl }
  is_told (ExpressionKind-F.InQuery a n q) = record { literal = refl; column = refl; name = refl; by = λ plain columns. refl }
  is_told (ExpressionKind-F.Like a n p e) = record { literal = refl; column = refl; name = refl; by = λ plain columns. refl }
  is_told (ExpressionKind-F.Exists q) = record { literal = refl; column = refl; name = refl; by = λ plain columns. refl }
  is_told (ExpressionKind-F.Subquery q) = record { literal = refl; column = refl; name = refl; by = λ plain columns. refl }
  is_told (ExpressionKind-F.Cast a t) = record { literal = refl; column = refl; name = refl; by = λ plain columns. refl }
  is_told (ExpressionKind-F.Case a o) = record { literal = refl; column = refl; name = refl; by = λ plain columns. refl }
  is_told (ExpressionKind-F.Call f a) = record { literal = refl; column = refl; name = refl; by = λ plain columns. refl }
  is_told (ExpressionKind-F.Substring t s c) = record { literal = refl; column = refl; name = refl; by = λ plain columns. refl }
  is_told (ExpressionKind-F.Trim m c t) = record { literal = refl; column = refl; name = refl; by = λ plain columns. refl }
  is_told (ExpressionKind-F.Extract f a) = record { literal = refl; column = refl; name = refl; by = λ plain columns. refl }
  is_told (ExpressionKind-F.Interval a s c u) = record { literal = refl; column = refl; name = refl; by = λ plain columns. refl }
  is_told ExpressionKind-F.CountRows = record { literal = refl; column = refl; name = refl; by = λ plain columns. refl }
  is_told (ExpressionKind-F.Aggregate f d a) = record { literal = refl; column = refl; name = refl; by = λ plain columns. refl }

  pub literal_is : (e : Expression) → (part_of things e).form.literal ≡ literal_of e
  literal_is e = ap (λ (p : Part). p.form.literal) (part_is e) ∙ ap (λ (f : Form). f.literal) (kind_is (out-Expression e).kind) ∙ (is_told (layer_of e)).literal

  pub column_is : (e : Expression) → (part_of things e).form.column ≡ column_of e
  column_is e = ap (λ (p : Part). p.form.column) (part_is e) ∙ ap (λ (f : Form). f.column) (kind_is (out-Expression e).kind) ∙ (is_told (layer_of e)).column

  pub at_is : (e : Expression) → (part_of things e).at ≡ (out-Expression e).at
  at_is e = ap (λ (p : Part). p.at) (part_is e)

  -- ---- names

  pub name_is : (e : Expression) (alias : Option Identifier) → output_name e alias ≡ name_by (part_of things e).form.column alias
  name_is e (Some alias) = refl
  name_is e None = sym (is_told (layer_of e)).name ∙ ap (λ (c : Option ColumnName). option_map (λ (n : ColumnName). n.column) c) (sym (column_is e))

  -- ---- GROUP BY

  pub places_are : (tables : List FromTable) (es : List Expression) → places_of tables es ≡ grouped_columns tables (map (part_of things) es)
  places_are tables [] = refl
  places_are tables (e ∷ es) =
      ap (λ (c : Option ColumnName). cons_option (place_named tables c) (places_of tables es)) (sym (column_is e))
      ∙ ap (cons_option (place_named tables (part_of things e).form.column)) (places_are tables es)

  -- ---- VALUES

  length_is : (row : ValuesRow) → length (row_of things row) ≡ length (values_in row)
  length_is row = ap length (row_is row) ∙ length-map (values_in row) (part_of things)

  first_is : (rows : List ValuesRow) → length (first_row (map (row_of things) rows)) ≡ length (first_of rows)
  first_is [] = refl
  first_is (row ∷ rows) = length_is row

  all_are : (n m : ℕ) → m ≡ n → (rows : List ValuesRow) → list_all (λ row. length (values_in row) == n) rows ≡ list_all (λ (row : RowPart). length row == m) (map (row_of things) rows)
  all_are n m is [] = refl
  all_are n m is (row ∷ rows) =
      let here : (length (values_in row) == n) ≡ (length (row_of things row) == m) = ap (λ k. k == n) (sym (length_is row)) ∙ ap (λ k. length (row_of things row) == k) (sym is) in
      ap (λ b. b && list_all (λ other. length (values_in other) == n) rows) here
      ∙ ap (λ b. (length (row_of things row) == m) && b) (all_are n m is rows)

  pub even_is : (rows : List ValuesRow) → have_one_length rows ≡ are_even (map (row_of things) rows)
  even_is rows = all_are (length (first_of rows)) (length (first_row (map (row_of things) rows))) (first_is rows) rows

  abbrev part_above : Part → PlacedColumn
  part_above p = record { at = p.at; column = record { name = None; kind = Some kinds.Null } }

  over_is : (es : List Expression) → map column_above es ≡ map part_above (map (part_of things) es)
  over_is [] = refl
  over_is (e ∷ es) =
      ap (λ (at : ℕ). record { at = at; column = record { name = None; kind = Some kinds.Null } } ∷ map column_above es) (sym (at_is e))
      ∙ ap (λ l. part_above (part_of things e) ∷ l) (over_is es)

  pub above_is : (rows : List ValuesRow) → columns_above rows ≡ above (map (row_of things) rows)
  above_is [] = refl
  above_is (row ∷ rows) = over_is (values_in row) ∙ ap (map part_above) (sym (row_is row))

  -- ---- keys of ORDER BY

  pub key_meaning_is : (plain : Bool) (columns : List OutputColumn) (e : Expression) → key_meaning plain columns e ≡ key_by plain columns (part_of things e).form.literal (part_of things e).form.column
  key_meaning_is plain columns e =
      sym ((is_told (layer_of e)).by plain columns)
      ∙ ap (λ (l : Option Literal). key_by plain columns l (column_of e)) (sym (literal_is e))
      ∙ ap (key_by plain columns (part_of things e).form.literal) (sym (column_is e))

  pub sorted_is : (s : Surroundings) (k : SortKey) (meaning : KeyMeaning) → meaning ≢ key.Value → sorted k meaning ≡ sort_by s (key_of things k) meaning
  sorted_is s k (key.Output at) other = ap (λ (x : KeyPart). sort_by s x (key.Output at)) (sym (key_is k))
  sorted_is s k key.Value other = absurd (other refl)
  sorted_is s k key.Types other = ap (λ (x : KeyPart). sort_by s x key.Types) (sym (key_is k))
  sorted_is s k key.Ambiguous other =
      let e : Expression = (out-SortKey k).value in
      ap (λ (at : ℕ). record { faults = fault_at at (cause.Ambiguous (name_in (column_of e))); part = None }) (sym (at_is e))
      ∙ ap (λ (c : Option ColumnName). record { faults = fault_at (part_of things e).at (cause.Ambiguous (name_in c)); part = None }) (sym (column_is e))
      ∙ ap (λ (x : KeyPart). sort_by s x key.Ambiguous) (sym (key_is k))
