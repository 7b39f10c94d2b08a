-- Over copies a writing statement makes the same changes.
use Rattle.std.proofs.Common.{◌≡◌, inl, inr, ℕ, Bool, true, List, [], ◌∷◌, ◌++◌, filter, map, Option, None, Some, Result, Ok, Err, refl, sym, ap, subst, ◌∙◌, arith}
use Rattle.std.specs.FinMap.{entries}
use Rattle.std.specs.List.{Contains}
use Rattle.std.proofs.lemmas.List.Folds.{list_any-append}
use Rattle.hs_base.specs.declared.numbers.RowName.{RowName}
use Rattle.hs_base.specs.declared.numbers.TableNo.{TableNo}
use Rattle.hs_plan.specs.declared.change.Change.TheVariants as change
use Rattle.hs_plan.specs.declared.definition.Column.{Column}
use Rattle.hs_plan.specs.declared.expression.Expr.{Expr}
use Rattle.hs_plan.specs.declared.plan.Assignment.{Assignment}
use Rattle.hs_plan.specs.declared.plan.Delete.{Delete}
use Rattle.hs_plan.specs.declared.plan.Insert.{Insert}
use Rattle.hs_plan.specs.declared.plan.InsertSource.{InsertSource}
use Rattle.hs_plan.specs.declared.plan.InsertSource.TheVariants as source
use Rattle.hs_plan.specs.declared.plan.NewValue.{NewValue}
use Rattle.hs_plan.specs.declared.plan.NewValue.TheVariants as new
use Rattle.hs_plan.specs.declared.plan.Plan.{Plan}
use Rattle.hs_plan.specs.declared.plan.Plan.TheVariants as p
use Rattle.hs_plan.specs.declared.plan.Update.{Update}
use Rattle.hs_plan.specs.Named.{concat, named, named_if_written, named_in_assignment, named_in_insert, named_in_plan, named_in_tuple, named_in_value}
use Rattle.hs_values.specs.declared.fault.EvalFault.{EvalFault}
use Rattle.hs_values.specs.declared.value.Value.{Value}
use Rattle.hs_values.specs.Outcome.{◌>>=◌}
use Rattle.hs_schema.specs.Catalogue.{Things}
use Rattle.hs_changes.specs.Settings.{Maps}
use Rattle.hs_rel.specs.Selection.{is_true, least_fault, unless}
use Rattle.hs_rel.proofs.Selecting.{head_or_tail, nothing_in}
use Rattle.hs_actions.specs.Acting.{with_columns}
use Rattle.hs_actions.specs.declared.reference.Reference.{Reference}
use Rattle.hs_actions.specs.Referencing.{Keys, keys_on}
use Rattle.hs_actions.specs.Work.{Edits, change_of}
use Rattle.hs_expression.specs.Outcomes.{all_or_least}
use Rattle.hs_tentative.specs.NewRows.{defaults, inserted, stored, taken_in, updated, value_for, values_for}
use Rattle.hs_tentative.specs.Statements.{Around, Numbered, for_which, name_in, of_delete, of_insert, of_update, one_updated, rows_from, with_those_of_actions}
use Rattle.hs_answer.specs.Answer.{answer, evaluated}
use Rattle.hs_answer.specs.Places.{over_row}
use Rattle.hs_answer_laws.proofs.Groups.{from_map}
use Rattle.hs_answer_laws.proofs.Outcomes.{all_given, source_of}
use Rattle.hs_before.specs.Family.{may_act}
use Rattle.hs_copied.specs.declared.table_copies.TableCopies.{TableCopies}
use Rattle.hs_copied.specs.Copies.{Stand, has_number, maps_of}
use Rattle.hs_copied.proofs.Answering.{copies_answer, copies_evaluate}
use Rattle.hs_dml.specs.Told.{around_of, columns_in, tentative}
use Rattle.hs_effects.specs.Effects.{AgreeOn, around_in}
use Rattle.hs_exec.specs.Before.{AreBefore}
use Rattle.hs_exec.proofs.Worked.{AreIn, actions_agree}

module _ (tables : Maps) (copies : TableCopies) where
  -- the rows of these tables are copied
  abbrev Copied : List TableNo → Type 0
  Copied names = Stand tables names copies

  left_of : (xs ys : List TableNo) → Copied (xs ++ ys) → Copied xs
  left_of xs ys stand table is = stand table (let both = list_any-append (has_number table) xs ys in grind (arith, both, is))

  right_of : (xs ys : List TableNo) → Copied (xs ++ ys) → Copied ys
  right_of xs ys stand table is = stand table (let both = list_any-append (has_number table) xs ys in grind (arith, both, is))

  -- ---- values and conditions

  evaluated_same : (e : Expr) → Copied (named e) → evaluated (maps_of copies) e ≡ evaluated tables e
  evaluated_same e stand = let same = copies_evaluate tables e copies stand in λ i. λ row. same i (over_row [] row)

  for_which_same : (condition : Option Expr) (rows : Numbered) → Copied (named_if_written condition) → for_which (evaluated (maps_of copies)) condition rows ≡ for_which (evaluated tables) condition rows
  for_which_same None rows stand = refl
  for_which_same (Some e) rows stand =
      let same = evaluated_same e stand in
      λ i. unless (least_fault (same i) (map (λ e. e.1) rows)) (filter (λ e. is_true (same i e.1)) rows)

  value_same : (columns : List Column) (row : List Value) (place : ℕ) (x : NewValue) → Copied (named_in_value x) → value_for (evaluated (maps_of copies)) columns row place x ≡ value_for (evaluated tables) columns row place x
  value_same columns row place new.Default stand = refl
  value_same columns row place (new.Value e) stand = let same = evaluated_same e stand in λ i. same i row >>= stored columns place

  values_same : (columns : List Column) (row : List Value) (places : List ℕ) (values : List NewValue) → Copied (concat (map named_in_value values)) → values_for (evaluated (maps_of copies)) columns row places values ≡ values_for (evaluated tables) columns row places values
  values_same columns row [] values stand = refl
  values_same columns row (p ∷ ps) [] stand = refl
  values_same columns row (p ∷ ps) (x ∷ xs) stand =
      let first = value_same columns row p x (left_of (named_in_value x) (concat (map named_in_value xs)) stand) in
      let rest = values_same columns row ps xs (right_of (named_in_value x) (concat (map named_in_value xs)) stand) in
      λ i. first i >>= λ y. rest i >>= λ ys. Ok (y ∷ ys)

  -- ---- INSERT

  inserted_same : (columns : List Column) (places : List ℕ) (tuple : List NewValue) → Copied (named_in_tuple tuple) → inserted (evaluated (maps_of copies)) columns places tuple ≡ inserted (evaluated tables) columns places tuple
  inserted_same columns places tuple stand =
      let same = values_same columns [] places tuple stand in
      λ i. same i >>= λ values. Ok (with_columns (defaults columns) places values)

  tuples_same : (columns : List Column) (places : List ℕ) (tuples : List (List NewValue)) → Copied (concat (map named_in_tuple tuples)) → map (inserted (evaluated (maps_of copies)) columns places) tuples ≡ map (inserted (evaluated tables) columns places) tuples
  tuples_same columns places [] stand = refl
  tuples_same columns places (tuple ∷ tuples) stand =
      let first = inserted_same columns places tuple (left_of (named_in_tuple tuple) (concat (map named_in_tuple tuples)) stand) in
      let rest = tuples_same columns places tuples (right_of (named_in_tuple tuple) (concat (map named_in_tuple tuples)) stand) in
      λ i. first i ∷ rest i

  module _ (things : Things) (keys : Keys) (before : Maps) where
    abbrev over : Around
    over = around_of things (evaluated (maps_of copies)) (answer (maps_of copies)) keys before

    abbrev inside : Around
    inside = around_in tables (columns_in things) keys

    rows_same : (own : List Column) (places : List ℕ) (x : InsertSource) → Copied (named_in_insert x) → rows_from over own places x ≡ rows_from inside own places x
    rows_same own places (source.Tuples tuples) stand = let same = tuples_same own places tuples stand in λ i. all_or_least (same i)
    rows_same own places (source.Query query) stand =
        let same = copies_answer tables query copies stand in
        λ i. same i [] >>= λ rows. all_or_least (map (taken_in own places) rows)

    insert_same : (insert : Insert) → Copied (named_in_insert insert.source) → of_insert over insert ≡ of_insert inside insert
    insert_same insert stand =
        let same = rows_same (columns_in things insert.table.0) insert.columns insert.source stand in
        λ i. same i >>= λ rows. Ok (map (change.Insert insert.table) rows)

    -- ---- rows that UPDATE changes

    assigned_names : (assignments : List Assignment) → concat (map named_in_assignment assignments) ≡ concat (map named_in_value (map (λ x. x.value) assignments))
    assigned_names [] = refl
    assigned_names (x ∷ assignments) = ap (λ names. named_in_value x.value ++ names) (assigned_names assignments)

    one_same : (update : Update) (e : ℕ × List Value) → Copied (concat (map named_in_assignment update.assignments)) → one_updated over update e ≡ one_updated inside update e
    one_same update e stand =
        let places = map (λ x. x.column) update.assignments in
        let same = values_same (columns_in things update.table.0) e.1 places (map (λ x. x.value) update.assignments) (subst Copied (assigned_names update.assignments) stand) in
        λ i. (same i >>= λ values. Ok (with_columns e.1 places values)) >>= λ row. Ok (name_in update.table e.0, Some row)

    ones_same : (update : Update) (rows : Numbered) → Copied (concat (map named_in_assignment update.assignments)) → map (one_updated over update) rows ≡ map (one_updated inside update) rows
    ones_same update [] stand = refl
    ones_same update (e ∷ rows) stand = let first = one_same update e stand in let rest = ones_same update rows stand in λ i. first i ∷ rest i

    named_so : (table : TableNo) (n : ℕ) (edit : RowName × Option (List Value)) (given : Result (List Value) EvalFault) → (given >>= λ row. Ok (name_in table n, Some row)) ≡ Ok edit → edit.0 ≡ name_in table n
    named_so table n edit (Ok row) h = let same : (name_in table n, Some row) ≡ edit = cc in sym (ap (λ e. e.0) same)
    named_so table n edit (Err fault) h = absurd (cc)

    module _ (set : ℕ → Bool) (closed : (t : ℕ) (key : Reference) → set t ≡ true → Contains (keys_on keys t) key → may_act key ≡ true → set key.child.0 ≡ true) (agree : AgreeOn before tables set) where
      with_same : (edits : Edits) → AreIn set (map (λ e. e.0) edits) → with_those_of_actions over edits ≡ with_those_of_actions inside edits
      with_same edits are = ap (λ r. r >>= λ all. Ok (map change_of all)) (actions_agree before tables keys set closed agree edits are)

      edits_in : (update : Update) (rows : Numbered) (edits : Edits) → set update.table.0 ≡ true → all_or_least (map (one_updated inside update) rows) ≡ Ok edits → AreIn set (map (λ e. e.0) edits)
      edits_in update rows edits own is name found =
          let edit = from_map (λ e. e.0) edits name found in
          let told = all_given (map (one_updated inside update) rows) edits is in
          let row = source_of (one_updated inside update) rows edits told edit.0 edit.1 in
          let given = updated (evaluated tables) (columns_in things update.table.0) update.assignments row.0.1 in
          let same : name ≡ name_in update.table row.0.0 = edit.2 ∙ named_so update.table row.0.0 edit.0 given row.2 in
          subst (λ n. set n.table.0 ≡ true) (sym same) own

      rows_changed : (update : Update) (rows : Numbered) → set update.table.0 ≡ true → Copied (concat (map named_in_assignment update.assignments)) → (all_or_least (map (one_updated over update) rows) >>= with_those_of_actions over) ≡ (all_or_least (map (one_updated inside update) rows) >>= with_those_of_actions inside)
      rows_changed update rows own assigned =
          let same = ones_same update rows assigned in
          (λ i. all_or_least (same i) >>= with_those_of_actions over) ∙ by (all_or_least (map (one_updated inside update) rows)) refl
        where
          by : (given : Result Edits EvalFault) → all_or_least (map (one_updated inside update) rows) ≡ given → (given >>= with_those_of_actions over) ≡ (given >>= with_those_of_actions inside)
          by (Ok edits) is = with_same edits (edits_in update rows edits own is)
          by (Err fault) is = refl

      -- the rows of the own table for which WHERE is TRUE
      chosen_same : (table : TableNo) (condition : Option Expr) → set table.0 ≡ true → Copied (named_if_written condition) → for_which (evaluated (maps_of copies)) condition (entries (before table.0)) ≡ for_which (evaluated tables) condition (entries (tables table.0))
      chosen_same table condition own stand =
          let rows = agree table.0 own in
          for_which_same condition (entries (before table.0)) stand ∙ (λ i. for_which (evaluated tables) condition (entries (rows i)))

      update_same : (update : Update) → set update.table.0 ≡ true → Copied (concat (map named_in_assignment update.assignments) ++ named_if_written update.filter) → of_update over update ≡ of_update inside update
      update_same update own names =
          let assigned = left_of (concat (map named_in_assignment update.assignments)) (named_if_written update.filter) names in
          let written = right_of (concat (map named_in_assignment update.assignments)) (named_if_written update.filter) names in
          let chosen = chosen_same update.table update.filter own written in
          (λ i. chosen i >>= λ rows. all_or_least (map (one_updated over update) rows) >>= with_those_of_actions over)
          ∙ by assigned (for_which (evaluated tables) update.filter (entries (tables update.table.0)))
        where
          by : Copied (concat (map named_in_assignment update.assignments)) → (given : Result Numbered EvalFault) → (given >>= λ rows. all_or_least (map (one_updated over update) rows) >>= with_those_of_actions over) ≡ (given >>= λ rows. all_or_least (map (one_updated inside update) rows) >>= with_those_of_actions inside)
          by assigned (Ok rows) = rows_changed update rows own assigned
          by assigned (Err fault) = refl

      -- ---- DELETE

      abbrev deleted : TableNo → ℕ × List Value → RowName × Option (List Value)
      deleted table e = (name_in table e.0, None)

      abbrev name_of : RowName × Option (List Value) → RowName
      name_of edit = edit.0

      deleted_in : (table : TableNo) (rows : Numbered) → set table.0 ≡ true → AreIn set (map name_of (map (deleted table) rows))
      deleted_in table [] own name found = absurd (nothing_in name found)
      deleted_in table (e ∷ rows) own name found = elim (head_or_tail (name_in table e.0) (map name_of (map (deleted table) rows)) name found) [
        | inl is ↦ subst (λ (n : RowName). set n.table.0 ≡ true) is own
        | inr later ↦ deleted_in table rows own name later
      ]

      delete_same : (delete : Delete) → set delete.table.0 ≡ true → Copied (named_if_written delete.filter) → of_delete over delete ≡ of_delete inside delete
      delete_same delete own names =
          let chosen = chosen_same delete.table delete.filter own names in
          (λ i. chosen i >>= λ rows. with_those_of_actions over (map (deleted delete.table) rows))
          ∙ by (for_which (evaluated tables) delete.filter (entries (tables delete.table.0)))
        where
          by : (given : Result Numbered EvalFault) → (given >>= λ rows. with_those_of_actions over (map (deleted delete.table) rows)) ≡ (given >>= λ rows. with_those_of_actions inside (map (deleted delete.table) rows))
          by (Ok rows) = with_same (map (deleted delete.table) rows) (deleted_in delete.table rows own)
          by (Err fault) = refl

    -- ---- any of them

    -- the rows of tables are those before the statement
    pub statement_same : (plan : Plan) → Copied (named_in_plan plan) → AreBefore tables keys plan before → tentative over plan ≡ tentative inside plan
    statement_same (p.Query query) names b = refl
    statement_same (p.Insert insert) names b = insert_same insert names
    statement_same (p.Update update) names b = update_same b.changed b.are.children b.agree update b.are.own names
    statement_same (p.Delete delete) names b = delete_same b.changed b.are.children b.agree delete b.are.own names
    statement_same (p.LockTable all) names b = refl
    statement_same (p.Define definition) names b = refl
    statement_same (p.Session statement) names b = refl
