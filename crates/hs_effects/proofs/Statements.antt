-- What a writing statement changes depends on the tables that it names, on its own, and on those that reference it.
use Rattle.std.proofs.Common.{◌≡◌, ℕ, List, [], ◌∷◌, ◌++◌, filter, map, Option, None, Some, Result, Ok, Err, refl, ap, subst, ◌∙◌}
use Rattle.std.specs.FinMap.{entries}
use Rattle.hs_base.specs.declared.numbers.RowName.{RowName}
use Rattle.hs_base.specs.declared.numbers.TableNo.{TableNo}
use Rattle.hs_plan.specs.declared.change.Change.TheVariants as change
use Rattle.hs_plan.specs.declared.definition.Column.{Column}
use Rattle.hs_plan.specs.declared.expression.Expr.{Expr}
use Rattle.hs_plan.specs.declared.plan.Assignment.{Assignment}
use Rattle.hs_plan.specs.declared.plan.Delete.{Delete}
use Rattle.hs_plan.specs.declared.plan.Insert.{Insert}
use Rattle.hs_plan.specs.declared.plan.InsertSource.{InsertSource}
use Rattle.hs_plan.specs.declared.plan.InsertSource.TheVariants as source
use Rattle.hs_plan.specs.declared.plan.NewValue.{NewValue}
use Rattle.hs_plan.specs.declared.plan.NewValue.TheVariants as new
use Rattle.hs_plan.specs.declared.plan.Plan.TheVariants as plan
use Rattle.hs_plan.specs.declared.plan.Update.{Update}
use Rattle.hs_plan.specs.Named.{concat, named, named_if_written, named_in_assignment, named_in_insert, named_in_tuple, named_in_value}
use Rattle.hs_values.specs.declared.fault.EvalFault.{EvalFault}
use Rattle.hs_values.specs.declared.value.Value.{Value}
use Rattle.hs_values.specs.Outcome.{◌>>=◌}
use Rattle.hs_schema.specs.Catalogue.{Things}
use Rattle.hs_changes.specs.Settings.{Maps}
use Rattle.hs_rel.specs.Selection.{is_true, least_fault, unless}
use Rattle.hs_actions.specs.Acting.{with_columns}
use Rattle.hs_actions.specs.Referencing.{Keys}
use Rattle.hs_actions.specs.Work.{Edits, change_of}
use Rattle.hs_expression.specs.Outcomes.{all_or_least}
use Rattle.hs_tentative.specs.NewRows.{defaults, inserted, stored, taken_in, value_for, values_for}
use Rattle.hs_tentative.specs.Statements.{Numbered, for_which, name_in, of_delete, of_insert, of_update, one_updated, rows_from, with_those_of_actions}
use Rattle.hs_answer.specs.Answer.{evaluated}
use Rattle.hs_answer.specs.Frame.{Agree}
use Rattle.hs_answer.specs.Places.{over_row}
use Rattle.hs_answer_laws.proofs.Framed.{left_of, query_framed, right_of, value_framed}
use Rattle.hs_closure.specs.Changing.{IsChanged}
use Rattle.hs_closure.specs.declared.way.Way.TheVariants as way
use Rattle.hs_effects.specs.Effects.{AgreeFor, AreEdits, AreLinks, around_in}
use Rattle.hs_effects.proofs.Actions.{actions_same}
use Rattle.hs_effects.proofs.Links.{alike_for, follows_links, named_agree, own_same}
use Rattle.hs_effects.proofs.Edited.{deleted_edits, updated_edits}

-- ---- values and conditions

module _ (a b : Maps) where
  evaluated_same : (e : Expr) → Agree a b (named e) → evaluated a e ≡ evaluated b e
  evaluated_same e agree = let same = value_framed a b e agree in λ i. λ row. same i (over_row [] row)

  for_which_same : (condition : Option Expr) (rows : Numbered) → Agree a b (named_if_written condition) → for_which (evaluated a) condition rows ≡ for_which (evaluated b) condition rows
  for_which_same None rows agree = refl
  for_which_same (Some e) rows agree =
      let same = evaluated_same e agree in
      λ i. unless (least_fault (same i) (map (λ e. e.1) rows)) (filter (λ e. is_true (same i e.1)) rows)

  value_same : (columns : List Column) (row : List Value) (place : ℕ) (x : NewValue) → Agree a b (named_in_value x) → value_for (evaluated a) columns row place x ≡ value_for (evaluated b) columns row place x
  value_same columns row place new.Default agree = refl
  value_same columns row place (new.Value e) agree = let same = evaluated_same e agree in λ i. same i row >>= stored columns place

  values_same : (columns : List Column) (row : List Value) (places : List ℕ) (values : List NewValue) → Agree a b (concat (map named_in_value values)) → values_for (evaluated a) columns row places values ≡ values_for (evaluated b) columns row places values
  values_same columns row [] values agree = refl
  values_same columns row (p ∷ ps) [] agree = refl
  values_same columns row (p ∷ ps) (x ∷ xs) agree =
      let first = value_same columns row p x (left_of a b (named_in_value x) (concat (map named_in_value xs)) agree) in
      let rest = values_same columns row ps xs (right_of a b (named_in_value x) (concat (map named_in_value xs)) agree) in
      λ i. first i >>= λ y. rest i >>= λ ys. Ok (y ∷ ys)

  -- ---- INSERT

  inserted_same : (columns : List Column) (places : List ℕ) (tuple : List NewValue) → Agree a b (named_in_tuple tuple) → inserted (evaluated a) columns places tuple ≡ inserted (evaluated b) columns places tuple
  inserted_same columns places tuple agree =
      let same = values_same columns [] places tuple agree in
      λ i. same i >>= λ values. Ok (with_columns (defaults columns) places values)

  tuples_same : (columns : List Column) (places : List ℕ) (tuples : List (List NewValue)) → Agree a b (concat (map named_in_tuple tuples)) → map (inserted (evaluated a) columns places) tuples ≡ map (inserted (evaluated b) columns places) tuples
  tuples_same columns places [] agree = refl
  tuples_same columns places (tuple ∷ tuples) agree =
      let first = inserted_same columns places tuple (left_of a b (named_in_tuple tuple) (concat (map named_in_tuple tuples)) agree) in
      let rest = tuples_same columns places tuples (right_of a b (named_in_tuple tuple) (concat (map named_in_tuple tuples)) agree) in
      λ i. first i ∷ rest i

  module _ (columns : ℕ → List Column) (keys : Keys) where
    rows_same : (own : List Column) (places : List ℕ) (x : InsertSource) → Agree a b (named_in_insert x) → rows_from (around_in a columns keys) own places x ≡ rows_from (around_in b columns keys) own places x
    rows_same own places (source.Tuples tuples) agree = let same = tuples_same own places tuples agree in λ i. all_or_least (same i)
    rows_same own places (source.Query query) agree =
        let same = query_framed a b query agree in
        λ i. same i [] >>= λ rows. all_or_least (map (taken_in own places) rows)

    pub insert_same : (insert : Insert) → Agree a b (named_in_insert insert.source) → of_insert (around_in a columns keys) insert ≡ of_insert (around_in b columns keys) insert
    insert_same insert agree =
        let same = rows_same (columns insert.table.0) insert.columns insert.source agree in
        λ i. same i >>= λ rows. Ok (map (change.Insert insert.table) rows)

    -- ---- rows that UPDATE changes

    assigned_names : (assignments : List Assignment) → concat (map named_in_assignment assignments) ≡ concat (map named_in_value (map (λ x. x.value) assignments))
    assigned_names [] = refl
    assigned_names (x ∷ assignments) = ap (λ names. named_in_value x.value ++ names) (assigned_names assignments)

    one_same : (update : Update) (e : ℕ × List Value) → Agree a b (concat (map named_in_assignment update.assignments)) → one_updated (around_in a columns keys) update e ≡ one_updated (around_in b columns keys) update e
    one_same update e agree =
        let places = map (λ x. x.column) update.assignments in
        let same = values_same (columns update.table.0) e.1 places (map (λ x. x.value) update.assignments) (subst (Agree a b) (assigned_names update.assignments) agree) in
        λ i. (same i >>= λ values. Ok (with_columns e.1 places values)) >>= λ row. Ok (name_in update.table e.0, Some row)

    ones_same : (update : Update) (rows : Numbered) → Agree a b (concat (map named_in_assignment update.assignments)) → map (one_updated (around_in a columns keys) update) rows ≡ map (one_updated (around_in b columns keys) update) rows
    ones_same update [] agree = refl
    ones_same update (e ∷ rows) agree = let first = one_same update e agree in let rest = ones_same update rows agree in λ i. first i ∷ rest i

    -- the actions of the rows that a statement itself changes
    module _ (things : Things) (are : AreLinks things keys) where
      -- the rows of the own table for which WHERE is TRUE
      pub chosen_same : (table : TableNo) (condition : Option Expr) → a table.0 ≡ b table.0 → Agree a b (named_if_written condition) → for_which (evaluated a) condition (entries (a table.0)) ≡ for_which (evaluated b) condition (entries (b table.0))
      chosen_same table condition rows names =
          for_which_same condition (entries (a table.0)) names ∙ (λ i. for_which (evaluated b) condition (entries (rows i)))

      -- ---- UPDATE

      module _ (update : Update) (agree : AgreeFor things (plan.Update update) a b) where
        with_same : (edits : Edits) → AreEdits (IsChanged things (plan.Update update)) edits → with_those_of_actions (around_in a columns keys) edits ≡ with_those_of_actions (around_in b columns keys) edits
        with_same edits inside =
            ap (λ r. r >>= λ all. Ok (map change_of all))
            (actions_same (IsChanged things (plan.Update update)) a b keys (follows_links things keys are (plan.Update update)) (alike_for things keys are (plan.Update update) a b agree) edits inside)

        rows_changed : (rows : Numbered) → Agree a b (concat (map named_in_assignment update.assignments)) → (all_or_least (map (one_updated (around_in a columns keys) update) rows) >>= with_those_of_actions (around_in a columns keys)) ≡ (all_or_least (map (one_updated (around_in b columns keys) update) rows) >>= with_those_of_actions (around_in b columns keys))
        rows_changed rows assigned =
            let same = ones_same update rows assigned in
            (λ i. all_or_least (same i) >>= with_those_of_actions (around_in a columns keys)) ∙ by (all_or_least (map (one_updated (around_in b columns keys) update) rows)) refl
          where
            by : (given : Result Edits EvalFault) → all_or_least (map (one_updated (around_in b columns keys) update) rows) ≡ given → (given >>= with_those_of_actions (around_in a columns keys)) ≡ (given >>= with_those_of_actions (around_in b columns keys))
            by (Ok edits) is = with_same edits (updated_edits things (around_in b columns keys) update rows edits is)
            by (Err fault) is = refl

        pub update_same : of_update (around_in a columns keys) update ≡ of_update (around_in b columns keys) update
        update_same =
            let names = named_agree things keys are (plan.Update update) a b agree in
            let assigned = left_of a b (concat (map named_in_assignment update.assignments)) (named_if_written update.filter) names in
            let written = right_of a b (concat (map named_in_assignment update.assignments)) (named_if_written update.filter) names in
            let chosen = chosen_same update.table update.filter (own_same things keys are (plan.Update update) a b agree way.Update update.table (λ set target closed. target)) written in
            (λ i. chosen i >>= λ rows. all_or_least (map (one_updated (around_in a columns keys) update) rows) >>= with_those_of_actions (around_in a columns keys))
            ∙ by assigned (for_which (evaluated b) update.filter (entries (b update.table.0)))
          where
            by : Agree a b (concat (map named_in_assignment update.assignments)) → (given : Result Numbered EvalFault) → (given >>= λ rows. all_or_least (map (one_updated (around_in a columns keys) update) rows) >>= with_those_of_actions (around_in a columns keys)) ≡ (given >>= λ rows. all_or_least (map (one_updated (around_in b columns keys) update) rows) >>= with_those_of_actions (around_in b columns keys))
            by assigned (Ok rows) = rows_changed rows assigned
            by assigned (Err fault) = refl

      -- ---- DELETE

      module _ (delete : Delete) (agree : AgreeFor things (plan.Delete delete) a b) where
        deletion_same : (edits : Edits) → AreEdits (IsChanged things (plan.Delete delete)) edits → with_those_of_actions (around_in a columns keys) edits ≡ with_those_of_actions (around_in b columns keys) edits
        deletion_same edits inside =
            ap (λ r. r >>= λ all. Ok (map change_of all))
            (actions_same (IsChanged things (plan.Delete delete)) a b keys (follows_links things keys are (plan.Delete delete)) (alike_for things keys are (plan.Delete delete) a b agree) edits inside)

        abbrev deleted : ℕ × List Value → RowName × Option (List Value)
        deleted e = (name_in delete.table e.0, None)

        pub delete_same : of_delete (around_in a columns keys) delete ≡ of_delete (around_in b columns keys) delete
        delete_same =
            let names = named_agree things keys are (plan.Delete delete) a b agree in
            let chosen = chosen_same delete.table delete.filter (own_same things keys are (plan.Delete delete) a b agree way.Deletion delete.table (λ set target closed. target)) names in
            (λ i. chosen i >>= λ rows. with_those_of_actions (around_in a columns keys) (map deleted rows))
            ∙ by (for_which (evaluated b) delete.filter (entries (b delete.table.0)))
          where
            by : (given : Result Numbered EvalFault) → (given >>= λ rows. with_those_of_actions (around_in a columns keys) (map deleted rows)) ≡ (given >>= λ rows. with_those_of_actions (around_in b columns keys) (map deleted rows))
            by (Ok rows) = deletion_same (map deleted rows) (deleted_edits things delete rows)
            by (Err fault) = refl
