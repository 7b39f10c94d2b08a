-- The rows that a statement itself changes, and all changes, are of tables that it writes.
use Rattle.std.proofs.Common.{◌≡◌, inl, inr, ℕ, List, [], ◌∷◌, map, Option, None, Some, Result, Ok, Err, refl, sym, subst}
use Rattle.std.specs.FinMap.{entries}
use Rattle.std.specs.List.{Contains}
use Rattle.hs_base.specs.declared.numbers.RowName.{RowName}
use Rattle.hs_base.specs.declared.numbers.TableNo.{TableNo}
use Rattle.hs_plan.specs.declared.change.Change.{Change}
use Rattle.hs_plan.specs.declared.change.Change.TheVariants as change
use Rattle.hs_plan.specs.declared.plan.Delete.{Delete}
use Rattle.hs_plan.specs.declared.plan.Insert.{Insert}
use Rattle.hs_plan.specs.declared.plan.Plan.{Plan}
use Rattle.hs_plan.specs.declared.plan.Plan.TheVariants as plan
use Rattle.hs_plan.specs.declared.plan.Update.{Update}
use Rattle.hs_values.specs.declared.fault.EvalFault.{EvalFault}
use Rattle.hs_values.specs.declared.value.Value.{Value}
use Rattle.hs_values.specs.Outcome.{◌>>=◌}
use Rattle.hs_rel.proofs.Selecting.{at_head, head_or_tail, nothing_in}
use Rattle.hs_schema.specs.Catalogue.{Things}
use Rattle.hs_actions.specs.Work.{Edits, change_of, with_actions}
use Rattle.hs_expression.specs.Outcomes.{all_or_least}
use Rattle.hs_tentative.specs.NewRows.{updated}
use Rattle.hs_tentative.specs.Statements.{Around, Numbered, for_which, name_in, of_delete, of_insert, of_update, one_updated, rows_from, with_those_of_actions}
use Rattle.hs_answer_laws.proofs.Groups.{from_map}
use Rattle.hs_answer_laws.proofs.Outcomes.{all_given, source_of}
use Rattle.hs_closure.specs.Changing.{IsChanged, IsWritten}
use Rattle.hs_effects.specs.Effects.{AreEdits, AreLinks, AreOfWritten, IsOfWritten, way_of}
use Rattle.hs_effects.proofs.Actions.{with_actions_inside}
use Rattle.hs_effects.proofs.Links.{follows_links}

-- ---- the statement's own rows

updated_so : (table : TableNo) (n : ℕ) (edit : RowName × Option (List Value)) (given : Result (List Value) EvalFault) → (given >>= λ row. Ok (name_in table n, Some row)) ≡ Ok edit → (row : List Value) × (edit ≡ (name_in table n, Some row))
updated_so table n edit (Ok row) h = let same : (name_in table n, Some row) ≡ edit = cc in (row, sym same)
updated_so table n edit (Err fault) h = absurd (cc)

module _ (things : Things) where
  pub updated_edits : (around : Around) (update : Update) (rows : Numbered) (edits : Edits) → all_or_least (map (one_updated around update) rows) ≡ Ok edits → AreEdits (IsChanged things (plan.Update update)) edits
  updated_edits around update rows edits is e found =
      let told = all_given (map (one_updated around update) rows) edits is in
      let row = source_of (one_updated around update) rows edits told e found in
      let given = updated around.evaluate (around.columns update.table.0) update.assignments row.0.1 in
      let edit = updated_so update.table row.0.0 e given row.2 in
      subst (λ (x : RowName × Option (List Value)). IsChanged things (plan.Update update) (way_of x.1) x.0.table) (sym edit.1) (λ set target closed. target)

  pub deleted_edits : (delete : Delete) (rows : Numbered) → AreEdits (IsChanged things (plan.Delete delete)) (map (λ e. (name_in delete.table e.0, None)) rows)
  deleted_edits delete [] e found = absurd (nothing_in e found)
  deleted_edits delete (r ∷ rows) e found = elim (head_or_tail (name_in delete.table r.0, None) (map (λ e. (name_in delete.table e.0, None)) rows) e found) [
    | inl is ↦ subst (λ (x : RowName × Option (List Value)). IsChanged things (plan.Delete delete) (way_of x.1) x.0.table) is (λ set target closed. target)
    | inr later ↦ deleted_edits delete rows e later
  ]

  -- ---- changes

  put_written : (p : Plan) (e : RowName × Option (List Value)) → IsWritten things p e.0.table → IsOfWritten things p (change_of e)
  put_written p (name, Some values) here = here
  put_written p (name, None) here = here

  edits_written : (p : Plan) (edits : Edits) → AreEdits (IsChanged things p) edits → (c : Change) → Contains (map change_of edits) c → IsOfWritten things p c
  edits_written p edits all c found =
      let e = from_map change_of edits c found in
      subst (IsOfWritten things p) (sym e.2) (put_written p e.0 (inr (way_of e.0.1, all e.0 e.1)))

  module _ (around : Around) (are : AreLinks things around.keys) where
    acted_written : (p : Plan) (edits : Edits) → AreEdits (IsChanged things p) edits → AreOfWritten things p (with_those_of_actions around edits)
    acted_written p edits all = by (with_actions around.before around.keys edits) refl
      where
        by : (given : Result Edits EvalFault) → with_actions around.before around.keys edits ≡ given → AreOfWritten things p (given >>= λ done. Ok (map change_of done))
        by (Ok done) is = edits_written p done (with_actions_inside (IsChanged things p) around.before around.keys (follows_links things around.keys are p) edits done all is)
        by (Err fault) is = tt

    pub insert_written : (insert : Insert) → AreOfWritten things (plan.Insert insert) (of_insert around insert)
    insert_written insert = by (rows_from around (around.columns insert.table.0) insert.columns insert.source)
      where
        inserted_written : (rows : List (List Value)) (c : Change) → Contains (map (change.Insert insert.table) rows) c → IsOfWritten things (plan.Insert insert) c
        inserted_written rows c found =
            let row = from_map (change.Insert insert.table) rows c found in
            subst (IsOfWritten things (plan.Insert insert)) (sym row.2) (inl (at_head insert.table []))

        by : (given : Result (List (List Value)) EvalFault) → AreOfWritten things (plan.Insert insert) (given >>= λ rows. Ok (map (change.Insert insert.table) rows))
        by (Ok rows) = inserted_written rows
        by (Err fault) = tt

    pub update_written : (update : Update) → AreOfWritten things (plan.Update update) (of_update around update)
    update_written update = chosen (for_which around.evaluate update.filter (entries (around.before update.table.0)))
      where
        edited : (rows : Numbered) (given : Result Edits EvalFault) → all_or_least (map (one_updated around update) rows) ≡ given → AreOfWritten things (plan.Update update) (given >>= with_those_of_actions around)
        edited rows (Ok edits) is = acted_written (plan.Update update) edits (updated_edits around update rows edits is)
        edited rows (Err fault) is = tt

        chosen : (given : Result Numbered EvalFault) → AreOfWritten things (plan.Update update) (given >>= λ rows. all_or_least (map (one_updated around update) rows) >>= with_those_of_actions around)
        chosen (Ok rows) = edited rows (all_or_least (map (one_updated around update) rows)) refl
        chosen (Err fault) = tt

    pub delete_written : (delete : Delete) → AreOfWritten things (plan.Delete delete) (of_delete around delete)
    delete_written delete = by (for_which around.evaluate delete.filter (entries (around.before delete.table.0)))
      where
        by : (given : Result Numbered EvalFault) → AreOfWritten things (plan.Delete delete) (given >>= λ rows. with_those_of_actions around (map (λ e. (name_in delete.table e.0, None)) rows))
        by (Ok rows) = acted_written (plan.Delete delete) (map (λ e. (name_in delete.table e.0, None)) rows) (deleted_edits delete rows)
        by (Err fault) = tt
